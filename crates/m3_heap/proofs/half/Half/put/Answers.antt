use Rattle.std.proofs.Common.{◌∙◌, sym, ap, arith}
use Rattle.m3_heap.specs.CollectorSpace.{Space}
use Rattle.m3_heap.proofs.PlaceLemmas.{put-inside, put-outside}
use Rattle.m3_heap.proofs.half.Half.put.Goals as goal

pub returns-then-place-self-clause-cells : goal.returns-then-place-self-clause-cells
returns-then-place-self-clause-cells c = put-inside c.self.inside c.self.invariant c.args.self.now c.self.view_is c.args.at c.args.word (omega arith) c.if-place-self.true

pub returns-else-place-self-clause-cells : goal.returns-else-place-self-clause-cells
returns-else-place-self-clause-cells c =
    ap (λ (s : Space). s.cells) (sym c.self.view_is) ∙ put-outside c.self.inside c.self.invariant c.args.self.now c.self.view_is c.args.at c.args.word (omega arith) c.if-place-self.false
