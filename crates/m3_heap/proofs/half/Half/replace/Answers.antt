use Rattle.std.proofs.Common.{◌∙◌, false, sym, arith}
use Rattle.m3_heap.proofs.PlaceLemmas.{writable, unwritable, header-unwritable, put-inside}
use Rattle.m3_heap.proofs.half.Half.replace.Goals as goal
use Rattle.m3_heap.proofs.half.Half.replace.Goals.{then-place-self-via-then-place-self, then-place-self-via-else-place-self+then-get}

pub returns-then-place-self-clause-answer : goal.returns-then-place-self-clause-answer
returns-then-place-self-clause-answer c =
    elim c.then-place-self.branch [
      | then-place-self-via-then-place-self w ↦ sym (unwritable c.self.inside c.self.invariant c.args.self.now c.self.view_is c.args.at (omega arith) w.if-place-self.true)
      | then-place-self-via-else-place-self+then-get w ↦ sym (header-unwritable c.self.inside c.self.invariant c.args.self.now c.self.view_is c.args.at (omega arith) w.if-place-self.false (sym w.get.ensures ∙ w.if-get.true))
    ]

pub returns-clause-answer : goal.returns-clause-answer
returns-clause-answer c = sym (writable c.self.inside c.self.invariant c.args.self.now c.self.view_is c.args.at c.index_mut.result.now (omega arith) c.if-place-self.false c.index_mut.ensures.value false (sym c.get.ensures ∙ c.if-get.false))

pub returns-clause-cells : goal.returns-clause-cells
returns-clause-cells c = put-inside c.self.inside c.self.invariant c.args.self.now c.self.view_is c.args.at c.args.word (omega arith) c.if-place-self.false
