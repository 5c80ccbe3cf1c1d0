use Rattle.std.proofs.Common.{ap, arith}
use Rattle.m3_heap.specs.Cells.{total_words}
use Rattle.m3_heap.specs.CollectorSpace.{Space}
use Rattle.m3_heap.proofs.SpaceLemmas.{total-used}
use Rattle.m3_heap.proofs.half.Half.free.Goals as goal

pub returns : goal.returns
returns c =
    let total = total-used c.self.inside c.self.invariant in
    let cells = ap (λ (s : Space). total_words s.cells) c.self.view_is in
    let size = ap (λ (s : Space). s.size) c.self.view_is in
    omega (arith, c.self.invariant.used, c.self.inside.words.ok.0)
