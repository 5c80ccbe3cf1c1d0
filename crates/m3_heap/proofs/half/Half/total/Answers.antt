use Rattle.std.proofs.Common.{sym, ap, subst, ◌∙◌}
use Rattle.m3_heap.specs.Cells.{total_words}
use Rattle.m3_heap.specs.CollectorSpace.{Space, AreLaid}
use Rattle.m3_heap.proofs.SpaceLemmas.{total-used, laid-used}
use Rattle.m3_heap.proofs.half.Half.total.Goals as goal

pub returns-clause-total : goal.returns-clause-total
returns-clause-total c =
    sym (total-used c.self.inside c.self.invariant) ∙ ap (λ (s : Space). total_words s.cells) c.self.view_is

pub returns-clause-laid : goal.returns-clause-laid
returns-clause-laid c =
    let P : Space → Type 0 = λ s. AreLaid s.base s.cells in
    subst P c.self.view_is (laid-used c.self.inside c.self.invariant)
