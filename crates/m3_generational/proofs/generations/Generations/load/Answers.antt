use Rattle.std.proofs.Common.{◌≡◌, subst, ◌∙◌}
use Rattle.m3_heap.specs.Cells.{cell_word_at}
use Rattle.m3_generational.specs.Remembering.{Remembering}
use Rattle.m3_generational.proofs.HeapLemmas.{is-closed, resting, load-old, load-young}
use Rattle.m3_generational.proofs.generations.Generations.load.Goals as goal

pub returns-then-at-lt-NURSERY_BASE : goal.returns-then-at-lt-NURSERY_BASE
returns-then-at-lt-NURSERY_BASE c =
    let i = c.self.inside in
    let closed = is-closed i c.args.self.now c.self.view_is c.requires.closed in
    subst (λ (v : Remembering). c.word.result ≡ cell_word_at v.heap.cells c.args.at) c.self.view_is
    (c.word.ensures ∙ load-old i.is_open i.spaces c.args.at closed c.self.invariant.placed (resting i c.self.invariant closed) c.if-at-lt-NURSERY_BASE.true)

pub returns-else-at-lt-NURSERY_BASE : goal.returns-else-at-lt-NURSERY_BASE
returns-else-at-lt-NURSERY_BASE c =
    let i = c.self.inside in
    let closed = is-closed i c.args.self.now c.self.view_is c.requires.closed in
    subst (λ (v : Remembering). c.word-else-at-lt-NURSERY_BASE.result ≡ cell_word_at v.heap.cells c.args.at) c.self.view_is
    (c.word-else-at-lt-NURSERY_BASE.ensures ∙ load-young i.is_open i.spaces c.args.at closed c.self.invariant.placed (resting i c.self.invariant closed) c.if-at-lt-NURSERY_BASE.false)
