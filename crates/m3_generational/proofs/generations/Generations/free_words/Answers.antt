use Rattle.std.proofs.Common.{◌≡◌, ◌-◌, ◌∙◌, min, ap, subst, arith}
use Rattle.m3_generational.specs.Remembering.{Remembering}
use Rattle.m3_generational.proofs.HeapLemmas.{is-closed, free-none, free-some}
use Rattle.m3_generational.proofs.generations.Generations.free_words.Goals as goal

pub returns-then-young-eq0-clause-free : goal.returns-then-young-eq0-clause-free
returns-then-young-eq0-clause-free c =
    let i = c.self.inside in
    let young = c.total-young.ensures.total in
    subst (λ (v : Remembering). c.free.result - c.total-young.result ≡ v.heap.free) c.self.view_is
    (ap (λ n. c.free.result - n) young
    ∙ free-none i.is_open i.spaces i.left.value i.remembered i.asked i.minors i.fulls c.free.result (is-closed i c.args.self.now c.self.view_is c.requires.closed) (omega (arith, young, c.if-young-eq0.true)) c.free.ensures)

pub returns-else-young-eq0-clause-free : goal.returns-else-young-eq0-clause-free
returns-else-young-eq0-clause-free c =
    let i = c.self.inside in
    let young = c.total-young.ensures.total in
    subst (λ (v : Remembering). c.min.result ≡ v.heap.free) c.self.view_is
    (c.min.ensures ∙ ap (λ n. min c.free-else-young-eq0.result (c.free.result - n)) young
    ∙ free-some i.is_open i.spaces i.left.value i.remembered i.asked i.minors i.fulls c.free.result c.free-else-young-eq0.result (is-closed i c.args.self.now c.self.view_is c.requires.closed) (λ none. c.if-young-eq0.false (young ∙ none)) c.free.ensures c.free-else-young-eq0.ensures)
