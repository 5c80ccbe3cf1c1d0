use Rattle.std.proofs.Common.{sym, ap, ◌∙◌, arith}
use Rattle.m3_heap.specs.Heap.{is_minor}
use Rattle.m3_generational.specs.Remembering.{Remembering}
use Rattle.m3_generational.proofs.HeapLemmas.{is-closed, resting}
use Rattle.m3_generational.proofs.BeginLemmas.{told-minor, told-full}
use Rattle.m3_generational.proofs.generations.Generations.begin.Goals as goal

pub begin_minor-requires-clause-minor : goal.begin_minor-requires-clause-minor
begin_minor-requires-clause-minor c =
    let i = c.self.inside in
    let closed = is-closed i c.args.self.now c.self.view_is c.requires.closed in
    ap (λ (v : Remembering). is_minor v.heap) (sym c.self.view_is)
    ∙ told-minor i.is_open i.spaces i.left.value i.remembered i.asked i.minors i.fulls c.free.result closed c.self.invariant.placed (resting i c.self.invariant closed) c.free.ensures (omega (arith, c.if-self-free.true, c.total.ensures.total))

pub begin_full-requires-clause-full : goal.begin_full-requires-clause-full
begin_full-requires-clause-full c =
    let i = c.self.inside in
    let closed = is-closed i c.args.self.now c.self.view_is c.requires.closed in
    ap (λ (v : Remembering). is_minor v.heap) (sym c.self.view_is)
    ∙ told-full i.is_open i.spaces i.left.value i.remembered i.asked i.minors i.fulls c.free.result closed (resting i c.self.invariant closed) c.free.ensures (omega (arith, c.if-self-free.false, c.total.ensures.total))
