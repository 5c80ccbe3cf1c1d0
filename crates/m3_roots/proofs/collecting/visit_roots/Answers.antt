use Rattle.std.proofs.Common.{◌+◌, length, refl, sym, ap, subst}
use Rattle.m3_heap.specs.Heap.{Heap}
use Rattle.m3_image_decoded.specs.Ready.{image_of}
use Rattle.m3_roots.specs.Collected.{Parts}
use Rattle.m3_heap.specs.Moves.{staying}
use Rattle.m3_roots.specs.ThreadsGathered.{opened}
use Rattle.m3_roots.specs.Steps.{VisitCosts, all_list}
use Rattle.m3_roots.proofs.StepCounts.{cost_then, cost_less}
use Rattle.m3_roots.proofs.GoodLemmas.{IsGood, good_of}
use Rattle.m3_roots.proofs.CollectedLemmas.{roots_visited, roots_stopped}
use Rattle.m3_roots.proofs.collecting.visit_roots.Goals as goal

pub returns-then-not-visit_threads-clause-stopped : goal.returns-then-not-visit_threads-clause-stopped
returns-then-not-visit_threads-clause-stopped g c = λ room. c.if-not-visit_threads.ensures.stopped (record { all = c.args.threads.now; globals = c.args.globals.now; heap = g.S.Store.heap c.args.store.now }) refl (sym (ap (λ (h : Heap). h.cells) c.begin.ensures.opened)) room

pub returns-clause-stopped : goal.returns-clause-stopped
returns-clause-stopped g c = λ room.
    (let p = (image_of c.args.image.now).program in
    let good : IsGood p = good_of _ _ (image_of c.args.image.now) c.image.ensures c.image-2.ensures c.keeps_its_form.ensures c.keeps_together.ensures in
    let old : Parts = record { all = c.args.threads.now; globals = c.args.globals.now; heap = g.S.Store.heap c.args.store.now } in
    roots_stopped c.visit_globals.result p good old (g.S.Store.heap c.begin.new.self) (g.S.Store.heap c.visit_threads.new.store) (g.S.Store.heap c.visit_globals.new.store).moves c.visit_globals.new.globals c.begin.ensures.opened c.if-not-visit_threads.ensures.heap c.visit_globals.ensures.visited)

pub returns-clause-visited : goal.returns-clause-visited
returns-clause-visited g c = λ room.
    (let p = (image_of c.args.image.now).program in
    let old : Parts = record { all = c.args.threads.now; globals = c.args.globals.now; heap = g.S.Store.heap c.args.store.now } in
    roots_visited c.visit_globals.result p old (g.S.Store.heap c.begin.new.self) (g.S.Store.heap c.visit_threads.new.store) (g.S.Store.heap c.visit_globals.new.store).moves c.visit_threads.new.threads c.visit_globals.new.globals c.begin.ensures.opened c.if-not-visit_threads.ensures.heap (c.if-not-visit_threads.ensures.gathered room) c.visit_globals.ensures.visited)

pub returns-then-not-visit_threads-clause-cost : goal.returns-then-not-visit_threads-clause-cost
returns-then-not-visit_threads-clause-cost g c = λ room walks framed.
    (let h = g.S.Store.heap c.args.store.now in
    let last = g.S.Store.heap c.visit_threads.new.store in
    let p = (image_of c.args.image.now).program in
    cost_less (opened h (staying h.tenured)) last c.args.steps.now c.visit_threads.new.steps (all_list p walks) (length p.globals.pointers)
    (subst (λ (x : Heap). VisitCosts x last c.args.steps.now c.visit_threads.new.steps (all_list p walks)) c.begin.ensures.opened (c.if-not-visit_threads.ensures.cost room walks framed)))

pub returns-clause-cost : goal.returns-clause-cost
returns-clause-cost g c = λ room walks framed.
    (let h = g.S.Store.heap c.args.store.now in
    let first = g.S.Store.heap c.begin.new.self in
    let mid = g.S.Store.heap c.visit_threads.new.store in
    let last = g.S.Store.heap c.visit_globals.new.store in
    let p = (image_of c.args.image.now).program in
    let all = cost_then first mid last c.args.steps.now c.visit_threads.new.steps c.visit_globals.new.steps (all_list p walks) (length p.globals.pointers) c.if-not-visit_threads.ensures.heap (c.if-not-visit_threads.ensures.cost room walks framed) c.visit_globals.ensures.cost in
    subst (λ (x : Heap). VisitCosts x last c.args.steps.now c.visit_globals.new.steps (all_list p walks + length p.globals.pointers)) c.begin.ensures.opened all)
