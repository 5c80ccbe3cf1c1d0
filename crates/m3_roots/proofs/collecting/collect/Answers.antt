use Rattle.std.proofs.Common.{ℕ, ◌≡◌, ◌+◌, List, length, refl, sym, subst}
use Rattle.m3_heap.specs.Moves.{staying}
use Rattle.m3_heap.specs.Heap.{Heap, CostsTrace}
use Rattle.m3_image_decoded.specs.Ready.{image_of}
use Rattle.m3_roots.specs.RoomSizes.{IsRoomFor}
use Rattle.m3_roots.specs.Collected.{Parts, shapes_of, StopsCollection}
use Rattle.m3_run_frames.specs.declared.frame.Frame.{Frame}
use Rattle.m3_roots.specs.ThreadsGathered.{opened}
use Rattle.m3_roots.specs.Steps.{VisitCosts, all_list, StepsAtMost}
use Rattle.m3_roots.proofs.StepCounts.{all_steps}
use Rattle.m3_roots.proofs.GoodLemmas.{IsGood, good_of}
use Rattle.m3_roots.proofs.CollectedLemmas.{collected, offsets_kept, nothing_stops, pointer_stops, walks_once, visited_framed, visited_grew, middle_goes, visited_stack, finishes, sizes_on, finely, on_true, it_is, it_is_not, off_true}
use Rattle.m3_roots.proofs.collecting.collect.Goals as goal
use Rattle.m3_roots.proofs.collecting.collect.Goals.{then-not-visited-via-then-not-visited, then-not-visited-via-else-not-visited+then-not-traced}

pub returns-then-not-visited-clause-stopped : goal.returns-then-not-visited-clause-stopped
returns-then-not-visited-clause-stopped g c = λ room.
    (let p = (image_of c.args.image.now).program in
    let good : IsGood p = good_of _ _ (image_of c.args.image.now) c.image.ensures c.image-2.ensures c.keeps_its_form.ensures c.keeps_together.ensures in
    let old : Parts = record { all = c.args.threads.now; globals = c.args.globals.now; heap = g.S.Store.heap c.args.store.now } in
    let now = c.visit_roots-visited.new.threads in
    let globals = c.visit_roots-visited.new.globals in
    let h3 = g.S.Store.heap c.visit_roots-visited.new.store in
    elim c.then-not-visited.branch [
      | then-not-visited-via-then-not-visited w ↦ it_is_not c.visit_roots-visited.result w.if-not-visited.true (c.visit_roots-visited.ensures.stopped room)
      | then-not-visited-via-else-not-visited+then-not-traced w ↦ (
          let v = it_is c.visit_roots-visited.result w.if-not-visited.false (c.visit_roots-visited.ensures.visited room) in
          pointer_stops p good old now globals h3 c.requires.words (g.met.S.Store.sound c.args.store.now).cells.in_heap c.visit_roots-visited.ensures.heap v (c.finish-traced.ensures.bad w.if-not-traced.true))
    ])

pub returns-clause-collected : goal.returns-clause-collected
returns-clause-collected g c = λ room.
    (let p = (image_of c.args.image.now).program in
    let good : IsGood p = good_of _ _ (image_of c.args.image.now) c.image.ensures c.image-2.ensures c.keeps_its_form.ensures c.keeps_together.ensures in
    let old : Parts = record { all = c.args.threads.now; globals = c.args.globals.now; heap = g.S.Store.heap c.args.store.now } in
    let now = c.visit_roots-visited.new.threads in
    let globals = c.visit_roots-visited.new.globals in
    let h3 = g.S.Store.heap c.visit_roots-visited.new.store in
    let heap = g.S.Store.heap c.finish-traced.new.self in
    let count = c.requires.words in
    let high = (g.met.S.Store.sound c.args.store.now).cells.in_heap in
    let begins = c.visit_roots-visited.ensures.heap in
    let v = c.if-not-visited.ensures.visited room in
    let reached = c.if-not-traced.ensures.reached in
    let stack = visited_stack p old now globals h3.moves v in
    let room_now = subst (λ (n : ℕ). IsRoomFor n c.visit_roots-visited.new.room) (sym stack) (c.visit_roots-visited.ensures.room old.all.stack room) in
    let m = c.mend_threads.ensures.mended old.heap.cells old.all (staying old.heap.tenured) v.middle heap.moves v.threads (middle_goes p good old now globals h3.moves heap.moves count v reached.goes_on) room_now in
    let done = finishes (shapes_of p) old.heap h3 heap begins reached c.if-not-traced.ensures.moved c.if-not-traced.ensures.room c.if-not-traced.ensures.counted c.if-not-traced.ensures.halves c.finish-traced.ensures.closed c.finish-traced.ensures.asked c.finish-traced.ensures.sizes (g.met.S.Store.sound c.finish-traced.new.self).laws in
    on_true c.mend_threads.result m.0 (collected p good old now c.mend_threads.new.threads globals h3.moves heap count high v done m.1))

pub returns-clause-offsets : goal.returns-clause-offsets
returns-clause-offsets g c = λ room.
    (let p = (image_of c.args.image.now).program in
    let good : IsGood p = good_of _ _ (image_of c.args.image.now) c.image.ensures c.image-2.ensures c.keeps_its_form.ensures c.keeps_together.ensures in
    let old : Parts = record { all = c.args.threads.now; globals = c.args.globals.now; heap = g.S.Store.heap c.args.store.now } in
    let now = c.visit_roots-visited.new.threads in
    let globals = c.visit_roots-visited.new.globals in
    let h3 = g.S.Store.heap c.visit_roots-visited.new.store in
    let heap = g.S.Store.heap c.finish-traced.new.self in
    let count = c.requires.words in
    let high = (g.met.S.Store.sound c.args.store.now).cells.in_heap in
    let begins = c.visit_roots-visited.ensures.heap in
    let v = c.if-not-visited.ensures.visited room in
    let reached = c.if-not-traced.ensures.reached in
    let stack = visited_stack p old now globals h3.moves v in
    let room_now = subst (λ (n : ℕ). IsRoomFor n c.visit_roots-visited.new.room) (sym stack) (c.visit_roots-visited.ensures.room old.all.stack room) in
    let m = c.mend_threads.ensures.mended old.heap.cells old.all (staying old.heap.tenured) v.middle heap.moves v.threads (middle_goes p good old now globals h3.moves heap.moves count v reached.goes_on) room_now in
    on_true c.mend_threads.result m.0 (offsets_kept p good old now c.mend_threads.new.threads globals h3.moves heap.moves v m.1))

pub returns-clause-whole : goal.returns-clause-whole
returns-clause-whole g c = λ room.
    (let p = (image_of c.args.image.now).program in
    let good : IsGood p = good_of _ _ (image_of c.args.image.now) c.image.ensures c.image-2.ensures c.keeps_its_form.ensures c.keeps_together.ensures in
    let old : Parts = record { all = c.args.threads.now; globals = c.args.globals.now; heap = g.S.Store.heap c.args.store.now } in
    let now = c.visit_roots-visited.new.threads in
    let globals = c.visit_roots-visited.new.globals in
    let h3 = g.S.Store.heap c.visit_roots-visited.new.store in
    let heap = g.S.Store.heap c.finish-traced.new.self in
    let count = c.requires.words in
    let high = (g.met.S.Store.sound c.args.store.now).cells.in_heap in
    let begins = c.visit_roots-visited.ensures.heap in
    let v = c.if-not-visited.ensures.visited room in
    let reached = c.if-not-traced.ensures.reached in
    let stack = visited_stack p old now globals h3.moves v in
    let room_now = subst (λ (n : ℕ). IsRoomFor n c.visit_roots-visited.new.room) (sym stack) (c.visit_roots-visited.ensures.room old.all.stack room) in
    let m = c.mend_threads.ensures.mended old.heap.cells old.all (staying old.heap.tenured) v.middle heap.moves v.threads (middle_goes p good old now globals h3.moves heap.moves count v reached.goes_on) room_now in
    on_true c.mend_threads.result m.0 (nothing_stops p good old now globals h3.moves count high v (finely (shapes_of p) old.heap h3 begins (c.if-not-traced.ensures.good refl))))

pub returns-clause-cost : goal.returns-clause-cost
returns-clause-cost g c = λ room.
    (let p = (image_of c.args.image.now).program in
    let good : IsGood p = good_of _ _ (image_of c.args.image.now) c.image.ensures c.image-2.ensures c.keeps_its_form.ensures c.keeps_together.ensures in
    let old : Parts = record { all = c.args.threads.now; globals = c.args.globals.now; heap = g.S.Store.heap c.args.store.now } in
    let now = c.visit_roots-visited.new.threads in
    let globals = c.visit_roots-visited.new.globals in
    let h3 = g.S.Store.heap c.visit_roots-visited.new.store in
    let heap = g.S.Store.heap c.finish-traced.new.self in
    let count = c.requires.words in
    let high = (g.met.S.Store.sound c.args.store.now).cells.in_heap in
    let begins = c.visit_roots-visited.ensures.heap in
    let v = c.if-not-visited.ensures.visited room in
    let reached = c.if-not-traced.ensures.reached in
    let stack = visited_stack p old now globals h3.moves v in
    let room_now = subst (λ (n : ℕ). IsRoomFor n c.visit_roots-visited.new.room) (sym stack) (c.visit_roots-visited.ensures.room old.all.stack room) in
    let m = c.mend_threads.ensures.mended old.heap.cells old.all (staying old.heap.tenured) v.middle heap.moves v.threads (middle_goes p good old now globals h3.moves heap.moves count v reached.goes_on) room_now in
    on_true c.mend_threads.result m.0 (λ walks framed.
    let same : v.threads.walks ≡ walks = walks_once p good.fault old.all v.threads.walks walks (visited_framed p old now globals h3.moves v) framed in
    let visits = subst (λ (ws : List (List Frame)). VisitCosts (opened old.heap (staying old.heap.tenured)) h3 c.args.steps.now c.visit_roots-visited.new.steps (all_list p ws + length p.globals.pointers)) (sym same) (c.visit_roots-visited.ensures.cost room walks framed) in
    let ends = subst (λ (h : Heap). CostsTrace (shapes_of p) h heap c.visit_roots-visited.new.steps c.finish-traced.new.steps) begins c.if-not-traced.ensures.cost in
    let mends = c.mend_threads.ensures.cost old.heap.cells old.all (staying old.heap.tenured) v.middle heap.moves v.threads (middle_goes p good old now globals h3.moves heap.moves count v reached.goes_on) room_now in
    subst (λ (ws : List (List Frame)). StepsAtMost p ws old.heap heap c.args.steps.now c.mend_threads.new.steps) same
    (all_steps p (shapes_of p) v.threads.walks old.heap heap h3.moves c.args.steps.now c.visit_roots-visited.new.steps c.finish-traced.new.steps c.mend_threads.new.steps (visited_grew p good old now globals h3.moves count v) reached.goes_on visits ends mends)))

pub returns-clause-stopped : goal.returns-clause-stopped
returns-clause-stopped g c = λ room.
    (let p = (image_of c.args.image.now).program in
    let good : IsGood p = good_of _ _ (image_of c.args.image.now) c.image.ensures c.image-2.ensures c.keeps_its_form.ensures c.keeps_together.ensures in
    let old : Parts = record { all = c.args.threads.now; globals = c.args.globals.now; heap = g.S.Store.heap c.args.store.now } in
    let now = c.visit_roots-visited.new.threads in
    let globals = c.visit_roots-visited.new.globals in
    let h3 = g.S.Store.heap c.visit_roots-visited.new.store in
    let heap = g.S.Store.heap c.finish-traced.new.self in
    let count = c.requires.words in
    let high = (g.met.S.Store.sound c.args.store.now).cells.in_heap in
    let begins = c.visit_roots-visited.ensures.heap in
    let v = c.if-not-visited.ensures.visited room in
    let reached = c.if-not-traced.ensures.reached in
    let stack = visited_stack p old now globals h3.moves v in
    let room_now = subst (λ (n : ℕ). IsRoomFor n c.visit_roots-visited.new.room) (sym stack) (c.visit_roots-visited.ensures.room old.all.stack room) in
    let m = c.mend_threads.ensures.mended old.heap.cells old.all (staying old.heap.tenured) v.middle heap.moves v.threads (middle_goes p good old now globals h3.moves heap.moves count v reached.goes_on) room_now in
    off_true (StopsCollection p old) c.mend_threads.result m.0)

pub returns-clause-room : goal.returns-clause-room
returns-clause-room g c = λ stack h. c.mend_threads.ensures.room stack (c.visit_roots-visited.ensures.room stack h)

pub returns-then-not-visited-clause-sizes : goal.returns-then-not-visited-clause-sizes
returns-then-not-visited-clause-sizes g c =
    sizes_on (g.S.Store.heap c.args.store.now) (g.S.Store.heap c.visit_roots-visited.new.store) (g.S.Store.heap c.finish-traced.new.self) c.visit_roots-visited.ensures.heap c.finish-traced.ensures.sizes

pub returns-clause-sizes : goal.returns-clause-sizes
returns-clause-sizes g c =
    sizes_on (g.S.Store.heap c.args.store.now) (g.S.Store.heap c.visit_roots-visited.new.store) (g.S.Store.heap c.finish-traced.new.self) c.visit_roots-visited.ensures.heap c.finish-traced.ensures.sizes
