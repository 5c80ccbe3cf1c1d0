use Rattle.std.proofs.Common.{◌≡◌, ℕ, ◌+◌, length, take, refl, arith, sym, ap, subst, rules}
use Rattle.m3_heap.specs.Heap.{Heap}
use Rattle.m3_threads.specs.All.{words_of}
use Rattle.m3_image_decoded.specs.Ready.{image_of}
use Rattle.m3_roots.specs.RoomSizes.{IsRoomFor}
use Rattle.m3_roots.specs.Collected.{frames_at}
use Rattle.m3_roots.specs.Steps.{rows_list, all_list}
use Rattle.m3_roots.proofs.StepCounts.{frames_still, cost_add, all_more, all_taken}
use Rattle.m3_roots.proofs.GoodLemmas.{IsGood, good_of}
use Rattle.m3_roots.proofs.VisitLemmas.{keeps_twice}
use Rattle.m3_roots.proofs.CollectedLemmas.{thread_at, stack_words, gathered_to_none, visit_step, visit_stop, all_visited, all_at_last}
use Rattle.m3_roots.proofs.collecting.visit_threads.Goals as goal

pub returns-in_default-clause-gathered : goal.returns-in_default-clause-gathered
returns-in_default-clause-gathered g c = λ room.
    (let first = g.S.Store.heap c.args.store.now in
    let h = c.loop-place.invariant.gathered room in
    all_visited (image_of c.args.image.now).program first.cells c.args.threads.now c.loop-place.threads first.moves (g.S.Store.heap c.loop-place.store).moves c.loop-place.place h.walks c.in_default.ensures.sound c.in_default.ensures.number h.gathered)

pub returns-in_default-clause-heap : goal.returns-in_default-clause-heap
returns-in_default-clause-heap g c = c.loop-place.invariant.heap

pub returns-in_default-clause-room : goal.returns-in_default-clause-room
returns-in_default-clause-room g c = c.loop-place.invariant.room

pub returns-then-not-visit_thread-clause-stopped : goal.returns-then-not-visit_thread-clause-stopped
returns-then-not-visit_thread-clause-stopped g c = λ s are heap room.
    (let p = (image_of c.args.image.now).program in
    let good : IsGood p = good_of _ _ (image_of c.args.image.now) c.image.ensures c.image-2.ensures c.keeps_its_form.ensures c.keeps_together.ensures in
    let first = g.S.Store.heap c.args.store.now in
    let mid = g.S.Store.heap c.loop-place.store in
    let all = c.args.threads.now in
    let now = c.loop-place.threads in
    let n = c.loop-place.place in
    let inv = c.loop-place.invariant in
    let h = inv.gathered room in
    let th = thread_at now n c.in-Some.thread c.in-Some.ensures.sound c.in-Some.ensures.number in
    let depth : length (words_of now th.t) ≡ all.stack = stack_words all now n th.t h.gathered.alike c.in-Some.ensures.sound th.at in
    let room_now = subst (λ (m : ℕ). IsRoomFor m c.loop-place.room) (sym depth) (inv.room all.stack room) in
    let same : mid.cells ≡ first.cells = ap (λ (x : Heap). x.cells) inv.heap in
    visit_stop p good s first.cells mid.cells all now first.moves mid.moves n th.t are heap same th.at h (c.if-not-visit_thread.ensures.stopped th.t th.named room_now))

pub returns-then-not-visit_thread-clause-heap : goal.returns-then-not-visit_thread-clause-heap
returns-then-not-visit_thread-clause-heap g c = keeps_twice (g.S.Store.heap c.args.store.now) (g.S.Store.heap c.loop-place.store) (g.S.Store.heap c.visit_thread.new.store) c.loop-place.invariant.heap c.if-not-visit_thread.ensures.heap

pub returns-then-not-visit_thread-clause-room : goal.returns-then-not-visit_thread-clause-room
returns-then-not-visit_thread-clause-room g c = λ n h. c.if-not-visit_thread.ensures.room n (c.loop-place.invariant.room n h)

pub returns-clause-gathered : goal.returns-clause-gathered
returns-clause-gathered g c = λ room.
    (let first = g.S.Store.heap c.args.store.now in
    let h = c.loop-place.invariant.gathered room in
    all_at_last (image_of c.args.image.now).program first.cells c.args.threads.now c.loop-place.threads first.moves (g.S.Store.heap c.loop-place.store).moves c.loop-place.place h.walks c.loop-place-test.false h.few h.gathered)

pub returns-clause-heap : goal.returns-clause-heap
returns-clause-heap g c = c.loop-place.invariant.heap

pub returns-clause-room : goal.returns-clause-room
returns-clause-room g c = c.loop-place.invariant.room

pub loop-place-init : goal.loop-place-init
loop-place-init g c = record {
  open_still = c.requires.open;
  heap = refl;
  fitting = λ shapes h. h;
  room = λ n h. h;
  forks = refl;
  waits = refl;
  gathered = λ room. (let first = g.S.Store.heap c.args.store.now in gathered_to_none (image_of c.args.image.now).program first.cells c.args.threads.now first.moves);
  cost = λ room walks framed. omega arith;
}

pub loop-place-preserved : goal.loop-place-preserved
loop-place-preserved g c = record {
  open_still = search rules;
  heap = keeps_twice (g.S.Store.heap c.args.store.now) (g.S.Store.heap c.loop-place.store) (g.S.Store.heap c.visit_thread.new.store) c.loop-place.invariant.heap c.if-not-visit_thread.ensures.heap;
  fitting = λ shapes h. c.if-not-visit_thread.ensures.fitting shapes (c.loop-place.invariant.fitting shapes h);
  room = λ n h. c.if-not-visit_thread.ensures.room n (c.loop-place.invariant.room n h);
  forks = search rules;
  waits = search rules;
  gathered = λ room. (let p = (image_of c.args.image.now).program in
      let good : IsGood p = good_of _ _ (image_of c.args.image.now) c.image.ensures c.image-2.ensures c.keeps_its_form.ensures c.keeps_together.ensures in
      let first = g.S.Store.heap c.args.store.now in
      let mid = g.S.Store.heap c.loop-place.store in
      let all = c.args.threads.now in
      let now = c.loop-place.threads in
      let n = c.loop-place.place in
      let inv = c.loop-place.invariant in
      let h = inv.gathered room in
      let th = thread_at now n c.in-Some.thread c.in-Some.ensures.sound c.in-Some.ensures.number in
      let depth : length (words_of now th.t) ≡ all.stack = stack_words all now n th.t h.gathered.alike c.in-Some.ensures.sound th.at in
      let room_now = subst (λ (m : ℕ). IsRoomFor m c.loop-place.room) (sym depth) (inv.room all.stack room) in
      let same : mid.cells ≡ first.cells = ap (λ (x : Heap). x.cells) inv.heap in
      visit_step p good first.cells mid.cells all now c.visit_thread.new.threads first.moves mid.moves (g.S.Store.heap c.visit_thread.new.store).moves n th.t same c.in-Some.ensures.sound th.at h (c.if-not-visit_thread.ensures.gathered th.t th.named room_now));
  cost = λ room walks framed. (let p = (image_of c.args.image.now).program in
      let first = g.S.Store.heap c.args.store.now in
      let mid = g.S.Store.heap c.loop-place.store in
      let new = g.S.Store.heap c.visit_thread.new.store in
      let n = c.loop-place.place in
      let inv = c.loop-place.invariant in
      let h = inv.gathered room in
      let th = thread_at c.loop-place.threads n c.in-Some.thread c.in-Some.ensures.sound c.in-Some.ensures.number in
      let still = frames_still p first.cells c.args.threads.now c.loop-place.threads first.moves mid.moves n h.walks walks th.t h.gathered framed th.at in
      let all = cost_add first mid new c.args.steps.now c.loop-place.steps c.visit_thread.new.steps (all_list p (take n walks)) (rows_list p (frames_at walks n)) inv.heap (c.if-not-visit_thread.ensures.cost th.t (frames_at walks n) th.named still.0) (inv.cost room walks framed) in
      let one = all_more p walks n still.1 in
      omega (arith, all, one));
}

pub returns-then-not-visit_thread-clause-cost : goal.returns-then-not-visit_thread-clause-cost
returns-then-not-visit_thread-clause-cost g c = λ room walks framed. (let p = (image_of c.args.image.now).program in
    let first = g.S.Store.heap c.args.store.now in
    let mid = g.S.Store.heap c.loop-place.store in
    let new = g.S.Store.heap c.visit_thread.new.store in
    let n = c.loop-place.place in
    let inv = c.loop-place.invariant in
    let h = inv.gathered room in
    let th = thread_at c.loop-place.threads n c.in-Some.thread c.in-Some.ensures.sound c.in-Some.ensures.number in
    let still = frames_still p first.cells c.args.threads.now c.loop-place.threads first.moves mid.moves n h.walks walks th.t h.gathered framed th.at in
    let all = cost_add first mid new c.args.steps.now c.loop-place.steps c.visit_thread.new.steps (all_list p (take n walks)) (rows_list p (frames_at walks n)) inv.heap (c.if-not-visit_thread.ensures.cost th.t (frames_at walks n) th.named still.0) (inv.cost room walks framed) in
    let one = all_more p walks n still.1 in
    let most = all_taken p (n + 1) walks in
    omega (arith, all, one, most))

pub returns-in_default-clause-cost : goal.returns-in_default-clause-cost
returns-in_default-clause-cost g c = λ room walks framed.
    (let so_far = c.loop-place.invariant.cost room walks framed in
    let most = all_taken (image_of c.args.image.now).program c.loop-place.place walks in
    omega (arith, so_far, most))

pub returns-clause-cost : goal.returns-clause-cost
returns-clause-cost g c = λ room walks framed.
    (let so_far = c.loop-place.invariant.cost room walks framed in
    let most = all_taken (image_of c.args.image.now).program c.loop-place.place walks in
    omega (arith, so_far, most))
