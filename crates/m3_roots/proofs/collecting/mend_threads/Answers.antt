use Rattle.std.proofs.Common.{◌≡◌, ℕ, ◌+◌, length, refl, sym, subst, rules, arith}
use Rattle.m3_threads.specs.All.{words_of}
use Rattle.m3_image_decoded.specs.Ready.{image_of}
use Rattle.m3_roots.specs.RoomSizes.{IsRoomFor}
use Rattle.m3_roots.specs.Collected.{words_at, frames_at}
use Rattle.m3_roots.proofs.GatheredLemmas.{goes_twice}
use Rattle.m3_roots.proofs.MendedLemmas.{mended_none, mended_more, next_of, walk_within, none_unmended, all_mended}
use Rattle.m3_roots.proofs.StepCounts.{all_more, all_taken}
use Rattle.m3_roots.proofs.CollectedLemmas.{thread_at, none_left, stack_words}
use Rattle.m3_roots.proofs.collecting.mend_threads.Goals as goal

pub returns-in_default-clause-mended : goal.returns-in_default-clause-mended
returns-in_default-clause-mended g c = λ cells first start moves last all on room.
    (let now = c.loop-place.threads in
    let n = c.loop-place.place in
    let done = c.loop-place.invariant.mended cells first start moves last all on room in
    (refl, none_unmended (image_of c.args.image.now).program cells first c.args.threads.now now start moves last n all done (none_left now.threads n c.in_default.ensures.number)))

pub returns-in_default-clause-room : goal.returns-in_default-clause-room
returns-in_default-clause-room g c = c.loop-place.invariant.room

pub returns-then-not-mend_thread-clause-mended : goal.returns-then-not-mend_thread-clause-mended
returns-then-not-mend_thread-clause-mended g c = λ cells first start moves last all on room.
    (let p = (image_of c.args.image.now).program in
    let gathered = c.args.threads.now in
    let now = c.loop-place.threads in
    let n = c.loop-place.place in
    let inv = c.loop-place.invariant in
    let done = inv.mended cells first start moves last all on room in
    let th = thread_at now n c.in-Some.thread c.in-Some.ensures.sound c.in-Some.ensures.number in
    let depth : length (words_of now th.t) ≡ gathered.stack = stack_words gathered now n th.t done.alike c.in-Some.ensures.sound th.at in
    let room_now = subst (λ (m : ℕ). IsRoomFor m c.loop-place.room) (sym depth) (inv.room gathered.stack room) in
    let next = next_of p cells first gathered now start moves last n th.t all done th.at in
    let m = c.if-not-mend_thread.ensures.mended th.t (frames_at all.walks n) cells (words_at first next.t) next.before next.after last th.named room_now next.framed next.gathers next.count (goes_twice next.after moves last next.grew on) in
    let wrong = m.0 in
    absurd cc)

pub returns-then-not-mend_thread-clause-room : goal.returns-then-not-mend_thread-clause-room
returns-then-not-mend_thread-clause-room g c = λ n h. c.if-not-mend_thread.ensures.room n (c.loop-place.invariant.room n h)

pub returns-clause-mended : goal.returns-clause-mended
returns-clause-mended g c = λ cells first start moves last all on room.
    (let done = c.loop-place.invariant.mended cells first start moves last all on room in
    (refl, all_mended (image_of c.args.image.now).program cells first c.args.threads.now c.loop-place.threads start moves last c.loop-place.place all done c.loop-place-test.false))

pub returns-clause-room : goal.returns-clause-room
returns-clause-room g c = c.loop-place.invariant.room

pub loop-place-init : goal.loop-place-init
loop-place-init g c = record {
  room = λ n h. h;
  forks = refl;
  waits = refl;
  mended = λ cells first start moves last all on room. mended_none (image_of c.args.image.now).program last all.walks first c.args.threads.now;
  cost = λ cells first start moves last all on room. omega arith;
}

pub loop-place-preserved : goal.loop-place-preserved
loop-place-preserved g c = record {
  room = λ n h. c.if-not-mend_thread.ensures.room n (c.loop-place.invariant.room n h);
  forks = search rules;
  waits = search rules;
  mended = λ cells first start moves last all on room. (let p = (image_of c.args.image.now).program in
      let gathered = c.args.threads.now in
      let now = c.loop-place.threads in
      let n = c.loop-place.place in
      let inv = c.loop-place.invariant in
      let done = inv.mended cells first start moves last all on room in
      let th = thread_at now n c.in-Some.thread c.in-Some.ensures.sound c.in-Some.ensures.number in
      let depth : length (words_of now th.t) ≡ gathered.stack = stack_words gathered now n th.t done.alike c.in-Some.ensures.sound th.at in
      let room_now = subst (λ (m : ℕ). IsRoomFor m c.loop-place.room) (sym depth) (inv.room gathered.stack room) in
      let next = next_of p cells first gathered now start moves last n th.t all done th.at in
      let m = c.if-not-mend_thread.ensures.mended th.t (frames_at all.walks n) cells (words_at first next.t) next.before next.after last th.named room_now next.framed next.gathers next.count (goes_twice next.after moves last next.grew on) in
      mended_more p last all.walks first gathered now c.mend_thread.new.threads n next.t th.t c.in-Some.ensures.sound next.was th.at done m.1);
  cost = λ cells first start moves last all on room. (let p = (image_of c.args.image.now).program in
      let gathered = c.args.threads.now in
      let now = c.loop-place.threads in
      let n = c.loop-place.place in
      let inv = c.loop-place.invariant in
      let done = inv.mended cells first start moves last all on room in
      let th = thread_at now n c.in-Some.thread c.in-Some.ensures.sound c.in-Some.ensures.number in
      let next = next_of p cells first gathered now start moves last n th.t all done th.at in
      let so_far = inv.cost cells first start moves last all on room in
      let one = c.if-not-mend_thread.ensures.cost th.t (frames_at all.walks n) th.named next.framed in
      let within = walk_within p cells first gathered now start moves last n th.t all done th.at in
      let more = all_more p all.walks n within in
      omega (arith, so_far, one, more));
}

pub returns-then-not-mend_thread-clause-cost : goal.returns-then-not-mend_thread-clause-cost
returns-then-not-mend_thread-clause-cost g c = λ cells first start moves last all on room. (let p = (image_of c.args.image.now).program in
    let gathered = c.args.threads.now in
    let now = c.loop-place.threads in
    let n = c.loop-place.place in
    let inv = c.loop-place.invariant in
    let done = inv.mended cells first start moves last all on room in
    let th = thread_at now n c.in-Some.thread c.in-Some.ensures.sound c.in-Some.ensures.number in
    let next = next_of p cells first gathered now start moves last n th.t all done th.at in
    let so_far = inv.cost cells first start moves last all on room in
    let one = c.if-not-mend_thread.ensures.cost th.t (frames_at all.walks n) th.named next.framed in
    let within = walk_within p cells first gathered now start moves last n th.t all done th.at in
    let more = all_more p all.walks n within in
    let most = all_taken p (n + 1) all.walks in
    omega (arith, so_far, one, more, most))

pub returns-in_default-clause-cost : goal.returns-in_default-clause-cost
returns-in_default-clause-cost g c = λ cells first start moves last all on room.
    (let so_far = c.loop-place.invariant.cost cells first start moves last all on room in
    let most = all_taken (image_of c.args.image.now).program c.loop-place.place all.walks in
    omega (arith, so_far, most))

pub returns-clause-cost : goal.returns-clause-cost
returns-clause-cost g c = λ cells first start moves last all on room.
    (let so_far = c.loop-place.invariant.cost cells first start moves last all on room in
    let most = all_taken (image_of c.args.image.now).program c.loop-place.place all.walks in
    omega (arith, so_far, most))
