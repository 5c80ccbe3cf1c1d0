use Rattle.std.proofs.Common.{◌≡◌, ℕ, ◌+◌, ◌≤◌, ◌++◌, List, length, drop, refl, sym, ap, subst, arith}
use Rattle.std.specs.Bool.{OnTrue, OnFalse}
use Rattle.std.specs.Vec.{with_items}
use Rattle.std.proofs.lemmas.List.{take_at}
use Rattle.m3_image_decoded.specs.Ready.{image_of}
use Rattle.m3_run_frames.specs.declared.frame.Frame.{Frame}
use Rattle.m3_roots.specs.declared.marks.Mark.{Mark}
use Rattle.m3_roots.specs.declared.room.Room.{Room}
use Rattle.m3_roots.specs.RoomSizes.{IsRoomFor}
use Rattle.m3_roots.specs.RowMeaning.{AreFramesAt}
use Rattle.m3_roots.specs.Gathering.{Gathers, StopsGathering, lists, path}
use Rattle.m3_roots.proofs.GoodLemmas.{IsGood, good_of}
use Rattle.m3_roots.proofs.GatherLemmas.{rows_of, gathers_if, stops_if}
use Rattle.m3_roots.specs.Steps.{VisitCosts, rows_list}
use Rattle.m3_roots.proofs.StepCounts.{bases_cost, rows_cost}
use Rattle.m3_roots.proofs.gathering.gather.Goals as goal

-- marks that are as many as they were leave the room that there was
still : (stack : ℕ) (room : Room) (first now : List Mark) → first ≡ room.marks.items → length first ≡ room.marks.len → length now ≡ length first → IsRoomFor stack room → IsRoomFor stack (record room { marks = with_items room.marks now })
still stack room first now value len kept r =
    let same : length first ≡ length room.marks.items = ap (length {A = Mark}) value in
    let all : stack + 16 ≤ length now = omega (arith, r.marks, same, kept) in
    let count : length now ≡ room.marks.len = omega (arith, kept, len) in
    let items : (with_items room.marks now).items ≡ now = take_at now (drop (length now) room.marks.items) room.marks.len count in
    record { frames = r.frames; marks = subst (λ (xs : List Mark). stack + 16 ≤ length xs) (sym items) all }

pub returns-then-not-lists_fit-clause-stopped : goal.returns-then-not-lists_fit-clause-stopped
returns-then-not-lists_fit-clause-stopped g c = λ base fp pc framed marks.
    (let p = (image_of c.args.image.now).program in
    let h = g.S.Store.heap c.args.store.now in
    let mine = subst (λ (fs : List Frame). AreFramesAt p base c.args.stack.now fp pc fs) (sym c.deref-frames.ensures.value) framed in
    let many = subst (λ (ms : List Mark). length c.args.stack.now + 16 ≤ length ms) (sym c.deref_mut.ensures.value) marks in
    subst (λ (fs : List Frame). StopsGathering p h.cells fs (c.args.r.now ++ c.args.stack.now) h.moves) c.deref-frames.ensures.value
    (lists (c.if-not-lists_fit.ensures.unfit base fp pc c.args.stack.now mine many refl)))

pub returns-then-not-take_apart-clause-stopped : goal.returns-then-not-take_apart-clause-stopped
returns-then-not-take_apart-clause-stopped g c = λ base fp pc framed marks.
    (let p = (image_of c.args.image.now).program in
    let h = g.S.Store.heap c.args.store.now in
    let good : IsGood p = good_of _ _ (image_of c.args.image.now) c.image.ensures c.image-2.ensures c.keeps_its_form.ensures c.keeps_together.ensures in
    let frames = c.deref-frames.result.now in
    let mine = subst (λ (fs : List Frame). AreFramesAt p base c.args.stack.now fp pc fs) (sym c.deref-frames.ensures.value) framed in
    let many = subst (λ (ms : List Mark). length c.args.stack.now + 16 ≤ length ms) (sym c.deref_mut.ensures.value) marks in
    let rows = rows_of p good.sound good.procs base c.args.stack.now fp pc frames mine in
    subst (λ (fs : List Frame). StopsGathering p h.cells fs (c.args.r.now ++ c.args.stack.now) h.moves) c.deref-frames.ensures.value
    (path (c.if-not-lists_fit.ensures.fit base fp pc c.args.stack.now mine many refl) (c.if-not-take_apart.ensures.leaves rows)))

pub returns-clause-gathered : goal.returns-clause-gathered
returns-clause-gathered g c = λ base fp pc framed marks.
    (let p = (image_of c.args.image.now).program in
    let h = g.S.Store.heap c.args.store.now in
    let good : IsGood p = good_of _ _ (image_of c.args.image.now) c.image.ensures c.image-2.ensures c.keeps_its_form.ensures c.keeps_together.ensures in
    let frames = c.deref-frames.result.now in
    let mine = subst (λ (fs : List Frame). AreFramesAt p base c.args.stack.now fp pc fs) (sym c.deref-frames.ensures.value) framed in
    let many = subst (λ (ms : List Mark). length c.args.stack.now + 16 ≤ length ms) (sym c.deref_mut.ensures.value) marks in
    let rows = rows_of p good.sound good.procs base c.args.stack.now fp pc frames mine in
    let words = c.args.r.now ++ c.args.stack.now in
    let last = c.visit_frames.new.r ++ c.visit_frames.new.stack in
    let moves = (g.S.Store.heap c.visit_frames.new.store).moves in
    subst (λ (fs : List Frame). OnTrue c.visit_frames.result (Gathers p h.cells fs words h.moves last moves)) c.deref-frames.ensures.value
    (gathers_if c.visit_frames.result p h.cells frames words (c.take_apart.new.r ++ c.take_apart.new.stack) h.moves last moves
    (c.if-not-lists_fit.ensures.fit base fp pc c.args.stack.now mine many refl) (c.if-not-take_apart.ensures.leaves rows) (c.visit_frames.ensures.visited rows)))

pub returns-clause-stopped : goal.returns-clause-stopped
returns-clause-stopped g c = λ base fp pc framed marks.
    (let p = (image_of c.args.image.now).program in
    let h = g.S.Store.heap c.args.store.now in
    let good : IsGood p = good_of _ _ (image_of c.args.image.now) c.image.ensures c.image-2.ensures c.keeps_its_form.ensures c.keeps_together.ensures in
    let frames = c.deref-frames.result.now in
    let mine = subst (λ (fs : List Frame). AreFramesAt p base c.args.stack.now fp pc fs) (sym c.deref-frames.ensures.value) framed in
    let many = subst (λ (ms : List Mark). length c.args.stack.now + 16 ≤ length ms) (sym c.deref_mut.ensures.value) marks in
    let rows = rows_of p good.sound good.procs base c.args.stack.now fp pc frames mine in
    let words = c.args.r.now ++ c.args.stack.now in
    let last = c.visit_frames.new.r ++ c.visit_frames.new.stack in
    let moves = (g.S.Store.heap c.visit_frames.new.store).moves in
    subst (λ (fs : List Frame). OnFalse c.visit_frames.result (StopsGathering p h.cells fs words h.moves)) c.deref-frames.ensures.value
    (stops_if c.visit_frames.result p h.cells frames words (c.take_apart.new.r ++ c.take_apart.new.stack) h.moves last moves
    (c.if-not-lists_fit.ensures.fit base fp pc c.args.stack.now mine many refl) (c.if-not-take_apart.ensures.leaves rows) (c.visit_frames.ensures.visited rows)))

pub returns-then-not-lists_fit-clause-room : goal.returns-then-not-lists_fit-clause-room
returns-then-not-lists_fit-clause-room g c = λ stack room. still stack c.args.room.now c.deref_mut.result.now c.lists_fit.new.marks c.deref_mut.ensures.value c.deref_mut.ensures.len c.lists_fit.auto.marks room

pub returns-then-not-take_apart-clause-room : goal.returns-then-not-take_apart-clause-room
returns-then-not-take_apart-clause-room g c = λ stack room. still stack c.args.room.now c.deref_mut.result.now c.lists_fit.new.marks c.deref_mut.ensures.value c.deref_mut.ensures.len c.lists_fit.auto.marks room

pub returns-clause-room : goal.returns-clause-room
returns-clause-room g c = λ stack room. still stack c.args.room.now c.deref_mut.result.now c.lists_fit.new.marks c.deref_mut.ensures.value c.deref_mut.ensures.len c.lists_fit.auto.marks room

pub returns-then-not-lists_fit-clause-cost : goal.returns-then-not-lists_fit-clause-cost
returns-then-not-lists_fit-clause-cost g c = λ base fp pc framed. omega arith

pub returns-then-not-take_apart-clause-cost : goal.returns-then-not-take_apart-clause-cost
returns-then-not-take_apart-clause-cost g c = λ base fp pc framed.
    (let p = (image_of c.args.image.now).program in
    let good : IsGood p = good_of _ _ (image_of c.args.image.now) c.image.ensures c.image-2.ensures c.keeps_its_form.ensures c.keeps_together.ensures in
    let frames = c.deref-frames.result.now in
    let mine = subst (λ (fs : List Frame). AreFramesAt p base c.args.stack.now fp pc fs) (sym c.deref-frames.ensures.value) framed in
    let rows = rows_of p good.sound good.procs base c.args.stack.now fp pc frames mine in
    let first = g.S.Store.heap c.args.store.now in
    subst (λ (fs : List Frame). VisitCosts first first c.args.steps.now c.take_apart.new.steps (rows_list p fs)) c.deref-frames.ensures.value
    (bases_cost first c.args.steps.now c.take_apart.new.steps p frames (c.if-not-take_apart.ensures.cost rows)))

pub returns-clause-cost : goal.returns-clause-cost
returns-clause-cost g c = λ base fp pc framed.
    (let p = (image_of c.args.image.now).program in
    let good : IsGood p = good_of _ _ (image_of c.args.image.now) c.image.ensures c.image-2.ensures c.keeps_its_form.ensures c.keeps_together.ensures in
    let frames = c.deref-frames.result.now in
    let mine = subst (λ (fs : List Frame). AreFramesAt p base c.args.stack.now fp pc fs) (sym c.deref-frames.ensures.value) framed in
    let rows = rows_of p good.sound good.procs base c.args.stack.now fp pc frames mine in
    let first = g.S.Store.heap c.args.store.now in
    let last = g.S.Store.heap c.visit_frames.new.store in
    subst (λ (fs : List Frame). VisitCosts first last c.args.steps.now c.visit_frames.new.steps (rows_list p fs)) c.deref-frames.ensures.value
    (rows_cost first last c.args.steps.now c.take_apart.new.steps c.visit_frames.new.steps p frames (c.if-not-take_apart.ensures.cost rows) (c.visit_frames.ensures.cost rows)))
