use Rattle.std.specs.Prelude.{ℕ, ◌≡◌, Bool, true, false, not}
use Rattle.std.proofs.Common.{refl, sym, subst, ◌∙◌, arith}
use Rattle.m3_roots.specs.RoomSizes.{IsRoomFor}
use Rattle.m3_image_decoded.specs.Ready.{image_of}
use Rattle.m3_run_state.specs.Seen.{state_of, program_of}
use Rattle.m3_run_state.proofs.Collecting.{image_program, collects, spoils}
use Rattle.m3_run_state.proofs.parts.Parts.collect.Goals as goal

unstuck : (done : Bool) → not done ≡ false → done ≡ true
unstuck true free = refl
unstuck false free = absurd cc

pub invariant_of-self : goal.invariant_of-self
invariant_of-self g c =
    let m = c.args.self.now in
    let e = c.collect_by-done.ensures in
    record {
      small = m.small;
      counted = omega (arith, e.forks, e.waits, m.counted);
      words = e.words ∙ m.words;
      loaded = e.constants ∙ m.loaded;
      roomy = e.room m.stack m.roomy;
      sized = m.sized;
      fitting = λ free. e.fitting (unstuck c.collect_by-done.result free);
    }

pub invariant_of-self-else-done : goal.invariant_of-self-else-done
invariant_of-self-else-done g c =
    let m = c.args.self.now in
    let e = c.collect_by-done.ensures in
    record {
      small = m.small;
      counted = omega (arith, e.forks, e.waits, m.counted);
      words = e.words ∙ m.words;
      loaded = e.constants ∙ m.loaded;
      roomy = e.room m.stack m.roomy;
      sized = m.sized;
      fitting = λ free. e.fitting (unstuck c.collect_by-done.result free);
    }

pub returns-then-done-clause-good : goal.returns-then-done-clause-good
returns-then-done-clause-good g c = λ e going.
    let m = c.args.self.now in
    let room = subst (λ (n : ℕ). IsRoomFor n m.room) (sym going.depth) m.roomy in
    collects (image_of m.image).program (program_of m) (state_of m) _ c.collect_by-done.result c.saturating_add-self.result (image_program m m.loaded) c.if-done.true
    (c.collect_by-done.ensures.collected room) (c.collect_by-done.ensures.whole room) (c.collect_by-done.ensures.cost room) refl c.saturating_add-self.ensures

pub returns-else-done-clause-bad : goal.returns-else-done-clause-bad
returns-else-done-clause-bad g c = λ e going.
    let m = c.args.self.now in
    let room = subst (λ (n : ℕ). IsRoomFor n m.room) (sym going.depth) m.roomy in
    spoils (image_of m.image).program (program_of m) (state_of m) _ c.collect_by-done.result (image_program m m.loaded) c.if-done.false (c.collect_by-done.ensures.stopped room)
    (g.met.S.Store.sound c.collect_by-done.new.outside.heap.store).laws c.collect_by-done.ensures.sizes c.collect_by-done.new.outside.heap.closed refl
