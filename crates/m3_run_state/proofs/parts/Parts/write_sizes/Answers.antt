use Rattle.std.specs.Prelude.{ℕ, ◌≡◌, ◌+◌, ◌<◌, List, true, length, slice_index}
use Rattle.std.proofs.Common.{refl, sym, ap, ◌∙◌, arith, take_all}
use Rattle.std.proofs.lemmas.List.{get_or_read}
use Rattle.m3_run_meaning.specs.State.{memory_of, can_set}
use Rattle.m3_run_meaning.specs.NewTexts.{with_words}
use Rattle.m3_run_state.specs.Seen.{Rest, state_of, program_of}
use Rattle.m3_run_state.proofs.NewCells.{HasBlank, blank_can_set}
use Rattle.m3_run_state.proofs.Filling.{with_none, fill_step, put_there, others_itself, others_on}
use Rattle.m3_run_state.proofs.parts.Parts.write_sizes.Goals as goal

pub sizes-init : goal.sizes-init
sizes-init g c =
    let m = c.args.self.now in
    record {
      rest = refl;
      sizes = refl;
      others = others_itself (state_of m);
      settable = λ x. refl;
      words = λ x. sym (with_none (c.args.cell + 1) (memory_of (program_of m) (state_of m)) x);
    }

pub sizes-preserved : goal.sizes-preserved
sizes-preserved g c =
    let m = c.args.self.now in
    let p = program_of m in
    let u = state_of m in
    let inv = c.sizes.invariant in
    let k = c.sizes.n in
    let now = state_of c.sizes.self in
    let new = state_of c.set_word.new.self in
    let is-new = c.requires.new in
    let b : HasBlank u.heap.cells c.args.cell c.args.kind c.args.words = record { front = is-new.0; back = is-new.1; is = is-new.2; sound = (g.met.S.Store.sound m.memory.outside.heap.store).cells } in
    let same-sizes : c.sizes.self.sizes.items ≡ m.sizes.items = inv.sizes in
    let many = ap (λ (ws : List ℕ). length ws) same-sizes in
    let within : k < length m.sizes.items = omega (arith, many, c.sizes-test.true) in
    let size = get_or_read c.sizes.self.sizes.items k c.index-size.result.now (omega (arith, many, within)) c.index-size.ensures 0 in
    let place : c.args.cell + (k + 1) ≡ c.args.cell + 1 + k = omega arith in
    let can : can_set now (c.args.cell + 1 + k) ≡ true = inv.settable (c.args.cell + 1 + k) ∙ sym (ap (λ x. can_set u x) place)
    ∙ blank_can_set u c.args.cell c.args.kind c.args.words (k + 1) b m.memory.outside.few (omega arith) (omega (arith, within, c.requires.room)) in
    let rest = c.set_word.ensures.rest ∙ inv.rest in
    record {
      rest = rest;
      sizes = c.set_word.ensures.sizes ∙ inv.sizes;
      others = others_on u now new inv.others c.set_word.ensures.others;
      settable = λ x. c.set_word.ensures.settable x ∙ inv.settable x;
      words = λ x. fill_step p now new (memory_of p u) (c.args.cell + 1) k m.sizes.items x within (inv.words x)
          (put_there p (program_of c.sizes.self) (program_of c.set_word.new.self) now new (c.args.cell + 1 + k) _ (slice_index m.sizes.items k) x
          (ap (λ (r : Rest). r.program) inv.rest) (ap (λ (r : Rest). r.program) rest) (size ∙ ap (λ (ws : List ℕ). slice_index ws k) same-sizes) (c.set_word.ensures.set can x));
    }

pub returns-clause-filled : goal.returns-clause-filled
returns-clause-filled g c =
    let m = c.args.self.now in
    let inv = c.sizes.invariant in
    let many = ap (λ (ws : List ℕ). length ws) inv.sizes in
    record {
      others = inv.others;
      words = λ x. inv.words x ∙ ap (λ (ws : List ℕ). with_words (c.args.cell + 1) ws (memory_of (program_of m) (state_of m)) x) (take_all c.sizes.n m.sizes.items (omega (arith, many)));
    }
