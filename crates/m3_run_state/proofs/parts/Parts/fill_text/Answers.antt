use Rattle.std.specs.Prelude.{ℕ, ◌≡◌, ◌+◌, ◌<◌, List, true, length, slice_index, take}
use Rattle.std.proofs.Common.{refl, sym, ap, subst, ◌∙◌, arith, take_all, length-take-le}
use Rattle.m3_run_meaning.specs.State.{memory_of, can_set}
use Rattle.m3_image_sections.specs.Parts.{Program}
use Rattle.m3_run_meaning.specs.Texts.{text_words, text_rest}
use Rattle.m3_run_meaning.specs.NewTexts.{with_words}
use Rattle.m3_run_state.specs.Blanks.{WasBlank, both_bytes}
use Rattle.m3_run_state.specs.Seen.{Rest, state_of, program_of}
use Rattle.m3_run_state.proofs.NewCells.{HasBlank, blank_can_set}
use Rattle.m3_run_state.proofs.BlankLemmas.{was_blank, both_length, rest_length}
use Rattle.m3_run_state.proofs.Filling.{with_none, fill_step, put_there, others_itself, others_on}
use Rattle.m3_run_state.proofs.parts.Parts.fill_text.Goals as goal

pub words-init : goal.words-init
words-init g c =
    let m = c.args.self.now in
    record {
      rest = refl;
      others = others_itself (state_of m);
      settable = λ x. refl;
      words = λ x. sym (with_none (c.args.blank.start + 1) (memory_of (program_of m) (state_of m)) x);
    }

pub words-preserved : goal.words-preserved
words-preserved g c =
    let m = c.args.self.now in
    let p = program_of m in
    let u = state_of m in
    let memory = memory_of p u in
    let blank = c.args.blank in
    let bytes = both_bytes memory c.args.left c.args.right in
    let all = text_rest bytes in
    let inv = c.words.invariant in
    let k = c.words.k in
    let now = state_of c.words.self in
    let new = state_of c.set_word.new.self in
    let is-new = c.requires.new in
    let b : HasBlank u.heap.cells blank.start 0 blank.words = record { front = is-new.0; back = is-new.1; is = is-new.2; sound = (g.met.S.Store.sound m.memory.outside.heap.store).cells } in
    let many = both_length memory c.args.left c.args.right in
    let long = rest_length bytes ∙ ap text_words many in
    let within : k < length all = omega (arith, long, c.requires.words, c.words-test.true) in
    let short = length-take-le k all (omega arith) in
    let place : blank.start + (k + 1) ≡ blank.start + 1 + k = omega arith in
    let can : can_set now (blank.start + 1 + k) ≡ true = inv.settable (blank.start + 1 + k) ∙ sym (ap (λ x. can_set u x) place)
    ∙ blank_can_set u blank.start 0 blank.words (k + 1) b m.memory.outside.few (omega arith) (omega (arith, c.words-test.true)) in
    let same = ap (λ (r : Rest). r.program) inv.rest in
    let rest = c.set_word.ensures.rest ∙ inv.rest in
    let was = was_blank p u (memory_of p now) blank.start 0 blank.words (take k all) b m.memory.outside.few m.memory.outside.small (omega (arith, short, long, c.requires.words)) inv.words in
    record {
      rest = rest;
      others = others_on u now new inv.others c.set_word.ensures.others;
      settable = λ x. c.set_word.ensures.settable x ∙ inv.settable x;
      words = λ x. fill_step p now new memory (blank.start + 1) k all x within (inv.words x)
          (put_there p (program_of c.words.self) (program_of c.set_word.new.self) now new (blank.start + 1 + k) c.text_word-word.result (slice_index all k) x
          same (ap (λ (r : Rest). r.program) rest) (c.text_word-word.ensures memory (subst (λ (r : Program). WasBlank blank.start blank.words memory (memory_of r now)) (sym same) was)) (c.set_word.ensures.set can x));
    }

pub returns-clause-filled : goal.returns-clause-filled
returns-clause-filled g c =
    let m = c.args.self.now in
    let memory = memory_of (program_of m) (state_of m) in
    let bytes = both_bytes memory c.args.left c.args.right in
    let inv = c.words.invariant in
    let many = both_length memory c.args.left c.args.right in
    let long = rest_length bytes ∙ ap text_words many in
    record {
      others = inv.others;
      words = λ x. inv.words x ∙ ap (λ (ws : List ℕ). with_words (c.args.blank.start + 1) ws memory x) (take_all c.words.k (text_rest bytes) (omega (arith, long, c.requires.words)));
    }
