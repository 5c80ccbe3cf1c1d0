use Rattle.std.specs.Prelude.{ℕ, ◌≡◌, ◌+◌, Ok, Err}
use Rattle.std.proofs.Common.{refl, ap, subst, ◌∙◌, arith}
use Rattle.m3_isa.specs.Effects.{reg}
use Rattle.m3_image_sections.specs.Parts.{Program}
use Rattle.m3_run_meaning.specs.Progress.{Ends, became}
use Rattle.m3_run_meaning.specs.Texts.{text_words}
use Rattle.m3_run_meaning.specs.Making.{Makes, HasNew}
use Rattle.m3_run_meaning.specs.NewTexts.{part_of, GivesText, Makes_text}
use Rattle.m3_run_state.specs.Seen.{Rest, state_of, program_of}
use Rattle.m3_run_state.proofs.parts.Parts.make_cut.Goals as goal

none : (n : ℕ) → n + 0 ≡ n
none n = omega arith

pub cut_into-requires-clause-small : goal.cut_into-requires-clause-small
cut_into-requires-clause-small g c = let words = c.words_for-words.ensures.words ∙ ap text_words (none c.cut_length-count.result) in omega (arith, c.in-Ok.ensures.low.1, words)

pub cut_into-requires-clause-low : goal.cut_into-requires-clause-low
cut_into-requires-clause-low g c = let words = c.words_for-words.ensures.words ∙ ap text_words (none c.cut_length-count.result) in omega (arith, c.in-Ok.ensures.low.0, words)

pub cut_into-requires-clause-new : goal.cut_into-requires-clause-new
cut_into-requires-clause-new g c = subst (λ (w : ℕ). HasNew 0 w c.in-Ok.start (state_of c.make_cell.new.self)) (c.words_for-words.ensures.words ∙ ap text_words (none c.cut_length-count.result)) c.in-Ok.ensures.new

pub returns-in-Ok-clause-makes : goal.returns-in-Ok-clause-makes
returns-in-Ok-clause-makes g c = λ going.
    let m = c.args.self.now in
    let u = state_of c.make_cell.new.self in
    let i = c.args.i in
    let count = c.cut_length-count.result in
    let progress = became c.cut_into.result (state_of c.cut_into.new.self) in
    let made : Makes_text (program_of m) i.a (state_of m) count (λ memory u. part_of memory (reg u.regs i.b) c.args.from count) progress = record {
      made = Ok c.in-Ok.start;
      left = u;
      makes = subst (λ (w : ℕ). Makes (program_of m) 0 w (state_of m) (Ok c.in-Ok.start) u) (c.words_for-words.ensures.words ∙ ap text_words (none count)) (c.in-Ok.ensures.made going);
      gives = subst (λ (p : Program). GivesText p i.a (λ memory u. part_of memory (reg u.regs i.b) c.args.from count) (Ok c.in-Ok.start) u progress)
          (ap (λ (r : Rest). r.program) c.make_cell.ensures.rest) c.cut_into.ensures.fills;
    } in
    subst (λ (n : ℕ). Makes_text (program_of m) i.a (state_of m) n (λ memory u. part_of memory (reg u.regs i.b) c.args.from n) progress) c.cut_length-count.ensures.value made

pub returns-in-Err-clause-makes : goal.returns-in-Err-clause-makes
returns-in-Err-clause-makes g c = λ going.
    let m = c.args.self.now in
    let u = state_of c.make_cell.new.self in
    let i = c.args.i in
    let count = c.cut_length-count.result in
    let progress = Ends u c.in-Err.outcome in
    let made : Makes_text (program_of m) i.a (state_of m) count (λ memory u. part_of memory (reg u.regs i.b) c.args.from count) progress = record {
      made = Err c.in-Err.outcome;
      left = u;
      makes = subst (λ (w : ℕ). Makes (program_of m) 0 w (state_of m) (Err c.in-Err.outcome) u) (c.words_for-words.ensures.words ∙ ap text_words (none count)) (c.in-Err.ensures.made going);
      gives = refl;
    } in
    subst (λ (n : ℕ). Makes_text (program_of m) i.a (state_of m) n (λ memory u. part_of memory (reg u.regs i.b) c.args.from n) progress) c.cut_length-count.ensures.value made
