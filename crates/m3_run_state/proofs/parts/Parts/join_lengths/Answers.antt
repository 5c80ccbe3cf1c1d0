use Rattle.std.specs.Prelude.{ℕ, Ok, Err}
use Rattle.std.proofs.Common.{refl, ap, subst, arith}
use Rattle.m3_isa.specs.Effects.{reg}
use Rattle.m3_image_sections.specs.Parts.{Program}
use Rattle.m3_run_meaning.specs.Progress.{became}
use Rattle.m3_run_meaning.specs.Making.{Makes, HasNew}
use Rattle.m3_run_meaning.specs.NewTexts.{both, part_of, GivesText}
use Rattle.m3_run_state.specs.Seen.{Rest, state_of, program_of}
use Rattle.m3_run_state.proofs.parts.Parts.join_lengths.Goals as goal

pub join_into-requires-clause-small : goal.join_into-requires-clause-small
join_into-requires-clause-small g c = omega (arith, c.in-Ok.ensures.low.1, c.words_for-words.ensures.words)

pub join_into-requires-clause-low : goal.join_into-requires-clause-low
join_into-requires-clause-low g c = omega (arith, c.in-Ok.ensures.low.0, c.words_for-words.ensures.words)

pub join_into-requires-clause-new : goal.join_into-requires-clause-new
join_into-requires-clause-new g c = subst (λ (w : ℕ). HasNew 0 w c.in-Ok.start (state_of c.make_cell.new.self)) c.words_for-words.ensures.words c.in-Ok.ensures.new

pub returns-in-Ok-clause-makes : goal.returns-in-Ok-clause-makes
returns-in-Ok-clause-makes g c = λ going.
    let m = c.args.self.now in
    let u = state_of c.make_cell.new.self in
    let i = c.args.i in
    record {
      made = Ok c.in-Ok.start;
      left = u;
      makes = subst (λ (w : ℕ). Makes (program_of m) 0 w (state_of m) (Ok c.in-Ok.start) u) c.words_for-words.ensures.words (c.in-Ok.ensures.made going);
      gives = subst (λ (p : Program). GivesText p i.a (λ memory u. both (part_of memory (reg u.regs i.b) 0 c.args.left) (part_of memory (reg u.regs i.c) 0 c.args.right)) (Ok c.in-Ok.start) u
          (became c.join_into.result (state_of c.join_into.new.self)))
          (ap (λ (r : Rest). r.program) c.make_cell.ensures.rest) c.join_into.ensures.fills;
    }

pub returns-in-Err-clause-makes : goal.returns-in-Err-clause-makes
returns-in-Err-clause-makes g c = λ going.
    let m = c.args.self.now in
    let u = state_of c.make_cell.new.self in
    record {
      made = Err c.in-Err.outcome;
      left = u;
      makes = subst (λ (w : ℕ). Makes (program_of m) 0 w (state_of m) (Err c.in-Err.outcome) u) c.words_for-words.ensures.words (c.in-Err.ensures.made going);
      gives = refl;
    }
