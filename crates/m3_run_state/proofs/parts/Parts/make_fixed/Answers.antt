use Rattle.std.specs.Prelude.{ℕ, slice_get, Ok, Err}
use Rattle.std.proofs.Common.{refl, sym, subst, rules}
use Rattle.m3_run_meaning.specs.Progress.{Ends, became}
use Rattle.m3_run_meaning.specs.Making.{Makes_fixed, fixed_words, not_fixed, makes_fixed}
use Rattle.m3_run_state.specs.Seen.{state_of, program_of}
use Rattle.m3_run_state.proofs.parts.Parts.make_fixed.Goals as goal

pub returns-in-Err-clause-makes : goal.returns-in-Err-clause-makes
returns-in-Err-clause-makes g c = λ going.
    let m = c.args.self.now in
    subst (λ (kind : ℕ). Makes_fixed (program_of m) c.args.i kind (state_of m) (fixed_words (slice_get (program_of m).types kind)) (Ends (state_of m) c.in-Err.outcome))
    (search rules) (not_fixed c.in-Err.outcome (sym c.in-Err.ensures.words))

pub returns-in-Ok-make_cell-clause-makes : goal.returns-in-Ok-make_cell-clause-makes
returns-in-Ok-make_cell-clause-makes g c = λ going.
    let m = c.args.self.now in
    let progress = became c.give.result (state_of c.give.new.self) in
    subst (λ (kind : ℕ). Makes_fixed (program_of m) c.args.i kind (state_of m) (fixed_words (slice_get (program_of m).types kind)) progress)
    (search rules)
    (makes_fixed c.in-Ok.words (Ok c.in-Ok-make_cell.cell) (state_of c.make_cell.new.self) progress (sym c.in-Ok.ensures.words) (c.in-Ok-make_cell.ensures.made going) (λ t running. c.give.ensures.goes t running))

pub returns-in-Err-make_cell-clause-makes : goal.returns-in-Err-make_cell-clause-makes
returns-in-Err-make_cell-clause-makes g c = λ going.
    let m = c.args.self.now in
    let u = state_of c.make_cell.new.self in
    subst (λ (kind : ℕ). Makes_fixed (program_of m) c.args.i kind (state_of m) (fixed_words (slice_get (program_of m).types kind)) (Ends u c.in-Err-make_cell.outcome))
    (search rules)
    (makes_fixed c.in-Ok.words (Err c.in-Err-make_cell.outcome) u (Ends u c.in-Err-make_cell.outcome) (sym c.in-Ok.ensures.words) (c.in-Err-make_cell.ensures.made going) refl)
