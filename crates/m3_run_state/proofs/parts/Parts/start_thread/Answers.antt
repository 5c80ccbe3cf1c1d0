use Rattle.std.specs.Prelude.{◌≡◌, ◌≢◌, ◌==◌, true, length, Ok, Err}
use Rattle.std.proofs.Common.{refl, sym, ap, subst, ◌∙◌, arith, rules, eq-eqb}
use Rattle.std.proofs.lemmas.Bool.{false≢true}
use Rattle.std.proofs.lemmas.Bool.Decides.{nat_tests}
use Rattle.m3_image_sections.specs.Parts.{Program}
use Rattle.m3_run_meaning.specs.Progress.{Ends, became}
use Rattle.m3_run_meaning.specs.NewTexts.{GivesThread, too_many, makes_thread}
use Rattle.m3_run_state.specs.Seen.{Rest, state_of}
use Rattle.m3_run_state.proofs.parts.Parts.start_thread.Goals as goal

pub returns-then-not-may_count-clause-forks : goal.returns-then-not-may_count-clause-forks
returns-then-not-may_count-clause-forks g c = λ going few.
    let none = c.may_count.ensures.none (search rules) in
    absurd (omega (arith, none, few))

pub returns-then-is_full-clause-forks : goal.returns-then-is_full-clause-forks
returns-then-is_full-clause-forks g c = λ going few.
    let all = (state_of c.args.self.now).all in
    let full : (length all.threads == all.allowed) ≡ true = sym c.is_full.ensures ∙ c.if-is_full.true in
    too_many (grind (arith, nat_tests))

pub returns-in-Ok-clause-forks : goal.returns-in-Ok-clause-forks
returns-in-Ok-clause-forks g c = λ going few.
    let m = c.args.self.now in
    let all = (state_of m).all in
    let u = state_of c.make_cell.new.self in
    let progress = became c.begin_thread.result (state_of c.begin_thread.new.self) in
    let apart : length all.threads ≢ all.allowed = λ e. false≢true (sym (sym c.is_full.ensures ∙ c.if-is_full.false) ∙ eq-eqb _ _ e) in
    let made : c.make_cell.new.self.made ≡ m.made = ap (λ (r : Rest). r.made) c.make_cell.ensures.rest in
    makes_thread (Ok c.in-Ok.cell) u progress apart (c.in-Ok.ensures.made going)
    (subst (λ (p : Program). GivesThread p c.args.i (Ok c.in-Ok.cell) u progress) (ap (λ (r : Rest). r.program) c.make_cell.ensures.rest)
    (c.begin_thread.ensures.begins (omega (arith, made, few))))

pub returns-in-Err-clause-forks : goal.returns-in-Err-clause-forks
returns-in-Err-clause-forks g c = λ going few.
    let all = (state_of c.args.self.now).all in
    let u = state_of c.make_cell.new.self in
    let apart : length all.threads ≢ all.allowed = λ e. false≢true (sym (sym c.is_full.ensures ∙ c.if-is_full.false) ∙ eq-eqb _ _ e) in
    makes_thread (Err c.in-Err.outcome) u (Ends u c.in-Err.outcome) apart (c.in-Err.ensures.made going) refl
