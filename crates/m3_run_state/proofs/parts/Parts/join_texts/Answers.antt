use Rattle.std.specs.Prelude.{ℕ, Result}
use Rattle.std.proofs.Common.{ap, subst, ◌∙◌, refl}
use Rattle.m3_base.specs.declared.outcomes.Outcome.{Outcome}
use Rattle.m3_isa.specs.Effects.{reg}
use Rattle.m3_run_meaning.specs.Progress.{Ends, became}
use Rattle.m3_run_meaning.specs.State.{memory_of}
use Rattle.m3_run_meaning.specs.NewTexts.{Cats, lengths_at}
use Rattle.m3_run_state.specs.Seen.{state_of, program_of}
use Rattle.m3_run_state.proofs.parts.Parts.join_texts.Goals as goal

pub returns-in-Ok-clause-cats : goal.returns-in-Ok-clause-cats
returns-in-Ok-clause-cats g c = λ going t running.
    let m = c.args.self.now in
    let memory = memory_of (program_of m) (state_of m) in
    let told = c.in-Ok.ensures ∙ ap (λ (x : ℕ). lengths_at memory x c.word-right_text.result) (c.word-left_text.ensures t running)
    ∙ ap (λ (y : ℕ). lengths_at memory (reg t.regs c.args.i.b) y) (c.word-right_text.ensures t running) in
    subst (λ (r : Result (ℕ × ℕ) Outcome). Cats (program_of m) c.args.i (state_of m) r (became c.join_lengths.result (state_of c.join_lengths.new.self))) told (c.join_lengths.ensures.makes going)

pub returns-in-Err-clause-cats : goal.returns-in-Err-clause-cats
returns-in-Err-clause-cats g c = λ going t running.
    let m = c.args.self.now in
    let memory = memory_of (program_of m) (state_of m) in
    let told = c.in-Err.ensures ∙ ap (λ (x : ℕ). lengths_at memory x c.word-right_text.result) (c.word-left_text.ensures t running)
    ∙ ap (λ (y : ℕ). lengths_at memory (reg t.regs c.args.i.b) y) (c.word-right_text.ensures t running) in
    subst (λ (r : Result (ℕ × ℕ) Outcome). Cats (program_of m) c.args.i (state_of m) r (Ends (state_of m) c.in-Err.outcome)) told refl
