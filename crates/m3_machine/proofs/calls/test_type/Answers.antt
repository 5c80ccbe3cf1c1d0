use Rattle.std.specs.Prelude.{ℕ, ◌≡◌, Bool, Result, Ok, Err}
use Rattle.std.specs.Int.{cast_unsigned, w32}
use Rattle.std.proofs.Common.{refl, ap, subst, ◌∙◌, rules}
use Rattle.m3_base.specs.declared.outcomes.Outcome.{Outcome}
use Rattle.m3_isa.specs.Arithmetic.{flag}
use Rattle.m3_isa.specs.Effects.{reg, answered}
use Rattle.m3_run_meaning.specs.Act.{Proceeds, Stops}
use Rattle.m3_run_meaning.specs.Progress.{Goes as Goes_on}
use Rattle.m3_run_meaning.specs.State.{memory_of, with_regs}
use Rattle.m3_run_meaning.specs.Calls.{TellsType, kind_at}
use Rattle.m3_run_state.specs.Seen.{state_of, program_of}
use Rattle.m3_machine.proofs.calls.test_type.Goals as goal

pub returns-in-Ok-clause-tests : goal.returns-in-Ok-clause-tests
returns-in-Ok-clause-tests g c = λ t running.
    let m = c.args.parts.now in
    let types = (program_of m).types in
    let memory = memory_of (program_of m) (state_of m) in
    let told : Result Bool Outcome = Ok c.in-Ok.is_of in
    let n-is : c.cast_unsigned.result ≡ cast_unsigned w32 c.args.i.imm = search rules in
    let told-so = subst (λ (n : ℕ). TellsType types (kind_at types memory (reg t.regs c.args.i.b)) n told) n-is
    (subst (λ (cell : ℕ). TellsType types (kind_at types memory cell) c.cast_unsigned.result told) (c.word-cell.ensures t running) c.in-Ok.ensures) in (
      Proceeds (answered t.regs c.args.i.a (flag c.in-Ok.is_of)),
      (told, told-so, refl),
      c.give.ensures.goes t running ∙ ap (λ (word : ℕ). Goes_on (with_regs (state_of m) (answered t.regs c.args.i.a word))) c.truth.ensures,
    )

pub returns-in-Err-clause-tests : goal.returns-in-Err-clause-tests
returns-in-Err-clause-tests g c = λ t running.
    let m = c.args.parts.now in
    let types = (program_of m).types in
    let memory = memory_of (program_of m) (state_of m) in
    let told : Result Bool Outcome = Err c.in-Err.outcome in
    let n-is : c.cast_unsigned.result ≡ cast_unsigned w32 c.args.i.imm = search rules in
    let told-so = subst (λ (n : ℕ). TellsType types (kind_at types memory (reg t.regs c.args.i.b)) n told) n-is
    (subst (λ (cell : ℕ). TellsType types (kind_at types memory cell) c.cast_unsigned.result told) (c.word-cell.ensures t running) c.in-Err.ensures) in
    (Stops c.in-Err.outcome, (told, told-so, refl), refl)
