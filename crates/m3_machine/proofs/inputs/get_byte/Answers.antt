use Rattle.std.specs.Prelude.{◌≡◌, nat_le, if◌then◌else◌, Bool, true, length, slice_index_or}
use Rattle.std.proofs.Common.{sym, subst, ◌∙◌, rules}
use Rattle.m3_isa.specs.Effects.{answered, jumped}
use Rattle.m3_run_meaning.specs.Act.{Proceeds, Takes}
use Rattle.m3_run_meaning.specs.Progress.{Goes as Goes_on, Follows, became}
use Rattle.m3_run_meaning.specs.State.{with_regs}
use Rattle.m3_run_state.specs.Seen.{state_of, program_of}
use Rattle.m3_machine.proofs.inputs.get_byte.Goals as goal

pub returns-then-is_at_end-clause-gets : goal.returns-then-is_at_end-clause-gets
returns-then-is_at_end-clause-gets g c = λ t running.
    let m = c.args.parts.now in
    let s = state_of m in
    let progress = became c.jump.result (state_of c.jump.new.self) in
    let yes : nat_le (length m.input.now) m.taken ≡ true = sym c.is_at_end.ensures ∙ c.if-is_at_end.true in
    let told = c.jump.ensures.goes t running in
    let goes : progress ≡ Goes_on (with_regs s (jumped t.regs c.args.i.imm)) = search rules in
    subst (λ (b : Bool). Follows (program_of m) (if b then Proceeds (jumped t.regs c.args.i.imm) else Takes (answered t.regs c.args.i.a (slice_index_or m.input.now m.taken 0))) s progress)
    (sym yes) goes
