use Rattle.std.specs.Prelude.{ℕ, Option}
use Rattle.std.proofs.Common.{ap, subst}
use Rattle.m3_run_meaning.specs.declared.progress.Progress.{Progress as Answer}
use Rattle.m3_run_meaning.specs.declared.near.Stack.{Stack}
use Rattle.m3_run_meaning.specs.Act.{Proceeds, loading}
use Rattle.m3_run_meaning.specs.Progress.{Follows, became}
use Rattle.m3_isa.specs.Effects.{answered}
use Rattle.m3_run_meaning.specs.State.{memory_of}
use Rattle.m3_run_meaning.specs.Acts.{tells_self}
use Rattle.m3_run_state.specs.Seen.{state_of, program_of}
use Rattle.m3_machine.proofs.inputs.tell_self.Goals as goal

pub returns-in-None-clause-tells : goal.returns-in-None-clause-tells
returns-in-None-clause-tells g c = λ t running.
    let m = c.args.parts.now in
    let p = program_of m in
    let s = state_of m in
    let progress = became c.trap.result s in
    subst (λ (stack : Stack). Follows p (tells_self stack c.args.i t.regs (memory_of p s)) s progress) (c.stack-stack.ensures t running)
    (subst (λ (word : Option ℕ). Follows p (loading word (λ cell. Proceeds (answered t.regs c.args.i.a cell))) s progress) c.in-None.ensures (ap (λ (a : Answer). became a s) c.trap.ensures))

pub returns-in-Some-clause-tells : goal.returns-in-Some-clause-tells
returns-in-Some-clause-tells g c = λ t running.
    let m = c.args.parts.now in
    let p = program_of m in
    let s = state_of m in
    let progress = became c.give.result (state_of c.give.new.self) in
    subst (λ (stack : Stack). Follows p (tells_self stack c.args.i t.regs (memory_of p s)) s progress) (c.stack-stack.ensures t running)
    (subst (λ (word : Option ℕ). Follows p (loading word (λ cell. Proceeds (answered t.regs c.args.i.a cell))) s progress) c.in-Some.ensures (c.give.ensures.goes t running))
