use Rattle.std.specs.Prelude.{ℕ, ◌≡◌, List, slice_get}
use Rattle.std.proofs.Common.{sym, ap, subst, ◌∙◌}
use Rattle.m3_isa.specs.declared.instructions.Instr.{Instr}
use Rattle.m3_isa.specs.declared.registers.Regs.{Regs}
use Rattle.m3_run_meaning.specs.Calls.{place_of}
use Rattle.m3_run_meaning.specs.State.{executed}
use Rattle.m3_run_meaning.specs.Progress.{became}
use Rattle.m3_run_meaning.specs.Steps.{Does}
use Rattle.m3_machine.specs.Deeds.{MayAct}
use Rattle.m3_machine.specs.Faults.{PutsToFault}
use Rattle.m3_run_state.specs.Seen.{state_of, program_of, Took}
use Rattle.m3_machine.proofs.ActsBy.{if_ok}
use Rattle.m3_machine.proofs.Cutting.{on_err}
use Rattle.m3_machine.proofs.acts.act.Goals as goal

pub returns-in-Some-clause-does : goal.returns-in-Some-clause-does
returns-in-Some-clause-does g c = if_ok c.act_at.result (λ progress told t i next may few.
    let m = c.args.parts.now in
    let there = c.in-Some.ensures.value in
    let same-regs = c.regs-regs.ensures t may.running in
    let at-pc = ap (λ (r : Regs). slice_get (program_of m).code r.pc) same-regs ∙ next in
    let same : c.in-Some.i.now ≡ i = cc in
    subst (λ (x : Instr). (bytes : List ℕ) × Took (g.O.Sink.taken c.args.out.now) (g.O.Sink.taken c.act_at.new.out) bytes
    × Does (program_of m) m.input.now t x (executed (state_of m)) bytes (became progress (state_of c.act_at.new.parts))) same
    (told t (subst (λ (x : Instr). MayAct m t x) (sym same) may) (c.of.ensures ∙ ap (λ (r : Regs). place_of r) same-regs) few))
    c.act_at.ensures.does

pub returns-in-Some-clause-cut : goal.returns-in-Some-clause-cut
returns-in-Some-clause-cut g c = on_err c.act_at.result (λ told t i next may few.
    let m = c.args.parts.now in
    let there = c.in-Some.ensures.value in
    let same-regs = c.regs-regs.ensures t may.running in
    let at-pc = ap (λ (r : Regs). slice_get (program_of m).code r.pc) same-regs ∙ next in
    let same : c.in-Some.i.now ≡ i = cc in
    subst (λ (x : Instr). PutsToFault g.O.Sink (program_of m) m.input.now t x (executed (state_of m)) c.args.out.now c.act_at.new.out) same
    (told t (subst (λ (x : Instr). MayAct m t x) (sym same) may) few))
    c.act_at.ensures.cut
