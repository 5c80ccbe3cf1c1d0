use Rattle.std.specs.Prelude.{ℕ, ◌+◌, List, Some}
use Rattle.std.proofs.Common.{refl, sym, subst}
use Rattle.m3_image_sections.specs.Parts.{Program}
use Rattle.m3_run_meaning.specs.Progress.{became}
use Rattle.m3_run_meaning.specs.State.{executed}
use Rattle.m3_run_meaning.specs.Steps.{Does}
use Rattle.m3_run_state.specs.Seen.{state_of, program_of}
use Rattle.m3_machine.specs.declared.runs.Turn.{Turn}
use Rattle.m3_machine.proofs.Settling.{same_code}
use Rattle.m3_machine.specs.Faults.{PutsToFault}
use Rattle.m3_machine.proofs.Taking.{may_act, few_executed, acted}
use Rattle.m3_machine.proofs.Cutting.{at_any, stops_now}
use Rattle.m3_machine.proofs.runs.act_next.Goals as goal

pub returns-clause-came : goal.returns-clause-came
returns-clause-came g c = λ p start k others known h.
    let m = c.args.parts.now in
    let n = c.act.new.parts in
    let turn = c.args.turn.now in
    let t = h.thread in
    let i = h.instruction in
    let progress = c.in_ok-progress.progress in
    let new : Turn = record { done = turn.done + 1; points = turn.points } in
    let next = same_code p (program_of m) t.regs.pc (Some i) (sym known.program) h.stands in
    let told = c.in_ok-progress.ensures.does t i next (may_act p start k others m turn known h) (few_executed p start k others m turn known.course h) in
    let one = subst (λ (q : Program). Does q m.input.now t i (executed (state_of m)) told.0 (became progress (state_of n))) known.program told.2 in
    let does = subst (λ (input : List ℕ). Does p input t i (executed (state_of m)) told.0 (became progress (state_of n))) known.input one in (
      told.0,
      told.1,
      acted p start k others m n turn new told.0 progress known.course h does c.act.ensures.one (λ plain. c.act.ensures.same t i h.running next h.acts plain) c.in_ok-progress.ensures.going refl refl,
    )

pub returns-in_err-progress-clause-cut : goal.returns-in_err-progress-clause-cut
returns-in_err-progress-clause-cut g c = at_any _ c.from_residual.result (λ p start k others known h.
    let m = c.args.parts.now in
    let turn = c.args.turn.now in
    let t = h.thread in
    let i = h.instruction in
    let before = c.args.out.now in
    let after = c.act.new.out in
    let next = same_code p (program_of m) t.regs.pc (Some i) (sym known.program) h.stands in
    let told = c.in_err-progress.ensures.cut t i next (may_act p start k others m turn known h) (few_executed p start k others m turn known.course h) in
    let one = subst (λ (q : Program). PutsToFault g.O.Sink q m.input.now t i (executed (state_of m)) before after) known.program told in
    let all = subst (λ (input : List ℕ). PutsToFault g.O.Sink p input t i (executed (state_of m)) before after) known.input one in
    stops_now g.O.Sink p start k others m turn before after known.course h all)
