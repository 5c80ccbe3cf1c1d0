use Rattle.std.specs.Prelude.{◌≡◌}
use Rattle.std.proofs.Common.{ap, ◌∙◌}
use Rattle.m3_isa.specs.declared.instructions.Instr.{Instr}
use Rattle.m3_run_meaning.specs.State.{with_all}
use Rattle.m3_run_meaning.specs.NewTexts.{standing_at}
use Rattle.m3_run_state.specs.Seen.{state_of}
use Rattle.m3_run_state.proofs.parts.Parts.stand_first.Goals as goal

pub returns-in-Some-clause-stands : goal.returns-in-Some-clause-stands
returns-in-Some-clause-stands g c = λ few begins found.
    let s = state_of c.args.self.now in
    let value = c.in-Some.ensures.value in
    let same : c.in-Some.begins.now ≡ begins = cc in
    c.stand_at.ensures.stands few ∙ ap (λ (i : Instr). with_all s (standing_at i c.args.thread s.all)) same

pub returns-in-None-clause-stands : goal.returns-in-None-clause-stands
returns-in-None-clause-stands g c = λ few begins found.
    let value = c.in-None.ensures.value in
    cc
