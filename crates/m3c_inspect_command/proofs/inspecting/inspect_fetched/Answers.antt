use Rattle.std.specs.Prelude.{List}
use Rattle.std.proofs.Common.{refl, sym, subst}
use Rattle.m3_base.specs.declared.outcomes.Entry.{Entry}
use Rattle.m3_base.specs.Schedules.{IsSchedule}
use Rattle.m3c_image_commands.specs.ImageCommands.{setting_of_run}
use Rattle.m3c_inspect_command.proofs.InspectLemmas.{inspects_image, refuses_bytes}
use Rattle.m3c_inspect_command.proofs.inspecting.inspect_fetched.Goals as goal

pub returns-in-Err : goal.returns-in-Err
returns-in-Err g c =
    refuses_bytes c.args.bytes.now c.args.switches.now (setting_of_run c.args.run) _ _ c.in-Err.answer c.in-Err.ensures.err.0 c.in-Err.ensures.err.1 refl

pub returns-in-Ok-schedule_of : goal.returns-in-Ok-schedule_of
returns-in-Ok-schedule_of g c =
    inspects_image c.args.bytes.now c.args.switches.now (setting_of_run c.args.run) _ _ c.inspect_view.result _ c.deref.result.now c.in-Ok.ensures.ok
    (subst (λ (es : List Entry). IsSchedule c.args.switches.now es) (sym c.deref.ensures.value) c.in-Ok-schedule_of.ensures.ok) c.inspect_view.ensures
