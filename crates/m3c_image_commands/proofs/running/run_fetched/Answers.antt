use Rattle.std.specs.Prelude.{List}
use Rattle.std.proofs.Common.{refl, sym, subst}
use Rattle.m3_base.specs.declared.outcomes.Entry.{Entry}
use Rattle.m3_base.specs.Schedules.{IsSchedule}
use Rattle.m3c_image_commands.specs.ImageCommands.{setting_of_run}
use Rattle.m3c_image_commands.proofs.RunLemmas.{ends_image, refuses_image, image_bytes, refused_bytes}
use Rattle.m3c_image_commands.proofs.running.run_fetched.Goals as goal

pub returns-in-Err : goal.returns-in-Err
returns-in-Err g c =
    let setting = setting_of_run c.args.run in
    refused_bytes c.args.bytes.now setting _ _ c.args.switches.now c.in-Err.answer c.in-Err.ensures.err.1 (refuses_image c.args.bytes.now setting _ _ c.in-Err.answer c.in-Err.ensures.err.0 refl)

pub returns-in-Ok-schedule_of : goal.returns-in-Ok-schedule_of
returns-in-Ok-schedule_of g c =
    let setting = setting_of_run c.args.run in
    image_bytes c.args.bytes.now setting _ _ c.args.switches.now c.deref.result.now c.run_view.result
    (λ good. subst (λ (es : List Entry). IsSchedule c.args.switches.now es) (sym c.deref.ensures.value) c.in-Ok-schedule_of.ensures.ok)
    (ends_image c.args.bytes.now _ _ _ c.run_view.result _ c.in-Ok.ensures.ok c.run_view.ensures)
