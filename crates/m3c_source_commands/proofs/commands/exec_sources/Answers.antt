use Rattle.std.proofs.Common.{ℕ, List, subst}
use Rattle.std.proofs.Common.{refl}
use Rattle.m3_base.specs.Schedules.{IsSchedule}
use Rattle.m3c_image_commands.specs.ImageCommands.{on_input}
use Rattle.m3c_image_commands.specs.Reports.{setting_of}
use Rattle.m3c_source_commands.specs.SourceCommands.{RefusesFiles}
use Rattle.m3c_source_commands.specs.Texts.{names_of, texts_of}
use Rattle.m3c_source_commands.proofs.OrderLemmas.{execs_ran, execs_refused, is_ok, same_run}
use Rattle.m3c_source_commands.proofs.commands.exec_sources.Goals as goal

pub returns-in-Ok : goal.returns-in-Ok
returns-in-Ok g c =
    execs_ran g.C.Checks.judges (names_of c.args.sources.now) (texts_of c.args.sources.now) c.compile_files.new.image.items c.args.given.now.switches.items (IsSchedule c.args.given.now.switches.items) (on_input (setting_of c.args.options.limits) c.args.given.now.input.items) _ _ c.in-Ok.schedule.items
    (subst (λ (s : List ℕ). IsSchedule s c.in-Ok.schedule.items) c.deref.ensures.value c.in-Ok.ensures.schedule) c.deref-in-Ok-3.result.now c.is_some.result _ c.run_bytes.result c.deref-in-Ok-3.ensures.value c.is_some.ensures
    (same_run (setting_of c.args.options.limits) c.deref-in-Ok.result.now c.in-Ok.schedule.items c.deref-in-Ok-2.result.now c.args.given.now.input.items c.deref-in-Ok.ensures.value c.deref-in-Ok-2.ensures.value)
    (c.compile_files.ensures.ok (is_ok c.compile_files.result c.in-Ok.schedule c.in-Ok.is)) c.run_bytes.ensures

pub returns-in-Err : goal.returns-in-Err
returns-in-Err g c =
    execs_refused g.C.Checks.judges (names_of c.args.sources.now) (texts_of c.args.sources.now) _ c.args.given.now.switches.items _ _ _ _ c.in-Err.answer
    (subst (λ (s : List ℕ). RefusesFiles g.C.Checks.judges (names_of c.args.sources.now) (texts_of c.args.sources.now) s c.in-Err.answer) c.deref.ensures.value c.in-Err.ensures.err) refl
