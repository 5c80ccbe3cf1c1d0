use Rattle.std.proofs.Common.{refl, inl, ◌∙◌}
use Rattle.std.specs.Prelude.{is_some}
use Rattle.m3c_image_commands.specs.declared.answers.Answer.{Answer}
use Rattle.m3c_image_commands.proofs.FetchLemmas.{fails_as, fails_after}
use Rattle.m3c_image_commands.proofs.RunLemmas.{is_some_named}
use Rattle.m3c_source_commands.proofs.OrderLemmas.{among_exec, execs_told, execs_unfetched}
use Rattle.m3c_source_commands.proofs.commands.exec_files.Goals as goal

pub returns-in-Err : goal.returns-in-Err
returns-in-Err g c = execs_unfetched g.C.Checks.judges _ _ _ _ _ _ _ {A = Answer} _ refl (fails_as (λ n k o. inl o) c.in-Err.ensures.fetches)

pub returns-in-Err-fetch_run_files : goal.returns-in-Err-fetch_run_files
returns-in-Err-fetch_run_files g c = execs_unfetched g.C.Checks.judges _ _ _ _ _ _ _ {A = Answer} _ refl (fails_after (among_exec _ _ _ _ _ c.in-Ok.ensures.fetches.held (_, c.in-Ok.ensures.read)) c.fetch_sources.ensures.fetches c.in-Err-fetch_run_files.ensures.fetches (record { held = refl; faults = refl; store_faults = refl; absences = refl; excesses = refl }))

pub returns : goal.returns
returns g c =
    execs_told g.C.Checks.judges _ _ _ _ _ _ _ _ c.exec_sources.result (g.F.Shelf.held c.fetch_sources.new.shelf) _ c.in-Ok-fetch_run_files.given.switches.items c.in-Ok-fetch_run_files.given.input.items (is_some c.args.options.switches)
    c.in-Ok.ensures.named (is_some_named _ c.args.options.switches) c.in-Ok.ensures.fetches.held (c.in-Ok-fetch_run_files.ensures.fetches.held ∙ c.in-Ok.ensures.fetches.held) c.in-Ok.ensures.read c.in-Ok-fetch_run_files.ensures.switches c.in-Ok-fetch_run_files.ensures.input c.exec_sources.ensures
