use Rattle.std.proofs.Common.{refl, inl}
use Rattle.m3c_image_commands.proofs.FetchLemmas.{fails_as, goes_after, among_run}
use Rattle.m3c_image_commands.proofs.running.fetch_all.Goals as goal

pub returns-in-Ok-clause-fetches : goal.returns-in-Ok-clause-fetches
returns-in-Ok-clause-fetches g c =
    goes_after (among_run _ _ c.args.name.now _ _ _ c.fetch_image.ensures.fetches.held c.in-Ok.ensures.image) c.fetch_image.ensures.fetches c.fetch_run_files.ensures.fetches
    (record { held = refl; faults = refl; store_faults = refl; absences = refl; excesses = refl })

pub returns-in-Err-clause-fetches : goal.returns-in-Err-clause-fetches
returns-in-Err-clause-fetches g c = fails_as (λ n k o. inl o) c.in-Err.ensures.fetches
