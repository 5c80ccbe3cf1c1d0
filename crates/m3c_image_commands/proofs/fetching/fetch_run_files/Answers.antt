use Rattle.std.proofs.Common.{refl}
use Rattle.m3c_image_commands.proofs.FetchLemmas.{fails_as, fails_after, among_switches, among_input}
use Rattle.m3c_image_commands.proofs.fetching.fetch_run_files.Goals as goal

pub returns-in-Ok-clause-fetches : goal.returns-in-Ok-clause-fetches
returns-in-Ok-clause-fetches g c =
    fails_after (among_input _ _ _ _ c.in-Ok.ensures.ok) c.fetch_named.ensures.fetches c.in-Err-fetch_named.ensures.fetches (record { held = refl; faults = refl; store_faults = refl; absences = refl; excesses = refl })

pub returns-clause-fetches : goal.returns-clause-fetches
returns-clause-fetches g c = fails_as (among_switches _ _ _) c.in-Err.ensures.fetches
