use Rattle.m3c_image_commands.specs.Statuses.{no_memory}
use Rattle.m3c_source_commands.proofs.sources.fetch_next.Goals as goal

pub returns-in-Err-clause-fetches : goal.returns-in-Err-clause-fetches
returns-in-Err-clause-fetches g c =
    let f = c.fetch.ensures.fetches in
    record { held = f.held; faults = f.faults; store_faults = f.store_faults; absences = f.absences; excesses = f.excesses; unfetched = no_memory }
