use Rattle.std.proofs.Common.{ap}
use Rattle.std.specs.Option.{option_map}
use Rattle.m3c_image_commands.proofs.FetchLemmas.{fetches_as, among_named}
use Rattle.m3c_image_commands.proofs.fetching.fetch_named.Goals as goal

pub returns-in-Some-clause-fetches : goal.returns-in-Some-clause-fetches
returns-in-Some-clause-fetches g c =
    fetches_as (among_named _ c.in-Some.name.now (ap (λ o. option_map (λ n. n.now) o) c.in-Some.is)) c.fetch.ensures.fetches
