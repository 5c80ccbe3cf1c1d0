use Rattle.m3_runs.proofs.Longest.{wakes_longest}
use Rattle.m3_runs_tests.specs.Named.{named}
use Rattle.m3_runs_tests.specs.Moving.{moving}
use Rattle.m3_runs_tests.proofs.wakes_longest.Goals as goal

pub returns : goal.returns
returns d c k = (wakes_longest (named c k.limit), wakes_longest (moving c k))
