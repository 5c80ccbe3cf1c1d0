use Rattle.m3_runs.proofs.Chosen.{chooses}
use Rattle.m3_runs_tests.specs.Named.{named}
use Rattle.m3_runs_tests.specs.Moving.{moving}
use Rattle.m3_runs_tests.proofs.chooses.Goals as goal

pub returns : goal.returns
returns d c k = (chooses (named c k.limit), chooses (moving c k))
