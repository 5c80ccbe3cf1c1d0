use Rattle.m3_runs.proofs.Once.{runs_once}
use Rattle.m3_runs_tests.specs.Named.{named}
use Rattle.m3_runs_tests.proofs.Once.{determined}
use Rattle.m3_runs_tests.proofs.one_run.Goals as goal

pub returns : goal.returns
returns d c limit given = runs_once (named c limit) (determined c limit) given
