use Rattle.m3_runs.proofs.Courses.{goes_on}
use Rattle.m3_runs_tests.specs.Named.{named}
use Rattle.m3_runs_tests.specs.Moving.{moving}
use Rattle.m3_runs_tests.proofs.goes_on.Goals as goal

pub returns : goal.returns
returns d c k given = (goes_on (named c k.limit) given, goes_on (moving c k) given)
