use Rattle.m3_runs.proofs.Courses.{ignores_later}
use Rattle.m3_runs_tests.specs.Named.{named}
use Rattle.m3_runs_tests.specs.Moving.{moving}
use Rattle.m3_runs_tests.proofs.ignores_later_entries.Goals as goal

pub returns : goal.returns
returns d c k given = (ignores_later (named c k.limit) given, ignores_later (moving c k) given)
