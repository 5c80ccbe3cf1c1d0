use Rattle.m3_runs.proofs.Growing.{budget_ends}
use Rattle.m3_runs_tests.specs.Named.{named}
use Rattle.m3_runs_tests.specs.Moving.{moving}
use Rattle.m3_runs_tests.proofs.budget_ends.Goals as goal

pub returns : goal.returns
returns d c k given = (budget_ends (named c k.limit) given, budget_ends (moving c k) given)
