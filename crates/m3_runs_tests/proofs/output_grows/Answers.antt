use Rattle.m3_runs.proofs.Growing.{output_grows}
use Rattle.m3_runs_tests.specs.Named.{named}
use Rattle.m3_runs_tests.specs.Moving.{moving}
use Rattle.m3_runs_tests.proofs.output_grows.Goals as goal

pub returns : goal.returns
returns d c k given = (output_grows (named c k.limit) given, output_grows (moving c k) given)
