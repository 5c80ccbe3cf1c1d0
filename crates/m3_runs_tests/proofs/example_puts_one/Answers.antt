use Rattle.m3_runs_tests.proofs.ExampleRun.{puts_one}
use Rattle.m3_runs_tests.proofs.example_puts_one.Goals as goal

pub returns : goal.returns
returns d = puts_one
