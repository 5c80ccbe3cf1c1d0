use Rattle.m3_runs_tests.proofs.Example.{example_sound}
use Rattle.m3_runs_tests.proofs.example_is_sound.Goals as goal

pub returns : goal.returns
returns d = example_sound
