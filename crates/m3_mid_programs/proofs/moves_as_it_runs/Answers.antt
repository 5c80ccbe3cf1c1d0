use Rattle.m3_mid_programs.proofs.Running.{moves_as_it_runs}
use Rattle.m3_mid_programs.proofs.moves_as_it_runs.Goals as goal

pub returns : goal.returns
returns d = moves_as_it_runs
