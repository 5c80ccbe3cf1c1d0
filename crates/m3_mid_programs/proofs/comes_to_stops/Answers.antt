use Rattle.m3_mid_programs.proofs.Stopping.{comes_to_stop}
use Rattle.m3_mid_programs.proofs.comes_to_stops.Goals as goal

pub returns : goal.returns
returns d = comes_to_stop
