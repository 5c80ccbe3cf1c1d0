use Rattle.m3_mid_programs.proofs.Lives.{stay_living}
use Rattle.m3_mid_programs.proofs.activations_live.Goals as goal

pub returns : goal.returns
returns d = stay_living
