use Rattle.m3_mid_programs.proofs.Determined.{determined}
use Rattle.m3_mid_programs.proofs.one_next_move.Goals as goal

pub returns : goal.returns
returns d = determined
