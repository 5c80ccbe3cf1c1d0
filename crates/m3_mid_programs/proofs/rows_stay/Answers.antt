use Rattle.m3_mid_programs.proofs.Staying.{rows_last}
use Rattle.m3_mid_programs.proofs.rows_stay.Goals as goal

pub returns : goal.returns
returns d = rows_last
