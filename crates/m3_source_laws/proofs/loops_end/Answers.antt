use Rattle.m3_source_laws.proofs.Turns.{loops_end}
use Rattle.m3_source_laws.proofs.loops_end.Goals as goal

pub returns : goal.returns
returns d = loops_end
