use Rattle.m3_source_laws.proofs.Turns.{loops_go_on}
use Rattle.m3_source_laws.proofs.loops_go_on.Goals as goal

pub returns : goal.returns
returns d = loops_go_on
