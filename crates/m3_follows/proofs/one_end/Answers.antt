use Rattle.m3_follows.proofs.Ending.{one_end}
use Rattle.m3_follows.proofs.one_end.Goals as goal

pub returns : goal.returns
returns d = one_end
