use Rattle.m3_source_laws.proofs.OwnStays.{own_stays}
use Rattle.m3_source_laws.proofs.own_stays.Goals as goal

pub returns : goal.returns
returns d = own_stays
