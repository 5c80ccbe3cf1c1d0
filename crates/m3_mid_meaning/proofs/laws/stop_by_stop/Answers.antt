use Rattle.m3_mid_meaning.proofs.Chain.{chain}
use Rattle.m3_mid_meaning.proofs.laws.stop_by_stop.Goals as goal

pub returns : goal.returns
returns c p around code s = chain p around code s
