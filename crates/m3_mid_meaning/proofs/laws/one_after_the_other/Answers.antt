use Rattle.m3_mid_meaning.proofs.Following.{composes}
use Rattle.m3_mid_meaning.proofs.laws.one_after_the_other.Goals as goal

pub returns : goal.returns
returns c p q r = composes p q r
