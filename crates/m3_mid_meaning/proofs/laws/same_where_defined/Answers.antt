use Rattle.m3_mid_meaning.proofs.Where.{same}
use Rattle.m3_mid_meaning.proofs.laws.same_where_defined.Goals as goal

pub returns : goal.returns
returns c p q follows around memory answers o defined run = same p q follows around memory answers o defined run
