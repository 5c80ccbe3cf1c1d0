use Rattle.m3_mid_meaning.proofs.Proper.{stays}
use Rattle.m3_mid_meaning.proofs.laws.proper_states.Goals as goal

pub returns : goal.returns
returns c p around = stays p around
