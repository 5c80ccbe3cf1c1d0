use Rattle.m3_mid_meaning.proofs.WordSums.{keeps_elements}
use Rattle.m3_mid_meaning.proofs.laws.elements_of_arrays.Goals as goal

pub returns : goal.returns
returns c array v w words offset = keeps_elements array v w words offset
