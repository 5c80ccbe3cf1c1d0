use Rattle.m3_mid_meaning.proofs.WordSums.{keeps_sums}
use Rattle.m3_mid_meaning.proofs.laws.sums_of_words.Goals as goal

pub returns : goal.returns
returns c u v w = keeps_sums u v w
