use Rattle.m3_mid_meaning.proofs.WordSums.{keeps_times}
use Rattle.m3_mid_meaning.proofs.laws.times_of_words.Goals as goal

pub returns : goal.returns
returns c m n v w = keeps_times m n v w
