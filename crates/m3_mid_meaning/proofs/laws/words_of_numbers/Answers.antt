use Rattle.m3_mid_meaning.proofs.WordSums.{keeps_numbers}
use Rattle.m3_mid_meaning.proofs.laws.words_of_numbers.Goals as goal

pub returns : goal.returns
returns c m n = keeps_numbers m n
