use Rattle.m3_mid_programs.proofs.Results.{results_have_words}
use Rattle.m3_mid_programs.proofs.results_have_their_words.Goals as goal

pub returns : goal.returns
returns d = results_have_words
