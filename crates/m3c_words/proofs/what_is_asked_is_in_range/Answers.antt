use Rattle.m3c_words.proofs.InRange.{asked_in_range}
use Rattle.m3c_words.proofs.what_is_asked_is_in_range.Goals as goal

pub returns : goal.returns
returns c = asked_in_range
