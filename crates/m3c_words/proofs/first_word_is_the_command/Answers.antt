use Rattle.m3c_words.proofs.First.{begins_with_command}
use Rattle.m3c_words.proofs.first_word_is_the_command.Goals as goal

pub returns : goal.returns
returns c = begins_with_command
