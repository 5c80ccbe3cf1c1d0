use Rattle.m3c_words.proofs.Grammars.{arg_added}
use Rattle.m3c_words.proofs.grammar.exec_command.Goals as goal

pub returns : goal.returns
returns c = c.with_options.ensures _ (arg_added _ _ _ _ _ c.in_ok-command.ensures c.command.ensures c.file_words.ensures)
