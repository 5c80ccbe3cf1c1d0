use Rattle.m3c_words.proofs.Behind.{exec_options, inspect_options_stay, run_options_stay}
use Rattle.m3c_words.proofs.Named.{exec_names}
use Rattle.m3c_words.proofs.words_behind_dashes_are_names.Goals as goal

pub returns-clause-run : goal.returns-clause-run
returns-clause-run c = run_options_stay

pub returns-clause-exec : goal.returns-clause-exec
returns-clause-exec c = exec_options

pub returns-clause-inspect : goal.returns-clause-inspect
returns-clause-inspect c = inspect_options_stay

pub returns-clause-files : goal.returns-clause-files
returns-clause-files c = exec_names
