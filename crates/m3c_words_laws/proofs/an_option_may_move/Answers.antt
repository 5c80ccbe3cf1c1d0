use Rattle.m3c_words_laws.proofs.Moving.{exec_moved, inspect_moved, run_moved}
use Rattle.m3c_words_laws.proofs.an_option_may_move.Goals as goal

pub returns : goal.returns
returns c = record { run = run_moved; exec = exec_moved; inspect = inspect_moved }
