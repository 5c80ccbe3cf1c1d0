use Rattle.m3c_words_laws.proofs.Once.{never_twice_exec, never_twice_inspect, never_twice_run}
use Rattle.m3c_words_laws.proofs.an_option_stands_once.Goals as goal

pub returns : goal.returns
returns c = record { run = never_twice_run; exec = never_twice_exec; inspect = never_twice_inspect }
