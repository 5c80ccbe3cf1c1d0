use Rattle.m3_runs_tests.proofs.Collecting.{unseen}
use Rattle.m3_runs_tests.proofs.moves_unseen.Goals as goal

pub returns : goal.returns
returns d c k given check w s s' schedule turns r' sh h = unseen c k given check w s s' schedule turns r' sh h
