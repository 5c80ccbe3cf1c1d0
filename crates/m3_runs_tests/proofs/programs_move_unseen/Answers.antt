use Rattle.m3_runs_tests.proofs.Starting.{program_unseen}
use Rattle.m3_runs_tests.proofs.programs_move_unseen.Goals as goal

pub returns : goal.returns
returns d c k given check schedule turns r' h = program_unseen c k given check schedule turns r' h
