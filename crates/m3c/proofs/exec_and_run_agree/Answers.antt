use Rattle.m3c.proofs.Agree.{exec_and_run}
use Rattle.m3c.proofs.exec_and_run_agree.Goals as goal

pub returns : goal.returns
returns c = exec_and_run
