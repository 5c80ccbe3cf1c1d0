use Rattle.m3_plain_runs.proofs.Ending.{runs-agree}
use Rattle.m3_plain_runs.proofs.plain_runs_agree.Goals as goal

pub returns : goal.returns
returns c = runs-agree
