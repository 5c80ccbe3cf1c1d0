use Rattle.m3_source_laws.proofs.Laws.{one_run}
use Rattle.m3_source_laws.proofs.one_run.Goals as goal

pub returns : goal.returns
returns d = one_run
