use Rattle.m3_source_meaning.proofs.Laws.{finally_runs}
use Rattle.m3_source_laws.proofs.finally_runs.Goals as goal

pub returns : goal.returns
returns d = finally_runs
