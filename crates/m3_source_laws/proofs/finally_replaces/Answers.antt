use Rattle.m3_source_meaning.proofs.Laws.{finally_replaces}
use Rattle.m3_source_laws.proofs.finally_replaces.Goals as goal

pub returns : goal.returns
returns d = finally_replaces
