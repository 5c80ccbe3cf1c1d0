use Rattle.m3_source_meaning.proofs.Laws.{finally_nothing}
use Rattle.m3_source_laws.proofs.finally_nothing.Goals as goal

pub returns : goal.returns
returns d = finally_nothing
