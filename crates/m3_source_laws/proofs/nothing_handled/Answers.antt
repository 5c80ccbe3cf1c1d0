use Rattle.m3_source_meaning.proofs.Laws.{nothing_handled}
use Rattle.m3_source_laws.proofs.nothing_handled.Goals as goal

pub returns : goal.returns
returns d = nothing_handled
