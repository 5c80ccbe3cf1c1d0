use Rattle.m3_source_meaning.proofs.Laws.{associative}
use Rattle.m3_source_laws.proofs.associative.Goals as goal

pub returns : goal.returns
returns d = associative
