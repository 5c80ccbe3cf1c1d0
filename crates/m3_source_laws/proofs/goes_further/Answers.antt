use Rattle.m3_source_laws.proofs.Laws.{goes_further}
use Rattle.m3_source_laws.proofs.goes_further.Goals as goal

pub returns : goal.returns
returns d = goes_further
