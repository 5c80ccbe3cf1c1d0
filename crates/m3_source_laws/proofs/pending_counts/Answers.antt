use Rattle.m3_source_meaning.proofs.Laws.{pending_counts}
use Rattle.m3_source_laws.proofs.pending_counts.Goals as goal

pub returns : goal.returns
returns d = pending_counts
