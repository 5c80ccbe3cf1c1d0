use Rattle.m3_source_laws.proofs.Laws.{budget_ends}
use Rattle.m3_source_laws.proofs.budget_ends.Goals as goal

pub returns : goal.returns
returns d = budget_ends
