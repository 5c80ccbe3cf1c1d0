use Rattle.m3_source_meaning.proofs.Laws.{else_handles_all}
use Rattle.m3_source_laws.proofs.else_handles_all.Goals as goal

pub returns : goal.returns
returns d = else_handles_all
