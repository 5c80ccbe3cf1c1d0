use Rattle.m3_source_meaning.proofs.Laws.{exit_ends_loop}
use Rattle.m3_source_laws.proofs.exit_ends_loop.Goals as goal

pub returns : goal.returns
returns d = exit_ends_loop
