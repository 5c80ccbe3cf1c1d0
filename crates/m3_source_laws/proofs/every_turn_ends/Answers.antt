use Rattle.m3_source_laws.proofs.Laws.{every_turn_ends}
use Rattle.m3_source_laws.proofs.every_turn_ends.Goals as goal

pub returns : goal.returns
returns d = every_turn_ends
