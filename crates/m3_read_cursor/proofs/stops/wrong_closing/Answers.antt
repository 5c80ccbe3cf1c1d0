use Rattle.m3_read_cursor.proofs.RefusalLaws.{unexpected_at}
use Rattle.m3_read_cursor.proofs.stops.wrong_closing.Goals as goal

pub returns-in_default : goal.returns-in_default
returns-in_default c = unexpected_at _ _ _ _ c.refused_at-in_default.ensures
