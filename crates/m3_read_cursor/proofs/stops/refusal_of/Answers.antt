use Rattle.m3_read_cursor.proofs.RefusalLaws.{unexpected_at, too_deep_at}
use Rattle.m3_read_cursor.proofs.stops.refusal_of.Goals as goal

pub returns-in-Unexpected : goal.returns-in-Unexpected
returns-in-Unexpected c = unexpected_at _ _ _ _ c.refused_at.ensures

pub returns-in-TooDeep : goal.returns-in-TooDeep
returns-in-TooDeep c = too_deep_at _ _ _ _ c.refused_at-in-TooDeep.ensures
