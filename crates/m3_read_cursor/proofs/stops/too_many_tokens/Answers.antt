use Rattle.m3_read_cursor.proofs.RefusalLaws.{too_many_at}
use Rattle.m3_read_cursor.proofs.stops.too_many_tokens.Goals as goal

pub returns : goal.returns
returns c = too_many_at _ _ c.requires _ c.refused_at.ensures
