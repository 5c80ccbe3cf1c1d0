use Rattle.m3_read_cursor.proofs.Rests.{still}
use Rattle.m3_read_cursor.proofs.bindings.binding.Goals as goal

pub returns-clause-reads : goal.returns-clause-reads
returns-clause-reads c = λ h. (_, c.take_name-name.ensures.reads (still c.take_sign.ensures.follows h), c.take_sign.ensures.reads h)
