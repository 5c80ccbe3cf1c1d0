use Rattle.std.proofs.Common.{length}
use Rattle.m3_read_cursor.specs.Readers.{Follows}
use Rattle.m3_read_statements.proofs.heads.with_last.Given as goal

abbrev pub invariant-operations : goal.invariant-operations
invariant-operations l = Follows l.initial.reader l.reader
