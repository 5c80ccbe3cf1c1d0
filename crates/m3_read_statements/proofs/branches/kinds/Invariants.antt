use Rattle.std.proofs.Common.{length}
use Rattle.m3_read_cursor.specs.Readers.{Follows}
use Rattle.m3_read_statements.proofs.branches.kinds.Given as goal

abbrev pub invariant-kinds : goal.invariant-kinds
invariant-kinds l = Follows l.initial.reader l.reader

abbrev pub decreases-kinds : goal.decreases-kinds
decreases-kinds l = length l.reader.rest.now
