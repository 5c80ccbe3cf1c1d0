use Rattle.std.proofs.Common.{length}
use Rattle.m3_read_cursor.specs.Readers.{Follows}
use Rattle.m3_read_statements.proofs.declarations.types.Given as goal

abbrev pub invariant-types : goal.invariant-types
invariant-types l = Follows l.initial.reader l.reader

abbrev pub decreases-types : goal.decreases-types
decreases-types l = length l.reader.rest.now
