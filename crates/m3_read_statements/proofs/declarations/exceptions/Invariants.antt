use Rattle.std.proofs.Common.{length}
use Rattle.m3_read_cursor.specs.Readers.{Follows}
use Rattle.m3_read_statements.proofs.declarations.exceptions.Given as goal

abbrev pub invariant-exceptions : goal.invariant-exceptions
invariant-exceptions l = Follows l.initial.reader l.reader

abbrev pub decreases-exceptions : goal.decreases-exceptions
decreases-exceptions l = length l.reader.rest.now
