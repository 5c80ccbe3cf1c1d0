use Rattle.std.proofs.Common.{length}
use Rattle.m3_read_cursor.specs.Readers.{Follows}
use Rattle.m3_read_statements.proofs.declarations.reveals.Given as goal

abbrev pub invariant-reveals : goal.invariant-reveals
invariant-reveals l = Follows l.initial.reader l.reader

abbrev pub decreases-reveals : goal.decreases-reveals
decreases-reveals l = length l.reader.rest.now
