use Rattle.std.proofs.Common.{length}
use Rattle.m3_read_cursor.specs.Readers.{Follows}
use Rattle.m3_read_statements.proofs.declarations.variables.Given as goal

abbrev pub invariant-variables : goal.invariant-variables
invariant-variables l = Follows l.initial.reader l.reader

abbrev pub decreases-variables : goal.decreases-variables
decreases-variables l = length l.reader.rest.now
