use Rattle.std.proofs.Common.{length}
use Rattle.m3_read_cursor.specs.Readers.{Follows}
use Rattle.m3_read_statements.proofs.declarations.constants.Given as goal

abbrev pub invariant-constants : goal.invariant-constants
invariant-constants l = Follows l.initial.reader l.reader

abbrev pub decreases-constants : goal.decreases-constants
decreases-constants l = length l.reader.rest.now
