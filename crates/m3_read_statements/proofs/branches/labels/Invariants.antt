use Rattle.std.proofs.Common.{length}
use Rattle.m3_read_cursor.specs.Readers.{Follows}
use Rattle.m3_read_statements.proofs.branches.labels.Given as goal

abbrev pub invariant-labels : goal.invariant-labels
invariant-labels l = Follows l.initial.reader l.reader

abbrev pub decreases-labels : goal.decreases-labels
decreases-labels l = length l.reader.rest.now
