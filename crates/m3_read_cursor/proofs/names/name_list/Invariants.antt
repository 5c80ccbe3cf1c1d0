use Rattle.std.proofs.Common.{length}
use Rattle.m3_read_cursor.specs.Readers.{Follows}
use Rattle.m3_read_cursor.proofs.names.name_list.Given as goal

abbrev pub invariant-names : goal.invariant-names
invariant-names l = Follows l.initial.reader l.reader

abbrev pub decreases-names : goal.decreases-names
decreases-names l = length l.reader.rest.now
