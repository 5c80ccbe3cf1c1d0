use Rattle.std.proofs.Common.{length}
use Rattle.m3_read_cursor.specs.Readers.{Follows}
use Rattle.m3_parser.proofs.units.import_items.Given as goal

abbrev pub invariant-items : goal.invariant-items
invariant-items l = Follows l.initial.reader l.reader

abbrev pub decreases-items : goal.decreases-items
decreases-items l = length l.reader.rest.now
