use Rattle.std.proofs.Common.{length}
use Rattle.m3_read_cursor.specs.Readers.{Follows}
use Rattle.m3_parser.proofs.units.imports.Given as goal

abbrev pub invariant-imports : goal.invariant-imports
invariant-imports l = Follows l.initial.reader l.reader

abbrev pub decreases-imports : goal.decreases-imports
decreases-imports l = length l.reader.rest.now
