use Rattle.std.proofs.Common.{length}
use Rattle.m3_read_cursor.specs.Readers.{Follows}
use Rattle.m3_read_statements.proofs.loops.bindings.Given as goal

abbrev pub invariant-bindings : goal.invariant-bindings
invariant-bindings l = Follows l.initial.reader l.reader

abbrev pub decreases-bindings : goal.decreases-bindings
decreases-bindings l = length l.reader.rest.now
