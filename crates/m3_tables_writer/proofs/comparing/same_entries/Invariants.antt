use Rattle.std.proofs.Common.{◌≡◌, length}
use Rattle.std.specs.Prelude.{map}
use Rattle.std.specs.Cmp.Lexicographic.{pointwise}
use Rattle.m3_tables_writer.specs.Plain.{entry_plain}
use Rattle.m3_tables_writer.specs.Writing.{same_entry}
use Rattle.m3_tables_writer.proofs.comparing.same_entries.Given as goal

abbrev pub invariant-loop-a : goal.invariant-loop-a
invariant-loop-a l = pointwise same_entry (map entry_plain l.a) (map entry_plain l.b) ≡ pointwise same_entry (map entry_plain l.fn.a) (map entry_plain l.fn.b)

abbrev pub decreases-loop-a : goal.decreases-loop-a
decreases-loop-a l = length l.a
