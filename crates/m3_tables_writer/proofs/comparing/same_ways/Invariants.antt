use Rattle.std.proofs.Common.{◌≡◌, length}
use Rattle.std.specs.Prelude.{map}
use Rattle.std.specs.Cmp.Lexicographic.{pointwise}
use Rattle.m3_tables_writer.specs.Plain.{bases_plain}
use Rattle.m3_tables_writer.specs.Writing.{same_bases}
use Rattle.m3_tables_writer.proofs.comparing.same_ways.Given as goal

abbrev pub invariant-loop-a : goal.invariant-loop-a
invariant-loop-a l = pointwise same_bases (map bases_plain l.a) (map bases_plain l.b) ≡ pointwise same_bases (map bases_plain l.fn.a) (map bases_plain l.fn.b)

abbrev pub decreases-loop-a : goal.decreases-loop-a
decreases-loop-a l = length l.a
