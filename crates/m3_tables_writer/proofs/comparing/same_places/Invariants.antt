use Rattle.std.proofs.Common.{◌≡◌, length}
use Rattle.std.specs.Prelude.{nat_eq}
use Rattle.std.specs.Cmp.Lexicographic.{pointwise}
use Rattle.m3_tables_writer.specs.Plain.{place_numbers}
use Rattle.m3_tables_writer.proofs.comparing.same_places.Given as goal

abbrev pub invariant-loop-a : goal.invariant-loop-a
invariant-loop-a l = pointwise nat_eq (place_numbers l.a) (place_numbers l.b) ≡ pointwise nat_eq (place_numbers l.fn.a) (place_numbers l.fn.b)

abbrev pub decreases-loop-a : goal.decreases-loop-a
decreases-loop-a l = length l.a
