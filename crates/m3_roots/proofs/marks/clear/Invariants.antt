use Rattle.std.specs.Prelude.{◌≡◌, ◌<◌, ℕ, Some}
use Rattle.std.specs.List.{slice_get}
use Rattle.m3_roots.specs.Marking.{mark_of, nothing_marked}
use Rattle.m3_roots.proofs.marks.clear.Given as goal

abbrev pub invariant-loop-place : goal.invariant-loop-place
invariant-loop-place l = (q : ℕ) → q < l.place → slice_get l.marks q ≡ Some (mark_of nothing_marked q)
