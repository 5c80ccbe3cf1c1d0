use Rattle.std.proofs.Common.{◌≡◌, ◌≤◌, ◌-◌, drop, length}
use Rattle.m3_same_forms.specs.Same.{same_slots}
use Rattle.m3_same_forms.proofs.same.same_slots.Given as goal

abbrev pub invariant-loop-i : goal.invariant-loop-i
invariant-loop-i l = record { within : l.i ≤ length l.left; same : same_slots (drop l.i l.left) (drop l.i l.right) ≡ same_slots l.left l.right }

abbrev pub decreases-loop-i : goal.decreases-loop-i
decreases-loop-i l = length l.left - l.i
