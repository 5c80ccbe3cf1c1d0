use Rattle.std.proofs.Common.{◌≡◌, ◌≤◌, ◌-◌, drop, length}
use Rattle.m3_same_forms.specs.Forms.{same_form}
use Rattle.m3_same_forms.proofs.forms.are_alike.Given as goal

abbrev pub invariant-loop-i : goal.invariant-loop-i
invariant-loop-i l = record {
  within : l.i ≤ length l.left;
  lengths : length l.left ≡ length l.right;
  same : same_form (drop l.i l.left) (drop l.i l.right) ≡ same_form l.left l.right;
}

abbrev pub decreases-loop-i : goal.decreases-loop-i
decreases-loop-i l = length l.left - l.i
