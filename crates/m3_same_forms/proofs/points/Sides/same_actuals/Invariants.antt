use Rattle.std.specs.Option.{option_copied}
use Rattle.std.proofs.Common.{◌≡◌, ◌≤◌, ◌-◌, drop, length}
use Rattle.m3_same_forms.specs.Sides.{form_at}
use Rattle.m3_same_forms.specs.Same.{same_actuals}
use Rattle.m3_same_forms.proofs.points.Sides.same_actuals.Given as goal

abbrev pub invariant-loop-i : goal.invariant-loop-i
invariant-loop-i l = record {
  within : l.i ≤ length l.row;
  same :
      same_actuals (form_at (option_copied l.self.left.common) l.self.left.settings.now) (form_at (option_copied l.self.right.common) l.self.right.settings.now) (drop l.i l.row) (drop l.i l.others)
      ≡ same_actuals (form_at (option_copied l.self.left.common) l.self.left.settings.now) (form_at (option_copied l.self.right.common) l.self.right.settings.now) l.row l.others;
}

abbrev pub decreases-loop-i : goal.decreases-loop-i
decreases-loop-i l = length l.row - l.i
