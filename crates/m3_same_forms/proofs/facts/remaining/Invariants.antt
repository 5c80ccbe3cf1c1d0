use Rattle.std.proofs.Common.{◌≡◌}
use Rattle.m3_same_forms.specs.Facts.{kept, stays}
use Rattle.m3_same_forms.proofs.facts.remaining.Given as goal

abbrev pub invariant-loop-known : goal.invariant-loop-known
invariant-loop-known l = l.left.items ≡ kept (stays l.slot) l.yielded
