use Rattle.std.proofs.Common.{◌≡◌, drop}
use Rattle.m3_same_run.specs.Check.{old_form}
use Rattle.m3_same_run.proofs.check.is_old.Given as goal

abbrev pub invariant-loop-term : goal.invariant-loop-term
invariant-loop-term l = old_form (drop l.term-index l.term-items) ≡ old_form l.form
