use Rattle.std.proofs.Common.{◌≡◌, drop}
use Rattle.m3_same_run.specs.Check.{old_knowns}
use Rattle.m3_same_run.proofs.check.are_old_knowns.Given as goal

abbrev pub invariant-loop-known : goal.invariant-loop-known
invariant-loop-known l = old_knowns (drop l.known-index l.knowns) ≡ old_knowns l.knowns
