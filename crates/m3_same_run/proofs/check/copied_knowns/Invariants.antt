use Rattle.std.proofs.Common.{◌≡◌, ◌++◌, drop}
use Rattle.m3_same_run.proofs.check.copied_knowns.Given as goal

abbrev pub invariant-loop-known : goal.invariant-loop-known
invariant-loop-known l = l.copy.items ++ drop l.known-index l.knowns ≡ l.knowns
