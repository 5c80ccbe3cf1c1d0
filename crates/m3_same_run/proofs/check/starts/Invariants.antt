use Rattle.std.proofs.Common.{◌≡◌, drop}
use Rattle.m3_same_run.specs.Check.{starts}
use Rattle.m3_same_run.proofs.check.starts.Given as goal

abbrev pub invariant-loop-pair : goal.invariant-loop-pair
invariant-loop-pair l = starts (drop l.pair-index l.proof) l.left l.right ≡ starts l.proof l.left l.right
