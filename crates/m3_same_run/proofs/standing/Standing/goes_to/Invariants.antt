use Rattle.std.proofs.Common.{◌≡◌, drop}
use Rattle.m3_same_run.specs.Check.{goes_to}
use Rattle.m3_same_run.proofs.standing.Standing.goes_to.Given as goal

abbrev pub invariant-loop-pair : goal.invariant-loop-pair
invariant-loop-pair l = goes_to l.judge.common.now (drop l.pair-index l.proof) l.left l.right l.self ≡ goes_to l.judge.common.now l.proof l.left l.right l.self
