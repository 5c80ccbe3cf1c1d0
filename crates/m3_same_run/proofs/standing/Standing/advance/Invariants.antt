use Rattle.std.proofs.Common.{◌≡◌, ◌≤◌, ◌-◌, drop, length}
use Rattle.m3_same_run.specs.Check.{advance}
use Rattle.m3_same_run.proofs.standing.Standing.advance.Given as goal

abbrev pub invariant-loop-i : goal.invariant-loop-i
invariant-loop-i l = record {
  within : l.i ≤ length l.ops;
  is :
      advance l.judge.slots.now l.judge.common.now (drop l.i l.ops) l.st
      ≡ advance l.judge.slots.now l.judge.common.now l.fn.self.ops l.fn.self;
}

abbrev pub decreases-loop-i : goal.decreases-loop-i
decreases-loop-i l = length l.ops - l.i
