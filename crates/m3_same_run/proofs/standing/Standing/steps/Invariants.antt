use Rattle.std.proofs.Common.{◌≡◌, drop}
use Rattle.m3_same_run.specs.Check.{steps}
use Rattle.m3_same_run.proofs.standing.Standing.steps.Given as goal

abbrev pub invariant-loop-op : goal.invariant-loop-op
invariant-loop-op l =
    steps l.judge.slots.now l.judge.common.now l.judge.right 1 (drop l.op-index l.ops) l.there
    ≡ steps l.judge.slots.now l.judge.common.now l.judge.right 1 l.ops l.fn.self
