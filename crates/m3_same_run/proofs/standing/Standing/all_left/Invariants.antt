use Rattle.std.proofs.Common.{◌≡◌, drop}
use Rattle.m3_same_run.specs.Check.{all_left}
use Rattle.m3_same_run.proofs.standing.Standing.all_left.Given as goal

abbrev pub invariant-loop-setting : goal.invariant-loop-setting
invariant-loop-setting l = all_left l.judge.common.now l.self (drop l.setting-index l.list) ≡ all_left l.judge.common.now l.self l.list
