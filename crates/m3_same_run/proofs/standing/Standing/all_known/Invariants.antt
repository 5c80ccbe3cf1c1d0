use Rattle.std.proofs.Common.{◌≡◌, drop}
use Rattle.m3_same_run.specs.Check.{all_known}
use Rattle.m3_same_run.proofs.standing.Standing.all_known.Given as goal

abbrev pub invariant-loop-wanted : goal.invariant-loop-wanted
invariant-loop-wanted l = all_known l.judge.common.now l.self (drop l.wanted-index l.knowns) ≡ all_known l.judge.common.now l.self l.knowns
