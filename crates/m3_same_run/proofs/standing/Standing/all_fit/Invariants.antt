use Rattle.std.proofs.Common.{◌≡◌, drop}
use Rattle.m3_same_run.specs.Check.{all_fit}
use Rattle.m3_same_run.proofs.standing.Standing.all_fit.Given as goal

abbrev pub invariant-loop-setting : goal.invariant-loop-setting
invariant-loop-setting l = all_fit l.judge.common.now l.self l.settings (drop l.setting-index l.list) ≡ all_fit l.judge.common.now l.self l.settings l.list
