use Rattle.std.proofs.Common.{◌≡◌, drop}
use Rattle.m3_same_run.specs.Check.{old_settings}
use Rattle.m3_same_run.proofs.check.are_old.Given as goal

abbrev pub invariant-loop-setting : goal.invariant-loop-setting
invariant-loop-setting l = old_settings (drop l.setting-index l.settings) ≡ old_settings l.settings
