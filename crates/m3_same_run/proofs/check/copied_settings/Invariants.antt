use Rattle.std.proofs.Common.{◌≡◌, ◌++◌, drop}
use Rattle.m3_same_run.proofs.check.copied_settings.Given as goal

abbrev pub invariant-loop-setting : goal.invariant-loop-setting
invariant-loop-setting l = l.copy.items ++ drop l.setting-index l.settings ≡ l.settings
