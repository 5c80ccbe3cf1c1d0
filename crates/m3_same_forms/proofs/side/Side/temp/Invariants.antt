use Rattle.std.proofs.Common.{◌≡◌, drop}
use Rattle.std.specs.Option.{option_copied}
use Rattle.m3_same_forms.specs.Sides.{form_at}
use Rattle.m3_same_forms.proofs.side.Side.temp.Given as goal

abbrev pub invariant-loop-setting : goal.invariant-loop-setting
invariant-loop-setting l = form_at (option_copied l.self.common) (drop l.setting-index l.self.settings.now) l.temp ≡ form_at (option_copied l.self.common) l.self.settings.now l.temp
