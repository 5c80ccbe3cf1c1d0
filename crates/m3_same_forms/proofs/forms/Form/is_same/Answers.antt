use Rattle.std.proofs.Common.{sym, ◌∙◌}
use Rattle.m3_same_forms.proofs.Marks.{differ}
use Rattle.m3_same_forms.proofs.forms.Form.is_same.Goals as goal

pub returns-then-not-has_same_mark : goal.returns-then-not-has_same_mark
returns-then-not-has_same_mark c =
    differ c.args.self.now c.args.other.now (sym c.has_same_mark.ensures ∙ c.if-not-has_same_mark.true)
