use Rattle.std.specs.Option.{option_copied}
use Rattle.m3_same_forms.specs.Sides.{form_at}
use Rattle.m3_same_forms.proofs.Differ.{operands_differ}
use Rattle.m3_same_forms.proofs.points.Sides.same_operands.Goals as goal

pub returns-then-row-others : goal.returns-then-row-others
returns-then-row-others c =
    operands_differ (form_at (option_copied c.args.self.left.common) c.args.self.left.settings.now) (form_at (option_copied c.args.self.right.common) c.args.self.right.settings.now) c.args.row.now c.args.others.now c.if-row-others.true
