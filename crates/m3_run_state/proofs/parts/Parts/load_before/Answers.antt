use Rattle.std.proofs.Common.{sym, ◌∙◌}
use Rattle.m3_run_state.proofs.parts.Parts.load_before.Goals as goal

pub returns-then-is_inside : goal.returns-then-is_inside
returns-then-is_inside g c = λ before was. sym (was.blank c.args.at (sym c.is_inside.ensures ∙ c.if-is_inside.true))

pub returns : goal.returns
returns g c = λ before was. c.load.ensures ∙ was.same c.args.at (sym c.is_inside.ensures ∙ c.if-is_inside.false)
