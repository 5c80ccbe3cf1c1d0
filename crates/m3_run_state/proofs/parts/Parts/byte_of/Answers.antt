use Rattle.std.proofs.Common.{sym, ◌∙◌}
use Rattle.m3_run_state.proofs.BlankLemmas.{both_left, both_right, both_past}
use Rattle.m3_run_state.proofs.parts.Parts.byte_of.Goals as goal

pub returns-then-n-left : goal.returns-then-n-left
returns-then-n-left g c = λ before was. c.byte_before.ensures before was ∙ sym (both_left before c.args.left c.args.right c.args.n c.if-n-left.true)

pub returns-then-past-right : goal.returns-then-past-right
returns-then-past-right g c = λ before was. c.byte_before-then-past-right.ensures before was ∙ sym (both_right before c.args.left c.args.right c.args.n c.if-n-left.false c.if-past-right.true)

pub returns : goal.returns
returns g c = λ before was. sym (both_past before c.args.left c.args.right c.args.n c.if-n-left.false c.if-past-right.false)
