use Rattle.m3_same_forms.proofs.Differ.{slots_differ}
use Rattle.m3_same_forms.proofs.same.same_slots.Goals as goal

pub returns-then-left-right : goal.returns-then-left-right
returns-then-left-right c = slots_differ c.args.left.now c.args.right.now c.if-left-right.true
