use Rattle.m3_run_meaning.specs.Points.{deadlock, points_used}
use Rattle.m3_machine.proofs.points.spent.Goals as goal

pub returns-then-may_go_on : goal.returns-then-may_go_on
returns-then-may_go_on g c = λ few. points_used (c.may_go_on.ensures.some few c.if-may_go_on.true)

pub returns-else-may_go_on : goal.returns-else-may_go_on
returns-else-may_go_on g c = λ few. deadlock (c.may_go_on.ensures.none few c.if-may_go_on.false)
