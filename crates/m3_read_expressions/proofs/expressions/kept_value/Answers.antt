use Rattle.m3_read_cursor.proofs.Rests.{still}
use Rattle.m3_read_expressions.proofs.Spelling.{stopped}
use Rattle.m3_read_expressions.proofs.expressions.kept_value.Goals as goal

pub returns-in-TypeExp-clause-stays : goal.returns-in-TypeExp-clause-stays
returns-in-TypeExp-clause-stays c = λ h. stopped c.unexpected.ensures.stopped (still c.keep_expr.ensures.follows h)

pub returns-in-TypeExp-clause-value : goal.returns-in-TypeExp-clause-value
returns-in-TypeExp-clause-value c = λ h. stopped c.unexpected.ensures.stopped (still c.keep_expr.ensures.follows h)
