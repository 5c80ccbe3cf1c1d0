use Rattle.std.proofs.Common.{arith}
use Rattle.m3_image_writer.proofs.Lengths.{variables_short}
use Rattle.m3_image_writer.proofs.Joined.{holds_on_ok}
use Rattle.m3_image_writer.proofs.AgainParts.{variables_again}
use Rattle.m3_image_writer.proofs.variables.put_variables.Goals as goal

pub overflow_cast-variables : goal.overflow_cast-variables
overflow_cast-variables c = omega (arith, (variables_short c.args.variables.now c.requires).0)

pub put_each_variable-requires : goal.put_each_variable-requires
put_each_variable-requires c = (variables_short c.args.variables.now c.requires).1

pub returns-clause-again : goal.returns-clause-again
returns-clause-again c = holds_on_ok c.put_text.result _ (variables_again c.args.variables.now c.in_ok-put_each_variable.ensures.again (omega (arith, (variables_short c.args.variables.now c.requires).0)))
