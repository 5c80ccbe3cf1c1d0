use Rattle.std.proofs.Common.{arith}
use Rattle.std.proofs.lemmas.Grind.{common_steps}
use Rattle.m3_image_sections.specs.Parts.{variable_at}
use Rattle.m3_image_writer.specs.Variables.{var_bytes}
use Rattle.m3_image_writer.specs.Again.{Reads}
use Rattle.m3_image_writer.specs.Views.{variable_of}
use Rattle.m3_image_writer.proofs.Joined.{all_more, all_told}
use Rattle.m3_image_writer.proofs.variables.put_each_variable.Goals as goal

pub loop-variable-preserved : goal.loop-variable-preserved
loop-variable-preserved c =
    record {
      bytes = grind (arith, common_steps);
      again = all_more (λ v. Reads variable_at (var_bytes v) (variable_of v)) c.args.variables.now c.loop-variable.variable-index c.variable-item.result c.loop-variable-test.true c.variable-item.is c.loop-variable.invariant.again c.in_ok-put_variable.ensures.again;
    }

pub returns-clause-again : goal.returns-clause-again
returns-clause-again c = all_told (λ v. Reads variable_at (var_bytes v) (variable_of v)) c.args.variables.now c.loop-variable.variable-index c.loop-variable-test.false c.loop-variable.invariant.again
