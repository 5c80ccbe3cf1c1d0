use Rattle.std.proofs.Common.{arith}
use Rattle.m3_image_writer.proofs.Lengths.{count_of_constants}
use Rattle.m3_image_writer.proofs.AgainParts.{all_long, constants_again}
use Rattle.m3_image_writer.proofs.Joined.{holds_on_ok}
use Rattle.m3_image_writer.proofs.sections.put_constants.Goals as goal

pub overflow_cast-constants : goal.overflow_cast-constants
overflow_cast-constants c = omega (arith, c.requires, count_of_constants c.args.constants.now)

pub returns-clause-again : goal.returns-clause-again
returns-clause-again c =
    let count = count_of_constants c.args.constants.now in
    holds_on_ok c.put_text.result _ (constants_again c.args.constants.now (all_long c.args.constants.now (λ i. omega (arith, c.type_inv.constants i))) (omega (arith, c.requires)))
