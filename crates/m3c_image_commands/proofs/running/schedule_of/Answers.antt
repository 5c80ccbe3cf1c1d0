use Rattle.m3c_image_commands.specs.Refusals.{bad_line, too_many}
use Rattle.m3c_image_commands.proofs.RunLemmas.{refused_bad_line, refused_too_many}
use Rattle.m3c_image_commands.proofs.running.schedule_of.Goals as goal

pub returns-in-Err-BadLine-clause-err : goal.returns-in-Err-BadLine-clause-err
returns-in-Err-BadLine-clause-err c =
    refused_bad_line c.args.switches.now c.in-Err-BadLine.field-0 c.in-Err-BadLine.number c.refuse.result c.in-Err-BadLine.field-0-is c.in-Err-BadLine.ensures.err (c.refuse.ensures (bad_line c.in-Err-BadLine.number) c.bad_line.ensures)

pub returns-in-Err-TooMany-clause-err : goal.returns-in-Err-TooMany-clause-err
returns-in-Err-TooMany-clause-err c =
    refused_too_many c.args.switches.now c.in-Err-TooMany.field-0 c.refuse-in-Err-TooMany.result c.in-Err-TooMany.field-0-is c.in-Err-TooMany.ensures.err (c.refuse-in-Err-TooMany.ensures too_many c.too_many.ensures)
