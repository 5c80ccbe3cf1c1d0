use Rattle.std.proofs.Common.{arith}
use Rattle.m3_image_writer.proofs.Lengths.{exceptions_short}
use Rattle.m3_image_writer.proofs.Joined.{holds_on_ok}
use Rattle.m3_image_writer.proofs.AgainParts.{exceptions_again}
use Rattle.m3_image_writer.proofs.sections.put_exceptions.Goals as goal

pub overflow_cast-exceptions : goal.overflow_cast-exceptions
overflow_cast-exceptions c = omega (arith, (exceptions_short c.args.exceptions.now c.requires).count)

pub put_texts-requires : goal.put_texts-requires
put_texts-requires c = (exceptions_short c.args.exceptions.now c.requires).each

pub returns-clause-again : goal.returns-clause-again
returns-clause-again c = holds_on_ok c.put_text.result _ (exceptions_again c.args.exceptions.now (exceptions_short c.args.exceptions.now c.requires))
