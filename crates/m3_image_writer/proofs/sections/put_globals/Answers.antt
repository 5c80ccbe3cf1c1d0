use Rattle.std.proofs.Common.{arith}
use Rattle.m3_image_writer.proofs.Joined.{holds_on_ok}
use Rattle.m3_image_writer.proofs.AgainParts.{globals_again}
use Rattle.m3_image_writer.proofs.sections.put_globals.Goals as goal

pub returns-clause-again : goal.returns-clause-again
returns-clause-again c = holds_on_ok c.put_text.result _ (globals_again c.args.globals.now (omega arith) (rw c.deref.ensures.value at c.in_ok-put_list.ensures.again))
