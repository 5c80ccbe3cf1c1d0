use Rattle.std.proofs.Common.{arith}
use Rattle.m3_image_writer.proofs.AgainParts.{proc_again}
use Rattle.m3_image_writer.proofs.Joined.{holds_on_ok}
use Rattle.m3_image_writer.proofs.sections.put_proc.Goals as goal

pub returns-clause-again : goal.returns-clause-again
returns-clause-again c = holds_on_ok c.put_word-4.result _ (proc_again c.args.proc.now (omega arith) (omega arith) (omega arith) (omega arith))
