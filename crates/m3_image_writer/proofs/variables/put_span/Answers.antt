use Rattle.std.proofs.Common.{arith}
use Rattle.m3_image_writer.proofs.Joined.{holds_on_ok}
use Rattle.m3_image_writer.proofs.AgainParts.{span_again}
use Rattle.m3_image_writer.proofs.variables.put_span.Goals as goal

pub returns-clause-again : goal.returns-clause-again
returns-clause-again c = holds_on_ok c.put_word-2.result _ (span_again (c.args.instr, c.args.place) (omega arith))
