use Rattle.std.proofs.Common.{arith}
use Rattle.m3_image_writer.proofs.AgainParts.{place_again}
use Rattle.m3_image_writer.proofs.Joined.{holds_on_ok}
use Rattle.m3_image_writer.proofs.sections.put_place.Goals as goal

pub returns-clause-again : goal.returns-clause-again
returns-clause-again c = holds_on_ok c.put_word-2.result _ (place_again (c.args.file, c.args.line) (omega arith) (omega arith))
