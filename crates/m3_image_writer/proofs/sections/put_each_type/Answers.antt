use Rattle.std.proofs.Common.{arith}
use Rattle.std.proofs.lemmas.Grind.{common_steps}
use Rattle.m3_image_sections.specs.Parts.{type_at}
use Rattle.m3_image_writer.specs.Sections.{type_bytes}
use Rattle.m3_image_writer.specs.Again.{Reads}
use Rattle.m3_image_writer.specs.Views.{cell_type}
use Rattle.m3_image_writer.proofs.Joined.{all_more, all_told}
use Rattle.m3_image_writer.proofs.sections.put_each_type.Goals as goal

pub loop-part-preserved : goal.loop-part-preserved
loop-part-preserved c =
    record {
      bytes = grind (arith, common_steps);
      again = all_more (λ part. Reads type_at (type_bytes part) (cell_type part)) c.args.types.now c.loop-part.part-index c.part-item.result c.loop-part-test.true c.part-item.is c.loop-part.invariant.again c.in_ok-put_type.ensures.again;
    }

pub returns-clause-again : goal.returns-clause-again
returns-clause-again c = all_told (λ part. Reads type_at (type_bytes part) (cell_type part)) c.args.types.now c.loop-part.part-index c.loop-part-test.false c.loop-part.invariant.again
