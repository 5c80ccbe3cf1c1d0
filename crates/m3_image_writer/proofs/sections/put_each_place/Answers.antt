use Rattle.std.proofs.Common.{arith}
use Rattle.std.proofs.lemmas.Grind.{common_steps}
use Rattle.m3_image_sections.specs.Parts.{pair_in}
use Rattle.m3_image_writer.specs.Fields.{place_bytes}
use Rattle.m3_image_writer.specs.Again.{ReadsFixed}
use Rattle.m3_image_writer.proofs.Joined.{all_more_at, all_told}
use Rattle.m3_image_writer.proofs.sections.put_each_place.Goals as goal

pub loop-file-preserved : goal.loop-file-preserved
loop-file-preserved c =
    record {
      bytes = grind (arith, common_steps);
      again = all_more_at (λ place. ReadsFixed 8 pair_in (place_bytes place) place) c.args.places.now c.loop-file.file-index _ c.loop-file-test.true c.loop-file.invariant.again c.in_ok-put_place.ensures.again;
    }

pub returns-clause-again : goal.returns-clause-again
returns-clause-again c = all_told (λ place. ReadsFixed 8 pair_in (place_bytes place) place) c.args.places.now c.loop-file.file-index c.loop-file-test.false c.loop-file.invariant.again
