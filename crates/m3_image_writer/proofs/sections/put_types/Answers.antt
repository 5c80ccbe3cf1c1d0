use Rattle.m3_image_writer.proofs.Lengths.{types_short}
use Rattle.m3_image_writer.proofs.Joined.{holds_on_ok}
use Rattle.m3_image_writer.proofs.AgainImage.{types_again}
use Rattle.m3_image_writer.proofs.sections.put_types.Goals as goal

pub put_each_type-requires : goal.put_each_type-requires
put_each_type-requires c = types_short c.args.types.now c.requires

pub returns-clause-again : goal.returns-clause-again
returns-clause-again c = holds_on_ok c.put_text.result _ (types_again c.args.types.now c.in_ok-put_each_type.ensures.again)
