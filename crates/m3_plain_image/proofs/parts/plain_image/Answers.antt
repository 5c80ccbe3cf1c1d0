use Rattle.std.proofs.Common.{refl, arith}
use Rattle.m3_plain.specs.Terms.{terms_of}
use Rattle.m3_plain_image.proofs.WholeParts.{are_parts}
use Rattle.m3_plain_image.proofs.Sizes.{image_small}
use Rattle.m3_plain_image.proofs.parts.plain_image.Goals as goal

pub write_image-requires-clause-form : goal.write_image-requires-clause-form
write_image-requires-clause-form c =
    are_parts c.in_ok-parts_of.field-0 c.args.name.now (terms_of c.args.puts.now) (c.in_ok-parts_of.ensures.rows refl) c.requires.shallow c.in_ok-parts_of.ensures.image

pub write_image-requires-clause-size : goal.write_image-requires-clause-size
write_image-requires-clause-size c =
    image_small c.in_ok-parts_of.field-0 c.args.name.now (terms_of c.args.puts.now) c.in_ok-parts_of.ensures.image c.requires.few (let short = c.if-name-gt-MOST_NAME_BYTES.false in omega arith)
