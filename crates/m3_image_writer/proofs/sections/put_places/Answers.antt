use Rattle.std.proofs.Common.{arith}
use Rattle.m3_image_writer.proofs.Lengths.{files_short, count_of_places}
use Rattle.m3_image_writer.proofs.Joined.{holds_on_ok}
use Rattle.m3_image_writer.proofs.AgainParts.{places_again}
use Rattle.m3_image_writer.proofs.sections.put_places.Goals as goal

pub overflow_cast-len : goal.overflow_cast-len
overflow_cast-len c = omega (arith, (files_short c.args.places.now c.requires).count)

pub put_texts-requires : goal.put_texts-requires
put_texts-requires c = rw c.deref.ensures.value (files_short c.args.places.now c.requires).each

pub overflow_cast-len-2 : goal.overflow_cast-len-2
overflow_cast-len-2 c = omega (arith, c.requires, count_of_places c.args.places.now)

pub returns-clause-again : goal.returns-clause-again
returns-clause-again c =
    let places = c.args.places.now in
    let count = count_of_places places in
    holds_on_ok c.put_text.result _ (places_again places (files_short places c.requires) (rw c.deref-2.ensures.value at c.in_ok-put_each_place.ensures.again) (omega (arith, c.requires)))
