use Rattle.std.proofs.Common.{arith}
use Rattle.m3_read_cursor.proofs.Rests.{still_within}
use Rattle.m3_read_cursor.proofs.PlaceLaws.{first_place, name_place, name_is_there}
use Rattle.m3_read_cursor.proofs.units.unit_heading.Goals as goal

pub returns-clause-first : goal.returns-clause-first
returns-clause-first c = λ file h going.
    let there = name_is_there _ _ _ (c.take_name-name.ensures.reads going) in
    first_place file _ _ h c.pos-pos.ensures (omega (arith, there, c.first_words-words.ensures.onward))

pub returns-clause-named : goal.returns-clause-named
returns-clause-named c = λ file h going.
    name_place file _ _ _ (still_within c.first_words-words.ensures file h) (c.take_name-name.ensures.reads going)
