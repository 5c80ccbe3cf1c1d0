use Rattle.m3_read_cursor.proofs.Rests.{still, unclosed}
use Rattle.m3_read_cursor.proofs.PlaceLaws.{name_place}
use Rattle.m3_read_cursor.proofs.units.closing_name.Goals as goal

pub returns-clause-place : goal.returns-clause-place
returns-clause-place c = λ file h going.
    name_place file _ _ _ h (c.take_closing-closing.ensures.reads (still c.end_of_file.ensures going))

pub returns-clause-same : goal.returns-clause-same
returns-clause-same c = λ closed. c.take_closing-closing.ensures.same (unclosed c.end_of_file.ensures closed)
