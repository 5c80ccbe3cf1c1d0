use Rattle.std.proofs.Common.{◌≡◌, ◌++◌, drop, map}
use Rattle.m3_image_sections.specs.Ranges.{points_from}
use Rattle.m3_tables_writer.specs.Plain.{plains_of}
use Rattle.m3_plain_image.specs.Image.{empty_row}
use Rattle.m3_plain_image.proofs.parts.rows_of.Given as goal

-- the rows so far, and those of the points that are left, are all of them
abbrev pub invariant-loop-at : goal.invariant-loop-at
invariant-loop-at l = plains_of l.rows.items ++ map empty_row (points_from l.at (drop l.at l.code)) ≡ map empty_row (points_from 0 l.code)
