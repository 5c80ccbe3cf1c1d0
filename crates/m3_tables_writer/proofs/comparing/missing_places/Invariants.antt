use Rattle.std.proofs.Common.{◌≡◌, take}
use Rattle.m3_tables_writer.specs.Plain.{place_numbers}
use Rattle.m3_tables_writer.specs.Writing.{missing}
use Rattle.m3_tables_writer.proofs.comparing.missing_places.Given as goal

abbrev pub invariant-loop-place : goal.invariant-loop-place
invariant-loop-place l = place_numbers l.found.items ≡ missing (place_numbers (take l.place-index l.places)) (place_numbers l.others)
