use Rattle.std.proofs.Common.{◌≡◌, ◌++◌, take}
use Rattle.std.specs.List.{flat_map}
use Rattle.m3_tables_writer.specs.Plain.{place_numbers}
use Rattle.m3_tables_writer.specs.Writing.{word_bytes}
use Rattle.m3_tables_writer.proofs.writing.put_places.Given as goal

abbrev pub invariant-loop-place : goal.invariant-loop-place
invariant-loop-place l = l.out.items ≡ l.fn.out.items ++ flat_map word_bytes (place_numbers (take l.place-index l.places))
