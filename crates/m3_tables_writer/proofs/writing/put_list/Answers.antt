use Rattle.std.proofs.Common.{arith}
use Rattle.std.proofs.lemmas.List.{length-map}
use Rattle.m3_tables_writer.specs.Plain.{place_number, place_numbers}
use Rattle.m3_tables_writer.proofs.WriteLemmas.{length-list_bytes}
use Rattle.m3_tables_writer.proofs.writing.put_list.Goals as goal

pub overflow_cast-places : goal.overflow_cast-places
overflow_cast-places c =
    omega (arith, c.requires, length-list_bytes (place_numbers c.args.places.now), length-map c.args.places.now place_number)
