use Rattle.std.proofs.Common.{◌≡◌, ◌++◌, take}
use Rattle.std.specs.Prelude.{map}
use Rattle.std.specs.List.{flat_map}
use Rattle.m3_tables_writer.specs.Plain.{bases_plain}
use Rattle.m3_tables_writer.specs.Writing.{bases_bytes}
use Rattle.m3_tables_writer.proofs.writing.put_ways.Given as goal

abbrev pub invariant-loop-way : goal.invariant-loop-way
invariant-loop-way l = l.out.items ≡ l.fn.out.items ++ flat_map bases_bytes (map bases_plain (take l.way-index l.ways))
