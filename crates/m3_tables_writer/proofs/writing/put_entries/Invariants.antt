use Rattle.std.proofs.Common.{◌≡◌, ◌++◌, take}
use Rattle.std.specs.Prelude.{map}
use Rattle.std.specs.List.{flat_map}
use Rattle.m3_tables_writer.specs.Plain.{entry_plain}
use Rattle.m3_tables_writer.specs.Writing.{entry_bytes}
use Rattle.m3_tables_writer.proofs.writing.put_entries.Given as goal

abbrev pub invariant-loop-entry : goal.invariant-loop-entry
invariant-loop-entry l = l.out.items ≡ l.fn.out.items ++ flat_map entry_bytes (map entry_plain (take l.entry-index l.entries))
