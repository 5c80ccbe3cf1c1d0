use Rattle.std.proofs.Common.{◌≡◌, ◌++◌}
use Rattle.std.specs.List.{flat_map}
use Rattle.m3_tables.specs.Views.{entries_of}
use Rattle.m3_tables.specs.Tables.{derived_in}
use Rattle.m3_image_dump.specs.Texts.{entry_word}
use Rattle.m3_image_dump.proofs.rows.put_entries.Given as goal

abbrev pub invariant-entries : goal.invariant-entries
invariant-entries l = l.text.items ++ flat_map entry_word (entries_of l.entry-iterator) ≡ l.fn.text.items ++ flat_map entry_word (derived_in l.fn.row)
