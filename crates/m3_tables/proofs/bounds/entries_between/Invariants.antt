use Rattle.std.proofs.Common.{◌≡◌}
use Rattle.std.specs.List.{list_all}
use Rattle.m3_tables.specs.Sections.{is_between, entry_passes}
use Rattle.m3_tables.specs.Views.{entries_of}
use Rattle.m3_tables.proofs.bounds.entries_between.Given as goal

abbrev pub invariant-loop-entry : goal.invariant-loop-entry
invariant-loop-entry l = list_all (entry_passes (is_between l.lowest l.limit)) (entries_of l.entry-iterator) ≡ list_all (entry_passes (is_between l.lowest l.limit)) (entries_of l.fn.entries)
