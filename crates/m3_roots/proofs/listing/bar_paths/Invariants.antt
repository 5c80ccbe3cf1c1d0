use Rattle.std.specs.Prelude.{map}
use Rattle.std.specs.List.{flat_map}
use Rattle.m3_tables.specs.Views.{entries_of}
use Rattle.m3_tables.specs.Tables.{derived_in}
use Rattle.m3_roots.specs.ThreadWords.{derived_from, path_places}
use Rattle.m3_roots.specs.Marking.{Bars, MarksPart}
use Rattle.m3_roots.proofs.listing.bar_paths.Given as goal

abbrev pub invariant-loop-entry : goal.invariant-loop-entry
invariant-loop-entry l = MarksPart l.initial.marks l.marks (map Bars (flat_map path_places (derived_from l.first (derived_in l.row)))) (map Bars (flat_map path_places (derived_from l.first (entries_of l.entry-iterator))))
