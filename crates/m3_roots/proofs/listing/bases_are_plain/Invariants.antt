use Rattle.std.specs.Prelude.{map}
use Rattle.std.specs.List.{flat_map}
use Rattle.m3_tables.specs.Views.{entries_of}
use Rattle.m3_tables.specs.Tables.{derived_in}
use Rattle.m3_roots.specs.ThreadWords.{derived_from, base_places}
use Rattle.m3_roots.specs.Marking.{Uses, MarksPart}
use Rattle.m3_roots.proofs.listing.bases_are_plain.Given as goal

abbrev pub invariant-loop-entry : goal.invariant-loop-entry
invariant-loop-entry l = MarksPart l.marks l.marks (map Uses (flat_map base_places (derived_from l.first (derived_in l.row)))) (map Uses (flat_map base_places (derived_from l.first (entries_of l.entry-iterator))))
