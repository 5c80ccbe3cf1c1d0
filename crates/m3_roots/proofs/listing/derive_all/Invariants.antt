use Rattle.std.specs.Prelude.{map}
use Rattle.m3_tables.specs.Views.{entries_of}
use Rattle.m3_tables.specs.Tables.{derived_in}
use Rattle.m3_roots.specs.ThreadWords.{derived_from, place_of}
use Rattle.m3_roots.specs.Marking.{Derives, MarksPart}
use Rattle.m3_roots.proofs.listing.derive_all.Given as goal

abbrev pub invariant-loop-entry : goal.invariant-loop-entry
invariant-loop-entry l = MarksPart l.initial.marks l.marks (map Derives (map place_of (derived_from l.first (derived_in l.row)))) (map Derives (map place_of (derived_from l.first (entries_of l.entry-iterator))))
