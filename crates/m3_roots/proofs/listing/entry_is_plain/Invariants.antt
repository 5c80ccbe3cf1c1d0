use Rattle.std.specs.Prelude.{map}
use Rattle.std.specs.List.{flat_map}
use Rattle.m3_tables.specs.Views.{entry_of, ways_of}
use Rattle.m3_roots.specs.ThreadWords.{places_from, derived_at, bases_in_way, base_places}
use Rattle.m3_roots.specs.Marking.{Uses, MarksPart}
use Rattle.m3_roots.proofs.listing.entry_is_plain.Given as goal

abbrev pub invariant-loop-way : goal.invariant-loop-way
invariant-loop-way l = MarksPart l.marks l.marks (map Uses (base_places (derived_at l.first (entry_of l.entry)))) (map Uses (places_from l.first (flat_map bases_in_way (ways_of l.way-iterator))))
