use Rattle.std.specs.Prelude.{map, drop}
use Rattle.m3_roots.specs.ThreadWords.{places_from}
use Rattle.m3_roots.specs.Marking.{Lists, MarksPart}
use Rattle.m3_roots.proofs.listing.list_all.Given as goal

abbrev pub invariant-loop-number : goal.invariant-loop-number
invariant-loop-number l = MarksPart l.initial.marks l.marks (map Lists (places_from l.first l.numbers)) (map Lists (places_from l.first (drop l.number-index l.numbers)))
