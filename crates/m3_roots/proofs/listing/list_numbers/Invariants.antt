use Rattle.std.specs.Prelude.{map}
use Rattle.m3_tables.specs.Views.{numbers_of}
use Rattle.m3_roots.specs.ThreadWords.{places_from}
use Rattle.m3_roots.specs.Marking.{Lists, MarksPart}
use Rattle.m3_roots.proofs.listing.list_numbers.Given as goal

abbrev pub invariant-loop-number : goal.invariant-loop-number
invariant-loop-number l = MarksPart l.initial.marks l.marks (map Lists (places_from l.first (numbers_of l.fn.numbers))) (map Lists (places_from l.first (numbers_of l.number-iterator)))
