use Rattle.std.specs.Prelude.{◌≡◌, ◌++◌, ◌+◌, ◌%◌, ◌^◌, map, sum, length}
use Rattle.m3_tables.specs.Views.{numbers_of}
use Rattle.m3_roots.specs.ThreadWords.{word_at_place, places_from, sum_at}
use Rattle.m3_roots.proofs.bases.sum_of.Given as goal

abbrev pub invariant-loop-place : goal.invariant-loop-place
invariant-loop-place g l =
    ((l.sum + sum (map (word_at_place (l.r ++ l.stack)) (places_from l.first (numbers_of l.place-iterator)))) % 2 ^ 64 ≡ sum_at (l.r ++ l.stack) (places_from l.first (numbers_of l.fn.places)))
    × (l.steps + length (numbers_of l.place-iterator) ≡ l.initial.steps + length (numbers_of l.fn.places))
