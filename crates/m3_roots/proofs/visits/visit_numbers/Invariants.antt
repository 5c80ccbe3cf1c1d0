use Rattle.std.specs.Prelude.{◌≡◌, ◌++◌, ◌+◌, ◌≤◌, true, List, length}
use Rattle.m3_tables.specs.Views.{numbers_of}
use Rattle.m3_heap.specs.Moves.{kept_words}
use Rattle.m3_heap.specs.Shapes.{Shape}
use Rattle.m3_roots.specs.ThreadWords.{places_from}
use Rattle.m3_roots.specs.Visiting.{VisitsPart, KeepsHeap}
use Rattle.m3_roots.proofs.visits.visit_numbers.Given as goal

abbrev pub invariant-loop-number : goal.invariant-loop-number
invariant-loop-number g l =
    let first = g.S.Store.heap l.initial.store in
    let now = g.S.Store.heap l.store in
    record {
      open_still : now.is_open ≡ true;
      heap : KeepsHeap first now;
      fitting : (shapes : List Shape) → g.S.Store.fits l.initial.store shapes → g.S.Store.fits l.store shapes;
      part : VisitsPart first.cells (places_from l.first (numbers_of l.fn.numbers)) (l.initial.r ++ l.initial.stack) first.moves (places_from l.first (numbers_of l.number-iterator)) (l.r ++ l.stack) now.moves;
      cost : l.steps + kept_words first.cells first.moves + length (numbers_of l.number-iterator) ≤ l.initial.steps + length (numbers_of l.fn.numbers) + kept_words first.cells now.moves;
    }
