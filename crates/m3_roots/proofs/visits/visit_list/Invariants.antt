use Rattle.std.specs.Prelude.{◌≡◌, ◌++◌, ◌+◌, ◌≤◌, true, List, length, drop}
use Rattle.m3_heap.specs.Moves.{kept_words}
use Rattle.m3_heap.specs.Shapes.{Shape}
use Rattle.m3_roots.specs.ThreadWords.{places_from}
use Rattle.m3_roots.specs.Visiting.{VisitsPart, KeepsHeap}
use Rattle.m3_roots.proofs.visits.visit_list.Given as goal

abbrev pub invariant-loop-number : goal.invariant-loop-number
invariant-loop-number g l =
    let first = g.S.Store.heap l.initial.store in
    let now = g.S.Store.heap l.store in
    record {
      open_still : now.is_open ≡ true;
      heap : KeepsHeap first now;
      fitting : (shapes : List Shape) → g.S.Store.fits l.initial.store shapes → g.S.Store.fits l.store shapes;
      part : VisitsPart first.cells (places_from l.first l.numbers) (l.initial.r ++ l.initial.stack) first.moves (places_from l.first (drop l.number-index l.numbers)) (l.r ++ l.stack) now.moves;
      cost : l.steps + kept_words first.cells first.moves + length (drop l.number-index l.numbers) ≤ l.initial.steps + length l.numbers + kept_words first.cells now.moves;
    }
