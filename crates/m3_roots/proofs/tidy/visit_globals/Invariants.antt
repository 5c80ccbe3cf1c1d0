use Rattle.std.specs.Prelude.{◌≡◌, ◌+◌, ◌≤◌, true, List, length}
use Rattle.m3_tables.specs.Views.{numbers_of}
use Rattle.m3_heap.specs.Moves.{kept_words}
use Rattle.m3_heap.specs.Shapes.{Shape}
use Rattle.m3_image_decoded.specs.Ready.{image_of}
use Rattle.m3_roots.specs.Visiting.{VisitsPart, KeepsHeap}
use Rattle.m3_roots.proofs.tidy.visit_globals.Given as goal

abbrev pub invariant-loop-number : goal.invariant-loop-number
invariant-loop-number g l =
    let first = g.S.Store.heap l.initial.store in
    let now = g.S.Store.heap l.store in
    record {
      open_still : now.is_open ≡ true;
      heap : KeepsHeap first now;
      fitting : (shapes : List Shape) → g.S.Store.fits l.initial.store shapes → g.S.Store.fits l.store shapes;
      part : VisitsPart first.cells (image_of l.image).program.globals.pointers l.initial.globals first.moves (numbers_of l.number-iterator) l.globals now.moves;
      cost : l.steps + kept_words first.cells first.moves + length (numbers_of l.number-iterator) ≤ l.initial.steps + length (image_of l.image).program.globals.pointers + kept_words first.cells now.moves;
    }
