use Rattle.std.specs.Prelude.{◌≡◌, ◌++◌, ◌+◌, ◌≤◌, true, List, length, drop}
use Rattle.m3_heap.specs.Moves.{kept_words}
use Rattle.m3_heap.specs.Shapes.{Shape}
use Rattle.m3_image_decoded.specs.Ready.{image_of}
use Rattle.m3_roots.specs.RowMeaning.{HaveRows, tidy_below}
use Rattle.m3_roots.specs.Visiting.{VisitsPart, KeepsHeap}
use Rattle.m3_roots.proofs.tidy.visit_each.Given as goal

abbrev pub invariant-loop-frame : goal.invariant-loop-frame
invariant-loop-frame g l =
    let first = g.S.Store.heap l.initial.store in
    let now = g.S.Store.heap l.store in
    let p = (image_of l.image).program in
    record {
      open_still : now.is_open ≡ true;
      heap : KeepsHeap first now;
      fitting : (shapes : List Shape) → g.S.Store.fits l.initial.store shapes → g.S.Store.fits l.store shapes;
      part : HaveRows p l.frames → VisitsPart first.cells (tidy_below p l.frames) (l.initial.r ++ l.initial.stack) first.moves (tidy_below p (drop l.frame-index l.frames)) (l.r ++ l.stack) now.moves;
      cost : HaveRows p l.frames → l.steps + kept_words first.cells first.moves + length (tidy_below p (drop l.frame-index l.frames)) ≤ l.initial.steps + length (tidy_below p l.frames) + kept_words first.cells now.moves;
    }
