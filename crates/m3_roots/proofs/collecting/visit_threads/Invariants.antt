use Rattle.std.specs.Prelude.{◌≡◌, ℕ, List, true, take}
use Rattle.m3_heap.specs.Shapes.{Shape}
use Rattle.m3_image_decoded.specs.Ready.{image_of}
use Rattle.m3_roots.specs.RoomSizes.{IsRoomFor}
use Rattle.m3_run_frames.specs.declared.frame.Frame.{Frame}
use Rattle.m3_roots.specs.Collected.{AllFramed}
use Rattle.m3_roots.specs.Steps.{VisitCosts, all_list}
use Rattle.m3_roots.specs.Visiting.{KeepsHeap}
use Rattle.m3_roots.proofs.CollectedLemmas.{GatheredTo}
use Rattle.m3_roots.proofs.collecting.visit_threads.Given as goal

abbrev pub invariant-loop-place : goal.invariant-loop-place
invariant-loop-place g l =
    let first = g.S.Store.heap l.initial.store in
    let now = g.S.Store.heap l.store in
    record {
      open_still : now.is_open ≡ true;
      heap : KeepsHeap first now;
      fitting : (shapes : List Shape) → g.S.Store.fits l.initial.store shapes → g.S.Store.fits l.store shapes;
      room : (stack : ℕ) → IsRoomFor stack l.initial.room → IsRoomFor stack l.room;
      forks : l.threads.forks ≡ l.initial.threads.forks;
      waits : l.threads.waits ≡ l.initial.threads.waits;
      gathered : IsRoomFor l.initial.threads.stack l.initial.room → GatheredTo (image_of l.image).program first.cells l.initial.threads l.threads first.moves now.moves l.place;
      cost : IsRoomFor l.initial.threads.stack l.initial.room → (walks : List (List Frame)) → AllFramed (image_of l.image).program l.initial.threads walks
          → VisitCosts first now l.initial.steps l.steps (all_list (image_of l.image).program (take l.place walks));
    }
