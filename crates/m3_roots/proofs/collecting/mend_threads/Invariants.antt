use Rattle.std.specs.Prelude.{◌≡◌, ◌≤◌, ◌+◌, ℕ, List, take}
use Rattle.m3_heap.specs.Cells.{Cell}
use Rattle.m3_heap.specs.Moves.{Move}
use Rattle.m3_threads.specs.All.{Everyone}
use Rattle.m3_image_decoded.specs.Ready.{image_of}
use Rattle.m3_roots.specs.RoomSizes.{IsRoomFor}
use Rattle.m3_roots.specs.Gathering.{GoesOn}
use Rattle.m3_roots.specs.ThreadsGathered.{AllGathered, Mended}
use Rattle.m3_roots.specs.Steps.{all_list}
use Rattle.m3_roots.proofs.collecting.mend_threads.Given as goal

abbrev pub invariant-loop-place : goal.invariant-loop-place
invariant-loop-place g l =
    let p = (image_of l.image).program in
    record {
      room : (stack : ℕ) → IsRoomFor stack l.initial.room → IsRoomFor stack l.room;
      forks : l.threads.forks ≡ l.initial.threads.forks;
      waits : l.threads.waits ≡ l.initial.threads.waits;
      mended : (cells : List Cell) (first : Everyone) (start moves last : List Move) → (all : AllGathered p cells first l.initial.threads start moves) → GoesOn moves last → IsRoomFor l.initial.threads.stack l.initial.room → Mended p last all.walks first l.initial.threads l.threads l.place;
      cost : (cells : List Cell) (first : Everyone) (start moves last : List Move) → (all : AllGathered p cells first l.initial.threads start moves) → GoesOn moves last → IsRoomFor l.initial.threads.stack l.initial.room
          → l.steps ≤ l.initial.steps + all_list p (take l.place all.walks);
    }
