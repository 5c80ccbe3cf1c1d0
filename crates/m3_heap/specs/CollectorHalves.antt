-- The two halves as the collector keeps them: what they show to the machine, between its collections and
-- in the middle of one, and what their fields keep.
use Rattle.std.specs.Prelude.{◌≡◌, ℕ, ◌+◌, ◌-◌, ◌≤◌, ◌⊎◌, nat_le, if◌then◌else◌, Bool, true, false, List, [], ◌∷◌}
use Rattle.std.specs.List.{AllByRecursion}
use Rattle.m3_heap.specs.Cells.{Cell, layout, total_words, IsHeaded}
use Rattle.m3_heap.specs.Heap.{Heap, first_base, second_base}
use Rattle.m3_heap.specs.Moves.{Move}
use Rattle.m3_heap.specs.CollectorSpace.{Space, AreLaid}
use Rattle.m3_heap.specs.CollectorTracing.{old_cells, copies, moves, origin, IsTracing}
use Rattle.m3_heap.specs.CollectorScanning.{ArePlain}
use Rattle.m3_heap.specs.declared.halves.Halves.TheInside.{Inside}

-- the half in use and the other half; while a collection is open the other half takes the copies, and
-- afterwards it holds what was left
abbrev pub cells_seen : Bool → Space → Space → List Cell
cells_seen true here there = old_cells here there
cells_seen false here there = here.cells

-- the forwarding list of a collection that copied so many words: each copy, by its start and its words, with
-- the start of the cell that it is of
abbrev pub copied_moves : List Cell → ℕ → ℕ → List (ℕ × ℕ) → List Move
copied_moves left at words [] = []
copied_moves left at words (copy ∷ copies) =
    if nat_le copy.1 words then record { from = origin left copy.0; to = at } ∷ copied_moves left (at + copy.1) (words - copy.1) copies else []

abbrev pub moves_seen : Bool → Space → Space → ℕ → List Move
moves_seen true here there copied = moves here there
moves_seen false here there copied = copied_moves there.cells here.base copied (layout here.cells)

abbrev pub semi_heap : Bool → Space → Space → ℕ → ℕ → ℕ → Heap
semi_heap is_open here there copied asked fulls = record {
  cells = cells_seen is_open here there;
  is_open = is_open;
  moves = moves_seen is_open here there copied;
  tenured = [];
  watched = 0;
  asked = asked;
  size = here.size;
  base = here.base;
  nursery = 0;
  young = 0;
  free = here.size - total_words (cells_seen is_open here there);
  minors = 0;
  fulls = fulls;
}

-- between collections: the cells tell their own lengths and follow one another
pub record AreAtRest (here : Space) : Type 0 where
  pub headed : AllByRecursion IsHeaded here.cells
  pub laid : AreLaid here.base here.cells
  pub room : total_words here.cells ≤ here.size

-- in a collection: the copies are as they were made
pub record AreMoving (here there : Space) : Type 0 where
  pub tracing : IsTracing here there
  pub plain : ArePlain (old_cells here there) (copies here there)
  pub room : total_words (old_cells here there) ≤ here.size

-- and the last collection copied so many words of them
abbrev pub IsAsOpen : Bool → Space → Space → ℕ → Type 0
IsAsOpen true here there copied = AreMoving here there × AreLaid here.base (old_cells here there)
IsAsOpen false here there copied = AreAtRest here × (copied ≤ total_words here.cells)

abbrev pub semi_of : Inside → Heap
semi_of semi = semi_heap semi.is_open semi.pair.here semi.pair.there semi.copied semi.asked semi.fulls

pub record IsSemi (semi : Inside) : Type 0 where
  pub bases : ((semi.pair.here.base ≡ first_base) × (semi.pair.there.base ≡ second_base)) ⊎ ((semi.pair.here.base ≡ second_base) × (semi.pair.there.base ≡ first_base))
  pub same_size : semi.pair.there.size ≡ semi.pair.here.size
  pub small : semi.pair.here.size ≤ 67108864
  pub as_open : IsAsOpen semi.is_open semi.pair.here semi.pair.there semi.copied
