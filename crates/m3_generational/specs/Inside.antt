-- For the heap of generations alone: what its fields show, and what they keep.
use Rattle.std.specs.Prelude.{◌≡◌, ℕ, ◌+◌, ◌≤◌, Bool, true, false, List, [], ◌++◌, length, slice_index_or}
use Rattle.m3_heap.specs.Cells.{Cell, total_words}
use Rattle.m3_heap.specs.Moves.{Move}
use Rattle.m3_heap.specs.Heap.{Heap, is_minor, settled}
use Rattle.m3_heap.specs.CollectorTracing.{old_cells, moves}
use Rattle.m3_heap.specs.CollectorHalves.{AreAtRest, AreMoving}
use Rattle.m3_generational.specs.Collecting.{left_of, kept_of, ArePlaced, IsKeeping}
use Rattle.m3_generational.specs.Remembering.{Remembering, watching}
use Rattle.m3_generational.specs.declared.spaces.Spaces.{Spaces}
use Rattle.m3_generational.specs.declared.generations.Generations.TheInside.{Inside}

abbrev pub cells_seen : Bool → Spaces → List Cell
cells_seen true s = old_cells (left_of s) (kept_of s)
cells_seen false s = s.here.cells ++ s.nursery.cells

abbrev pub moves_seen : Bool → Spaces → Spaces → List Move
moves_seen true s left = moves (left_of s) (kept_of s)
moves_seen false s left = moves (left_of left) (kept_of left)

abbrev pub plain_heap : Bool → Spaces → Spaces → ℕ → ℕ → ℕ → Heap
plain_heap is_open s left asked minors fulls = record {
  cells = cells_seen is_open s;
  is_open = is_open;
  moves = moves_seen is_open s left;
  tenured = [];
  watched = 0;
  asked = asked;
  size = s.here.size;
  base = s.here.base;
  nursery = s.nursery.size;
  young = total_words s.nursery.cells;
  free = 0;
  minors = minors;
  fulls = fulls;
}

abbrev pub heap_seen : Bool → Spaces → Spaces → List Bool → ℕ → ℕ → ℕ → Heap
heap_seen is_open s left remembered asked minors fulls = watching remembered (settled (plain_heap is_open s left asked minors fulls))

abbrev pub seen : Inside → Remembering
seen g = record { heap = heap_seen g.is_open g.spaces g.left.value g.remembered g.asked g.minors g.fulls; remembered = g.remembered }

-- between collections the cells of each part follow one another, and the half has room for all of them
pub record AreResting (s : Spaces) : Type 0 where
  pub old : AreAtRest s.here
  pub young : AreAtRest s.nursery
  pub room : total_words s.here.cells + total_words s.nursery.cells ≤ s.here.size

-- in a collection the copies are as they were made
pub record AreCollecting (s : Spaces) : Type 0 where
  pub moving : AreMoving (left_of s) (kept_of s)
  pub keeping : IsKeeping s

abbrev pub IsAsOpen : Bool → Spaces → Type 0
IsAsOpen true s = AreCollecting s
IsAsOpen false s = AreResting s

-- between collections no word behind the old cells is remembered
pub record IsGenerations (g : Inside) : Type 0 where
  pub placed : ArePlaced g.spaces
  pub marks : length g.remembered ≡ g.spaces.here.size
  pub as_open : IsAsOpen g.is_open g.spaces
  pub beyond : g.is_open ≡ false → (place : ℕ) → total_words g.spaces.here.cells ≤ place → slice_index_or g.remembered place false ≡ false
  pub mode : g.is_open ≡ true → is_minor (heap_seen true g.spaces g.left.value g.remembered g.asked g.minors g.fulls) ≡ g.spaces.is_minor
