-- A heap of two halves, as the rest of the machine sees it.
use Rattle.std.specs.Prelude.{◌≡◌, ℕ, false, []}
use Rattle.m3_heap.specs.Heap.{Heap, first_base}

-- a heap that was just made
abbrev pub new_heap : ℕ → Heap
new_heap words = record {
  cells = [];
  is_open = false;
  moves = [];
  tenured = [];
  watched = 0;
  asked = 0;
  size = words;
  base = first_base;
  nursery = 0;
  young = 0;
  free = words;
  minors = 0;
  fulls = 0;
}

-- it has no nursery, so that each collection is a full one
abbrev pub IsOfHalves : Heap → Type 0
IsOfHalves heap = heap.nursery ≡ 0
