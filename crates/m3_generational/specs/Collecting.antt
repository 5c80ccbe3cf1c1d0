-- For the heap of generations alone: its parts in a collection.
use Rattle.std.specs.Prelude.{◌≡◌, ℕ, ◌+◌, ◌/◌, ◌≤◌, ◌⊎◌, if◌then◌else◌, true, List, [], ◌∷◌, ◌++◌, Option, Some}
use Rattle.m3_heap.specs.Cells.{Cell, layout, words_from, total_words}
use Rattle.m3_heap.specs.Moves.{kept_starts}
use Rattle.m3_heap.specs.Shapes.{Shape, pointer_words}
use Rattle.m3_heap.specs.Heap.{first_base, second_base, nursery_base}
use Rattle.m3_heap.specs.CollectorSpace.{Space, AreLaid}
use Rattle.m3_heap.specs.CollectorTracing.{moves, marked_words, IsTracing}
use Rattle.m3_heap.specs.CollectorMoving.{Forwards as ForwardsIn}
use Rattle.m3_heap.specs.CollectorScanning.{Scans, Grows}
use Rattle.m3_heap.specs.CollectorHalves.{AreMoving}
use Rattle.m3_generational.specs.declared.spaces.Spaces.{Spaces}

-- the cells that stay where they are, as ones that went to their own places
abbrev pub stayed : List Cell → List Cell
stayed [] = []
stayed (cell ∷ cells) = record { start = cell.start; words = marked_words (Some cell.start) cell.words } ∷ stayed cells

-- what a collection leaves, and what it keeps: a minor one leaves the young cells and keeps them behind the old
-- ones; a full one leaves all cells and keeps them in the other half
abbrev pub old_left : Spaces → List Cell
old_left s = if s.is_minor then stayed s.found.value.cells else s.here.cells

abbrev pub left_of : Spaces → Space
left_of s = record { base = s.here.base; size = s.here.size; cells = old_left s ++ s.nursery.cells }

abbrev pub kept_of : Spaces → Space
kept_of s = if s.is_minor then s.here else s.there

-- the cells that a minor collection leaves, and those that a full one leaves
abbrev pub minor_left : Spaces → Space
minor_left s = record { base = s.here.base; size = s.here.size; cells = stayed s.found.value.cells ++ s.nursery.cells }

abbrev pub full_left : Spaces → Space
full_left s = record { base = s.here.base; size = s.here.size; cells = s.here.cells ++ s.nursery.cells }

-- where the parts lie
pub record ArePlaced (s : Spaces) : Type 0 where
  pub bases : ((s.here.base ≡ first_base) × (s.there.base ≡ second_base)) ⊎ ((s.here.base ≡ second_base) × (s.there.base ≡ first_base))
  pub nursery : s.nursery.base ≡ nursery_base
  pub same_size : s.there.size ≡ s.here.size
  pub quarter : s.nursery.size ≡ s.here.size / 4
  pub least : 64 ≤ s.here.size
  pub most : s.here.size ≤ 67108864

-- old cells below the nursery, and young ones in it
pub record IsSplit (a : ℕ) (x y : List Cell) : Type 0 where
  pub old : AreLaid a x
  pub below : a + total_words x ≤ nursery_base
  pub young : AreLaid nursery_base y

-- what a minor collection knows of the old cells: they lie before the copies, where it found them
pub record HasTenured (s : Spaces) : Type 0 where
  pub found : AreLaid s.here.base s.found.value.cells
  pub first : (rest : List (ℕ × ℕ)) × (layout s.here.cells ≡ layout s.found.value.cells ++ rest)
  pub tenured : s.tenured ≡ total_words s.found.value.cells

-- what the parts keep as long as a collection goes on
pub record IsKeeping (s : Spaces) : Type 0 where
  pub placed : ArePlaced s
  pub split : IsSplit s.here.base (old_left s) s.nursery.cells
  pub young : total_words s.nursery.cells ≤ s.nursery.size
  pub minor : s.is_minor ≡ true → HasTenured s

-- what a word that is forwarded makes of the parts
pub record Forwards (s s' : Spaces) (word : ℕ) (result : Option ℕ) (before after : ℕ) : Type 0 where
  pub forwards : ForwardsIn (left_of s) (kept_of s) (left_of s') (kept_of s') word result before after
  pub keeping : IsKeeping s'
  pub mode : s'.is_minor ≡ s.is_minor
  pub tenured : s'.tenured ≡ s.tenured
  pub found : s'.found.value ≡ s.found.value
  pub young : layout s'.nursery.cells ≡ layout s.nursery.cells

-- all copies are scanned
pub record AreTraced (shapes : List Shape) (s s' : Spaces) : Type 0 where
  pub before : AreMoving (left_of s) (kept_of s)
  pub tracing : IsTracing (left_of s') (kept_of s')
  pub grows : Grows (left_of s) (kept_of s) (left_of s') (kept_of s')
  pub scans : Scans shapes (kept_starts (moves (left_of s) (kept_of s))) (left_of s') (kept_of s') ((kept_of s').base + total_words (kept_of s').cells)

-- how many pointers the tenured cells have
abbrev pub tenured_pointers : List Shape → List Cell → List Cell → ℕ
tenured_pointers shapes cells [] = 0
tenured_pointers shapes cells (cell ∷ tenured) = pointer_words shapes (words_from cells cell.start) + tenured_pointers shapes cells tenured
