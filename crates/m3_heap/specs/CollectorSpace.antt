-- For the collector alone: one half of the memory: words in a row, with a mark at the first word of each cell.
use Rattle.std.specs.Prelude.{◌≡◌, ℕ, ◌+◌, ◌≤◌, Bool, true, false, List, [], ◌∷◌, length}
use Rattle.m3_heap.specs.Cells.{Cell}

-- a half: its first address, how many words it has, and its cells
pub record Space : Type 0 where
  pub base : ℕ
  pub size : ℕ
  pub cells : List Cell

-- the words before the first mark
abbrev pub unmarked : List Bool → List ℕ → List ℕ
unmarked [] words = []
unmarked (true ∷ marks) words = []
unmarked (false ∷ marks) [] = []
unmarked (false ∷ marks) (word ∷ words) = word ∷ unmarked marks words

-- the cells in a row of words from an address on: each goes from its mark to the next
abbrev pub cells_in : ℕ → List Bool → List ℕ → List Cell
cells_in at [] words = []
cells_in at (mark ∷ marks) [] = []
cells_in at (true ∷ marks) (word ∷ words) = record { start = at; words = word ∷ unmarked marks words } ∷ cells_in (at + 1) marks words
cells_in at (false ∷ marks) (word ∷ words) = cells_in (at + 1) marks words

-- the cells follow one another from an address on, and none is empty
abbrev pub AreLaid : ℕ → List Cell → Type 0
AreLaid at [] = Unit {0}
AreLaid at (cell ∷ cells) = (cell.start ≡ at) × (1 ≤ length cell.words) × AreLaid (at + length cell.words) cells

-- the cells lie behind an address in their order, perhaps with room between them, and none is empty
abbrev pub AreRising : ℕ → List Cell → Type 0
AreRising at [] = Unit {0}
AreRising at (cell ∷ cells) = (at ≤ cell.start) × (1 ≤ length cell.words) × AreRising (cell.start + length cell.words) cells
