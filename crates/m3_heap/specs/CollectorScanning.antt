-- The scan of the copies: below a limit their pointers are forwarded, from the limit on their words are
-- those of the cells that they are of.
use Rattle.std.specs.Prelude.{◌≡◌, ◌⊎◌, ℕ, ◌+◌, ◌-◌, ◌<◌, Bool, true, ◌&&◌, nat_lt, if◌then◌else◌, List, [], ◌∷◌, ◌++◌, length}
use Rattle.std.specs.List.{AllByRecursion}
use Rattle.m3_heap.specs.Cells.{Cell, heap_base, is_start, words_from, total_words}
use Rattle.m3_heap.specs.Shapes.{Shape, is_pointer_word}
use Rattle.m3_heap.specs.Moves.{Move, forwarded, is_kept}
use Rattle.m3_heap.specs.Reach.{IsReachable}
use Rattle.m3_heap.specs.CollectorSpace.{Space}
use Rattle.m3_heap.specs.CollectorTracing.{old_cells, copies, moves}

-- the words from the place `at` on, the pointers below the limit forwarded
abbrev pub scanned_words : (ℕ → Bool) → List Move → ℕ → ℕ → List ℕ → List ℕ
scanned_words is_pointer moves limit at [] = []
scanned_words is_pointer moves limit at (word ∷ words) =
    (if is_pointer at && nat_lt at limit then forwarded moves word else word) ∷ scanned_words is_pointer moves limit (at + 1) words

-- a word that is no reference, or one to a kept cell
abbrev pub PointsToKept : List Move → ℕ → Type 0
PointsToKept moves word = (word < heap_base) ⊎ (is_kept moves word ≡ true)

-- the pointers below the limit are settled
abbrev pub AreSettled : (ℕ → Bool) → List Move → ℕ → ℕ → List ℕ → Type 0
AreSettled is_pointer moves limit at [] = Unit {0}
AreSettled is_pointer moves limit at (word ∷ words) =
    (is_pointer at ≡ true → at < limit → PointsToKept moves word) × AreSettled is_pointer moves limit (at + 1) words

-- how many pointers are below the limit
abbrev pub pointers_below : (ℕ → Bool) → ℕ → ℕ → List ℕ → ℕ
pointers_below is_pointer limit at [] = 0
pointers_below is_pointer limit at (word ∷ words) = (if is_pointer at && nat_lt at limit then 1 else 0) + pointers_below is_pointer limit (at + 1) words

-- copies that are laid out from an address on are scanned up to a limit
abbrev pub AreScanned : List Shape → List Cell → List Move → ℕ → ℕ → List Cell → Type 0
AreScanned shapes cells moves limit at [] = Unit {0}
AreScanned shapes cells moves limit at (copy ∷ copies) =
    (copy.words ≡ scanned_words (is_pointer_word shapes (words_from cells copy.start)) moves (limit - at) 0 (words_from cells copy.start))
    × AreSettled (is_pointer_word shapes (words_from cells copy.start)) moves (limit - at) 0 (words_from cells copy.start)
    × AreScanned shapes cells moves limit (at + length copy.words) copies

-- how many pointers of the copies were met up to a limit
abbrev pub pointers_met : List Shape → List Cell → ℕ → ℕ → List Cell → ℕ
pointers_met shapes cells limit at [] = 0
pointers_met shapes cells limit at (copy ∷ copies) =
    pointers_below (is_pointer_word shapes (words_from cells copy.start)) (limit - at) 0 (words_from cells copy.start)
    + pointers_met shapes cells limit (at + length copy.words) copies

abbrev pub met : List Shape → Space → Space → ℕ → ℕ
met shapes left kept limit = pointers_met shapes (old_cells left kept) limit kept.base (copies left kept)

-- a collection whose copies are scanned up to a limit, each of them reached
pub record Scans (shapes : List Shape) (roots : List ℕ) (left kept : Space) (limit : ℕ) : Type 0 where
  pub scanned : AreScanned shapes (old_cells left kept) (moves left kept) limit kept.base (copies left kept)
  pub reached : AllByRecursion (λ (copy : Cell). IsReachable shapes (old_cells left kept) roots copy.start) (copies left kept)

-- what the scan does to the two halves
pub record Grows (left kept left' kept' : Space) : Type 0 where
  pub left_base : left'.base ≡ left.base
  pub kept_base : kept'.base ≡ kept.base
  pub left_size : left'.size ≡ left.size
  pub kept_size : kept'.size ≡ kept.size
  pub same_cells : old_cells left' kept' ≡ old_cells left kept
  pub more_moves : (more : List Move) × (moves left' kept' ≡ moves left kept ++ more)

-- the copies are as they were made
abbrev pub ArePlain : List Cell → List Cell → Type 0
ArePlain cells copies = AllByRecursion (λ (copy : Cell). copy.words ≡ words_from cells copy.start) copies

-- a place between two copies, or the end of the last one
abbrev pub IsBoundary : Space → ℕ → Type 0
IsBoundary kept at = (is_start kept.cells at ≡ true) ⊎ (at ≡ kept.base + total_words kept.cells)
