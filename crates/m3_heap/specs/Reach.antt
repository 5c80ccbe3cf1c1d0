-- Which cells a program can still reach, and which words would stop a collection.
use Rattle.std.specs.Prelude.{◌≡◌, ℕ, ◌≤◌, zero, suc, true, false, List, slice_get, Some, Contains}
use Rattle.m3_heap.specs.Cells.{Cell, cell_from, is_start, heap_base}
use Rattle.m3_heap.specs.Shapes.{Shape, is_pointer_word}

-- the cell that starts at `from` has this word as one of its pointers
pub record HasPointer (shapes : List Shape) (cells : List Cell) (from word : ℕ) : Type 0 where
  pub cell : Cell
  pub place : ℕ
  pub starts : cell_from cells from ≡ Some cell
  pub pointer : is_pointer_word shapes cell.words place ≡ true
  pub holds : slice_get cell.words place ≡ Some word

-- a word comes from the roots through this many pointers
abbrev pub IsWordAfter : List Shape → List Cell → List ℕ → ℕ → ℕ → Type 0
IsWordAfter shapes cells roots word zero = Contains roots word
IsWordAfter shapes cells roots word (suc steps) = (from : ℕ) × IsWordAfter shapes cells roots from steps × HasPointer shapes cells from word

-- a cell starts there, and the roots lead to it through pointers
pub record IsReachable (shapes : List Shape) (cells : List Cell) (roots : List ℕ) (start : ℕ) : Type 0 where
  pub starts : is_start cells start ≡ true
  pub steps : ℕ
  pub leads : IsWordAfter shapes cells roots start steps

-- a word that can't be a pointer: it lies where heaps lie, and is no cell's start
abbrev pub IsBadPointer : List Cell → ℕ → Type 0
IsBadPointer cells word = (heap_base ≤ word) × (is_start cells word ≡ false)

-- a reached cell has a pointer that is none
pub record HasBadPointer (shapes : List Shape) (cells : List Cell) (roots : List ℕ) : Type 0 where
  pub from : ℕ
  pub word : ℕ
  pub reached : IsReachable shapes cells roots from
  pub pointer : HasPointer shapes cells from word
  pub bad : IsBadPointer cells word
