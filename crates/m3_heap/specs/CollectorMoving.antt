-- A cell that moves from one space to another, and what a word that is forwarded makes of both.
use Rattle.std.specs.Prelude.{◌≡◌, ℕ, ◌+◌, ◌/◌, ◌<◌, ◌≤◌, ◌↔◌, ◌^◌, true, false, [], ◌∷◌, ◌++◌, length, Option, None, Some, IsNone, IfSome}
use Rattle.std.specs.Option.{IfNone}
use Rattle.m3_heap.specs.Cells.{heap_base, header, is_start, words_from, with_word, total_words}
use Rattle.m3_heap.specs.Moves.{forwarded}
use Rattle.m3_heap.specs.Reach.{IsBadPointer}
use Rattle.m3_heap.specs.CollectorSpace.{Space}
use Rattle.m3_heap.specs.CollectorTracing.{old_cells, moves, Keeps}

-- the cell at an address may move: unless it did, its header tells how many words it has, and there is room for them
abbrev pub CanMove : Space → Space → ℕ → Type 0
CanMove left kept at = is_start left.cells at ≡ true → header (words_from left.cells at) < heap_base
    → (length (words_from left.cells at) ≡ header (words_from left.cells at) / 2 ^ 32) × (total_words kept.cells + length (words_from left.cells at) ≤ kept.size)

-- where the cell at an address is after it moved: none starts there; or it moved before, and its header tells
-- its new start; or a copy was added behind the last cell, and its header gives way to the new start. That
-- takes a step for each of its words
pub data MovesCell (left kept : Space) (at before : ℕ) : Option ℕ → Space → Space → ℕ → Type 0 where
  no_cell : is_start left.cells at ≡ false → MovesCell left kept at before None left kept before
  moved_before : (to : ℕ) → is_start left.cells at ≡ true → to ≡ header (words_from left.cells at) → heap_base ≤ to → MovesCell left kept at before (Some to) left kept before
  moves_now : (to after : ℕ) (left' kept' : Space) → is_start left.cells at ≡ true → header (words_from left.cells at) < heap_base
      → to ≡ kept.base + total_words kept.cells
      → left'.base ≡ left.base → left'.size ≡ left.size → left'.cells ≡ with_word left.cells at to
      → kept'.base ≡ kept.base → kept'.size ≡ kept.size → kept'.cells ≡ kept.cells ++ record { start = to; words = words_from left.cells at } ∷ []
      → after ≡ before + length (words_from left.cells at)
      → MovesCell left kept at before (Some to) left' kept' after

-- what a word that is forwarded makes of the cells that are left and of those that are kept
pub record Forwards (left kept left' kept' : Space) (word : ℕ) (result : Option ℕ) (before after : ℕ) : Type 0 where
  pub none : IsNone result ↔ IsBadPointer (old_cells left kept) word
  pub value : IfSome result (λ to. to ≡ forwarded (moves left' kept') word)
  pub keeps : IfSome result (λ _. Keeps left kept left' kept' word)
  pub left_stays : IfNone result (left' ≡ left)
  pub kept_stays : IfNone result (kept' ≡ kept)
  pub cost : after + total_words kept.cells ≡ before + total_words kept'.cells
