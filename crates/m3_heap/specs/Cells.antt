-- The cells of a heap, seen as a list of starts with their words.
use Rattle.std.specs.Prelude.{◌≡◌, ℕ, ◌+◌, ◌-◌, ◌*◌, ◌/◌, ◌%◌, ◌^◌, ◌≤◌, Bool, true, false, ◌&&◌, not, nat_lt, nat_le, ◌==◌, if◌then◌else◌, List, [], ◌∷◌, length, map, replicate, slice_get, slice_set, Option, Some, None, is_some}
use Rattle.std.specs.List.{AllByRecursion}

-- a cell: the address of its word 0, and its words. Word 0 is the header
pub record Cell : Type 0 where
  pub start : ℕ
  pub words : List ℕ

-- the lowest address that isn't below every other part of the machine's memory: a word from here on
-- is a reference or nothing
abbrev pub heap_base : ℕ
heap_base = 2 ^ 60

-- the header of a cell of a kind: the kind in the low half, the number of words in the high half
abbrev pub header_of : ℕ → ℕ → ℕ
header_of kind words = kind + 2 ^ 32 * words

-- the kind that a header tells
abbrev pub kind_in : ℕ → ℕ
kind_in header = header % 2 ^ 32

-- the number of words that a header tells
abbrev pub words_in : ℕ → ℕ
words_in header = header / 2 ^ 32

-- word 0, or 0 where there is none
abbrev pub header : List ℕ → ℕ
header [] = 0
header (first ∷ rest) = first

-- the cell that starts at an address
abbrev pub cell_from : List Cell → ℕ → Option Cell
cell_from [] at = None
cell_from (cell ∷ cells) at = if cell.start == at then Some cell else cell_from cells at

-- whether a cell starts at an address
abbrev pub is_start : List Cell → ℕ → Bool
is_start cells at = is_some (cell_from cells at)

-- the words of the cell that starts at an address, or none
abbrev pub words_from : List Cell → ℕ → List ℕ
words_from [] at = []
words_from (cell ∷ cells) at = if cell.start == at then cell.words else words_from cells at

-- whether an address is that of one of the cell's words
abbrev pub covers : Cell → ℕ → Bool
covers cell at = nat_le cell.start at && nat_lt at (cell.start + length cell.words)

-- the word at an address, which only the words of cells have
abbrev pub cell_word_at : List Cell → ℕ → Option ℕ
cell_word_at [] at = None
cell_word_at (cell ∷ cells) at = if covers cell at then slice_get cell.words (at - cell.start) else cell_word_at cells at

-- the cells after the word at an address was set
abbrev pub with_word : List Cell → ℕ → ℕ → List Cell
with_word [] at word = []
with_word (cell ∷ cells) at word =
    (if covers cell at then record { start = cell.start; words = slice_set cell.words (at - cell.start) word } else cell)
    ∷ with_word cells at word

-- where cells lie, without their words
abbrev pub layout : List Cell → List (ℕ × ℕ)
layout cells = map (λ cell. (cell.start, length cell.words)) cells

-- whether a program may set the word at an address: it is a cell's, and no header
abbrev pub is_writable : List Cell → ℕ → Bool
is_writable cells at = is_some (cell_word_at cells at) && not (is_start cells at)

-- the words of all cells
abbrev pub total_words : List Cell → ℕ
total_words [] = 0
total_words (cell ∷ cells) = length cell.words + total_words cells

-- a new cell: its header, and zeros
abbrev pub new_cell : ℕ → ℕ → ℕ → Cell
new_cell start kind words = record { start = start; words = header_of kind words ∷ replicate (words - 1) 0 }

-- a cell's header tells how many words the cell has, beside its kind
abbrev pub IsHeaded : Cell → Type 0
IsHeaded cell = (words_in (header cell.words) ≡ length cell.words) × (1 ≤ length cell.words)

-- a cell lies where heaps lie
abbrev pub IsInHeap : Cell → Type 0
IsInHeap cell = (heap_base ≤ cell.start) × (cell.start + length cell.words ≤ 2 ^ 63)

-- two cells have no address in common
abbrev pub AreApart : Cell → Cell → Type 0
AreApart a b = (at : ℕ) → covers a at ≡ true → covers b at ≡ false

-- no two of the cells have an address in common
abbrev pub AllApart : List Cell → Type 0
AllApart [] = Unit {0}
AllApart (cell ∷ cells) = AllByRecursion (AreApart cell) cells × AllApart cells

-- what holds of the cells of every heap
pub record AreSound (cells : List Cell) : Type 0 where
  pub headed : AllByRecursion IsHeaded cells
  pub in_heap : AllByRecursion IsInHeap cells
  pub apart : AllApart cells
