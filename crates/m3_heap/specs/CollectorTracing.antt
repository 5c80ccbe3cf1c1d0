-- A collection by copying: the cells of one half are copied to the other, and the header of a cell that
-- was copied gives way to the new start. Both halves together tell which cells stood there before.
use Rattle.std.specs.Prelude.{◌≡◌, ◌≢◌, ℕ, ◌+◌, ◌<◌, ◌≤◌, true, nat_lt, ◌==◌, ◌||◌, if◌then◌else◌, List, [], ◌∷◌, ◌++◌, length, Option, Some, None, unwrap_or}
use Rattle.std.specs.List.{AllByRecursion}
use Rattle.m3_heap.specs.Cells.{Cell, heap_base, header, is_start, words_from, cell_word_at, total_words, IsHeaded}
use Rattle.m3_heap.specs.Moves.{Move, new_start, is_kept}
use Rattle.m3_heap.specs.CollectorSpace.{Space, AreRising}

-- a cell's words with the header that it had: a word where heaps lie stands for the copy's header
abbrev pub restored : List Cell → List ℕ → List ℕ
restored copies [] = []
restored copies (first ∷ rest) = (if nat_lt first heap_base then first else unwrap_or (cell_word_at copies first) 0) ∷ rest

-- the cells that stood in the half that is left
abbrev pub standing : List Cell → List Cell → List Cell
standing copies [] = []
standing copies (cell ∷ cells) = record { start = cell.start; words = restored copies cell.words } ∷ standing copies cells

-- the cell whose header gave way to this start
abbrev pub origin : List Cell → ℕ → ℕ
origin [] at = 0
origin (cell ∷ cells) at = if header cell.words == at then cell.start else origin cells at

-- each copy with the start of the cell that it is of
abbrev pub copies_of : List Cell → List Cell → List Cell
copies_of left [] = []
copies_of left (copy ∷ copies) = record { start = origin left copy.start; words = copy.words } ∷ copies_of left copies

-- where copies that are laid out from an address on go
abbrev pub moves_from : ℕ → List Cell → List Move
moves_from at [] = []
moves_from at (copy ∷ copies) = record { from = copy.start; to = at } ∷ moves_from (at + length copy.words) copies

-- the copies where they lie
abbrev pub placed : ℕ → List Cell → List Cell
placed at [] = []
placed at (copy ∷ copies) = record { start = at; words = copy.words } ∷ placed (at + length copy.words) copies

-- a cell whose header gave way to its new start, if it has one
abbrev pub marked_words : Option ℕ → List ℕ → List ℕ
marked_words None words = words
marked_words (Some to) [] = []
marked_words (Some to) (first ∷ rest) = to ∷ rest

abbrev pub marked : List Move → List Cell → List Cell
marked moves [] = []
marked moves (cell ∷ cells) = record { start = cell.start; words = marked_words (new_start moves cell.start) cell.words } ∷ marked moves cells

-- the words of the cells that are kept
abbrev pub words_kept : List Move → List Cell → ℕ
words_kept moves [] = 0
words_kept moves (cell ∷ cells) = (if is_kept moves cell.start then length cell.words else 0) + words_kept moves cells

-- a copy has its cell's length and header
pub record IsCopy (cells : List Cell) (copy : Cell) : Type 0 where
  pub starts : is_start cells copy.start ≡ true
  pub same_length : length copy.words ≡ length (words_from cells copy.start)
  pub same_header : header copy.words ≡ header (words_from cells copy.start)
  pub some : 1 ≤ length copy.words

-- no cell is copied twice
abbrev pub AreDistinct : List Cell → Type 0
AreDistinct [] = Unit {0}
AreDistinct (copy ∷ copies) = AllByRecursion (λ (other : Cell). copy.start ≢ other.start) copies × AreDistinct copies

abbrev pub IsShort : Cell → Type 0
IsShort cell = (header cell.words < heap_base) × (1 ≤ length cell.words)

-- two halves in a collection: the cells that stood in the one that is left, and the copies in the other
pub record Traces (left kept : Space) (stood copied : List Cell) : Type 0 where
  pub headed : AllByRecursion IsHeaded stood
  pub short : AllByRecursion IsShort stood
  pub rising : AreRising left.base stood
  pub fits : total_words stood ≤ kept.size
  pub left_base : heap_base ≤ left.base
  pub kept_base : heap_base ≤ kept.base
  pub kept_ends : kept.base + kept.size ≤ 9223372036854775808
  pub is_marked : left.cells ≡ marked (moves_from kept.base copied) stood
  pub is_placed : kept.cells ≡ placed kept.base copied
  pub are_copies : AllByRecursion (IsCopy stood) copied
  pub distinct : AreDistinct copied
  pub counted : total_words copied ≡ words_kept (moves_from kept.base copied) stood

-- the cells that stood when the collection began, the copies, and the forwarding list so far
abbrev pub old_cells : Space → Space → List Cell
old_cells left kept = standing kept.cells left.cells

abbrev pub copies : Space → Space → List Cell
copies left kept = copies_of left.cells kept.cells

abbrev pub moves : Space → Space → List Move
moves left kept = moves_from kept.base (copies left kept)

abbrev pub IsTracing : Space → Space → Type 0
IsTracing left kept = Traces left kept (old_cells left kept) (copies left kept)

-- the copies with a word's cell among them
abbrev pub with_copy : List Cell → List Move → List Cell → ℕ → List Cell
with_copy cells moves copies word = if nat_lt word heap_base || is_kept moves word then copies else copies ++ record { start = word; words = words_from cells word } ∷ []

-- what keeping a word's cell does to the two halves
pub record Keeps (left kept left' kept' : Space) (word : ℕ) : Type 0 where
  pub tracing : IsTracing left' kept'
  pub left_base : left'.base ≡ left.base
  pub kept_base : kept'.base ≡ kept.base
  pub left_size : left'.size ≡ left.size
  pub kept_size : kept'.size ≡ kept.size
  pub same_cells : old_cells left' kept' ≡ old_cells left kept
  pub more_copies : copies left' kept' ≡ with_copy (old_cells left kept) (moves left kept) (copies left kept) word
