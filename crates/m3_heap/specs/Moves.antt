-- Where the cells that a collection keeps go: its forwarding list.
use Rattle.std.specs.Prelude.{◌≢◌, ℕ, ◌+◌, Bool, nat_lt, ◌==◌, ◌||◌, if◌then◌else◌, List, [], ◌∷◌, ◌++◌, length, map, Option, Some, None, is_some, unwrap_or}
use Rattle.std.specs.List.{AllByRecursion}
use Rattle.m3_heap.specs.Cells.{Cell, heap_base, words_from}
use Rattle.m3_heap.specs.Shapes.{Shape, is_pointer_word, pointer_words, is_listed}

-- a cell that started here starts there from now on
pub record Move : Type 0 where
  pub from : ℕ
  pub to : ℕ

-- where the cell that started at an address goes
abbrev pub new_start : List Move → ℕ → Option ℕ
new_start [] at = None
new_start (move ∷ moves) at = if move.from == at then Some move.to else new_start moves at

-- whether the cell that started at an address is kept
abbrev pub is_kept : List Move → ℕ → Bool
is_kept moves at = is_some (new_start moves at)

-- a word after the collection: a reference to a kept cell follows it, every other word stays
abbrev pub forwarded : List Move → ℕ → ℕ
forwarded moves word = if nat_lt word heap_base then word else unwrap_or (new_start moves word) word

-- the forwarding list with a word's cell in it
abbrev pub with_kept : List Move → ℕ → ℕ → List Move
with_kept moves word to = if nat_lt word heap_base || is_kept moves word then moves else moves ++ record { from = word; to = to } ∷ []

-- the starts of the cells that are kept
abbrev pub kept_starts : List Move → List ℕ
kept_starts moves = map (λ move. move.from) moves

-- each of these cells stays where it is
abbrev pub staying : List ℕ → List Move
staying starts = map (λ start. record { from = start; to = start }) starts

-- no two moves have a start in common, before or after
abbrev pub DiffersFrom : Move → Move → Type 0
DiffersFrom a b = (a.from ≢ b.from) × (a.to ≢ b.to)

abbrev pub AreOneToOne : List Move → Type 0
AreOneToOne [] = Unit {0}
AreOneToOne (move ∷ moves) = AllByRecursion (DiffersFrom move) moves × AreOneToOne moves

-- the words from the place `at` on, those that are pointers forwarded
abbrev pub mapped_from : (ℕ → Bool) → List Move → ℕ → List ℕ → List ℕ
mapped_from is_pointer moves at [] = []
mapped_from is_pointer moves at (word ∷ words) = (if is_pointer at then forwarded moves word else word) ∷ mapped_from is_pointer moves (at + 1) words

-- a cell's words with each pointer forwarded
abbrev pub mapped : List Shape → List Move → List ℕ → List ℕ
mapped shapes moves words = mapped_from (is_pointer_word shapes words) moves 0 words

-- the cells after a collection: each kept one at its new start, its pointers forwarded
abbrev pub moved_cells : List Shape → List Cell → List Move → List Move → List Cell
moved_cells shapes cells moves [] = []
moved_cells shapes cells moves (move ∷ rest) =
    record { start = move.to; words = mapped shapes moves (words_from cells move.from) } ∷ moved_cells shapes cells moves rest

-- the words of the kept cells
abbrev pub kept_words : List Cell → List Move → ℕ
kept_words cells [] = 0
kept_words cells (move ∷ moves) = length (words_from cells move.from) + kept_words cells moves

-- the pointer words of the kept cells, but for those that are kept unasked
abbrev pub kept_pointers : List Shape → List Cell → List ℕ → List Move → ℕ
kept_pointers shapes cells tenured [] = 0
kept_pointers shapes cells tenured (move ∷ moves) =
    (if is_listed tenured move.from then 0 else pointer_words shapes (words_from cells move.from)) + kept_pointers shapes cells tenured moves
