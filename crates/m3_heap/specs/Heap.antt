-- What the rest of the machine sees of a store, what each store keeps, and what each call does to it.
use Rattle.std.specs.Prelude.{◌≡◌, ℕ, ◌+◌, ◌-◌, ◌^◌, ◌<◌, ◌≤◌, ◌⊎◌, ◌==◌, ◌&&◌, ◌||◌, nat_lt, nat_le, min, if◌then◌else◌, Bool, true, List, [], ◌∷◌, ◌++◌, Option, None, Some}
use Rattle.std.specs.List.{AllByRecursion}
use Rattle.m3_heap.specs.Cells.{Cell, AreSound, AllApart, layout, total_words, new_cell}
use Rattle.m3_heap.specs.Shapes.{Shape}
use Rattle.m3_heap.specs.Moves.{Move, AreOneToOne, is_kept, kept_starts, moved_cells, kept_words, kept_pointers}
use Rattle.m3_heap.specs.Reach.{IsReachable}

-- a store: its cells, which while a collection is open are those that stood when it began; whether a
-- collection is open, and its forwarding list so far, or that of the last collection; the starts of the cells
-- that the next collection keeps unasked, and how many of their words it looks at; the words of the last
-- request that was refused since the last collection, or 0; the words of each of its two halves, and the first
-- address of the one in use; the words of its nursery, 0 where it has none, and those of the young cells, which
-- lie there; the words that a request may have now; how many collections kept tenured cells unasked, and how
-- many had none
pub record Heap : Type 0 where
  pub cells : List Cell
  pub is_open : Bool
  pub moves : List Move
  pub tenured : List ℕ
  pub watched : ℕ
  pub asked : ℕ
  pub size : ℕ
  pub base : ℕ
  pub nursery : ℕ
  pub young : ℕ
  pub free : ℕ
  pub minors : ℕ
  pub fulls : ℕ

-- ---- where cells lie, and what is free

-- the first address of the first half, of the second, and of a nursery
abbrev pub first_base : ℕ
first_base = 1152921504606846976

abbrev pub second_base : ℕ
second_base = 2305843009213693952

abbrev pub nursery_base : ℕ
nursery_base = 4611686018427387904

-- the half that isn't in use
abbrev pub other_base : ℕ → ℕ
other_base base = if base == first_base then second_base else first_base

-- the words of the cells in the half in use
abbrev pub old_words : Heap → ℕ
old_words heap = total_words heap.cells - heap.young

-- the words that a request may have: the half has to hold all cells once the young ones are moved to it
abbrev pub words_free : Heap → ℕ
words_free heap =
    if heap.young == 0 then heap.size - total_words heap.cells else min (heap.nursery - heap.young) (heap.size - total_words heap.cells)

-- where the next cell goes, if it has so many words: behind the young cells where a nursery can hold it, else
-- behind the old ones
abbrev pub next_start : Heap → ℕ → ℕ
next_start heap words = if nat_le words heap.nursery then nursery_base + heap.young else heap.base + old_words heap

-- whether the next collection is one of the young cells alone: it makes room for what was asked for
abbrev pub is_minor : Heap → Bool
is_minor heap = nat_lt 0 heap.nursery && nat_le (heap.asked + total_words heap.cells) heap.size

-- the starts of the old cells, which such a collection keeps unasked
abbrev pub old_starts : List Cell → List ℕ
old_starts [] = []
old_starts (cell ∷ cells) = if nat_lt cell.start nursery_base then cell.start ∷ old_starts cells else old_starts cells

abbrev pub unasked : Heap → List ℕ
unasked heap = if is_minor heap then old_starts heap.cells else []

-- a cell, by its start and its words, lies among so many words from an address on
abbrev pub lies_in : ℕ → ℕ → ℕ × ℕ → Bool
lies_in base words cell = nat_le base cell.0 && nat_le (cell.0 + cell.1) (base + words)

-- among the old cells, in the half in use, or among the young ones, in the nursery
abbrev pub is_placed : Heap → ℕ × ℕ → Bool
is_placed heap cell = lies_in heap.base (old_words heap) cell || lies_in nursery_base heap.young cell

-- THE LAWS OF A STORE: what each store keeps, at every moment. The half in use has room for all cells; each
-- cell lies among the old ones or among the young ones, apart from every other; what is free and what is kept
-- unasked follow from where the cells lie and what was asked for; and a store without a nursery looks at no
-- words of tenured cells and has had no minor collection.
pub record KeepsLaws (heap : Heap) : Type 0 where
  pub half : (heap.base == first_base || heap.base == second_base) ≡ true
  pub young : heap.young ≤ heap.nursery
  pub some : heap.young ≤ total_words heap.cells
  pub room : total_words heap.cells ≤ heap.size
  pub placed : AllByRecursion (λ (cell : ℕ × ℕ). is_placed heap cell ≡ true) (layout heap.cells)
  pub apart : AllApart heap.cells
  pub free : heap.free ≡ words_free heap
  pub tenured : heap.tenured ≡ unasked heap
  pub watched : heap.nursery ≡ 0 → heap.watched ≡ 0
  pub minors : heap.nursery ≡ 0 → heap.minors ≡ 0

-- what holds of every store at every moment
pub record IsSoundHeap (heap : Heap) : Type 0 where
  pub cells : AreSound heap.cells
  pub free : heap.free < 2 ^ 32
  pub laws : KeepsLaws heap

-- it was made with as many words
pub record SameSizes (old new : Heap) : Type 0 where
  pub size : new.size ≡ old.size
  pub nursery : new.nursery ≡ old.nursery

-- ---- a request

-- the heap with what is free and what is kept unasked as they follow from the rest
abbrev pub settled : Heap → Heap
settled heap = record heap { free = words_free heap; tenured = unasked heap }

-- the heap after a cell of a kind and of so many words was made
abbrev pub with_cell : Heap → ℕ → ℕ → Heap
with_cell heap kind words = settled (record heap {
  cells = heap.cells ++ new_cell (next_start heap words) kind words ∷ [];
  young = if nat_le words heap.nursery then heap.young + words else heap.young;
})

-- the heap after so many words were refused
abbrev pub with_asked : Heap → ℕ → Heap
with_asked heap words = settled (record heap { asked = words })

-- how many words of tenured cells the next collection looks at after a request: as many as before, if it is one
-- of the young cells alone as before; none, if it is a full one. What a store tells counts only where a request
-- was refused behind a larger one that was refused too, since then a full one gives way to one of the young cells
abbrev pub watched_after : Heap → Heap → ℕ → ℕ
watched_after old heap told = if is_minor heap then (if is_minor old then old.watched else told) else 0

-- a request of a heap left this one, with what is watched then
abbrev pub IsThis : Heap → Heap → Heap → Type 0
IsThis old heap new = new ≡ record heap { watched = watched_after old heap new.watched }

-- what a request of so many words makes of a heap: it is refused exactly where they exceed the free ones;
-- else the cell goes where the next one goes
abbrev pub Allots : Heap → ℕ → ℕ → Option ℕ → Heap → Type 0
Allots old kind words None new = (old.free < words) × IsThis old (with_asked old words) new
Allots old kind words (Some start) new = (words ≤ old.free) × (start ≡ next_start old words) × IsThis old (with_cell old kind words) new

-- ---- a word that is set

-- a word that is set changes the words of cells and nothing else, but for how many words the next collection
-- looks at
pub record HasOtherWords (old new : Heap) : Type 0 where
  pub same_layout : layout new.cells ≡ layout old.cells
  pub rest : new ≡ record old { cells = new.cells; watched = new.watched }
  pub watched : old.nursery ≡ 0 → new.watched ≡ old.watched

-- ---- a collection

-- a count that stops at the end of its type
abbrev pub counted : ℕ → ℕ
counted n = if n == 18446744073709551615 then n else n + 1

-- one collection more
abbrev pub CountsOne : Heap → Heap → Type 0
CountsOne old new =
    (new.minors ≡ (if is_minor old then counted old.minors else old.minors)) × (new.fulls ≡ (if is_minor old then old.fulls else counted old.fulls))

-- no cell is young then, and a full collection changed halves
pub record ChangesHalves (old new : Heap) : Type 0 where
  pub base : new.base ≡ (if is_minor old then old.base else other_base old.base)
  pub young : new.young ≡ 0

-- the collection kept exactly the cells that are reached from the visited words and from the tenured
-- cells, each once; what was visited before keeps its place
pub record KeepsReached (shapes : List Shape) (old new : Heap) : Type 0 where
  pub goes_on : (more : List Move) × (new.moves ≡ old.moves ++ more)
  pub one_to_one : AreOneToOne new.moves
  pub reached : (start : ℕ) → is_kept new.moves start ≡ true → IsReachable shapes old.cells (kept_starts old.moves) start
  pub kept : (start : ℕ) → IsReachable shapes old.cells (kept_starts old.moves) start → is_kept new.moves start ≡ true

-- the heap then holds the kept cells and nothing else, each at its new start, each pointer forwarded
abbrev pub MovesCells : List Shape → Heap → Heap → Type 0
MovesCells shapes old new = new.cells ≡ moved_cells shapes old.cells new.moves new.moves

-- the request that was refused fits now, or what is reached from the visited words alone leaves no room
-- for it
abbrev pub MakesRoom : Heap → Heap → Type 0
MakesRoom old new = (old.asked ≤ new.free) ⊎ ((old.tenured ≡ []) × (old.size < total_words new.cells + old.asked))

-- the steps of a collection's end: the watched words, the pointer words of the kept cells that aren't
-- tenured, and the words of those that this call newly kept
abbrev pub CostsTrace : List Shape → Heap → Heap → ℕ → ℕ → Type 0
CostsTrace shapes old new before after =
    after + kept_words old.cells old.moves ≡ before + old.watched + kept_pointers shapes old.cells old.tenured new.moves + kept_words old.cells new.moves
