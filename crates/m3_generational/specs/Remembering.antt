-- A heap with a nursery, as contracts see it.
use Rattle.std.specs.Prelude.{◌≡◌, ℕ, ◌+◌, ◌-◌, ◌/◌, ◌≤◌, Bool, true, false, ◌&&◌, ◌||◌, nat_lt, if◌then◌else◌, List, [], ◌∷◌, take, slice_get, slice_index_or, slice_set, Some}
use Rattle.std.proofs.Common.{sym, ap, ◌∙◌}
use Rattle.std.proofs.Props.{props}
use Rattle.std.proofs.lemmas.Bool.{false≢true}
use Rattle.m3_heap.specs.Cells.{Cell, heap_base, is_start, words_from}
use Rattle.m3_heap.specs.Shapes.{Shape, is_pointer_word}
use Rattle.m3_heap.specs.Moves.{kept_starts}
use Rattle.m3_heap.specs.Reach.{HasBadPointer}
use Rattle.m3_heap.specs.Heap.{Heap, old_words, first_base, nursery_base, settled, is_minor, KeepsReached, MovesCells, MakesRoom, CountsOne, ChangesHalves, CostsTrace}

-- what the rest of the machine sees of it, and which words of the half in use were set since the last
-- collection, or in it, one mark for each
pub record Remembering : Type 0 where
  pub heap : Heap
  pub remembered : List Bool

-- how many marks are set
abbrev pub marked_count : List Bool → ℕ
marked_count [] = 0
marked_count (mark ∷ marks) = (if mark then 1 else 0) + marked_count marks

-- the heap whose next collection, if it is one of the young cells alone, looks at the marked words of old cells
abbrev pub watching : List Bool → Heap → Heap
watching marks heap = record heap { watched = if is_minor heap then marked_count (take (old_words heap) marks) else 0 }

-- a heap that was just made
abbrev pub new_generations : ℕ → Heap
new_generations words = watching [] (settled (record {
  cells = [];
  is_open = false;
  moves = [];
  tenured = [];
  watched = 0;
  asked = 0;
  size = words;
  base = first_base;
  nursery = words / 4;
  young = 0;
  free = words;
  minors = 0;
  fulls = 0;
}))

-- it has a nursery
abbrev pub HasNursery : Heap → Type 0
HasNursery heap = 1 ≤ heap.nursery

-- a word that is no reference, or one to an old cell
abbrev pub is_old_word : List Cell → ℕ → Bool
is_old_word cells word = nat_lt word heap_base || (nat_lt word nursery_base && is_start cells word)

-- a list of shapes agrees with such cells: a pointer of an old cell that isn't remembered leads to an old cell
abbrev pub FitsIn : List Shape → List Cell → List Bool → ℕ → Type 0
FitsIn shapes cells remembered base = (start place word : ℕ) → nat_lt start nursery_base ≡ true → is_start cells start ≡ true → is_pointer_word shapes (words_from cells start) place ≡ true
    → slice_get (words_from cells start) place ≡ Some word → slice_index_or remembered (start + place - base) false ≡ false → is_old_word cells word ≡ true

abbrev pub Fits : List Shape → Remembering → Type 0
Fits shapes held = FitsIn shapes held.heap.cells held.remembered held.heap.base

-- no word is remembered
abbrev pub AreForgotten : List Bool → Type 0
AreForgotten remembered = (place : ℕ) → slice_index_or remembered place false ≡ false

-- what is remembered after a word was set, or couldn't be: a word of an old cell, and nothing else
abbrev pub remembered_after : Remembering → ℕ → Bool → List Bool
remembered_after held at is_set = if is_set && nat_lt at nursery_base then slice_set held.remembered (at - held.heap.base) true else held.remembered

-- what a collection makes of it, where it ends well, with the steps before its end and behind it
pub record Finishes (shapes : List Shape) (old new : Remembering) (before after : ℕ) : Type 0 where
  pub good : HasBadPointer shapes old.heap.cells (kept_starts old.heap.moves) → ⊥
  pub reached : KeepsReached shapes old.heap new.heap
  pub moved : MovesCells shapes old.heap new.heap
  pub room : MakesRoom old.heap new.heap
  pub counted : CountsOne old.heap new.heap
  pub halves : ChangesHalves old.heap new.heap
  pub fits : Fits shapes new
  pub forgotten : AreForgotten new.remembered
  pub cost : CostsTrace shapes old.heap new.heap before after

-- ---- facts with one proof at most, so that a store may keep them beside its fields

pub HasNursery-prop : (heap : Heap) → IsProp (HasNursery heap)
HasNursery-prop heap = hlevel props

pub Fits-prop : (shapes : List Shape) (held : Remembering) → IsProp (Fits shapes held)
Fits-prop shapes held = hlevel props

-- without cells every list of shapes agrees
pub empty_fits : (shapes : List Shape) (held : Remembering) → held.heap.cells ≡ [] → Fits shapes held
empty_fits shapes held none = λ start place word low starts pointer holds free. absurd (false≢true (sym (ap (λ cells. is_start cells start) none) ∙ starts))
