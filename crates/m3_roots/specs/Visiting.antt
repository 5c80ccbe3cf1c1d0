-- Words that are visited one after the other: each cell that one refers to is kept, and the word follows it.
use Rattle.std.specs.Prelude.{ℕ, ◌≡◌, ◌⊎◌, Bool, List, [], ◌∷◌, slice_set}
use Rattle.std.specs.Bool.{MatchBool}
use Rattle.m3_heap.specs.Cells.{Cell}
use Rattle.m3_heap.specs.Moves.{Move, forwarded, with_kept}
use Rattle.m3_heap.specs.Reach.{IsBadPointer}
use Rattle.m3_heap.specs.Heap.{Heap}
use Rattle.m3_roots.specs.ThreadWords.{word_at_place}

-- a word is no bad pointer, its cell is kept, and it goes there
pub record Visits (cells : List Cell) (word : ℕ) (old : List Move) (to : ℕ) (new : List Move) : Type 0 where
  pub good : IsBadPointer cells word → ⊥
  pub kept : new ≡ with_kept old word to
  pub goes : to ≡ forwarded new word

-- the words at some places are visited, from the first to the last
abbrev pub VisitsAll : List Cell → List ℕ → List ℕ → List Move → List ℕ → List Move → Type 0
VisitsAll cells [] words moves new_words new_moves = (new_words ≡ words) × (new_moves ≡ moves)
VisitsAll cells (q ∷ qs) words moves new_words new_moves =
    (to : ℕ) × (next : List Move) × Visits cells (word_at_place words q) moves to next × VisitsAll cells qs (slice_set words q to) next new_words new_moves

-- or the first that is a bad pointer stops it
abbrev pub StopsVisit : List Cell → List ℕ → List ℕ → List Move → Type 0
StopsVisit cells [] words moves = ⊥
StopsVisit cells (q ∷ qs) words moves =
    IsBadPointer cells (word_at_place words q) ⊎ ((to : ℕ) × (next : List Move) × Visits cells (word_at_place words q) moves to next × StopsVisit cells qs (slice_set words q to) next)

-- nothing of a heap but its forwarding list is another
abbrev pub KeepsHeap : Heap → Heap → Type 0
KeepsHeap old new = new ≡ record old { moves = new.moves }

-- all were visited, or one stopped the visit
abbrev pub VisitEnds : Bool → Heap → List ℕ → List ℕ → List ℕ → Heap → Type 0
VisitEnds result heap places words new_words new_heap =
    MatchBool result (VisitsAll heap.cells places words heap.moves new_words new_heap.moves) (StopsVisit heap.cells places words heap.moves)

-- a part of the places was visited, and the rest is left
pub record VisitsPart (cells : List Cell) (places : List ℕ) (words : List ℕ) (moves : List Move) (rest : List ℕ) (new_words : List ℕ) (new_moves : List Move) : Type 0 where
  pub visits : (end : List ℕ) (last : List Move) → VisitsAll cells rest new_words new_moves end last → VisitsAll cells places words moves end last
  pub stops : StopsVisit cells rest new_words new_moves → StopsVisit cells places words moves
