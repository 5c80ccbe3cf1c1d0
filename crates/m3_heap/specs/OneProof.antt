-- Facts on heaps that have at most one proof, so that a store may keep them beside its fields.
use Rattle.std.specs.Prelude.{ℕ, ◌≡◌, true, List, [], ◌∷◌}
use Rattle.std.specs.List.{AllByRecursion}
use Rattle.std.specs.Coded.{×_prop, Unit-prop}
use Rattle.std.proofs.Props.{props}
use Rattle.m3_heap.specs.Cells.{Cell, IsHeaded, IsInHeap, AreApart, AllApart, AreSound}
use Rattle.m3_heap.specs.Cells.{layout}
use Rattle.m3_heap.specs.Heap.{Heap, is_placed, KeepsLaws, IsSoundHeap}
use Rattle.m3_heap.specs.Semi.{IsOfHalves}

all-prop : {A : Type 0} (P : A → Type 0) → ((x : A) → IsProp (P x)) → (xs : List A) → IsProp (AllByRecursion P xs)
all-prop P each [] = Unit-prop
all-prop P each (x ∷ xs) = ×_prop (each x) (all-prop P each xs)

headed-prop : (cell : Cell) → IsProp (IsHeaded cell)
headed-prop cell = hlevel props

in_heap-prop : (cell : Cell) → IsProp (IsInHeap cell)
in_heap-prop cell = hlevel props

placed-prop : (heap : Heap) (cell : ℕ × ℕ) → IsProp (is_placed heap cell ≡ true)
placed-prop heap cell = hlevel props

apart-prop : (a b : Cell) → IsProp (AreApart a b)
apart-prop a b = hlevel props

all_apart-prop : (cells : List Cell) → IsProp (AllApart cells)
all_apart-prop [] = Unit-prop
all_apart-prop (cell ∷ cells) = ×_prop (all-prop (AreApart cell) (apart-prop cell) cells) (all_apart-prop cells)

sound-prop : (cells : List Cell) → IsProp (AreSound cells)
sound-prop cells = hlevel (props, all-prop IsHeaded headed-prop cells, all-prop IsInHeap in_heap-prop cells, all_apart-prop cells)

laws-prop : (heap : Heap) → IsProp (KeepsLaws heap)
laws-prop heap = hlevel (props, all-prop (λ (cell : ℕ × ℕ). is_placed heap cell ≡ true) (placed-prop heap) (layout heap.cells), all_apart-prop heap.cells)

pub IsSoundHeap-prop : (heap : Heap) → IsProp (IsSoundHeap heap)
IsSoundHeap-prop heap = hlevel (props, sound-prop heap.cells, laws-prop heap)

pub IsOfHalves-prop : (heap : Heap) → IsProp (IsOfHalves heap)
IsOfHalves-prop heap = hlevel props
