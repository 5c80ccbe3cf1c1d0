-- The heap that a run begins with.
use Rattle.std.specs.Prelude.{ℕ, Bool, true, false}
use Rattle.m3_heap.specs.Heap.{Heap}
use Rattle.m3_heap.specs.Semi.{new_heap}
use Rattle.m3_generational.specs.Remembering.{new_generations}

-- one of generations, or one of two halves; each half has so many words
abbrev pub first_heap : (young : Bool) (words : ℕ) → Heap
first_heap false words = new_heap words
first_heap true words = new_generations words
