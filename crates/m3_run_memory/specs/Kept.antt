-- What stands beside the words of a memory and stays when one of them is set.
use Rattle.std.specs.Prelude.{ℕ, ◌≡◌, List, length, map}
use Rattle.m3_heap.specs.Heap.{Heap, HasOtherWords}
use Rattle.m3_threads.specs.All.{Everyone}

-- as many globals, the same constants, and a heap with other words alone
pub record KeepsOutside (globals new_globals constants new_constants : List ℕ) (heap new_heap : Heap) : Type 0 where
  pub count : length new_globals ≡ length globals
  pub same_constants : new_constants ≡ constants
  pub rest : HasOtherWords heap new_heap

-- how many words each stack has
abbrev pub depths : List (List ℕ) → List ℕ
depths stacks = map (λ words. length words) stacks

-- the same threads, with stacks of the same depths
pub record KeepsStacks (all new : Everyone) : Type 0 where
  pub same_depths : depths new.stacks ≡ depths all.stacks
  pub rest : new ≡ record all { stacks = new.stacks }

-- and both at once
pub record KeepsMemory (all new_all : Everyone) (globals new_globals constants new_constants : List ℕ) (heap new_heap : Heap) : Type 0 where
  pub stacks : KeepsStacks all new_all
  pub outside : KeepsOutside globals new_globals constants new_constants heap new_heap
