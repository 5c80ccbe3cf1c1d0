-- The state of a machine between two instructions, and what each address holds in it.
use Rattle.std.specs.Prelude.{ℕ, ◌≡◌, ◌+◌, ◌-◌, ◌*◌, ◌^◌, min, Bool, List, length, replicate, slice_set, Option}
use Rattle.m3_isa.specs.Memory.{Memory}
use Rattle.m3_isa.specs.declared.registers.Regs.{Regs}
use Rattle.m3_heap.specs.Heap.{Heap, HasOtherWords as KeepsHeap}
use Rattle.m3_threads.specs.declared.status.Thread.{Thread}
use Rattle.m3_threads.specs.All.{Everyone, updated, thread_named}
use Rattle.m3_threads.specs.Actions.{at_start}
use Rattle.m3_threads.specs.Spaces.{held, replaceable}
use Rattle.m3_image_sections.specs.Parts.{Program}
use Rattle.m3_run_memory.specs.Addresses.{outside_of, settable_of}
use Rattle.m3_run_memory.specs.Kept.{KeepsStacks}

-- the threads with their stacks and the counts of forks and waits; the words of the globals; the heap; the
-- thread that went last; how many bytes of the input were taken; how many points were passed, instructions executed
-- and collections made; and how many steps the collections took
pub record State : Type 0 where
  pub all : Everyone
  pub globals : List ℕ
  pub heap : Heap
  pub running : ℕ
  pub taken : ℕ
  pub points : ℕ
  pub instructions : ℕ
  pub collections : ℕ
  pub steps : ℕ

-- ---- addresses

-- what each address outside the stacks holds, and which of them can be set
abbrev pub outside : Program → State → Memory
outside p s = outside_of s.globals p.constants s.heap.cells

abbrev pub settable : State → ℕ → Bool
settable s = settable_of (length s.globals) s.heap.cells

-- what each address holds, stacks and all, and which can be set
abbrev pub memory_of : Program → State → Memory
memory_of p s = held s.all (outside p s)

abbrev pub can_set : State → ℕ → Bool
can_set s = replaceable s.all (settable s)

-- ---- states that differ in what their addresses hold

-- a state that is this one but for its words
pub record HasOtherWords (old new : State) : Type 0 where
  pub all : KeepsStacks old.all new.all
  pub globals : length new.globals ≡ length old.globals
  pub heap : KeepsHeap old.heap new.heap
  pub rest : new ≡ record old { all = new.all; globals = new.globals; heap = new.heap }

-- each address holds what a memory says, and everything else is as it was
pub record Becomes (p : Program) (old : State) (memory : Memory) (new : State) : Type 0 where
  pub others : HasOtherWords old new
  pub words : (at : ℕ) → memory_of p new at ≡ memory at

-- ---- the thread that runs

abbrev pub running_thread : State → Option Thread
running_thread s = thread_named s.all s.running

abbrev pub with_all : State → Everyone → State
with_all s all = record s { all = all }

abbrev pub regs_set : Regs → Thread → Thread
regs_set regs t = record t { regs = regs }

-- the running thread has these registers
abbrev pub with_regs : State → Regs → State
with_regs s regs = with_all s (record s.all { threads = updated (regs_set regs) s.running s.all.threads })

-- a state in whose turn the registers of the running thread stand beside its threads
abbrev pub seen : State → Regs → Everyone → List ℕ → Heap → State
seen base regs all globals heap = record base { all = record all { threads = updated (regs_set regs) base.running all.threads }; globals = globals; heap = heap }

-- ---- counts

-- a count of so many bits that was raised once: it stands still at its type's end
abbrev pub raised : ℕ → ℕ → ℕ
raised bits n = min (n + 1) (2 ^ bits - 1)

-- one instruction was executed
abbrev pub executed : State → State
executed s = record s { instructions = s.instructions + 1 }

-- ---- the start

-- the globals at the start: the header of the main thread's cell, of type 1 and four words, and zeros
abbrev pub first_globals : ℕ → List ℕ
first_globals words = slice_set (replicate words 0) 0 (1 + 4 * 2 ^ 32)

-- the main thread alone, in slot 0, at the first instruction; a heap without cells; nothing was done yet
abbrev pub start : Program → Heap → ℕ → ℕ → State
start p heap threads stack = record {
  all = at_start threads stack;
  globals = first_globals p.globals.words;
  heap = heap;
  running = 0;
  taken = 0;
  points = 0;
  instructions = 0;
  collections = 0;
  steps = 0;
}
