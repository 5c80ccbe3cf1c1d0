-- New cells. A cell that doesn't fit has one collection first.
use Rattle.std.specs.Prelude.{ℕ, ◌≡◌, ◌==◌, if◌then◌else◌, List, ◌∷◌, ◌++◌, max, Option, None, Some, Result, Ok, Err}
use Rattle.m3_base.specs.declared.outcomes.Outcome.{Outcome}
use Rattle.m3_base.specs.declared.outcomes.Outcome.TheVariants.{HeapFull, Trap}
use Rattle.m3_isa.specs.Effects.{answered}
use Rattle.m3_isa.specs.declared.instructions.Instr.{Instr}
use Rattle.m3_heap.specs.Cells.{Cell, new_cell}
use Rattle.m3_heap.specs.Heap.{KeepsLaws, Allots}
use Rattle.m3_threads.specs.declared.status.Thread.{Thread}
use Rattle.m3_image_sections.specs.Parts.{Program, CellType}
use Rattle.m3_run_meaning.specs.State.{State, running_thread, with_regs}
use Rattle.m3_run_meaning.specs.Progress.{Progress, Goes, Ends}
use Rattle.m3_run_meaning.specs.Collecting.{Collects, Spoils}

-- a request of so many words: the store meets it exactly where they are free, by a cell that goes where the next one
-- goes, or refuses it and remembers what was asked for; it keeps its laws, and nothing else is changed
pub record Allocates (kind words : ℕ) (old : State) (answer : Option ℕ) (new : State) : Type 0 where
  pub allots : Allots old.heap kind words answer new.heap
  pub laws : KeepsLaws new.heap
  pub rest : new ≡ record old { heap = new.heap }

-- after one collection a cell was made; or there was no room even then; or the collection has to stop
pub data Makes_late (p : Program) (kind words : ℕ) (s : State) : Result ℕ Outcome → State → Type 0 where
  made_late : (t u : State) (start : ℕ) → Collects p s t → Allocates kind words t (Some start) u → Makes_late p kind words s (Ok start) u
  full_late : (t u : State) → Collects p s t → Allocates kind words t None u → Makes_late p kind words s (Err HeapFull) u
  stuck_late : (u : State) → Spoils p s u → Makes_late p kind words s (Err (Trap 9)) u

-- a cell was made at once; or its request was refused, and what follows is after one collection
pub data Makes (p : Program) (kind words : ℕ) (s : State) : Result ℕ Outcome → State → Type 0 where
  at_once : (start : ℕ) (u : State) → Allocates kind words s (Some start) u → Makes p kind words s (Ok start) u
  late : (r u : State) (answer : Result ℕ Outcome) → Allocates kind words s None r → Makes_late p kind words r answer u → Makes p kind words s answer u

-- a cell of so many words, as it is when it is made, is among the cells
abbrev pub HasNew : ℕ → ℕ → ℕ → State → Type 0
HasNew kind words start s = (front : List Cell) × (back : List Cell) × (s.heap.cells ≡ front ++ new_cell start kind words ∷ back)

-- ---- NEW

-- the words of a cell of a fixed type, its header among them
abbrev pub fixed_words : Option CellType → Result ℕ Outcome
fixed_words None = Err (Trap 4)
fixed_words (Some t) = if t.kind == 0 then Ok (max t.words 1) else Err (Trap 4)

-- the thread goes on with a new cell in register a, as it stands once the cell is made; or the run ends
abbrev pub GivesCell : Instr → Result ℕ Outcome → State → Progress → Type 0
GivesCell i (Ok start) u progress = (t : Thread) → running_thread u ≡ Some t → progress ≡ Goes (with_regs u (answered t.regs i.a start))
GivesCell i (Err outcome) u progress = progress ≡ Ends u outcome

pub data Makes_fixed (p : Program) (i : Instr) (kind : ℕ) (s : State) (words : Result ℕ Outcome) : Progress → Type 0 where
  not_fixed : (outcome : Outcome) → words ≡ Err outcome → Makes_fixed p i kind s words (Ends s outcome)
  makes_fixed : (n : ℕ) (made : Result ℕ Outcome) (u : State) (progress : Progress) → words ≡ Ok n → Makes p kind n s made u → GivesCell i made u progress → Makes_fixed p i kind s words progress
