-- The line that says how a run ended: the ending, the points passed and the instructions executed, where switches were
-- given the collections made, and of a heap of generations how many of them were minor and how many were full.
use Rattle.std.specs.Prelude.{ℕ, ◌≡◌, ◌+◌, Bool, true, false, Option, None, Some, List, [], ◌∷◌, ◌++◌, length, max, codes, decimal, slice_get}
use Rattle.m3_base.specs.declared.outcomes.Outcome.{Outcome}
use Rattle.m3_base.specs.declared.outcomes.Outcome.TheVariants.{Done, Fault, Uncaught, Deadlock, ThreadsFull, Spent, HeapFull, StackFull, Trap}
use Rattle.m3_base.specs.declared.outcomes.Entry.{Entry}
use Rattle.m3_base.specs.Faults.{name_of_fault}
use Rattle.m3_heap.specs.Heap.{Heap}
use Rattle.m3_generational.specs.First.{first_heap}
use Rattle.m3_image_sections.specs.Parts.{Image}
use Rattle.m3_run_meaning.specs.State.{State}
use Rattle.m3_run_meaning.specs.Runs.{Config, Begins, Leads, starting}
use Rattle.m3_machine.specs.RunCalls.{RunOf}
use Rattle.m3c_words.specs.declared.limits.Limits.{Limits}
use Rattle.m3c_words.specs.Orders.{Bounds, bounds_of}
use Rattle.m3c_image_commands.specs.Statuses.{Putting, Took, TookFront}

-- the status of each outcome
abbrev pub end_status : Outcome → ℕ
end_status Done = 0
end_status (Fault kind file line) = 10
end_status (Uncaught exception) = 11
end_status Deadlock = 12
end_status ThreadsFull = 13
end_status Spent = 14
end_status HeapFull = 15
end_status StackFull = 16
end_status (Trap n) = 17

-- a name, or nothing where there is none
abbrev pub name_bytes : Option (List ℕ) → List ℕ
name_bytes None = []
name_bytes (Some name) = name

-- the outcome in words, with the names that the image has for files and exceptions
abbrev pub ending : Image → Outcome → List ℕ
ending i Done = codes "done"
ending i (Fault kind file line) =
    codes "fault " ++ name_of_fault kind ++ codes " " ++ name_bytes (slice_get i.program.files file) ++ codes ":" ++ decimal line
ending i (Uncaught exception) = codes "uncaught " ++ name_bytes (slice_get i.program.exceptions exception)
ending i Deadlock = codes "deadlock"
ending i ThreadsFull = codes "threads full"
ending i Spent = codes "spent"
ending i HeapFull = codes "heap full"
ending i StackFull = codes "stack full"
ending i (Trap n) = codes "trap " ++ decimal n

-- the counts behind it
abbrev pub with_counts : List ℕ → ℕ → ℕ → List ℕ
with_counts line points instructions =
    line ++ codes " points " ++ decimal points ++ codes " instructions " ++ decimal instructions

abbrev pub with_collections : Bool → List ℕ → ℕ → List ℕ
with_collections false line collections = line
with_collections true line collections = line ++ codes " collections " ++ decimal collections

-- of a heap of generations
abbrev pub with_generations : Bool → List ℕ → Heap → List ℕ
with_generations false line heap = line
with_generations true line heap = line ++ codes " minor " ++ decimal heap.minors ++ codes " full " ++ decimal heap.fulls

-- a line that begins so, with the counts of a state behind it
abbrev pub counted : (young tells : Bool) → List ℕ → State → List ℕ
counted young tells line to =
    with_generations young (with_collections tells (with_counts line to.points to.instructions) to.collections) to.heap ++ codes "\n"

-- the line of a run over a heap of halves, which tells the collections or doesn't
abbrev pub report : Image → Bool → Outcome → ℕ → ℕ → ℕ → List ℕ
report i tells outcome points instructions collections =
    with_collections tells (with_counts (ending i outcome) points instructions) collections ++ codes "\n"

-- what a run may do and use, by which schedule and on which input
pub record Setting : Type 0 where
  pub points : ℕ
  pub heap : ℕ
  pub stack : ℕ
  pub threads : ℕ
  pub young : Bool
  pub schedule : List Entry
  pub input : List ℕ

-- the bounds of a run, before its switches and its input are read
abbrev pub within : Bounds → Setting
within bounds =
    record { points = bounds.points; heap = bounds.heap; stack = bounds.stack; threads = bounds.threads; young = bounds.young; schedule = []; input = [] }

abbrev pub setting_of : Limits → Setting
setting_of limits = within (bounds_of limits)

-- A run of an image ended: it is a run of its program from the start, over the heap of the setting. Its output was put,
-- and the status and the line are those of its outcome and its counts.
pub record Ended (i : Image) (setting : Setting) (tells : Bool) (out : Putting) (status : ℕ) (line : List ℕ) : Type 0 where
  pub outcome : Outcome
  pub to : State
  pub bytes : List ℕ
  pub run : RunOf i.program (first_heap setting.young setting.heap) setting.threads setting.stack setting.points setting.schedule setting.input bytes to outcome
  pub put : Took out.taken bytes
  pub by_status : status ≡ end_status outcome
  pub by_line : line ≡ counted setting.young tells (ending i outcome) to

-- A put of a run of an image failed: out has a front of the output of this run, which is one of its program from the
-- start, over the heap of the setting, and came as far as the instruction whose output was put last.
pub record RanAsFar (i : Image) (setting : Setting) (out : Putting) : Type 0 where
  pub start : State
  pub reached : Config
  pub begins : Begins i.program (first_heap setting.young setting.heap) setting.threads setting.stack start
  pub leads : Leads i.program setting.input (start.points + setting.points) (starting start setting.schedule) reached
  pub put : TookFront out.taken reached.output

-- ---- the room that the line needs

-- the bytes of the longest of some names, or so many
abbrev pub longest : ℕ → List (List ℕ) → ℕ
longest least [] = least
longest least (name ∷ names) = longest (max least (length name)) names

abbrev pub longest_name : Image → ℕ
longest_name i = longest (longest 0 i.program.files) i.program.exceptions
