-- What a call of `run` makes of a machine: it is a run of the definitions.
use Rattle.std.specs.Prelude.{ℕ, ◌≡◌, ◌≤◌, ◌+◌, ◌*◌, false, List, ◌++◌, Option, None, Some}
use Rattle.m3_base.specs.declared.outcomes.Entry.{Entry}
use Rattle.m3_base.specs.declared.outcomes.Outcome.{Outcome}
use Rattle.m3_heap.specs.Heap.{Heap}
use Rattle.m3_heap.specs.declared.store.Store.{Ghosts}
use Rattle.m3_image_sections.specs.Parts.{Program}
use Rattle.m3_run_meaning.specs.declared.progress.Progress.{Progress as Answer}
use Rattle.m3_run_meaning.specs.declared.progress.Progress.TheVariants.{Ends}
use Rattle.m3_run_meaning.specs.State.{State}
use Rattle.m3_run_meaning.specs.Points.{later_entries}
use Rattle.m3_run_meaning.specs.Runs.{Begins, At_point, Over, Leads, starting}
use Rattle.m3_run_loop.specs.Leading.{Track, LeadsTo, config}
use Rattle.m3_run_laws.specs.Courses.{IsOther}
use Rattle.m3_run_laws.specs.Standing.{AllAtPoints}
use Rattle.m3_run_laws.specs.Stores.{IsLawful, StaysLawful}
use Rattle.m3_run_state.specs.declared.parts.Parts.{Parts}
use Rattle.m3_run_state.specs.Seen.{state_of, program_of, IsGoing}

-- between two turns, with so many points left
pub record At_turn {S L : Type 0} {g : Ghosts S} (p : Program) (k : Track) (left : ℕ) (m : Parts S L g) : Type 0 where
  pub leads : LeadsTo p k (At_point (state_of m))
  pub points : m.points + left ≡ k.allowed
  pub made : m.made ≤ m.points
  pub unstuck : m.stuck ≡ false

-- an entry was taken, and these bytes were put
abbrev pub past : Track → List ℕ → Track
past k bytes = record k { entries = later_entries k.entries; output = k.output ++ bytes }

-- how the run ended, if it did
abbrev pub ended_by : Answer → Option Outcome
ended_by (Ends outcome) = Some outcome
ended_by _ = None

-- the next turn was carried out, or the run ended
abbrev pub Turned : {S L : Type 0} {g : Ghosts S} → Program → Track → List ℕ → ℕ → Parts S L g → Option Outcome → Type 0
Turned p k bytes left m None = At_turn p (past k bytes) left m
Turned p k bytes left m (Some outcome) = (later : List Entry) × Leads p k.input k.allowed k.from (config (Over (state_of m) outcome) later (k.output ++ bytes)) × IsOther outcome

-- a machine may run: it is new, or its last run used up its points
pub record IsReady {S L : Type 0} {g : Ghosts S} (m : Parts S L g) : Type 0 where
  pub at_points : AllAtPoints (program_of m) (state_of m).all
  pub few : (state_of m).instructions ≤ (state_of m).points * 4611686018427387904
  pub made : m.made ≤ (state_of m).points
  pub going : IsGoing m

-- a run from a state on, by a schedule and with so many points more, that put these bytes and ended; a store that
-- keeps its laws still does
pub record Ran (p : Program) (input : List ℕ) (from : State) (schedule : List Entry) (points : ℕ) (bytes : List ℕ) (to : State) (outcome : Outcome) : Type 0 where
  pub later : List Entry
  pub leads : Leads p input (from.points + points) (starting from schedule) (config (Over to outcome) later bytes)
  pub store : StaysLawful from.heap to.heap

-- a run of a program from its start, over a heap that keeps the laws of a store and so many threads with stacks of
-- so many words. So does the heap that it leaves.
pub record RunOf (p : Program) (heap : Heap) (threads stack points : ℕ) (schedule : List Entry) (input bytes : List ℕ) (to : State) (outcome : Outcome) : Type 0 where
  pub start : State
  pub begins : Begins p heap threads stack start
  pub lawful : IsLawful heap
  pub ran : Ran p input start schedule points bytes to outcome
