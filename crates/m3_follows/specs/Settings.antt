-- WHAT A RUN IS GIVEN, on the machine and in the source: the room that it may take, which the source
-- knows nothing of, and its limits, schedule and input.
use Rattle.std.specs.Prelude.{ℕ, ◌≡◌, ◌≤◌, Bool, List, map, Option}
use Rattle.m3_base.specs.declared.outcomes.Entry.{Entry}
use Rattle.m3_generational.specs.First.{first_heap}
use Rattle.m3_image_sections.specs.Parts.{Program}
use Rattle.m3_run_meaning.specs.State.{State}
use Rattle.m3_run_meaning.specs.Runs.{Begins, Config, Runs, state_at}
use Rattle.m3_runs.specs.States.{Given}

-- words of one half of the heap, whether it is one of generations, and words of each stack; the
-- threads that may not have ended at once, the points that may be passed, the schedule, and the bytes
-- of the input
pub record Setting : Type 0 where
  pub heap : ℕ
  pub young : Bool
  pub stack : ℕ
  pub threads : ℕ
  pub points : ℕ
  pub schedule : List Entry
  pub input : List ℕ

abbrev pub IsBetween : (least most n : ℕ) → Type 0
IsBetween least most n = (least ≤ n) × (n ≤ most)

-- the ranges of the options of a run
pub record IsInRange (s : Setting) : Type 0 where
  pub heap : IsBetween 64 67108864 s.heap
  pub stack : IsBetween 1024 1048576 s.stack
  pub threads : IsBetween 1 64 s.threads
  pub points : s.points ≤ 9223372036854775807

-- ---- of the machine

-- THE RUNS OF AN IMAGE that have executed so many instructions, or fewer because they ended
pub record ImageRuns (p : Program) (s : Setting) (instructions : ℕ) (c : Config) : Type 0 where
  pub start : State
  pub begins : Begins p (first_heap s.young s.heap) s.threads s.stack start
  pub runs : Runs p s.input s.points start s.schedule instructions c

-- the points that it has passed
abbrev pub points_of : Config → ℕ
points_of c = (state_at c.place).points

-- ---- of the source

abbrev pub given_by : Setting → Given
given_by s = record { points = s.points; threads = s.threads; input = s.input }

-- ---- settings that the source can't tell apart

-- the threads that the entries of a schedule name
abbrev pub named_by : List Entry → List (Option ℕ)
named_by = map (λ (e : Entry). e.to)

-- They differ in the heap, in the stacks and in the collections that the schedule asks for, and in
-- nothing else.
pub record DifferInRoom (s other : Setting) : Type 0 where
  pub threads : s.threads ≡ other.threads
  pub points : s.points ≡ other.points
  pub input : s.input ≡ other.input
  pub names : named_by s.schedule ≡ named_by other.schedule
