-- A run: turns between machine points, one instruction after another.
use Rattle.std.specs.Prelude.{ℕ, ◌≡◌, ◌<◌, ◌≤◌, ◌⊎◌, ◌+◌, ◌*◌, true, false, List, [], ◌++◌, length, None, Some, slice_get}
use Rattle.m3_base.specs.declared.outcomes.Entry.{Entry}
use Rattle.m3_base.specs.declared.outcomes.Outcome.{Outcome}
use Rattle.m3_base.specs.declared.outcomes.Outcome.TheVariants.{Trap}
use Rattle.m3_isa.specs.Instructions.{is_point}
use Rattle.m3_isa.specs.declared.instructions.Instr.{Instr}
use Rattle.m3_threads.specs.declared.status.Thread.{Thread}
use Rattle.m3_image_sections.specs.Parts.{Program}
use Rattle.m3_heap.specs.Heap.{Heap}
use Rattle.m3_run_meaning.specs.State.{State, start, with_all, running_thread, executed}
use Rattle.m3_run_meaning.specs.Progress.{Progress, Goes, Rests, Ends}
use Rattle.m3_run_meaning.specs.NewTexts.{standing_at}
use Rattle.m3_run_meaning.specs.Steps.{Does}
use Rattle.m3_run_meaning.specs.Points.{Chooses, StopsAtPoint, Says_spent, first_entry, later_entries}

-- where a run is: in a turn that has executed so many instructions, at a machine point, or over
pub data Place : Type 0 where
  In_turn : State → ℕ → Place
  At_point : State → Place
  Over : State → Outcome → Place

-- a place with the entries that are left and the bytes that were put
pub record Config : Type 0 where
  pub place : Place
  pub entries : List Entry
  pub output : List ℕ

-- how many instructions a turn may have
abbrev pub turn_limit : Program → State → ℕ
turn_limit p s = (s.all.stack + 1) * length p.code

-- the running thread has come to an instruction and stands at it
abbrev pub stands : Instr → State → State
stands i s = with_all s (standing_at i s.running s.all)

-- the start of a program: its main thread stands at the first instruction
pub data Begins (p : Program) (heap : Heap) (threads stack : ℕ) : State → Type 0 where
  begins : (i : Instr) → slice_get p.code 0 ≡ Some i → Begins p heap threads stack (stands i (start p heap threads stack))

-- what follows an instruction, which was number k of its turn: the turn goes on up to the thread's next point
-- instruction
pub data Settles (p : Program) (k : ℕ) : Progress → Place → Type 0 where
  goes_on : (u : State) (t : Thread) (i : Instr) → running_thread u ≡ Some t → slice_get p.code t.regs.pc ≡ Some i → is_point i.op ≡ false
      → k < turn_limit p u → Settles p k (Goes u) (In_turn u k)
  comes_to_point : (u : State) (t : Thread) (i : Instr) → running_thread u ≡ Some t → slice_get p.code t.regs.pc ≡ Some i → is_point i.op ≡ true
      → Settles p k (Goes u) (At_point (stands i u))
  leaves_code : (u : State) (t : Thread) → running_thread u ≡ Some t → slice_get p.code t.regs.pc ≡ None → Settles p k (Goes u) (Over u (Trap 1))
  lasts_too_long : (u : State) (t : Thread) (i : Instr) → running_thread u ≡ Some t → slice_get p.code t.regs.pc ≡ Some i → is_point i.op ≡ false
      → turn_limit p u ≤ k → Settles p k (Goes u) (Over u (Trap 8))
  rests : (u : State) → Settles p k (Rests u) (At_point u)
  run_ends : (u : State) (outcome : Outcome) → Settles p k (Ends u outcome) (Over u outcome)

-- the running thread carries out the instruction that it stands at, as number k of its turn, and puts these bytes
pub record Carries_out (p : Program) (input : List ℕ) (k : ℕ) (s : State) (bytes : List ℕ) (place : Place) : Type 0 where
  pub thread : Thread
  pub instruction : Instr
  pub progress : Progress
  pub running : running_thread s ≡ Some thread
  pub stands : slice_get p.code thread.regs.pc ≡ Some instruction
  pub does : Does p input thread instruction (executed s) bytes progress
  pub settles : Settles p k progress place

abbrev pub then_at : Config → Place → List ℕ → Config
then_at c place bytes = record c { place = place; output = c.output ++ bytes }

-- one instruction more, with the point that was passed before it; or the run stops at a point
pub data Moves (p : Program) (input : List ℕ) (allowed : ℕ) : Config → Config → Type 0 where
  in_turn : (s : State) (k : ℕ) (c : Config) (bytes : List ℕ) (place : Place) → c.place ≡ In_turn s k → Carries_out p input (k + 1) s bytes place
      → Moves p input allowed c (then_at c place bytes)
  at_point : (s turn : State) (c : Config) (bytes : List ℕ) (place : Place) → c.place ≡ At_point s → s.points < allowed → Chooses p (first_entry c.entries) s turn
      → Carries_out p input 1 turn bytes place → Moves p input allowed c (then_at (record c { entries = later_entries c.entries }) place bytes)
  stops : (s u : State) (c : Config) (outcome : Outcome) → c.place ≡ At_point s → s.points < allowed → StopsAtPoint p (first_entry c.entries) s u outcome
      → Moves p input allowed c (then_at c (Over u outcome) [])
  spent : (s : State) (c : Config) (outcome : Outcome) → c.place ≡ At_point s → s.points ≡ allowed → Says_spent p s outcome
      → Moves p input allowed c (then_at c (Over s outcome) [])

-- a run leads from one place to another
pub data Leads (p : Program) (input : List ℕ) (allowed : ℕ) : Config → Config → Type 0 where
  stays : (c : Config) → Leads p input allowed c c
  moves : (b c d : Config) → Leads p input allowed b c → Moves p input allowed c d → Leads p input allowed b d

abbrev pub state_at : Place → State
state_at (In_turn s k) = s
state_at (At_point s) = s
state_at (Over s outcome) = s

abbrev pub IsOver : Place → Type 0
IsOver (Over s outcome) = Unit {0}
IsOver _ = ⊥

abbrev pub starting : State → List Entry → Config
starting s schedule = record { place = At_point s; entries = schedule; output = [] }

-- the runs of a program that have executed n instructions, or fewer because their outcome came
pub record Runs (p : Program) (input : List ℕ) (allowed : ℕ) (from : State) (schedule : List Entry) (n : ℕ) (c : Config) : Type 0 where
  pub leads : Leads p input allowed (starting from schedule) c
  pub executed : ((state_at c.place).instructions ≡ from.instructions + n) ⊎ (((state_at c.place).instructions ≤ from.instructions + n) × IsOver c.place)
