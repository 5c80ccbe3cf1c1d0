-- What a run leads to, seen from the middle of a turn.
use Rattle.std.specs.Prelude.{ℕ, ◌≡◌, ◌≤◌, ◌<◌, ◌+◌, ◌-◌, ◌*◌, ◌^◌, List, [], ◌++◌, length, Option, None, Some, slice_get}
use Rattle.m3_base.specs.declared.outcomes.Entry.{Entry}
use Rattle.m3_base.specs.declared.outcomes.Outcome.TheVariants.{Trap}
use Rattle.m3_isa.specs.Effects.{at_hand}
use Rattle.m3_isa.specs.declared.instructions.Instr.{Instr}
use Rattle.m3_isa.specs.declared.registers.Regs.{Regs}
use Rattle.m3_heap.specs.Heap.{Heap}
use Rattle.m3_heap.specs.Shapes.{Shape}
use Rattle.m3_heap.specs.declared.store.Store.{Ghosts}
use Rattle.m3_threads.specs.declared.status.Thread.{Thread}
use Rattle.m3_threads.specs.declared.status.Status.TheVariants.{Ready}
use Rattle.m3_threads.specs.All.{Everyone, thread_named}
use Rattle.m3_image_sections.specs.Parts.{Program}
use Rattle.m3_image_decoded.specs.Ready.{image_of}
use Rattle.m3_run_memory.specs.Kept.{KeepsStacks}
use Rattle.m3_run_memory.specs.declared.memory.Memory.{Memory}
use Rattle.m3_run_meaning.specs.declared.near.Stack.{Stack}
use Rattle.m3_run_meaning.specs.declared.near.Place.{Place as At}
use Rattle.m3_run_loop.specs.declared.halts.Halt.{Halt}
use Rattle.m3_run_loop.specs.declared.strides.Fuel.{Fuel}
use Rattle.m3_run_loop.specs.declared.turns.Turn.{Turn}
use Rattle.m3_run_loop.specs.declared.halts.Halt.TheVariants.{Used, Trapped}
use Rattle.m3_run_meaning.specs.State.{State, regs_set, executed}
use Rattle.m3_run_meaning.specs.Progress.{Goes}
use Rattle.m3_run_meaning.specs.Calls.{stack_of}
use Rattle.m3_run_meaning.specs.Steps.{Does}
use Rattle.m3_run_meaning.specs.State.{seen}
use Rattle.m3_run_meaning.specs.Runs.{Config, Place, Over, Settles, Carries_out, Leads}

abbrev pub config : Place → List Entry → List ℕ → Config
config place entries output = record { place = place; entries = entries; output = output }

-- A run that is followed: its input, how many points it may have passed, from where it is followed, the entries that
-- are left and the bytes that were put; and a state and its running thread, but for the words, threads and registers
-- that stand elsewhere.
pub record Track : Type 0 where
  pub input : List ℕ
  pub allowed : ℕ
  pub from : Config
  pub entries : List Entry
  pub output : List ℕ
  pub base : State
  pub thread : Thread

-- it leads to a place
abbrev pub LeadsTo : Program → Track → Place → Type 0
LeadsTo p k place = Leads p k.input k.allowed k.from (config place k.entries k.output)

-- instruction number n of a turn was carried out and its thread goes on: the run leads to what follows
abbrev pub Went : Program → Track → State → ℕ → Type 0
Went p k u n = (place : Place) → Settles p n (Goes u) place → LeadsTo p k place

-- it leads to where the running thread carries out instruction number n of its turn, and on over it
abbrev pub Enters : Program → Track → State → ℕ → Type 0
Enters p k s n = (bytes : List ℕ) (place : Place) → Carries_out p k.input n s bytes place → Leads p k.input k.allowed k.from (config place k.entries (k.output ++ bytes))

-- so many points more were passed, and so many instructions more executed
abbrev pub further : Track → ℕ → ℕ → Track
further k points instructions = record k { base = record k.base { points = k.base.points + points; instructions = k.base.instructions + instructions } }

-- an instruction of the running thread, whose registers are at hand, leads to these registers, threads, globals and
-- heap, in every state that has them
pub record Goes_on (p : Program) (stack : Stack) (i : Instr) (regs : Regs) (all : Everyone) (globals : List ℕ) (heap : Heap)
    (to : Regs) (new_all : Everyone) (new_globals : List ℕ) (new_heap : Heap) : Type 0 where
  pub keeps : KeepsStacks all new_all
  pub does : (input : List ℕ) (base : State) (t : Thread) → thread_named all base.running ≡ Some t → stack_of all t ≡ stack
      → Does p input (regs_set regs t) i (executed (seen base regs all globals heap)) [] (Goes (seen (executed base) to new_all new_globals new_heap))

-- Where a turn stands between two instructions of its thread: so many instructions it may still have, of all that a
-- turn may have, and so many points may be passed without a choice.
pub record Standing (p : Program) (k : Track) (stack : Stack) (limit left points : ℕ) (regs : Regs) (all : Everyone) (globals : List ℕ) (heap : Heap) : Type 0 where
  pub running : thread_named all k.base.running ≡ Some k.thread
  pub ready : 1 ≤ points → k.thread.status ≡ Ready
  pub place : stack_of all k.thread ≡ stack
  pub turn : (all.stack + 1) * length p.code ≡ limit
  pub within : left ≤ limit
  pub few : k.base.points + points ≤ k.allowed
  pub small : k.allowed < 2 ^ 64
  pub free : 1 ≤ points → k.entries ≡ []
  pub went : Went p k (seen k.base regs all globals heap) (limit - left)

-- ---- the same of a memory, with the registers of the running thread beside it

-- a program with the constants that stand in a memory
abbrev pub program_in : {S : Type 0} {g : Ghosts S} → Program → Memory S g → Program
program_in p m = record p { constants = m.outside.constants.items }

abbrev pub seen_in : {S : Type 0} {g : Ghosts S} → State → List ℕ → At → Memory S g → State
seen_in {g = g} base r at m = seen base (at_hand r at.pc at.fp) m.threads m.outside.globals.items (g.heap m.outside.heap.store)

abbrev pub Goes_in : {S : Type 0} {g : Ghosts S} → Program → Stack → Instr → List ℕ → At → Memory S g → List ℕ → At → Memory S g → Type 0
Goes_in {g = g} p stack i r at m new_r to n =
    Goes_on (program_in p m) stack i (at_hand r at.pc at.fp) m.threads m.outside.globals.items (g.heap m.outside.heap.store)
    (at_hand new_r to.pc to.fp) n.threads n.outside.globals.items (g.heap n.outside.heap.store)

abbrev pub Stands_in : {S : Type 0} {g : Ghosts S} → Program → Track → Stack → ℕ → ℕ → ℕ → List ℕ → At → Memory S g → Type 0
Stands_in {g = g} p k stack limit left points r at m =
    Standing (program_in p m) k stack limit left points (at_hand r at.pc at.fp) m.threads m.outside.globals.items (g.heap m.outside.heap.store)

-- what became of a turn that stood so: it stands; or the run is over
abbrev pub Halts_in : {S : Type 0} {g : Ghosts S} → Program → Track → Stack → ℕ → ℕ → ℕ → List ℕ → At → Memory S g → Halt → Type 0
Halts_in p k stack limit left points r at m (Trapped n) = LeadsTo (program_in p m) k (Over (seen_in k.base r at m) (Trap n))
Halts_in p k stack limit left points r at m _ = Stands_in p k stack limit left points r at m

-- what a memory keeps while its threads carry instructions out
pub record KeepsWhole {S : Type 0} {g : Ghosts S} (old new : Memory S g) : Type 0 where
  pub forks : new.threads.forks ≡ old.threads.forks
  pub waits : new.threads.waits ≡ old.threads.waits
  pub depth : new.threads.stack ≡ old.threads.stack
  pub words : length new.outside.globals.items ≡ length old.outside.globals.items
  pub constants : new.outside.constants.items ≡ old.outside.constants.items
  pub fitting : (shapes : List Shape) → g.fits old.outside.heap.store shapes → g.fits new.outside.heap.store shapes

-- why a turn didn't go on over an instruction; where it did, it may go on
abbrev pub halted : Option Halt → Halt
halted None = Used
halted (Some halt) = halt

-- an instruction was counted, and maybe a point
pub record Counts (old new : Fuel) : Type 0 where
  pub limit : new.limit ≡ old.limit
  pub left : new.left + 1 ≡ old.left
  pub points : new.points ≤ old.points
  pub floor : new.points ≡ old.points → new.floor ≡ old.floor

-- ---- a turn from one place to another

abbrev pub program_of : Turn → Program
program_of turn = (image_of turn.image.now).program

-- its instruction leads on so
abbrev pub Goes_by : {S : Type 0} {g : Ghosts S} → Turn → Instr → List ℕ → At → Memory S g → List ℕ → At → Memory S g → Type 0
Goes_by turn i r at m new_r to n = Goes_in (program_of turn) turn.stack i r at m new_r to n

-- where the turn stood with its fuel, it stands after so many points and instructions, or the run is over
abbrev pub Strides : {S : Type 0} {g : Ghosts S} → Turn → Track → Fuel → List ℕ → At → Memory S g → Fuel → List ℕ → At → Memory S g → Halt → Type 0
Strides turn k fuel r at m new_fuel new_r to n halt =
    Stands_in (program_of turn) k turn.stack fuel.limit (fuel.left - fuel.floor) fuel.points r at m
    → Halts_in (program_of turn) (further k (fuel.points - new_fuel.points) (fuel.left - new_fuel.left)) turn.stack
    new_fuel.limit (new_fuel.left - new_fuel.floor) new_fuel.points new_r to n halt

-- the same over the instruction that stands there, in every run
abbrev pub StridesOver : {S : Type 0} {g : Ghosts S} → Turn → Instr → Fuel → List ℕ → At → Memory S g → Fuel → List ℕ → At → Memory S g → Halt → Type 0
StridesOver turn i fuel r at m new_fuel new_r to n halt =
    (k : Track) → slice_get (program_of turn).code at.pc ≡ Some i → Strides turn k fuel r at m new_fuel new_r to n halt
