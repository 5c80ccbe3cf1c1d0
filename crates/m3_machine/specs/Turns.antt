-- A run that is followed while a machine carries it out: where it leads to, in a turn and at its ends.
use Rattle.std.specs.Prelude.{ℕ, ◌≡◌, ◌≤◌, ◌<◌, ◌+◌, ◌-◌, ◌*◌, ◌^◌, true, false, List, [], ◌++◌, Some, slice_get}
use Rattle.m3_base.specs.declared.outcomes.Outcome.TheVariants.{Trap}
use Rattle.m3_isa.specs.Instructions.{is_plain, is_point}
use Rattle.m3_isa.specs.declared.instructions.Instr.{Instr}
use Rattle.m3_heap.specs.declared.store.Store.{Ghosts}
use Rattle.m3_threads.specs.declared.status.Thread.{Thread}
use Rattle.m3_image_sections.specs.Parts.{Program}
use Rattle.m3_run_loop.specs.declared.halts.Halt.{Halt}
use Rattle.m3_run_loop.specs.declared.halts.Halt.TheVariants.{Trapped}
use Rattle.m3_run_meaning.specs.declared.progress.Progress.{Progress as Answer}
use Rattle.m3_run_meaning.specs.declared.progress.Progress.TheVariants.{Goes, Rests, Ends}
use Rattle.m3_run_meaning.specs.State.{State}
use Rattle.m3_run_meaning.specs.Runs.{Config, Place, At_point, Over, Carries_out, Moves, Leads, turn_limit}
use Rattle.m3_run_loop.specs.Leading.{Track, LeadsTo, Went, config}
use Rattle.m3_run_laws.specs.Standing.{BeginsAtPoints}
use Rattle.m3_run_laws.specs.Courses.{SoundTurn, IsOther, IsSound}
use Rattle.m3_run_state.specs.declared.parts.Parts.{Parts}
use Rattle.m3_run_state.specs.Seen.{state_of, program_of, Running}
use Rattle.m3_machine.specs.declared.runs.Turn.{Turn}

-- what falls with each instruction, over points too: no turn has as many instructions as this
abbrev pub to_come : Turn → ℕ
to_come turn = turn.points * 4611686018427387905 + (4611686018427387904 - turn.done)

-- the run has put more bytes; or it has come past an entry
abbrev pub and_put : Track → List ℕ → Track
and_put k bytes = record k { output = k.output ++ bytes }

-- A run that is followed, from a state on: where it is followed from is a place of a run, and counts stay in their
-- ranges.
pub record IsCourse (p : Program) (start : State) (k : Track) : Type 0 where
  pub begins : BeginsAtPoints p
  pub sound : IsSound p k.allowed start k.from.place
  pub small : k.allowed < 2 ^ 63
  pub short : turn_limit p start ≤ 4611686018427387904
  pub few : start.instructions ≤ start.points * 4611686018427387904

-- it is followed while a machine carries it out, whose collections have room for its stacks
pub record Known {S L : Type 0} {g : Ghosts S} (p : Program) (start : State) (k : Track) (m : Parts S L g) : Type 0 where
  pub program : program_of m ≡ p
  pub input : m.input.now ≡ k.input
  pub depth : m.stack ≡ start.all.stack
  pub course : IsCourse p start k

-- Points that may be passed without a choice, and so many others, are left; the former only where no entry is left. No
-- collection ended in trap 9.
pub record Paced {S L : Type 0} {g : Ghosts S} (k : Track) (others : ℕ) (m : Parts S L g) (turn : Turn) : Type 0 where
  pub points : m.points + (turn.points + others) ≡ k.allowed
  pub free : 1 ≤ turn.points → k.entries ≡ []
  pub made : m.made ≤ m.points
  pub unstuck : m.stuck ≡ false

-- the turn stands between two instructions of its thread
pub record Between {S L : Type 0} {g : Ghosts S} (p : Program) (k : Track) (others : ℕ) (m : Parts S L g) (turn : Turn) : Type 0 where
  pub thread : Thread
  pub running : Running m thread
  pub went : Went p k (state_of m) turn.done
  pub paced : Paced k others m turn

-- and the next one isn't plain, where there is one in this turn
pub record Halts {S L : Type 0} {g : Ghosts S} (p : Program) (k : Track) (others : ℕ) (m : Parts S L g) (turn : Turn) : Type 0 where
  pub between : Between p k others m turn
  pub next : (i : Instr) → slice_get p.code between.thread.regs.pc ≡ Some i → turn.done < turn_limit p (state_of m) → is_plain i.op ≡ false

abbrev pub Halted : {S L : Type 0} {g : Ghosts S} → Program → Track → ℕ → Parts S L g → Turn → Halt → Type 0
Halted p k others m turn (Trapped n) = LeadsTo p k (Over (state_of m) (Trap n))
Halted p k others m turn _ = Halts p k others m turn

-- it leads to a place whose next move is that the running thread carries out instruction number n of its turn
pub record Reaches (p : Program) (k : Track) (s : State) (n : ℕ) : Type 0 where
  pub last : Config
  pub leads : Leads p k.input k.allowed k.from last
  pub output : last.output ≡ k.output
  pub carries : (bytes : List ℕ) (place : Place) → Carries_out p k.input n s bytes place → Moves p k.input k.allowed last (config place k.entries (k.output ++ bytes))

-- the turn stands before an instruction that isn't plain and comes next
pub record Acts_next {S L : Type 0} {g : Ghosts S} (p : Program) (start : State) (k : Track) (others : ℕ) (m : Parts S L g) (turn : Turn) : Type 0 where
  pub thread : Thread
  pub instruction : Instr
  pub running : Running m thread
  pub stands : slice_get p.code thread.regs.pc ≡ Some instruction
  pub acts : is_plain instruction.op ≡ false
  pub reaches : Reaches p k (state_of m) (turn.done + 1)
  pub sound : SoundTurn p k.allowed start (state_of m) turn.done
  pub paced : Paced k others m turn
  pub made : is_point instruction.op ≡ true → m.made < m.points

-- the turn is over
pub record Rested {S L : Type 0} {g : Ghosts S} (p : Program) (k : Track) (others : ℕ) (m : Parts S L g) (turn : Turn) : Type 0 where
  pub leads : LeadsTo p k (At_point (state_of m))
  pub paced : Paced k others m turn

-- what comes next in a turn: an instruction that isn't plain, its end or that of the run
abbrev pub Comes_to : {S L : Type 0} {g : Ghosts S} → Program → State → Track → ℕ → Parts S L g → Turn → Answer → Type 0
Comes_to p start k others m turn Goes = Acts_next p start k others m turn
Comes_to p start k others m turn Rests = Rested p k others m turn
Comes_to p start k others m turn (Ends outcome) = LeadsTo p k (Over (state_of m) outcome) × IsOther outcome

-- what became of an instruction: the turn goes on behind it, it is over, or the run is
abbrev pub Came_to : {S L : Type 0} {g : Ghosts S} → Program → Track → ℕ → Parts S L g → Turn → Answer → Type 0
Came_to p k others m turn Goes = Between p k others m turn
Came_to p k others m turn Rests = Rested p k others m turn
Came_to p k others m turn (Ends outcome) = LeadsTo p k (Over (state_of m) outcome) × IsOther outcome
