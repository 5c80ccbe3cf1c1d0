-- Laws of points and of runs.
use Rattle.std.specs.Prelude.{◌≡◌, ◌≢◌, ◌↔◌, ℕ, ◌<◌, ◌^◌, List, [], ◌∷◌, ◌++◌, Bool, true, false, if◌then◌else◌, Option, Some, None, slice_get}
use Rattle.m3_base.specs.declared.outcomes.FaultKind.{FaultKind}
use Rattle.m3_base.specs.declared.places.Pos.{Pos}
use Rattle.m3_mid.specs.declared.procs.Proc.{Proc}
use Rattle.m3_mid.specs.declared.procs.Block.{Block}
use Rattle.m3_mid.specs.declared.procs.Slot.{Slot}
use Rattle.m3_mid.specs.declared.procs.End.{End}
use Rattle.m3_mid.specs.declared.procs.End.TheVariants as ends
use Rattle.m3_mid.specs.declared.ops.MidOp.{MidOp}
use Rattle.m3_mid.specs.declared.ops.MidOp.TheVariants as ops
use Rattle.m3_mid.specs.declared.ops.Operand.{Operand}
use Rattle.m3_mid.specs.declared.ops.Relation.{Relation}
use Rattle.m3_mid_meaning.specs.Words.{IsNormal, Place, Outside}
use Rattle.m3_mid_meaning.specs.Memory.{Memory, Around, slot_address, is_own}
use Rattle.m3_mid_meaning.specs.States.{State, Ending, Faulted, Waiting, Undefined, Next, Goes, Ends, operand}
use Rattle.m3_mid_meaning.specs.Operations.{is_true}
use Rattle.m3_mid_meaning.specs.Points.{Event, Answer, Effect, Plain, Acts, Outcome, state_after}
use Rattle.m3_mid_meaning.specs.Meaning.{effect_of, Exit, To, Over, exit_of}
use Rattle.m3_mid_meaning.specs.Stops.{Code, code_of, bare, before, Stop, AtPoint, AtEnd}
use Rattle.m3_mid_meaning.specs.Runs.{Runs, RunsFrom, start_of, IsRun, FollowsRun, IsStop}

-- ---- runs

-- A procedure has at most one run for a list of answers: the same events, and the same end.
abbrev pub HasOneRun : Type 0
HasOneRun =
    (p : Proc) (around : Around) (memory : Memory) (answers : List Answer) (o o' : Outcome) →
    IsRun p around memory answers o → IsRun p around memory answers o' → o ≡ o'

-- events that begin with others
abbrev pub BeginsWith : List Event → List Event → Type 0
BeginsWith events first = (later : List Event) × (events ≡ first ++ later)

-- With more answers behind, a run that has ended stays as it is, and any run begins with the same
-- events.
pub record GoesOn (p : Proc) (around : Around) (memory : Memory)
    (answers : List Answer) (o : Outcome) : Type 0 where
  pub stays : (more : List Answer) → o.ending ≢ Waiting → IsRun p around memory (answers ++ more) o
  pub begins :
      (more : List Answer) (o' : Outcome) → IsRun p around memory (answers ++ more) o' →
      BeginsWith o'.events o.events

abbrev pub GoesOnBehind : Type 0
GoesOnBehind =
    (p : Proc) (around : Around) (memory : Memory) (answers : List Answer) (o : Outcome) →
    IsRun p around memory answers o → GoesOn p around memory answers o

-- What follows what follows a procedure follows it.
pub record Composes (p q r : Proc) : Type 0 where
  pub itself : FollowsRun p p
  pub chained : FollowsRun p q → FollowsRun q r → FollowsRun p r

abbrev pub FollowingComposes : Type 0
FollowingComposes = (p q r : Proc) → Composes p q r

-- Where one procedure follows another, they have the same runs wherever runs are defined.
abbrev pub SameWhereDefined : Type 0
SameWhereDefined =
    (p q : Proc) → FollowsRun p q →
    (around : Around) (memory : Memory) (answers : List Answer) (o : Outcome) →
    o.ending ≢ Undefined → IsRun p around memory answers o →
    (o' : Outcome) → IsRun p around memory answers o' ↔ IsRun q around memory answers o'

-- a run that ends at once
abbrev pub ended : Ending → Outcome
ended ending = record { events = []; ending = ending }

-- An If goes on at its first block where the relation holds, and at its second one where it doesn't.
abbrev pub TakesOneArm : Type 0
TakesOneArm =
    (p : Proc) (around : Around) (s : State) (answers : List Answer) (o : Outcome) →
    (relation : Relation) (left right : Operand) (target other : ℕ) (test : Bool) →
    is_true relation (operand s left) (operand s right) ≡ Some test →
    Runs p around (bare (ends.If relation left right target other)) s answers o
    ↔ RunsFrom p around (if test then target else other) s answers o

-- A check whose relation doesn't hold ends the run, with its own fault at its own place and with no
-- event, whatever stands behind it.
abbrev pub KeepsFault : Type 0
KeepsFault =
    (p : Proc) (around : Around) (s : State) (answers : List Answer) (o : Outcome) →
    (relation : Relation) (left right : Operand) (kind : FaultKind) (place : Pos) (rest : Code) →
    is_true relation (operand s left) (operand s right) ≡ Some false →
    Runs p around (before (ops.Check relation left right kind place) rest) s answers o
    ↔ (o ≡ ended (Faulted kind place))

-- ---- points

-- Behind a point each temporary is what it was, and so are the environment and the slots that aren't
-- shared; whatever an address may lead to is as the answer has it.
pub record KeepsOwn (slots : List Slot) (around : Around)
    (s after : State) (answer : Answer) : Type 0 where
  pub temps : (t : ℕ) → after.temps t ≡ s.temps t
  pub environment : after.environment ≡ s.environment
  pub own : (n : ℕ) → after.own n ≡ s.own n
  pub others :
      (place : Place) → is_own slots around place ≡ false →
      after.memory.words place ≡ answer.memory.words place
  pub shared :
      (n : ℕ) (slot : Slot) → n < 2 ^ 32 → slice_get slots n ≡ Some slot → slot.is_shared ≡ true →
      after.memory.words (Outside (slot_address around n))
      ≡ answer.memory.words (Outside (slot_address around n))

abbrev pub KeepsOwnWords : Type 0
KeepsOwnWords =
    (slots : List Slot) (around : Around) (s : State) (answer : Answer) →
    KeepsOwn slots around s (state_after slots around s answer) answer

-- ---- states

-- What holds wherever an activation stands: each temporary is in normal form, and memory has none of
-- the own words, so that no address leads to them.
pub record IsProper (slots : List Slot) (around : Around) (s : State) : Type 0 where
  pub temps : (t : ℕ) → IsNormal (s.temps t)
  pub hidden : (place : Place) → is_own slots around place ≡ true → s.memory.words place ≡ None

abbrev pub GoesProperly : List Slot → Around → Next → Type 0
GoesProperly slots around (Goes s) = IsProper slots around s
GoesProperly slots around (Ends ending) = Unit {0}

abbrev pub ActsProperly : List Slot → Around → Effect → Type 0
ActsProperly slots around (Plain next) = GoesProperly slots around next
ActsProperly slots around (Acts event reply) =
    (answer : Answer) → GoesProperly slots around (reply answer)

pub record StaysProper (p : Proc) (around : Around) : Type 0 where
  pub start : (memory : Memory) → IsProper p.slots.now around (start_of p around memory)
  pub goes_on :
      (s : State) (op : MidOp) → IsProper p.slots.now around s →
      ActsProperly p.slots.now around (effect_of p.slots.now around s op)

abbrev pub AreProper : Type 0
AreProper = (p : Proc) (around : Around) → StaysProper p around

-- ---- steps

abbrev pub preceded : Event → Outcome → Outcome
preceded event o = record { events = event ∷ o.events; ending = o.ending }

-- the run from here on, in the next state
abbrev pub FollowsNext : Proc → Around → Code → Next → List Answer → Outcome → Type 0
FollowsNext p around code (Goes s) answers o = Runs p around code s answers o
FollowsNext p around code (Ends ending) answers o = o ≡ ended ending

-- the run behind an operation: a point takes an answer, and where none is left the run waits there
abbrev pub FollowsEffect : Proc → Around → Code → Effect → List Answer → Outcome → Type 0
FollowsEffect p around code (Plain next) answers o = FollowsNext p around code next answers o
FollowsEffect p around code (Acts event reply) [] o = o ≡ preceded event (ended Waiting)
FollowsEffect p around code (Acts event reply) (answer ∷ answers) o =
    (later : Outcome)
    × FollowsNext p around code (reply answer) answers later
    × (o ≡ preceded event later)

abbrev pub FollowsExit : Proc → Around → Exit → State → List Answer → Outcome → Type 0
FollowsExit p around (To block) s answers o = RunsFrom p around block s answers o
FollowsExit p around (Over ending) s answers o = o ≡ ended ending

abbrev pub FollowsBlock : Proc → Around → Option Block → State → List Answer → Outcome → Type 0
FollowsBlock p around None s answers o = o ≡ ended Undefined
FollowsBlock p around (Some block) s answers o = Runs p around (code_of block) s answers o

-- A run is made of the effects of operations, one after the other, and of where the ends of blocks
-- lead.
pub record IsStepwise (p : Proc) (around : Around)
    (s : State) (answers : List Answer) (o : Outcome) : Type 0 where
  pub operation :
      (op : MidOp) (rest : Code) →
      Runs p around (before op rest) s answers o
      ↔ FollowsEffect p around rest (effect_of p.slots.now around s op) answers o
  pub end :
      (end : End) →
      Runs p around (bare end) s answers o
      ↔ FollowsExit p around (exit_of s end) s answers o
  pub block :
      (b : ℕ) →
      RunsFrom p around b s answers o ↔ FollowsBlock p around (slice_get p.blocks.now b) s answers o

abbrev pub GoesStepwise : Type 0
GoesStepwise =
    (p : Proc) (around : Around) (s : State) (answers : List Answer) (o : Outcome) →
    IsStepwise p around s answers o

-- ---- stops

-- the run from a stop on: a point takes an answer, and where none is left the run waits there
abbrev pub FollowsStop : Proc → Around → Stop → List Answer → Outcome → Type 0
FollowsStop p around (AtPoint event reply code) answers o =
    FollowsEffect p around code (Acts event reply) answers o
FollowsStop p around (AtEnd ending) answers o = o ≡ ended ending

-- A run is the chain of its stops. Where an activation goes on, it has one next stop at most.
pub record IsChain (p : Proc) (around : Around) (code : Code) (s : State) : Type 0 where
  pub run :
      (answers : List Answer) (o : Outcome) →
      Runs p around code s answers o
      ↔ ((stop : Stop) × IsStop p around code s stop × FollowsStop p around stop answers o)
  pub one :
      (stop stop' : Stop) → IsStop p around code s stop → IsStop p around code s stop' →
      stop ≡ stop'

abbrev pub GoesByStops : Type 0
GoesByStops = (p : Proc) (around : Around) (code : Code) (s : State) → IsChain p around code s
