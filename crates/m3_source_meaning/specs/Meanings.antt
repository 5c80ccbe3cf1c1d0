-- WHAT A MEANING IS. A phrase of a procedure is known by where it leads, given what follows it:
-- what follows is a function for each way in which the phrase can be left. At a point the answer
-- to the action is taken from a list, so a meaning is a function of all that others may do.
use Rattle.std.specs.Prelude.{ℕ, Bool, true, false, List, [], ◌∷◌, ◌++◌, Option, Some, None}
use Rattle.m3_base.specs.declared.outcomes.FaultKind.{FaultKind}
use Rattle.m3_base.specs.declared.places.Pos.{Pos}
use Rattle.m3_runs.specs.Languages.{Action, Answer}
use Rattle.m3_values.specs.Values.{Value}
use Rattle.m3_values.specs.Integers.{Computed, Result, Fault}
use Rattle.m3_values.specs.Places.{Place, Thing}
use Rattle.m3_values.specs.Store.{Variables, Store, Memory, read, write, value_now}

-- ---- what stands around a phrase, and where it leads

-- an answer to an action, and the store as it is then
pub record Told : Type 0 where
  pub answer : Answer Thing
  pub store : Store

-- an exception that travels, with its argument where it has one
pub record Raised : Type 0 where
  pub exception : ℕ
  pub argument : Option Value

-- what stands around a phrase: the variables that are in scope, and what was evaluated before and
-- is still waited for: values, and places that are fixed
pub record Around : Type 0 where
  pub scope : List ℕ
  pub held : List Thing

-- an activation that stands at a point: its own variables, those in scope, and what it holds
pub record Standing : Type 0 where
  pub own : Variables
  pub scope : List ℕ
  pub held : List Thing

-- WHERE A TURN LEADS: to a point for which no answer is left, out of the procedure, or to a fault;
-- or it isn't defined, which no well formed program comes to
pub data End : Type 0 where
  Waits : Action Thing → Standing → Store → End
  Left : Answer Thing → Store → End
  Faulted : FaultKind → Pos → End
  Undefined : End

-- memory, and the answers that are left
pub record Now : Type 0 where
  pub memory : Memory
  pub answers : List Told

-- THE WAYS OUT of a phrase: it gives something and what follows goes on; an exception leaves it;
-- EXIT does; or RETURN does, with the value that is returned
pub record Exits (A : Type 0) : Type 0 where
  pub gives : A → Now → End
  pub raised : Raised → Now → End
  pub exit : Now → End
  pub return : Option Value → Now → End

-- THE MEANING of a phrase that gives something, as an expression its value
abbrev pub Evaluates : Type 0 → Type 0
Evaluates A = Around → Now → Exits A → End

-- a statement gives nothing but its end
abbrev pub Acts : Type 0
Acts = Evaluates (Unit {0})

-- ---- one phrase behind another

abbrev pub given : {A : Type 0} → A → Evaluates A
given x around now exits = exits.gives x now

abbrev pub done : Acts
done around now exits = exits.gives tt now

infixl 10 ◌>>=◌
abbrev pub ◌>>=◌ : {A B : Type 0} → Evaluates A → (A → Evaluates B) → Evaluates B
(first >>= next) around now exits = first around now (record {
  gives = λ x later. next x around later exits;
  raised = exits.raised;
  exit = exits.exit;
  return = exits.return;
})

infixl 10 ◌>>◌
abbrev pub ◌>>◌ : {B : Type 0} → Acts → Evaluates B → Evaluates B
first >> next = first >>= (λ u. next)

-- the phrase, while something else is waited for
abbrev pub holding : {A : Type 0} → Thing → Evaluates A → Evaluates A
holding thing e around = e (record around { held = thing ∷ around.held })

abbrev pub holding_all : {A : Type 0} → List Thing → Evaluates A → Evaluates A
holding_all things e around = e (record around { held = things ++ around.held })

-- the phrase, where more variables are in scope
abbrev pub in_scope : {A : Type 0} → List ℕ → Evaluates A → Evaluates A
in_scope variables e around = e (record around { scope = around.scope ++ variables })

-- ---- faults, and what can't happen

abbrev pub fault : {A : Type 0} → FaultKind → Pos → Evaluates A
fault kind pos around now exits = Faulted kind pos

abbrev pub undefined : {A : Type 0} → Evaluates A
undefined around now exits = Undefined

-- something that is there in a well formed program
abbrev pub there : {A : Type 0} → Option A → Evaluates A
there None = undefined
there (Some x) = given x

-- the result of a computation, which may fault at a place
abbrev pub computed : {A : Type 0} → Pos → Computed A → Evaluates A
computed pos (Result x) = given x
computed pos (Fault kind) = fault kind pos

-- a check
abbrev pub unless : FaultKind → Pos → (fails : Bool) → Acts
unless kind pos true = fault kind pos
unless kind pos false = done

abbrev pub choose : {A : Type 0} → Bool → A → A → A
choose true x y = x
choose false x y = y

-- ---- memory

-- what memory says, where it says something
abbrev pub seeing : {A : Type 0} → (Memory → Option A) → Evaluates A
seeing look around now exits = there (look now.memory) around now exits

-- memory becomes another one
abbrev pub changing : (Memory → Option Memory) → Acts
changing change around now =
    (there (change now.memory) >>= (λ memory around later exits.
    exits.gives tt (record later { memory = memory }))) around now

abbrev pub reading : Place → Evaluates Value
reading place = seeing (λ m. read m place)

-- the value of a thing at this moment
abbrev pub valued : Thing → Evaluates Value
valued thing = seeing (λ m. value_now m thing)

abbrev pub writing : Place → Value → Acts
writing place v = changing (write place v)

-- ---- points

abbrev pub standing : Around → Now → Standing
standing around now =
    record { own = now.memory.own; scope = around.scope; held = around.held }

-- A POINT: the next answer is what the action came to, and the store is what all others made of it
abbrev pub answered : Action Thing → Around → Now → List Told → Exits (Answer Thing) → End
answered action around now [] exits = Waits action (standing around now) now.memory.store
answered action around now (told ∷ answers) exits =
    exits.gives told.answer
    (record { memory = record now.memory { store = told.store }; answers = answers })

abbrev pub acting : Action Thing → Evaluates (Answer Thing)
acting action around now = answered action around now now.answers

-- the exception leaves the phrase
abbrev pub raising : {A : Type 0} → Raised → Evaluates A
raising r around now exits = exits.raised r now
