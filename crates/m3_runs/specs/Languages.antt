-- What a run is made of, whatever its program is written in: activations, which go on from one
-- point to the next, and the actions at these points.
use Rattle.std.specs.Prelude.{ℕ, Bool, List, Option}
use Rattle.m3_base.specs.declared.outcomes.FaultKind.{FaultKind}

-- ---- what is done at a point

-- in which form a value is put
pub data Form : Type 0 where
  Text : Form
  Decimal : Form
  Byte : Form

-- What is made: a cell of a type, with the sizes of its open dimensions; the text of two texts
-- behind one another, of one byte, or of the part of a text; or the cell of a thread.
pub data New (V : Type 0) : Type 0 where
  Cell : (kind : ℕ) (sizes : List V) → New V
  Concatenated : (first second : V) → New V
  ByteText : (byte : V) → New V
  Subtext : (text start length : V) → New V
  ThreadCell : (number : ℕ) → New V

-- What everybody shares serves a thread: output and input, mutexes, conditions, threads and
-- alerts. A Join or Wait that is alertable is left by the exception Alerted where the thread's
-- mark is set.
pub data Service (V : Type 0) : Type 0 where
  Put : Form → V → Service V
  GetByte : Service V
  EndOfInput : Service V
  Join : (thread : V) (alertable : Bool) → Service V
  Acquire : (mutex : V) → Service V
  Release : (mutex : V) → Service V
  Wait : (mutex condition : V) (alertable : Bool) → Service V
  Signal : (condition : V) → Service V
  Broadcast : (condition : V) → Service V
  MySelf : Service V
  Alert : (thread : V) → Service V
  TestAlert : Service V

-- The action at a point: a procedure is called, with the environment of its names and its formals;
-- something is made; a thread is begun, which applies a closure; a service; or nothing.
pub data Action (V : Type 0) : Type 0 where
  Calls : (procedure : ℕ) (environment : V) (formals : List V) → Action V
  Makes : New V → Action V
  Forks : (closure : V) → Action V
  Serves : Service V → Action V
  Passes : Action V

-- What an action comes to, or a procedure that is called: it gives a value or none; it is left by
-- an exception, with its argument as a number and as a reference; or a service can't be given, and
-- the activation that asked for it knows the place of this fault.
pub data Answer (V : Type 0) : Type 0 where
  Gives : Option V → Answer V
  Raises : (exception : ℕ) (number tidy : V) → Answer V
  Fails : FaultKind → Answer V

-- What an activation comes to when it goes on: it stands at the next point; it is left; it faults
-- at a place; or what it does isn't defined.
pub data Move (S V M : Type 0) : Type 0 where
  Acts : Action V → S → M → Move S V M
  Leaves : Answer V → M → Move S V M
  Faults : FaultKind → (file line : ℕ) → Move S V M
  Breaks : Move S V M

-- a procedure that is called begins, and comes to its first move; or the stack has no room for it
pub data Entered (S V M : Type 0) : Type 0 where
  Begins : Move S V M → Entered S V M
  Overflows : Entered S V M

-- ---- threads

-- What a thread waits for, if anything: a mutex that it wants; to be woken, where it sleeps on a
-- condition, at a place in the queues of all conditions; the end of a thread.
pub data Status (V : Type 0) : Type 0 where
  Ready : Status V
  Wants : (mutex : V) → Status V
  Waits : (mutex condition : V) (place : ℕ) (alertable : Bool) → Status V
  Joins : (thread : V) (alertable : Bool) → Status V

-- A thread that has not ended: the action at the point where it stands, its alert mark, its own
-- cell, and its activations, the newest first.
pub record Thread (S V : Type 0) : Type 0 where
  pub action : Action V
  pub status : Status V
  pub alerted : Bool
  pub cell : V
  pub stack : List S

-- what the cell of a thread tells of it
pub data Life (V : Type 0) : Type 0 where
  Alive : Life V
  Ended : (result : V) → Life V
  Joined : Life V

-- how the stack of a thread begins: its lowest activation stands at this action
pub record Begun (S V : Type 0) : Type 0 where
  pub action : Action V
  pub lowest : S

-- The threads by their numbers, with none in place of one that has ended, and memory: what a
-- collection changes.
pub record Parts (S V M : Type 0) : Type 0 where
  pub threads : List (Option (Thread S V))
  pub memory : M

-- ---- languages

-- A LANGUAGE says what its activations are, and how memory is read and changed for everybody. What
-- a relation or a function with no answer doesn't say isn't defined.
pub record Language (S V M : Type 0) : Type 1 where
  -- a procedure is called above these older activations
  pub enters : List S → (procedure : ℕ) → (environment : V) → (formals : List V) → M
      → Entered S V M → Type 0
  -- an activation at a point is told the answer to its action, and goes on
  pub goes : S → Answer V → M → Move S V M → Type 0
  -- the variables that are shown while it stands there, by their places among its procedure's
  pub shows : M → S → List (ℕ × V)
  -- the thread of a number makes something; None: there is no room, not even once the heap was
  -- collected
  pub makes : Parts S V M → (thread : ℕ) → New V → Option V → Parts S V M → Type 0
  pub collects : Parts S V M → Parts S V M → Type 0
  -- numbers as values, references that are the same, and the bytes of a value that is put
  pub number : ℕ → V
  pub is_same : V → V → Bool
  pub bytes : M → Form → V → Option (List ℕ)
  -- who holds a mutex: the number of a thread and 1, or 0 for nobody
  pub holder : M → V → Option ℕ
  pub hold : M → V → (holder : ℕ) → Option M
  -- a thread's cell: its number, what it tells, and what it becomes by a Join and by the thread's
  -- end
  pub number_of : M → V → Option ℕ
  pub life : M → V → Option (Life V)
  pub join : M → V → Option M
  pub end_with : M → V → (result : V) → Option M
  -- the number of the exception Alerted
  pub alerted : ℕ
  -- how a thread begins that applies a closure, and how the main thread does, with its cell and
  -- the memory at the start
  pub begins : M → (closure : V) → Option (Begun S V)
  pub main : Begun S V
  pub main_cell : V
  pub memory : M
