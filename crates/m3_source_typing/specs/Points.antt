-- WHICH ANSWERS FIT AN ACTION: what others may tell an activation that stands at a point.
use Rattle.std.specs.Prelude.{◌≡◌, ◌<◌, ℕ, pos, Bool, true, false, length, Option, Some, None}
use Rattle.std.specs.Option.{option_map, option_and_then}
use Rattle.m3_core.specs.declared.program.ProcDef.{ProcDef}
use Rattle.m3_types.specs.declared.nodes.TypeId.{TypeId}
use Rattle.m3_runs.specs.Languages as asked
use Rattle.m3_runs.specs.Languages.{New, Service, Action, Calls, Makes, Forks, Serves, Passes, Answer, Gives, Raises, Fails}
use Rattle.m3_values.specs.Values.{Value, Ordinal, Nil, Pointer, Text, MainThread}
use Rattle.m3_values.specs.Integers.{is_between}
use Rattle.m3_values.specs.Programs.{Program, procedure_at}
use Rattle.m3_values.specs.Types.{holds_reference}
use Rattle.m3_values.specs.Places.{Thing, Is}
use Rattle.m3_values.specs.Store.{Cell, Made, Bytes, Forked, Store, cell_at}
use Rattle.m3_source_meaning.specs.Meanings.{Told}
use Rattle.m3_source_meaning.specs.Travelling.{argument_type, received}
use Rattle.m3_source_typing.specs.ValueTypes.{HasType}
use Rattle.m3_source_typing.specs.Stores.{IsLater, IsTyped}

-- ---- what services give

abbrev pub IsTruth : Value → Type 0
IsTruth (Ordinal z) = is_between (pos 0) (pos 1) z ≡ true
IsTruth _ = ⊥

abbrev pub IsByte : Value → Type 0
IsByte (Ordinal z) = is_between (pos 0) (pos 255) z ≡ true
IsByte _ = ⊥

-- the main thread, or the cell of another one
abbrev pub IsThreadCell : Option Cell → Type 0
IsThreadCell (Some (Forked number result is_joined)) = Unit {0}
IsThreadCell _ = ⊥

abbrev pub IsThread : Store → Value → Type 0
IsThread s MainThread = Unit {0}
IsThread s (Pointer c) = IsThreadCell (cell_at s c)
IsThread s _ = ⊥

-- any reference: what a thread comes to that is joined
abbrev pub IsAnyReference : Program → Store → Value → Type 0
IsAnyReference p s Nil = Unit {0}
IsAnyReference p s (Text n) = n < length p.texts
IsAnyReference p s MainThread = Unit {0}
IsAnyReference p s (Pointer c) = (cell : Cell) × (cell_at s c ≡ Some cell)
IsAnyReference p s _ = ⊥

abbrev pub ServiceGives : Program → Store → Service Thing → Option Thing → Type 0
ServiceGives p s asked.GetByte (Some (Is v)) = IsByte v
ServiceGives p s asked.EndOfInput (Some (Is v)) = IsTruth v
ServiceGives p s asked.TestAlert (Some (Is v)) = IsTruth v
ServiceGives p s asked.MySelf (Some (Is v)) = IsThread s v
ServiceGives p s (asked.Join t alertable) (Some (Is v)) = IsAnyReference p s v
ServiceGives p s (asked.Put form v) None = Unit {0}
ServiceGives p s (asked.Acquire m) None = Unit {0}
ServiceGives p s (asked.Release m) None = Unit {0}
ServiceGives p s (asked.Wait m c alertable) None = Unit {0}
ServiceGives p s (asked.Signal c) None = Unit {0}
ServiceGives p s (asked.Broadcast c) None = Unit {0}
ServiceGives p s (asked.Alert t) None = Unit {0}
ServiceGives p s _ _ = ⊥

abbrev pub is_alertable : Service Thing → Bool
is_alertable (asked.Join t alertable) = alertable
is_alertable (asked.Wait m c alertable) = alertable
is_alertable _ = false

-- the services that may not be given: a byte past the end of the input, a thread that was joined
-- before, and a mutex that the thread doesn't hold
abbrev pub may_fail : Service Thing → Bool
may_fail asked.GetByte = true
may_fail (asked.Join t alertable) = true
may_fail (asked.Release m) = true
may_fail (asked.Wait m c alertable) = true
may_fail _ = false

-- ---- what is made

-- A new cell of a type holds nothing yet: who asked for it stores the defaults. Every other is a
-- text.
abbrev pub IsMade : New Thing → Option Cell → Type 0
IsMade (asked.Cell kind sizes) (Some (Made k v holder)) = (k ≡ kind) × (v ≡ Nil)
IsMade (asked.Concatenated t u) (Some (Bytes bytes)) = Unit {0}
IsMade (asked.ByteText v) (Some (Bytes bytes)) = Unit {0}
IsMade (asked.Subtext t start count) (Some (Bytes bytes)) = Unit {0}
IsMade _ _ = ⊥

-- the cell whose defaults are still to be stored
abbrev pub new_cell : Action Thing → Answer Thing → Option ℕ
new_cell (Makes (asked.Cell kind sizes)) (Gives (Some (Is (Pointer c)))) = Some c
new_cell _ _ = None

module _ (p : Program) where
  -- ---- calls and exceptions

  abbrev pub result_type : ℕ → Option ℕ
  result_type procedure =
      option_and_then (λ (q : ProcDef). option_map (λ (t : TypeId). t.0) q.result)
      (procedure_at p procedure)

  abbrev pub IsResult : Store → Value → Option ℕ → Type 0
  IsResult s v None = ⊥
  IsResult s v (Some t) = HasType p s v t

  -- an exception with an argument has one of its type
  abbrev pub IsArgument : Store → Option Value → Option ℕ → Type 0
  IsArgument s v None = Unit {0}
  IsArgument s None (Some t) = ⊥
  IsArgument s (Some v) (Some t) = HasType p s v t

  abbrev pub received_one : (number tidy : Thing) → Option ℕ → Option Value
  received_one n t None = None
  received_one n t (Some kind) = received (holds_reference p kind) n t

  -- ---- THE TABLE

  abbrev pub AnswerFits : Store → Action Thing → Answer Thing → Type 0
  AnswerFits s (Calls q environment formals) (Gives None) = result_type q ≡ None
  AnswerFits s (Calls q environment formals) (Gives (Some (Is v))) = IsResult s v (result_type q)
  AnswerFits s (Calls q environment formals) (Raises e n t) =
      IsArgument s (received_one n t (argument_type p e)) (argument_type p e)
  AnswerFits s (Makes new) (Gives (Some (Is (Pointer c)))) = IsMade new (cell_at s c)
  AnswerFits s (Forks closure) (Gives (Some (Is v))) = IsThread s v
  AnswerFits s (Serves service) (Gives v) = ServiceGives p s service v
  AnswerFits s (Serves service) (Raises e n t) =
      (is_alertable service ≡ true) × (e ≡ p.alerted) × (argument_type p e ≡ None)
  AnswerFits s (Serves service) (Fails kind) = may_fail service ≡ true
  AnswerFits s Passes (Gives None) = Unit {0}
  AnswerFits s _ _ = ⊥

  -- what is told at a point where the store was this one: the answer fits, the store has only grown
  -- and is well typed, and a new cell has a new name
  pub record Fits (s : Store) (action : Action Thing) (told : Told) : Type 0 where
    pub answer : AnswerFits told.store action told.answer
    pub later : IsLater s told.store
    pub fresh : (c : ℕ) → new_cell action told.answer ≡ Some c → cell_at s c ≡ None
    pub typed : IsTyped p (new_cell action told.answer) told.store
