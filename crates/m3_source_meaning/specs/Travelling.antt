-- What travels between activations: results, and exceptions with their arguments.
use Rattle.std.specs.Prelude.{ℕ, Bool, true, false, Option, Some, None, slice_get}
use Rattle.std.specs.Option.{option_map, option_and_then}
use Rattle.m3_core.specs.declared.program.ExcDef.{ExcDef}
use Rattle.m3_types.specs.declared.nodes.TypeId.{TypeId}
use Rattle.m3_runs.specs.Languages.{Answer, Gives, Raises, Fails}
use Rattle.m3_values.specs.Values.{Value, Nil, number}
use Rattle.m3_values.specs.Programs.{Program}
use Rattle.m3_values.specs.Types.{holds_reference}
use Rattle.m3_values.specs.Places.{Thing, Is, At}
use Rattle.m3_source_meaning.specs.Meanings.{Raised, Evaluates, given, undefined, raising}

-- The argument of an exception goes as a number, or where it holds a reference as a reference.
abbrev pub sent : ℕ → Bool → Value → Answer Thing
sent exception true v = Raises exception (Is (number 0)) (Is v)
sent exception false v = Raises exception (Is v) (Is (number 0))

abbrev pub received : Bool → (number tidy : Thing) → Option Value
received true n (Is v) = Some v
received false (Is v) t = Some v
received _ n t = None

module _ (p : Program) where
  -- the type of an exception's argument; none where it has none
  abbrev pub argument_type : ℕ → Option ℕ
  argument_type exception =
      option_and_then (λ (e : ExcDef). option_map (λ (t : TypeId). t.0) e.argument)
      (slice_get p.exceptions exception)

  abbrev pub sent_as : ℕ → Option Value → Option ℕ → Answer Thing
  sent_as exception (Some v) (Some t) = sent exception (holds_reference p t) v
  sent_as exception _ _ = Raises exception (Is (number 0)) (Is (number 0))

  -- an exception that leaves a procedure
  abbrev pub raised_answer : Raised → Answer Thing
  raised_answer r = sent_as r.exception r.argument (argument_type r.exception)

  abbrev pub received_as : (number tidy : Thing) → Option ℕ → Option Value
  received_as n t None = None
  received_as n t (Some kind) = received (holds_reference p kind) n t

  -- an exception by which an action is left
  abbrev pub raised_by : ℕ → (number tidy : Thing) → Raised
  raised_by exception n t =
      record { exception = exception; argument = received_as n t (argument_type exception) }

  -- what a call comes to; one without a result gives NIL, which nobody asks for
  abbrev pub result_of : Answer Thing → Evaluates Value
  result_of (Gives None) = given Nil
  result_of (Gives (Some (Is v))) = given v
  result_of (Gives (Some (At place))) = undefined
  result_of (Raises exception n t) = raising (raised_by exception n t)
  result_of (Fails kind) = undefined
