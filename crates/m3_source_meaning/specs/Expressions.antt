-- EXPRESSIONS: one line for each form of the checked tree, from the meanings of its parts. What
-- the words of a line mean is said in Designators, Operators, Constructors, Calls and Routines.
use Rattle.std.specs.Prelude.{ℕ, ◌-◌, true, false, List, [], ◌∷◌, Option, Some, None}
use Rattle.std.specs.Option.{option_map, option_and_then}
use Rattle.m3_base.specs.declared.places.Pos.{Pos}
use Rattle.m3_types.specs.declared.nodes.TypeId.{TypeId}
use Rattle.m3_core.specs.declared.calls.Actual.TheFolds as folds
use Rattle.m3_core.specs.declared.calls.Actual.TheOpen as layer
use Rattle.m3_core.specs.declared.chains.Chain.{Chain}
use Rattle.m3_core.specs.declared.calls.BuiltinCall.{BuiltinCall}
use Rattle.m3_core.specs.declared.exprs.CoreExpr.{CoreExpr}
use Rattle.m3_values.specs.Values.{Value, Ordinal, Nil, Text, Procedure}
use Rattle.m3_values.specs.Programs.{Program, procedure_at}
use Rattle.m3_values.specs.Types.{bounds, index_in, node_of}
use Rattle.m3_values.specs.Constants.{constant_at}
use Rattle.m3_values.specs.Places.{Global, Thing, Is, At, whole}
use Rattle.m3_source_meaning.specs.Meanings.{Evaluates, given, undefined, there, ◌>>=◌}
use Rattle.m3_source_meaning.specs.Phrases.{Here, Expression, Chained, Based, Before, Stepped, Operated, Adding, Valued, Passing, By_value, By_place, Served}
use Rattle.m3_source_meaning.specs.Designators.{named, alias, subarray, read_step, keep_step, dereferenced, field_step, object_field_of, element_step, by_value, chained, activation_at}
use Rattle.m3_source_meaning.specs.Operators.{prefixed, operations, converted, type_test, array_limit}
use Rattle.m3_source_meaning.specs.Constructors.{with_one, with_all, set_of, array_value, record_of, new_cell}
use Rattle.m3_source_meaning.specs.Calls.{call_of, method_call}
use Rattle.m3_source_meaning.specs.Routines.{routine_call}

-- a node of the tree whose parts are known by their meanings
abbrev pub Over : (Type 0 → Type 0 → Type 0 → Type 0 → Type 0 → Type 0 → Type 0 → Type 0 → Type 0
    → Type 0 → Type 0) → Type 0
Over Node = Node Passing Based Stepped Expression Adding Served Chained Valued Valued Operated

abbrev pub type_of : Option TypeId → Option ℕ
type_of t = option_map (λ (t : TypeId). t.0) t

-- an expression that is never a place
abbrev pub plain : Pos → TypeId → Evaluates Value → Expression
plain at kind e =
    record { pos = at; kind = Some kind.0; value = e; unread = e >>= (λ v. given (Is v)) }

abbrev pub as_value : Thing → Evaluates Value
as_value (Is v) = given v
as_value (At place) = undefined

abbrev pub of_chain : Chained → Expression
of_chain c = record { pos = c.pos; kind = c.kind; value = c.thing >>= as_value; unread = c.unread }

abbrev pub of_call : Served → Expression
of_call call = record {
  pos = call.pos;
  kind = call.kind;
  value = call.value;
  unread = call.value >>= (λ v. given (Is v));
}

-- operators in a row have the type of the last one
abbrev pub last_kind : Option ℕ → List Operated → Option ℕ
last_kind kind [] = kind
last_kind kind (o ∷ os) = last_kind o.kind os

abbrev pub of_operations : Pos → Expression → List Operated → Expression
of_operations at first rest = record {
  pos = at;
  kind = last_kind first.kind rest;
  value = operations first rest;
  unread = operations first rest >>= (λ v. given (Is v));
}

-- what a chain begins with, where it doesn't end in a read
abbrev pub based : Option ℕ → (Pos → Evaluates Thing) → Based
based kind e = record { kind = kind; thing = e; unread = e }

abbrev pub stepped : Option ℕ → (Before → Thing → Evaluates Thing) → Stepped
stepped kind goes = record { kind = kind; is_read = false; goes = goes }

module _ (p : Program) (here : Here) where
  -- ---- chains

  abbrev pub base_of : Over layer.Base-F → Based
  base_of (layer.Global x kind) = based (Some kind.0) (λ at. given (At (whole (Global x))))
  base_of (layer.Local level x kind) = based (Some kind.0) (λ at. named p here level x)
  base_of (layer.Alias level x kind) = based (Some kind.0) (λ at. alias p here level x)
  base_of (layer.Inner chain) = record {
    kind = chain.now.kind;
    thing = λ at. chain.now.thing;
    unread = λ at. chain.now.unread;
  }
  base_of (layer.Subarray array start count kind) =
      based (Some kind.0) (λ at. subarray p here at array.now start.now count.now)
  base_of (layer.Base::Value e) = record {
    kind = e.now.kind;
    thing = λ at. e.now.value >>= (λ v. given (Is v));
    unread = λ at. e.now.unread;
  }

  abbrev pub step_of : Over layer.Step-F → Stepped
  step_of (layer.Read kind) =
      record { kind = Some kind.0; is_read = true; goes = λ before. read_step p here }
  step_of (layer.Keep kind) = stepped (Some kind.0) (λ before. keep_step p here)
  step_of (layer.Dereference kind) =
      stepped (Some kind.0) (λ before. by_value p here (dereferenced p here before.pos))
  step_of (layer.Field f kind) = stepped (Some kind.0) (λ before. field_step p here f)
  step_of (layer.ObjectField owner f kind) =
      stepped (Some kind.0)
      (λ before. by_value p here (object_field_of p here before.pos owner.0 f))
  step_of (layer.Element index kind) =
      stepped (Some kind.0) (λ before. element_step p here index.now before.kind)
  step_of (layer.Call actuals kind) =
      stepped (type_of kind) (λ before. by_value p here (call_of p before actuals.now))
  step_of (layer.MethodCall owner method actuals kind) = stepped (type_of kind)
      (λ before. by_value p here (method_call p before.pos owner.0 method actuals.now))

  abbrev pub chain_of : Over layer.Chain-F → Chained
  chain_of c = chained p here c.pos c.base c.steps.now (type_of c.kind)

  -- ---- parts of expressions

  abbrev pub actual_of : Over layer.Actual-F → Passing
  actual_of (layer.Actual::Value formal kind e) = By_value formal kind.0 e.now
  actual_of (layer.Place formal kind place checks_shape) =
      By_place formal kind.0 place.now checks_shape

  abbrev pub set_element_of : Over layer.SetElement-F → Adding
  set_element_of (layer.One e) = with_one e.now
  set_element_of (layer.Range first last) = with_all first.now last.now

  abbrev pub binding_of : Over layer.Binding-F → Valued
  binding_of b = record { owner = type_of b.owner; field = b.field; value = b.value.now }

  abbrev pub field_of : Over layer.FieldValue-F → Valued
  field_of f = record { owner = None; field = f.field; value = f.value.now }

  abbrev pub operation_of : Over layer.Operation-F → Operated
  operation_of o =
      record { operator = o.operator; pos = o.pos; right = o.right.now; kind = Some o.kind.0 }

  abbrev pub routine_of : Over layer.BuiltinCall-F → Served
  routine_of c = record {
    pos = c.pos;
    kind = type_of c.kind;
    value = routine_call p c.routine c.pos c.actuals.now c.order.now (type_of c.kind);
  }

  -- ---- procedures as values

  -- a procedure inside another one, with the activation around it at this moment
  abbrev pub inner_procedure : ℕ → Evaluates Value
  inner_procedure procedure = do
    q ← there (procedure_at p procedure)
    activation ← activation_at p here (q.level - 1)
    given (Procedure procedure (Some activation))

  -- ---- expressions

  abbrev pub expression_of : Over layer.CoreExpr-F → Expression
  expression_of (layer.Number at kind n) = plain at kind (given (Ordinal n))
  expression_of (layer.Text at kind text) = plain at kind (given (Text text))
  expression_of (layer.Nil at kind) = plain at kind (given Nil)
  expression_of (layer.Procedure at kind procedure) =
      plain at kind (given (Procedure procedure None))
  expression_of (layer.InnerProcedure at kind procedure) = plain at kind (inner_procedure procedure)
  expression_of (layer.Constant at kind value) =
      plain at kind (there (constant_at p kind.0 value.0))
  expression_of (layer.Chain chain) = of_chain chain.now
  expression_of (layer.Builtin call) = of_call call.now
  expression_of (layer.Prefixed at kind operators operand) =
      plain at kind (operand.now.value >>= prefixed operators.now)
  expression_of (layer.Operations at first rest) = of_operations at first.now rest.now
  expression_of (layer.SetOf at kind elements) = plain at kind (set_of elements.now [])
  expression_of (layer.ArrayOf at kind elements is_filled) =
      plain at kind (array_value p kind.0 elements.now is_filled)
  expression_of (layer.RecordOf at kind fields) = plain at kind (record_of fields.now)
  expression_of (layer.New at kind made sizes bindings) =
      plain at kind (new_cell p made.0 sizes.now bindings.now)
  expression_of (layer.Convert at kind check operand) =
      plain at kind (operand.now.value >>= converted p check at kind.0)
  expression_of (layer.TypeTest at kind operand tested) =
      plain at kind (operand.now.value >>= type_test p tested.0)
  expression_of (layer.ArrayLimit at kind limit array) = plain at kind
      (array_limit p limit
      (option_and_then (λ t. option_and_then (bounds p) (index_in (node_of p t))) array.now.kind)
      array.now)

  -- ---- whole trees

  -- THE MEANING OF AN EXPRESSION in an activation
  abbrev pub expression : CoreExpr → Expression
  expression = folds.fold-CoreExpr
      Passing Based Stepped Expression Adding Served Chained Valued Valued Operated
      actual_of base_of step_of expression_of set_element_of routine_of chain_of binding_of
      field_of operation_of

  abbrev pub chain : Chain → Chained
  chain = folds.fold-Chain
      Passing Based Stepped Expression Adding Served Chained Valued Valued Operated
      actual_of base_of step_of expression_of set_element_of routine_of chain_of binding_of
      field_of operation_of

  abbrev pub routine : BuiltinCall → Served
  routine = folds.fold-BuiltinCall
      Passing Based Stepped Expression Adding Served Chained Valued Valued Operated
      actual_of base_of step_of expression_of set_element_of routine_of chain_of binding_of
      field_of operation_of
