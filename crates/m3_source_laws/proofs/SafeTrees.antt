-- Each expression of the checked tree is safe, by induction over trees.
use Rattle.std.proofs.Common.{◌≡◌, ℕ, List, [], ◌∷◌, ◌++◌, Option, None, map, sym, ap, ◌∙◌, subst}
use Rattle.std.specs.Option.{option_and_then}
use Rattle.m3_base.specs.declared.places.Pos.{Pos}
use Rattle.m3_core.specs.declared.calls.Actual.TheFolds as folds
use Rattle.m3_core.specs.declared.calls.Actual.TheOpen as layer
use Rattle.m3_core.specs.declared.calls.Actual.{Actual, roll-Actual}
use Rattle.m3_core.specs.declared.chains.Base.{Base, roll-Base}
use Rattle.m3_core.specs.declared.chains.Step.{Step, roll-Step}
use Rattle.m3_core.specs.declared.exprs.CoreExpr.{CoreExpr, roll-CoreExpr}
use Rattle.m3_core.specs.declared.exprs.SetElement.{SetElement, roll-SetElement}
use Rattle.m3_core.specs.declared.calls.BuiltinCall.{BuiltinCall, roll-BuiltinCall}
use Rattle.m3_core.specs.declared.chains.Chain.{Chain, roll-Chain}
use Rattle.m3_core.specs.declared.exprs.Binding.{Binding, roll-Binding}
use Rattle.m3_core.specs.declared.exprs.FieldValue.{FieldValue, roll-FieldValue}
use Rattle.m3_core.specs.declared.exprs.Operation.{Operation, roll-Operation}
use Rattle.m3_values.specs.Values.{Value}
use Rattle.m3_values.specs.Programs.{Program}
use Rattle.m3_core.specs.declared.exprs.ArrayLimit.{ArrayLimit}
use Rattle.m3_values.specs.Types.{bounds, index_in, node_of}
use Rattle.m3_values.specs.Places.{Thing, Is, At}
use Rattle.m3_source_meaning.specs.Meanings.{Evaluates, given, ◌>>=◌}
use Rattle.m3_source_meaning.specs.Phrases.{Here, Expression, Chained, Based, Stepped, Operated, Adding, Valued, Passing, Served}
use Rattle.m3_source_meaning.specs.Expressions as expressions
use Rattle.m3_source_meaning.specs.Expressions.{actual_of, base_of, step_of, expression_of, set_element_of, routine_of, chain_of, binding_of, field_of, operation_of, expression, chain, routine, type_of}
use Rattle.m3_source_meaning.specs.Designators as designators
use Rattle.m3_source_meaning.specs.Operators as operators
use Rattle.m3_source_meaning.specs.Trees as trees_of
use Rattle.m3_source_meaning.proofs.Trees as trees
use Rattle.m3_source_meaning.specs.Sharing.{Use, Uses, all_of, in_expression, in_chain, in_call, actual_uses, base_uses, step_uses, expression_uses, element_uses, call_uses, chain_uses, binding_uses, field_uses, operation_uses}
use Rattle.m3_source_laws.specs.Own.{AllOf}
use Rattle.m3_source_laws.proofs.Uses as uses
use Rattle.m3_source_laws.proofs.Safe.{Invariant, Within, Safe, safe_given, gives_given, safe_bind, gives_bind, gives_any, gives_so, safe_undefined, safe_there}
use Rattle.m3_source_laws.proofs.SafeExpressions.{SafeExpression, SafeChained, SafeBased, SafeStepped, SafeAdding, SafePassing, SafeOperated, SafeValued, is_value, is_rooted, gives_named, gives_alias, safe_activation, safe_read_step, safe_keep_step, safe_dereferenced, safe_field_step, safe_object_field, safe_by_value, safe_element_step, safe_subarray, safe_chained, safe_prefixed, safe_operations, safe_converted, safe_type_test, safe_limit, safe_with_one, safe_with_all, safe_set_of, safe_record_of, safe_array_value, safe_new, safe_call_of, safe_method_call}
use Rattle.m3_source_laws.proofs.SafeRoutines.{safe_routine_call}

pub record SafeServed (inv : Invariant) (s : Served) : Type 0 where
  pub value : Safe inv s.value

-- something of which this is known
abbrev pub With : {A : Type 0} → (A → Type 0) → Type 0
With {A} P = (x : A) × P x

-- ---- what holds of all of a list

pub first_of_two : {A : Type 0} (P : A → Type 0) (xs ys : List A) → AllOf P (xs ++ ys) → AllOf P xs
first_of_two P [] ys h = tt
first_of_two P (x ∷ xs) ys h = (h.0, first_of_two P xs ys h.1)

pub second_of_two : {A : Type 0} (P : A → Type 0) (xs ys : List A) → AllOf P (xs ++ ys) → AllOf P ys
second_of_two P [] ys h = h
second_of_two P (x ∷ xs) ys h = second_of_two P xs ys h.1

-- each part of a node is what is known of it, if its uses may stand there
pub all_known : {A B : Type 0} (may : Use → Type 0) (of : A → Uses) (Q : B → Type 0) (f : A → B) (ys : List (With (λ x. AllOf may (of x) → Q (f x)))) → AllOf may (all_of (map of (map (λ q. q.0) ys))) → AllOf Q (map f (map (λ q. q.0) ys))
all_known may of Q f [] h = tt
all_known may of Q f (y ∷ ys) h =
    (y.1 (first_of_two may (of y.0) _ h), all_known may of Q f ys (second_of_two may (of y.0) _ h))

-- an expression that is no place
safe_plain : {inv : Invariant} {at : Pos} {kind : Option ℕ} {e : Evaluates Value} → Safe inv e → SafeExpression inv (record { pos = at; kind = kind; value = e; unread = e >>= (λ v. given (Is v)) })
safe_plain h = record { value = h; unread = is_value (λ v. tt) h }

safe_as_value : {inv : Invariant} (t : Thing) → Safe inv (expressions.as_value t)
safe_as_value (Is v) = safe_given v
safe_as_value (At at) = safe_undefined

module _ (inv : Invariant) (p : Program) (here : Here) (w : Within p here inv) where
  abbrev May : Uses → Type 0
  May us = AllOf inv.may us

  abbrev IsActual : Actual → Type 0
  IsActual x = May (uses.actual x) → SafePassing inv (trees.actual p here x)

  abbrev IsBase : Base → Type 0
  IsBase x = May (uses.base x).uses → SafeBased inv (uses.base x).root (trees.base p here x)

  abbrev IsStep : Step → Type 0
  IsStep x = May (uses.step x) → SafeStepped inv (trees.step p here x)

  abbrev IsCoreExpr : CoreExpr → Type 0
  IsCoreExpr x = May (in_expression x) → SafeExpression inv (expression p here x)

  abbrev IsSetElement : SetElement → Type 0
  IsSetElement x = May (uses.set_element x) → SafeAdding inv (trees.set_element p here x)

  abbrev IsBuiltinCall : BuiltinCall → Type 0
  IsBuiltinCall x = May (in_call x) → SafeServed inv (routine p here x)

  abbrev IsChain : Chain → Type 0
  IsChain x = May (in_chain x).uses → SafeChained inv (in_chain x).root (chain p here x)

  abbrev IsBinding : Binding → Type 0
  IsBinding x = May (uses.binding x) → SafeValued inv (trees.binding p here x)

  abbrev IsFieldValue : FieldValue → Type 0
  IsFieldValue x = May (uses.field x) → SafeValued inv (trees.field p here x)

  abbrev IsOperation : Operation → Type 0
  IsOperation x = May (uses.operation x) → SafeOperated inv (trees.operation p here x)

  -- a node over trees of which this is known
  abbrev Known : (Type 0 → Type 0 → Type 0 → Type 0 → Type 0 → Type 0 → Type 0 → Type 0 → Type 0 → Type 0 → Type 0) → Type 0
  Known Node = Node (With IsActual) (With IsBase) (With IsStep) (With IsCoreExpr) (With IsSetElement) (With IsBuiltinCall) (With IsChain) (With IsBinding) (With IsFieldValue) (With IsOperation)

  abbrev tree_actual : Known layer.Actual-F → trees_of.Tree layer.Actual-F
  tree_actual y = folds.map-Actual (With IsActual) (With IsBase) (With IsStep) (With IsCoreExpr) (With IsSetElement) (With IsBuiltinCall) (With IsChain) (With IsBinding) (With IsFieldValue) (With IsOperation) Actual Base Step CoreExpr SetElement BuiltinCall Chain Binding FieldValue Operation (λ q. q.0) (λ q. q.0) (λ q. q.0) (λ q. q.0) (λ q. q.0) (λ q. q.0) (λ q. q.0) (λ q. q.0) (λ q. q.0) (λ q. q.0) y

  abbrev meaning_actual : trees_of.Tree layer.Actual-F → expressions.Over layer.Actual-F
  meaning_actual x = folds.map-Actual Actual Base Step CoreExpr SetElement BuiltinCall Chain Binding FieldValue Operation Passing Based Stepped Expression Adding Served Chained Valued Valued Operated (trees.actual p here) (trees.base p here) (trees.step p here) (expression p here) (trees.set_element p here) (routine p here) (chain p here) (trees.binding p here) (trees.field p here) (trees.operation p here) x

  abbrev tree_base : Known layer.Base-F → trees_of.Tree layer.Base-F
  tree_base y = folds.map-Base (With IsActual) (With IsBase) (With IsStep) (With IsCoreExpr) (With IsSetElement) (With IsBuiltinCall) (With IsChain) (With IsBinding) (With IsFieldValue) (With IsOperation) Actual Base Step CoreExpr SetElement BuiltinCall Chain Binding FieldValue Operation (λ q. q.0) (λ q. q.0) (λ q. q.0) (λ q. q.0) (λ q. q.0) (λ q. q.0) (λ q. q.0) (λ q. q.0) (λ q. q.0) (λ q. q.0) y

  abbrev meaning_base : trees_of.Tree layer.Base-F → expressions.Over layer.Base-F
  meaning_base x = folds.map-Base Actual Base Step CoreExpr SetElement BuiltinCall Chain Binding FieldValue Operation Passing Based Stepped Expression Adding Served Chained Valued Valued Operated (trees.actual p here) (trees.base p here) (trees.step p here) (expression p here) (trees.set_element p here) (routine p here) (chain p here) (trees.binding p here) (trees.field p here) (trees.operation p here) x

  abbrev tree_step : Known layer.Step-F → trees_of.Tree layer.Step-F
  tree_step y = folds.map-Step (With IsActual) (With IsBase) (With IsStep) (With IsCoreExpr) (With IsSetElement) (With IsBuiltinCall) (With IsChain) (With IsBinding) (With IsFieldValue) (With IsOperation) Actual Base Step CoreExpr SetElement BuiltinCall Chain Binding FieldValue Operation (λ q. q.0) (λ q. q.0) (λ q. q.0) (λ q. q.0) (λ q. q.0) (λ q. q.0) (λ q. q.0) (λ q. q.0) (λ q. q.0) (λ q. q.0) y

  abbrev meaning_step : trees_of.Tree layer.Step-F → expressions.Over layer.Step-F
  meaning_step x = folds.map-Step Actual Base Step CoreExpr SetElement BuiltinCall Chain Binding FieldValue Operation Passing Based Stepped Expression Adding Served Chained Valued Valued Operated (trees.actual p here) (trees.base p here) (trees.step p here) (expression p here) (trees.set_element p here) (routine p here) (chain p here) (trees.binding p here) (trees.field p here) (trees.operation p here) x

  abbrev tree_expression : Known layer.CoreExpr-F → trees_of.Tree layer.CoreExpr-F
  tree_expression y = folds.map-CoreExpr (With IsActual) (With IsBase) (With IsStep) (With IsCoreExpr) (With IsSetElement) (With IsBuiltinCall) (With IsChain) (With IsBinding) (With IsFieldValue) (With IsOperation) Actual Base Step CoreExpr SetElement BuiltinCall Chain Binding FieldValue Operation (λ q. q.0) (λ q. q.0) (λ q. q.0) (λ q. q.0) (λ q. q.0) (λ q. q.0) (λ q. q.0) (λ q. q.0) (λ q. q.0) (λ q. q.0) y

  abbrev meaning_expression : trees_of.Tree layer.CoreExpr-F → expressions.Over layer.CoreExpr-F
  meaning_expression x = folds.map-CoreExpr Actual Base Step CoreExpr SetElement BuiltinCall Chain Binding FieldValue Operation Passing Based Stepped Expression Adding Served Chained Valued Valued Operated (trees.actual p here) (trees.base p here) (trees.step p here) (expression p here) (trees.set_element p here) (routine p here) (chain p here) (trees.binding p here) (trees.field p here) (trees.operation p here) x

  abbrev tree_set_element : Known layer.SetElement-F → trees_of.Tree layer.SetElement-F
  tree_set_element y = folds.map-SetElement (With IsActual) (With IsBase) (With IsStep) (With IsCoreExpr) (With IsSetElement) (With IsBuiltinCall) (With IsChain) (With IsBinding) (With IsFieldValue) (With IsOperation) Actual Base Step CoreExpr SetElement BuiltinCall Chain Binding FieldValue Operation (λ q. q.0) (λ q. q.0) (λ q. q.0) (λ q. q.0) (λ q. q.0) (λ q. q.0) (λ q. q.0) (λ q. q.0) (λ q. q.0) (λ q. q.0) y

  abbrev meaning_set_element : trees_of.Tree layer.SetElement-F → expressions.Over layer.SetElement-F
  meaning_set_element x = folds.map-SetElement Actual Base Step CoreExpr SetElement BuiltinCall Chain Binding FieldValue Operation Passing Based Stepped Expression Adding Served Chained Valued Valued Operated (trees.actual p here) (trees.base p here) (trees.step p here) (expression p here) (trees.set_element p here) (routine p here) (chain p here) (trees.binding p here) (trees.field p here) (trees.operation p here) x

  abbrev tree_routine : Known layer.BuiltinCall-F → trees_of.Tree layer.BuiltinCall-F
  tree_routine y = folds.map-BuiltinCall (With IsActual) (With IsBase) (With IsStep) (With IsCoreExpr) (With IsSetElement) (With IsBuiltinCall) (With IsChain) (With IsBinding) (With IsFieldValue) (With IsOperation) Actual Base Step CoreExpr SetElement BuiltinCall Chain Binding FieldValue Operation (λ q. q.0) (λ q. q.0) (λ q. q.0) (λ q. q.0) (λ q. q.0) (λ q. q.0) (λ q. q.0) (λ q. q.0) (λ q. q.0) (λ q. q.0) y

  abbrev meaning_routine : trees_of.Tree layer.BuiltinCall-F → expressions.Over layer.BuiltinCall-F
  meaning_routine x = folds.map-BuiltinCall Actual Base Step CoreExpr SetElement BuiltinCall Chain Binding FieldValue Operation Passing Based Stepped Expression Adding Served Chained Valued Valued Operated (trees.actual p here) (trees.base p here) (trees.step p here) (expression p here) (trees.set_element p here) (routine p here) (chain p here) (trees.binding p here) (trees.field p here) (trees.operation p here) x

  abbrev tree_chain : Known layer.Chain-F → trees_of.Tree layer.Chain-F
  tree_chain y = folds.map-Chain (With IsActual) (With IsBase) (With IsStep) (With IsCoreExpr) (With IsSetElement) (With IsBuiltinCall) (With IsChain) (With IsBinding) (With IsFieldValue) (With IsOperation) Actual Base Step CoreExpr SetElement BuiltinCall Chain Binding FieldValue Operation (λ q. q.0) (λ q. q.0) (λ q. q.0) (λ q. q.0) (λ q. q.0) (λ q. q.0) (λ q. q.0) (λ q. q.0) (λ q. q.0) (λ q. q.0) y

  abbrev meaning_chain : trees_of.Tree layer.Chain-F → expressions.Over layer.Chain-F
  meaning_chain x = folds.map-Chain Actual Base Step CoreExpr SetElement BuiltinCall Chain Binding FieldValue Operation Passing Based Stepped Expression Adding Served Chained Valued Valued Operated (trees.actual p here) (trees.base p here) (trees.step p here) (expression p here) (trees.set_element p here) (routine p here) (chain p here) (trees.binding p here) (trees.field p here) (trees.operation p here) x

  abbrev tree_binding : Known layer.Binding-F → trees_of.Tree layer.Binding-F
  tree_binding y = folds.map-Binding (With IsActual) (With IsBase) (With IsStep) (With IsCoreExpr) (With IsSetElement) (With IsBuiltinCall) (With IsChain) (With IsBinding) (With IsFieldValue) (With IsOperation) Actual Base Step CoreExpr SetElement BuiltinCall Chain Binding FieldValue Operation (λ q. q.0) (λ q. q.0) (λ q. q.0) (λ q. q.0) (λ q. q.0) (λ q. q.0) (λ q. q.0) (λ q. q.0) (λ q. q.0) (λ q. q.0) y

  abbrev meaning_binding : trees_of.Tree layer.Binding-F → expressions.Over layer.Binding-F
  meaning_binding x = folds.map-Binding Actual Base Step CoreExpr SetElement BuiltinCall Chain Binding FieldValue Operation Passing Based Stepped Expression Adding Served Chained Valued Valued Operated (trees.actual p here) (trees.base p here) (trees.step p here) (expression p here) (trees.set_element p here) (routine p here) (chain p here) (trees.binding p here) (trees.field p here) (trees.operation p here) x

  abbrev tree_field : Known layer.FieldValue-F → trees_of.Tree layer.FieldValue-F
  tree_field y = folds.map-FieldValue (With IsActual) (With IsBase) (With IsStep) (With IsCoreExpr) (With IsSetElement) (With IsBuiltinCall) (With IsChain) (With IsBinding) (With IsFieldValue) (With IsOperation) Actual Base Step CoreExpr SetElement BuiltinCall Chain Binding FieldValue Operation (λ q. q.0) (λ q. q.0) (λ q. q.0) (λ q. q.0) (λ q. q.0) (λ q. q.0) (λ q. q.0) (λ q. q.0) (λ q. q.0) (λ q. q.0) y

  abbrev meaning_field : trees_of.Tree layer.FieldValue-F → expressions.Over layer.FieldValue-F
  meaning_field x = folds.map-FieldValue Actual Base Step CoreExpr SetElement BuiltinCall Chain Binding FieldValue Operation Passing Based Stepped Expression Adding Served Chained Valued Valued Operated (trees.actual p here) (trees.base p here) (trees.step p here) (expression p here) (trees.set_element p here) (routine p here) (chain p here) (trees.binding p here) (trees.field p here) (trees.operation p here) x

  abbrev tree_operation : Known layer.Operation-F → trees_of.Tree layer.Operation-F
  tree_operation y = folds.map-Operation (With IsActual) (With IsBase) (With IsStep) (With IsCoreExpr) (With IsSetElement) (With IsBuiltinCall) (With IsChain) (With IsBinding) (With IsFieldValue) (With IsOperation) Actual Base Step CoreExpr SetElement BuiltinCall Chain Binding FieldValue Operation (λ q. q.0) (λ q. q.0) (λ q. q.0) (λ q. q.0) (λ q. q.0) (λ q. q.0) (λ q. q.0) (λ q. q.0) (λ q. q.0) (λ q. q.0) y

  abbrev meaning_operation : trees_of.Tree layer.Operation-F → expressions.Over layer.Operation-F
  meaning_operation x = folds.map-Operation Actual Base Step CoreExpr SetElement BuiltinCall Chain Binding FieldValue Operation Passing Based Stepped Expression Adding Served Chained Valued Valued Operated (trees.actual p here) (trees.base p here) (trees.step p here) (expression p here) (trees.set_element p here) (routine p here) (chain p here) (trees.binding p here) (trees.field p here) (trees.operation p here) x

  actual_layer : (y : Known layer.Actual-F) → May (actual_uses (uses.over_actual (tree_actual y))) → SafePassing inv (actual_of p here (meaning_actual (tree_actual y)))
  actual_layer (layer.Actual::Value formal kind e) h = e.now.1 h
  actual_layer (layer.Place formal kind place checks_shape) h = gives_so (place.now.1 (first_of_two inv.may _ _ h)).thing (λ t g. inv.taken (in_chain place.now.0).root t (second_of_two inv.may (in_chain place.now.0).uses _ h) g)

  safe_subarray_base : (r : Option Use) (kind : Option ℕ) (array : Chained) (i n : Expression) → SafeChained inv r array → SafeExpression inv i → SafeExpression inv n → SafeBased inv r (expressions.based kind (λ at. designators.subarray p here at array i n))
  safe_subarray_base r kind array i n c h k = record { thing = λ at. safe_subarray inv p here w r at array i n c h k; unread = λ at. gives_any (safe_subarray inv p here w r at array i n c h k) }

  base_layer : (y : Known layer.Base-F) → May (base_uses (uses.over_base (tree_base y))).uses → SafeBased inv (base_uses (uses.over_base (tree_base y))).root (base_of p here (meaning_base (tree_base y)))
  base_layer (layer.Global x kind) h = record { thing = λ at. gives_given _ (inv.of_any _ _ (inv.global x)); unread = λ at. safe_given _ }
  base_layer (layer.Local level x kind) h = record { thing = λ at. gives_named inv p here w level x; unread = λ at. gives_any (gives_named inv p here w level x) }
  base_layer (layer.Alias level x kind) h = record { thing = λ at. gives_alias inv p here w _ level x; unread = λ at. gives_any (gives_alias inv p here w None level x) }
  base_layer (layer.Inner c) h = record { thing = λ at. (c.now.1 h).thing; unread = λ at. (c.now.1 h).unread }
  base_layer (layer.Subarray array start count kind) h =
      let us : Uses = (in_chain array.now.0).uses in
      let vs : Uses = in_expression start.now.0 in
      let ws : Uses = in_expression count.now.0 in
      let g : May (us ++ vs) = first_of_two inv.may (us ++ vs) ws h in
      safe_subarray_base _ _ _ _ _ (array.now.1 (first_of_two inv.may us vs g)) (start.now.1 (second_of_two inv.may us vs g)) (count.now.1 (second_of_two inv.may (us ++ vs) ws h))
  base_layer (layer.Base::Value e) h = record { thing = λ at. is_value (is_rooted inv _) (e.now.1 h).value; unread = λ at. (e.now.1 h).unread }

  step_layer : (y : Known layer.Step-F) → May (step_uses (uses.over_step (tree_step y))) → SafeStepped inv (step_of p here (meaning_step (tree_step y)))
  step_layer (layer.Read kind) h = record { goes = λ r before t g. safe_read_step inv p here w r t }
  step_layer (layer.Keep kind) h = record { goes = λ r before t g. safe_keep_step inv p here w r t g }
  step_layer (layer.Dereference kind) h = record { goes = λ r before t g. safe_by_value inv p here w r _ (safe_dereferenced inv p here w r before.pos) t }
  step_layer (layer.Field f kind) h = record { goes = λ r before t g. safe_field_step inv p here w r f t g }
  step_layer (layer.ObjectField owner f kind) h = record { goes = λ r before t g. safe_by_value inv p here w r _ (safe_object_field inv p here w r before.pos owner.0 f) t }
  step_layer (layer.Element index kind) h = record { goes = λ r before t g. safe_element_step inv p here w r _ (index.now.1 h) before.kind t g }
  step_layer (layer.Call actuals kind) h = record { goes = λ r before t g. safe_by_value inv p here w r _ (safe_call_of p r before _ (all_known inv.may uses.actual (SafePassing inv) (trees.actual p here) actuals.now h)) t }
  step_layer (layer.MethodCall owner method actuals kind) h = record { goes = λ r before t g. safe_by_value inv p here w r _ (safe_method_call p r before.pos owner.0 method _ (all_known inv.may uses.actual (SafePassing inv) (trees.actual p here) actuals.now h)) t }

  chain_layer : (y : Known layer.Chain-F) → May (chain_uses (uses.over_chain (tree_chain y))).uses → SafeChained inv (chain_uses (uses.over_chain (tree_chain y))).root (chain_of p here (meaning_chain (tree_chain y)))
  chain_layer y h = safe_chained inv p here w _ y.pos _ _ (type_of y.kind) (y.base.1 (first_of_two inv.may _ _ h)) (all_known inv.may uses.step (SafeStepped inv) (trees.step p here) y.steps.now (second_of_two inv.may (uses.base y.base.0).uses _ h))

  set_element_layer : (y : Known layer.SetElement-F) → May (element_uses (uses.over_set_element (tree_set_element y))) → SafeAdding inv (set_element_of p here (meaning_set_element (tree_set_element y)))
  set_element_layer (layer.One e) h = safe_with_one _ (e.now.1 h)
  set_element_layer (layer.Range first last) h = safe_with_all _ _ (first.now.1 (first_of_two inv.may _ _ h)) (last.now.1 (second_of_two inv.may (in_expression first.now.0) _ h))

  routine_layer : (y : Known layer.BuiltinCall-F) → May (call_uses (uses.over_call (tree_routine y))) → SafeServed inv (routine_of p here (meaning_routine (tree_routine y)))
  routine_layer y h = record { value = safe_routine_call p y.routine y.pos _ y.order.now (type_of y.kind) (all_known inv.may in_expression (SafeExpression inv) (expression p here) y.actuals.now h) }

  binding_layer : (y : Known layer.Binding-F) → May (binding_uses (uses.over_binding (tree_binding y))) → SafeValued inv (binding_of p here (meaning_binding (tree_binding y)))
  binding_layer y h = y.value.now.1 h

  field_layer : (y : Known layer.FieldValue-F) → May (field_uses (uses.over_field (tree_field y))) → SafeValued inv (field_of p here (meaning_field (tree_field y)))
  field_layer y h = y.value.now.1 h

  operation_layer : (y : Known layer.Operation-F) → May (operation_uses (uses.over_operation (tree_operation y))) → SafeOperated inv (operation_of p here (meaning_operation (tree_operation y)))
  operation_layer y h = y.right.now.1 h

  safe_inner : (q : ℕ) → Safe inv (expressions.inner_procedure p here q)
  safe_inner q = safe_bind (safe_there _) (λ d. safe_bind (safe_activation inv p here w _) (λ a. safe_given _))

  safe_chain_value : (r : Option Use) (c : Chained) → SafeChained inv r c → SafeExpression inv (expressions.of_chain c)
  safe_chain_value r c h = record { value = gives_bind h.thing (λ t g. safe_as_value t); unread = h.unread }

  safe_call_value : (c : Served) → SafeServed inv c → SafeExpression inv (expressions.of_call c)
  safe_call_value c h = record { value = h.value; unread = is_value (λ v. tt) h.value }

  safe_operations_value : (at : Pos) (first : Expression) (rest : List Operated) → SafeExpression inv first → AllOf (SafeOperated inv) rest → SafeExpression inv (expressions.of_operations at first rest)
  safe_operations_value at first rest h k = record { value = safe_operations first rest h k; unread = is_value (λ v. tt) (safe_operations first rest h k) }

  safe_limit_of : (r : Option Use) (l : ArrayLimit) (c : Chained) → SafeChained inv r c → Safe inv (operators.array_limit p l (option_and_then (λ t. option_and_then (bounds p) (index_in (node_of p t))) c.kind) c)
  safe_limit_of r l c h = safe_limit p l (option_and_then (λ t. option_and_then (bounds p) (index_in (node_of p t))) c.kind) c h

  expression_layer : (y : Known layer.CoreExpr-F) → May (expression_uses (uses.over_expression (tree_expression y))) → SafeExpression inv (expression_of p here (meaning_expression (tree_expression y)))
  expression_layer (layer.Number at kind n) h = safe_plain (safe_given _)
  expression_layer (layer.Text at kind text) h = safe_plain (safe_given _)
  expression_layer (layer.Nil at kind) h = safe_plain (safe_given _)
  expression_layer (layer.Procedure at kind q) h = safe_plain (safe_given _)
  expression_layer (layer.InnerProcedure at kind q) h = safe_plain (safe_inner q)
  expression_layer (layer.Constant at kind value) h = safe_plain (safe_there _)
  expression_layer (layer.Chain c) h = safe_chain_value _ _ (c.now.1 h)
  expression_layer (layer.Builtin call) h = safe_call_value _ (call.now.1 h)
  expression_layer (layer.Prefixed at kind operators operand) h = safe_plain (safe_bind (operand.now.1 h).value (λ v. safe_prefixed operators.now v))
  expression_layer (layer.Operations at first rest) h = safe_operations_value at _ _ (first.now.1 (first_of_two inv.may _ _ h)) (all_known inv.may uses.operation (SafeOperated inv) (trees.operation p here) rest.now (second_of_two inv.may (in_expression first.now.0) _ h))
  expression_layer (layer.SetOf at kind elements) h = safe_plain (safe_set_of _ (all_known inv.may uses.set_element (SafeAdding inv) (trees.set_element p here) elements.now h) [])
  expression_layer (layer.ArrayOf at kind elements is_filled) h = safe_plain (safe_array_value p kind.0 _ is_filled (all_known inv.may in_expression (SafeExpression inv) (expression p here) elements.now h))
  expression_layer (layer.RecordOf at kind fields) h = safe_plain (safe_record_of _ (all_known inv.may uses.field (SafeValued inv) (trees.field p here) fields.now h))
  expression_layer (layer.New at kind made sizes bindings) h = safe_plain (safe_new p made.0 _ _ (all_known inv.may in_expression (SafeExpression inv) (expression p here) sizes.now (first_of_two inv.may _ _ h)) (all_known inv.may uses.binding (SafeValued inv) (trees.binding p here) bindings.now (second_of_two inv.may (all_of (map in_expression (map (λ q. q.0) sizes.now))) _ h)))
  expression_layer (layer.Convert at kind check operand) h = safe_plain (safe_bind (operand.now.1 h).value (λ v. safe_converted p check at kind.0 v))
  expression_layer (layer.TypeTest at kind operand tested) h = safe_plain (safe_bind (operand.now.1 h).value (λ v. safe_type_test p tested.0 v))
  expression_layer (layer.ArrayLimit at kind limit array) h = safe_plain (safe_limit_of _ limit _ (array.now.1 h))

  actual_known : (x : trees_of.Tree layer.Actual-F) (y : Known layer.Actual-F) → tree_actual y ≡ x → IsActual (roll-Actual x)
  actual_known x y is h =
      subst (SafePassing inv) (ap (λ z. actual_of p here (meaning_actual z)) is ∙ sym (trees.actual_is p here x))
      (actual_layer y (subst May (sym (ap (λ z. actual_uses (uses.over_actual z)) is ∙ sym (uses.actual_is x))) h))

  base_known : (x : trees_of.Tree layer.Base-F) (y : Known layer.Base-F) → tree_base y ≡ x → IsBase (roll-Base x)
  base_known x y is h =
      let same : base_uses (uses.over_base (tree_base y)) ≡ uses.base (roll-Base x) = ap (λ z. base_uses (uses.over_base z)) is ∙ sym (uses.base_is x) in
      subst (λ n. SafeBased inv n.root (trees.base p here (roll-Base x))) same
      (subst (SafeBased inv (base_uses (uses.over_base (tree_base y))).root) (ap (λ z. base_of p here (meaning_base z)) is ∙ sym (trees.base_is p here x))
      (base_layer y (subst (λ n. May n.uses) (sym same) h)))

  step_known : (x : trees_of.Tree layer.Step-F) (y : Known layer.Step-F) → tree_step y ≡ x → IsStep (roll-Step x)
  step_known x y is h =
      subst (SafeStepped inv) (ap (λ z. step_of p here (meaning_step z)) is ∙ sym (trees.step_is p here x))
      (step_layer y (subst May (sym (ap (λ z. step_uses (uses.over_step z)) is ∙ sym (uses.step_is x))) h))

  expression_known : (x : trees_of.Tree layer.CoreExpr-F) (y : Known layer.CoreExpr-F) → tree_expression y ≡ x → IsCoreExpr (roll-CoreExpr x)
  expression_known x y is h =
      subst (SafeExpression inv) (ap (λ z. expression_of p here (meaning_expression z)) is ∙ sym (trees.expression_is p here x))
      (expression_layer y (subst May (sym (ap (λ z. expression_uses (uses.over_expression z)) is ∙ sym (uses.expression_is x))) h))

  set_element_known : (x : trees_of.Tree layer.SetElement-F) (y : Known layer.SetElement-F) → tree_set_element y ≡ x → IsSetElement (roll-SetElement x)
  set_element_known x y is h =
      subst (SafeAdding inv) (ap (λ z. set_element_of p here (meaning_set_element z)) is ∙ sym (trees.set_element_is p here x))
      (set_element_layer y (subst May (sym (ap (λ z. element_uses (uses.over_set_element z)) is ∙ sym (uses.set_element_is x))) h))

  routine_known : (x : trees_of.Tree layer.BuiltinCall-F) (y : Known layer.BuiltinCall-F) → tree_routine y ≡ x → IsBuiltinCall (roll-BuiltinCall x)
  routine_known x y is h =
      subst (SafeServed inv) (ap (λ z. routine_of p here (meaning_routine z)) is ∙ sym (trees.routine_is p here x))
      (routine_layer y (subst May (sym (ap (λ z. call_uses (uses.over_call z)) is ∙ sym (uses.call_is x))) h))

  chain_known : (x : trees_of.Tree layer.Chain-F) (y : Known layer.Chain-F) → tree_chain y ≡ x → IsChain (roll-Chain x)
  chain_known x y is h =
      let same : chain_uses (uses.over_chain (tree_chain y)) ≡ in_chain (roll-Chain x) = ap (λ z. chain_uses (uses.over_chain z)) is ∙ sym (uses.chain_is x) in
      subst (λ n. SafeChained inv n.root (chain p here (roll-Chain x))) same
      (subst (SafeChained inv (chain_uses (uses.over_chain (tree_chain y))).root) (ap (λ z. chain_of p here (meaning_chain z)) is ∙ sym (trees.chain_is p here x))
      (chain_layer y (subst (λ n. May n.uses) (sym same) h)))

  binding_known : (x : trees_of.Tree layer.Binding-F) (y : Known layer.Binding-F) → tree_binding y ≡ x → IsBinding (roll-Binding x)
  binding_known x y is h =
      subst (SafeValued inv) (ap (λ z. binding_of p here (meaning_binding z)) is ∙ sym (trees.binding_is p here x))
      (binding_layer y (subst May (sym (ap (λ z. binding_uses (uses.over_binding z)) is ∙ sym (uses.binding_is x))) h))

  field_known : (x : trees_of.Tree layer.FieldValue-F) (y : Known layer.FieldValue-F) → tree_field y ≡ x → IsFieldValue (roll-FieldValue x)
  field_known x y is h =
      subst (SafeValued inv) (ap (λ z. field_of p here (meaning_field z)) is ∙ sym (trees.field_is p here x))
      (field_layer y (subst May (sym (ap (λ z. field_uses (uses.over_field z)) is ∙ sym (uses.field_is x))) h))

  operation_known : (x : trees_of.Tree layer.Operation-F) (y : Known layer.Operation-F) → tree_operation y ≡ x → IsOperation (roll-Operation x)
  operation_known x y is h =
      subst (SafeOperated inv) (ap (λ z. operation_of p here (meaning_operation z)) is ∙ sym (trees.operation_is p here x))
      (operation_layer y (subst May (sym (ap (λ z. operation_uses (uses.over_operation z)) is ∙ sym (uses.operation_is x))) h))

  pub safe_expression : (x : CoreExpr) → IsCoreExpr x
  safe_expression = folds.ind-CoreExpr IsActual IsBase IsStep IsCoreExpr IsSetElement IsBuiltinCall IsChain IsBinding IsFieldValue IsOperation
      actual_known base_known step_known expression_known set_element_known routine_known chain_known binding_known field_known operation_known

  pub safe_chain : (x : Chain) → IsChain x
  safe_chain = folds.ind-Chain IsActual IsBase IsStep IsCoreExpr IsSetElement IsBuiltinCall IsChain IsBinding IsFieldValue IsOperation
      actual_known base_known step_known expression_known set_element_known routine_known chain_known binding_known field_known operation_known

  pub safe_routine : (x : BuiltinCall) → IsBuiltinCall x
  safe_routine = folds.ind-BuiltinCall IsActual IsBase IsStep IsCoreExpr IsSetElement IsBuiltinCall IsChain IsBinding IsFieldValue IsOperation
      actual_known base_known step_known expression_known set_element_known routine_known chain_known binding_known field_known operation_known
