-- Well typed expressions are defined.
use Rattle.std.proofs.Common.{Option, ◌≡◌, ℕ, true, false, List, [], ◌∷◌, map, Some, None, refl, sym, ap, ◌∙◌, subst}
use Rattle.m3_base.specs.declared.places.Pos.{Pos}
use Rattle.m3_types.specs.declared.nodes.Field.{Field}
use Rattle.m3_types.specs.declared.nodes.TypeId.{TypeId}
use Rattle.m3_core.specs.declared.calls.Actual.TheOpen as layer
use Rattle.m3_core.specs.declared.chains.Base.{Base}
use Rattle.m3_core.specs.declared.chains.Chain.{Chain}
use Rattle.m3_core.specs.declared.chains.Step.{Step}
use Rattle.m3_core.specs.declared.exprs.Conversion.TheVariants as conversion
use Rattle.m3_core.specs.declared.exprs.CoreExpr.{CoreExpr}
use Rattle.m3_core.specs.declared.exprs.FieldValue.{FieldValue}
use Rattle.m3_core.specs.declared.exprs.Operation.{Operation}
use Rattle.m3_core.specs.declared.exprs.SetElement.{SetElement}
use Rattle.m3_values.specs.Values as value
use Rattle.m3_values.specs.Values.{Value}
use Rattle.m3_values.specs.Programs.{Program}
use Rattle.m3_values.specs.Types.{node_of, is_same, unveiled, unveiled_in}
use Rattle.m3_values.specs.Places.{Global, Is, At, whole}
use Rattle.m3_values.specs.Store.{Store, has_type, is_text_type}
use Rattle.m3_source_meaning.specs.Meanings.{Evaluates, given, there, ◌>>=◌}
use Rattle.m3_source_meaning.specs.Phrases.{Here, Expression, Operated, Valued}
use Rattle.m3_source_meaning.specs.Assignment.{type_of_variable}
use Rattle.m3_source_meaning.specs.Expressions.{expression, chain, plain, of_operations, type_of}
use Rattle.m3_source_meaning.proofs.Trees as trees
use Rattle.m3_source_typing.specs.ValueTypes.{class_in, class_of, HasType}
use Rattle.m3_source_typing.specs.Sound.{Scope, Gives, IsReadable, IsOfType}
use Rattle.m3_source_typing.specs.Operators as rule
use Rattle.m3_source_typing.specs.Operators.{is_text_in}
use Rattle.m3_source_typing.specs.Expressions as typed
use Rattle.m3_source_typing.specs.Expressions.{Given, PlaceOf, ValueOf, IsExpression, IsRow, AreSetElements, AreFieldValues, IsChain, IsBase, AreSteps, IsStep}
use Rattle.m3_source_typing.specs.Laws.{TypesStay, ExpressionsAreSound}
use Rattle.m3_source_typing.proofs.Staying.{type_stays}
use Rattle.m3_source_typing.proofs.Combining.{given_sound, bind_sound}
use Rattle.m3_source_typing.proofs.Operands as operand
use Rattle.m3_source_typing.proofs.Operating.{Typed, typed_given, text_node}
use Rattle.m3_source_typing.proofs.Places.{IsGiven, thing_given, readable, global_place, given_stays}
use Rattle.m3_source_typing.proofs.Chains as chains
use Rattle.m3_source_typing.proofs.Chains.{TypedStep, TypedSteps, TypedBase, TypedChain, read_sound, keep_sound, field_sound, element_sound, dereference_sound, object_field_sound, chain_sound, of_chain_sound, own_sound, name_sound}
use Rattle.m3_source_typing.proofs.Sameness.{share_values}
use Rattle.m3_source_typing.proofs.Rows as rows
use Rattle.m3_source_typing.proofs.Rows.{TypedRow, row_sound, prefix_form, range_form, narrow_form, test_form}
use Rattle.m3_source_typing.proofs.Constructing as parts
use Rattle.m3_source_typing.proofs.Constructing.{TypedElements, TypedFields, field_of, set_form, record_form}
use Rattle.m3_core.specs.declared.calls.Actual.{Actual}
use Rattle.m3_types.specs.declared.nodes.Formal.{Formal}
use Rattle.m3_values.specs.Types.{formals_in}
use Rattle.m3_source_meaning.specs.Phrases.{By_value, By_place}
use Rattle.m3_source_typing.specs.ValueTypes.{result_in}
use Rattle.m3_source_typing.specs.Expressions.{given_by, AreActuals}
use Rattle.m3_source_typing.proofs.Calling as calling
use Rattle.m3_source_typing.proofs.Calling.{TypedPassings, call_sound, method_call_sound}
use Rattle.m3_base.specs.declared.outcomes.FaultKind.TheVariants as fault_kind
use Rattle.m3_values.specs.Programs.{procedure_at}
use Rattle.m3_source_meaning.specs.Operators.{converted}
use Rattle.m3_source_meaning.specs.Phrases.{Chained}
use Rattle.m3_source_typing.specs.ValueTypes.{OfProcedures, called_alike, IsOfNil}
use Rattle.m3_source_typing.proofs.Combining.{fault_sound}
use Rattle.m3_source_typing.proofs.Chains.{ArePartly, subarray_sound, limit_sound}
use Rattle.m3_source_typing.proofs.Sameness.{procedure_then}
use Rattle.m3_core.specs.declared.calls.BuiltinCall.{BuiltinCall}
use Rattle.m3_source_meaning.specs.Expressions.{routine}
use Rattle.m3_source_meaning.specs.Phrases.{Served}
use Rattle.m3_source_typing.specs.Expressions.{IsRoutine, AreOperands}
use Rattle.m3_source_typing.proofs.Serving as serving
use Rattle.m3_source_typing.proofs.Serving.{TypedOperands, IsServed, routine_sound}
use Rattle.m3_source_typing.specs.ValueTypes.{OfReferences}
use Rattle.m3_source_typing.specs.Subtypes.{IsBelow}
use Rattle.m3_source_typing.proofs.Above.{typed_above}
use Rattle.std.proofs.Common.{suc, length}
use Rattle.std.proofs.lemmas.List.{length-map}
use Rattle.m3_values.specs.Types.{elements as elements_of}
use Rattle.m3_source_meaning.specs.Constructors as constructors
use Rattle.m3_source_typing.specs.Expressions.{AreElementsOf, count_fits}
use Rattle.m3_source_typing.proofs.Rowing as rowing
use Rattle.m3_source_typing.proofs.Rowing.{TypedRowOf, array_form, empty_form}
use Rattle.std.proofs.Common.{◌-◌, arith}
use Rattle.m3_core.specs.declared.program.ProcDef.{ProcDef}
use Rattle.m3_source_meaning.specs.Designators.{activation_at, outwards}
use Rattle.m3_source_typing.specs.ValueTypes.{IsProcedureOf}
use Rattle.m3_source_typing.proofs.Combining.{seeing_sound}
use Rattle.m3_source_typing.proofs.Creating.{new_sound}
use Rattle.m3_core.specs.declared.exprs.Binding.{Binding}
use Rattle.m3_source_typing.specs.Expressions.{AreBindings}
use Rattle.m3_source_typing.proofs.Creating as creating
use Rattle.m3_source_typing.proofs.Creating.{TypedBindings}
use Rattle.std.proofs.Common.{Bool}
use Rattle.std.specs.Prelude.{◌==◌, ◌&&◌, not}
use Rattle.m3_values.specs.Arrays.{shape, fits}
use Rattle.m3_values.specs.Types.{type_sizes}
use Rattle.m3_values.specs.Values.{items}
use Rattle.m3_source_typing.specs.ValueTypes.{is_count, has_sizes, AreElements}
use Rattle.m3_source_typing.specs.Expressions.{HaveSameElements}
use Rattle.m3_source_typing.proofs.Combining.{unless_sound}
use Rattle.m3_source_typing.proofs.Operands.{left_true, right_true, both_true}
use Rattle.m3_source_typing.proofs.Parts.{array_of, size_counts, sizes_below}
use Rattle.m3_source_typing.proofs.Sameness.{share_elements}

pub types_stay : TypesStay
types_stay p s t v kind l h = type_stays p s t l v kind h

module _ (p : Program) (own : Scope) (here : Here) where
  -- what is no place can be read
  unread_sound : (e : Evaluates Value) (t : ℕ) → ((s : Store) → Gives p own s (Typed p t) e) → (s : Store) → Gives p own s (IsReadable p own) (e >>= (λ v. given (Is v)))
  unread_sound e t h s = bind_sound p own s (Typed p t) (IsReadable p own) _ _ (h s) (λ v k l q. given_sound p own k (IsReadable p own) (Is v) (λ m g. record { reads = λ n d typed. (v, refl) }))

  plain_typed : (at : Pos) (kind : TypeId) (e : Evaluates Value) → ((s : Store) → Gives p own s (Typed p kind.0) e) → IsOfType p own (plain at kind e) kind.0
  plain_typed at kind e h = record { value = h; unread = unread_sound e kind.0 h }

  operations_typed : (at : Pos) (first : Expression) (os : List Operated) (t result : ℕ) → IsOfType p own first t → TypedRow p own t os result → IsOfType p own (of_operations at first os) result
  operations_typed at first os t result is row = record {
    value = λ s. row_sound p own first t result os row s is;
    unread = unread_sound _ result (λ s. row_sound p own first t result os row s is);
  }

  literal : (s : Store) (v : Value) (t : ℕ) → HasType p s v t → Gives p own s (Typed p t) (given v)
  literal s v t h = typed_given p own s t v h

  text_is : (s : Store) (n t : ℕ) → is_text_in (node_of p t) ≡ true → has_type p s t (value.Text n) ≡ Some true
  text_is s n t h =
      let is = text_node p own (node_of p t) h in
      let bare : unveiled p t ≡ t = ap (unveiled_in p t) is in
      ap (λ k. Some (is_text_type p (node_of p k))) bare ∙ ap (λ o. Some (is_text_type p o)) is

  widen : (e : Expression) (t u : ℕ) → IsOfType p own e t → rule.is_ordinal p t ≡ true → rule.is_ordinal p u ≡ true → rule.is_part p t u ≡ true → IsOfType p own e u
  widen e t u is from to part = record {
    value = λ s. bind_sound p own s (Typed p t) (Typed p u) e.value given (is.value s)
        (λ v k l q. let z = operand.number_of p k v t from q in typed_given p own k u v (subst (λ w. HasType p k w u) (sym z.1) (operand.part_typed p k z.0 t u to part z.2)));
    unread = is.unread;
  }

  of_same : (e : Expression) (t u : ℕ) → IsOfType p own e t → is_same p t u ≡ true → IsOfType p own e u
  of_same e t u is alike = record {
    value = λ s. bind_sound p own s (Typed p t) (Typed p u) e.value given (is.value s) (λ v k l q. typed_given p own k u v (share_values p k v t u alike q));
    unread = is.unread;
  }

  of_above : (e : Expression) (t u : ℕ) → IsOfType p own e t → class_of p t ≡ OfReferences → class_of p u ≡ OfReferences → IsBelow p t u → IsOfType p own e u
  of_above e t u is c d under = record {
    value = λ s. bind_sound p own s (Typed p t) (Typed p u) e.value given (is.value s) (λ v k l q. typed_given p own k u v (typed_above p own k v t u c d under q));
    unread = is.unread;
  }

  -- the activation around a procedure that stands in the one that speaks is this one
  here_sound : (n : ℕ) → n ≡ here.level → (s : Store) → Gives p own s (λ u x. Unit {0}) (activation_at p here n)
  here_sound n e s = seeing_sound p own s _ (λ m. outwards (here.level - n) m.store here.activation)
      (λ m l good. let none : here.level - n ≡ 0 = omega arith in (here.activation, ap (λ k. outwards k m.store here.activation) none, tt))

  inner_given : (s : Store) (n kind : ℕ) (q : ProcDef) → class_of p kind ≡ OfProcedures → q.level ≡ suc here.level → IsProcedureOf p (procedure_at p n) kind → Gives p own s (Typed p kind) (activation_at p here (q.level - 1) >>= (λ activation. given (value.Procedure n (Some activation))))
  inner_given s n kind q c level of =
      let same : q.level - 1 ≡ here.level = omega arith in
      bind_sound p own s (λ u x. Unit {0}) (Typed p kind) _ _ (here_sound (q.level - 1) same s) (λ a u l h. typed_given p own u kind (value.Procedure n (Some a)) (c, of))

  -- an array of another size that its shape has
  of_size : (q : Option ℕ) (rest : List (Option ℕ)) (n : ℕ) (below : List ℕ) → fits (q ∷ rest) (n ∷ below) ≡ true → is_count n ≡ true → has_sizes rest below ≡ true → has_sizes (q ∷ rest) (n ∷ below) ≡ true
  of_size None rest n below f c h = both_true (is_count n) (has_sizes rest below) c h
  of_size (Some size) rest n below f c h = both_true (is_count n && (size == n)) (has_sizes rest below) (both_true (is_count n) (size == n) c (left_true (size == n) (fits rest below) f)) h

  resized : (s : Store) (v : Value) (t u : ℕ) (o q : Option ℕ) → HaveSameElements p t u o q → HasType p s v t → fits (type_sizes p u) (shape v) ≡ true → HasType p s v u
  resized s v t u o q a h f =
      let w = array_of p s v t a.array h in
      let n : ℕ = length (items w.elements) in
      let said : has_sizes (o ∷ a.rest) (n ∷ w.below) ≡ true = subst (λ xs. has_sizes xs (n ∷ w.below) ≡ true) a.sizes w.sizes in
      let fit : fits (q ∷ a.rest) (n ∷ w.below) ≡ true = subst (λ xs. fits xs (n ∷ w.below) ≡ true) a.other_sizes (subst (λ x. fits (type_sizes p u) (shape x) ≡ true) w.is f) in
      subst (λ x. HasType p s x u) (sym w.is) (
        a.other_array,
        subst (AreElements p s w.elements w.below) (sym a.other_element) (share_elements p s w.elements w.below (Some a.e) (Some a.f) a.same (subst (AreElements p s w.elements w.below) a.element_is w.typed)),
        subst (λ xs. has_sizes xs (n ∷ w.below) ≡ true) (sym a.other_sizes) (of_size q a.rest n w.below fit (size_counts p (o ∷ a.rest) n w.below said) (sizes_below p o a.rest n w.below said)),
      )

  fits_open : (s : Store) (v : Value) (t u : ℕ) (o : Option ℕ) → HaveSameElements p t u o None → HasType p s v t → fits (type_sizes p u) (shape v) ≡ true
  fits_open s v t u o a h =
      let w = array_of p s v t a.array h in
      let n : ℕ = length (items w.elements) in
      let said : has_sizes (o ∷ a.rest) (n ∷ w.below) ≡ true = subst (λ xs. has_sizes xs (n ∷ w.below) ≡ true) a.sizes w.sizes in
      subst (λ xs. fits xs (shape v) ≡ true) (sym a.other_sizes) (subst (λ x. fits (None ∷ a.rest) (shape x) ≡ true) (sym w.is) (fits_sizes a.rest w.below (sizes_below p o a.rest n w.below said)))
    where
      fits_sizes : (wanted : List (Option ℕ)) (sizes : List ℕ) → has_sizes wanted sizes ≡ true → fits wanted sizes ≡ true
      fits_sizes [] [] h = refl
      fits_sizes [] (n ∷ sizes) h = refl
      fits_sizes (None ∷ wanted) [] h = h
      fits_sizes (Some size ∷ wanted) [] h = h
      fits_sizes (None ∷ wanted) (n ∷ sizes) h = fits_sizes wanted sizes (right_true (is_count n) (has_sizes wanted sizes) h)
      fits_sizes (Some size ∷ wanted) (n ∷ sizes) h = both_true (size == n) (fits wanted sizes) (right_true (is_count n) (size == n) (left_true (is_count n && (size == n)) (has_sizes wanted sizes) h)) (fits_sizes wanted sizes (right_true (is_count n && (size == n)) (has_sizes wanted sizes) h))

  of_open : (e : Expression) (t u : ℕ) (o : Option ℕ) → IsOfType p own e t → HaveSameElements p t u o None → IsOfType p own e u
  of_open e t u o is a = record {
    value = λ s. bind_sound p own s (Typed p t) (Typed p u) e.value given (is.value s) (λ v k l q. typed_given p own k u v (resized k v t u o None a q (fits_open k v t u o a q)));
    unread = is.unread;
  }

  shape_form : (at : Pos) (kind : ℕ) (e : Expression) (t : ℕ) (o q : Option ℕ) → IsOfType p own e t → HaveSameElements p t kind o q → (s : Store) → Gives p own s (Typed p kind) (e.value >>= converted p conversion.Shape at kind)
  shape_form at kind e t o q is a s =
      bind_sound p own s (Typed p t) (Typed p kind) _ _ (is.value s)
      (λ v u l h. bind_sound p own u (λ w x. not (fits (type_sizes p kind) (shape v)) ≡ false) (Typed p kind) _ _ (unless_sound p own u fault_kind.Shape at (not (fits (type_sizes p kind) (shape v))))
      (λ x w k f. typed_given p own w kind v (resized w v t kind o q a (type_stays p u w k v t h) (not_not (fits (type_sizes p kind) (shape v)) f))))
    where
      not_not : (b : Bool) → not b ≡ false → b ≡ true
      not_not true h = refl
      not_not false h = absurd (let bad : true ≡ false = h in cc)

  procedure_alike : (s : Store) (v : Value) (t u : ℕ) → class_of p u ≡ OfProcedures → called_alike p (node_of p t) (node_of p u) ≡ true → class_of p t ≡ OfProcedures → HasType p s v t → HasType p s v u
  procedure_alike s value.Nil t u c alike d h = subst IsOfNil (sym c) tt
  procedure_alike s (value.Procedure q around) t u c alike d h = (c, procedure_then p (procedure_at p q) t u alike h.1)
  procedure_alike s (value.Ordinal z) t u c alike d h = let bad : true ≡ false = sym (ap rule.is_procedures d) ∙ ap rule.is_procedures h.0 in absurd cc
  procedure_alike s (value.Pointer n) t u c alike d h = let bad : true ≡ false = sym (ap rule.is_procedures d) ∙ ap rule.is_procedures h.0 in absurd cc
  procedure_alike s (value.Text n) t u c alike d h = let bad : true ≡ false = sym (ap rule.is_procedures d) ∙ ap rule.is_procedures h.0 in absurd cc
  procedure_alike s value.MainThread t u c alike d h = let bad : true ≡ false = sym (ap rule.is_procedures d) ∙ ap rule.is_procedures h.0 in absurd cc
  procedure_alike s (value.Members ms) t u c alike d h = let bad : true ≡ false = sym (ap rule.is_procedures d) ∙ ap rule.is_procedures h.0 in absurd cc
  procedure_alike s (value.Record vs) t u c alike d h = let bad : true ≡ false = sym (ap rule.is_procedures d) ∙ ap rule.is_procedures h.0 in absurd cc
  procedure_alike s (value.Array below vs) t u c alike d h = let bad : true ≡ false = sym (ap rule.is_procedures d) ∙ ap rule.is_procedures h.0 in absurd cc

  of_alike : (e : Expression) (t u : ℕ) → IsOfType p own e t → class_of p t ≡ OfProcedures → class_of p u ≡ OfProcedures → called_alike p (node_of p t) (node_of p u) ≡ true → IsOfType p own e u
  of_alike e t u is d c alike = record {
    value = λ s. bind_sound p own s (Typed p t) (Typed p u) e.value given (is.value s) (λ v k l q. typed_given p own k u v (procedure_alike k v t u c alike d q));
    unread = is.unread;
  }

  -- a procedure that isn't inside another one, or NIL
  nested : (at : Pos) (kind : ℕ) (v : Value) (s : Store) → HasType p s v kind → Gives p own s (Typed p kind) (converted p conversion.Nested at kind v)
  nested at kind (value.Procedure q None) s h = typed_given p own s kind (value.Procedure q None) h
  nested at kind (value.Procedure q (Some around)) s h = fault_sound p own s _ fault_kind.NestedProc at
  nested at kind value.Nil s h = typed_given p own s kind value.Nil h
  nested at kind (value.Ordinal z) s h = typed_given p own s kind (value.Ordinal z) h
  nested at kind (value.Pointer n) s h = typed_given p own s kind (value.Pointer n) h
  nested at kind (value.Text n) s h = typed_given p own s kind (value.Text n) h
  nested at kind value.MainThread s h = typed_given p own s kind value.MainThread h
  nested at kind (value.Members ms) s h = typed_given p own s kind (value.Members ms) h
  nested at kind (value.Record vs) s h = typed_given p own s kind (value.Record vs) h
  nested at kind (value.Array below vs) s h = typed_given p own s kind (value.Array below vs) h

  mutual
    pub expression_sound : (e : CoreExpr) (t : ℕ) → IsExpression p here own e t → IsOfType p own (expression p here e) t
    expression_sound _ _ (typed.number at kind z numbers within) =
        subst (λ e. IsOfType p own e kind.0) (sym (trees.expression_is p here (layer.Number at kind z)))
        (plain_typed at kind _ (λ s. literal s (value.Ordinal z) kind.0 (rows.number_class p own (class_of p kind.0) numbers, within)))
    expression_sound _ _ (typed.text at kind n is there) =
        subst (λ e. IsOfType p own e kind.0) (sym (trees.expression_is p here (layer.Text at kind n)))
        (plain_typed at kind _ (λ s. literal s (value.Text n) kind.0 (ap class_in (text_node p own (node_of p kind.0) is), text_is s n kind.0 is, there)))
    expression_sound _ _ (typed.nil at kind is) =
        subst (λ e. IsOfType p own e kind.0) (sym (trees.expression_is p here (layer.Nil at kind)))
        (plain_typed at kind _ (λ s. literal s value.Nil kind.0 is))
    expression_sound _ _ (typed.procedure at kind n is of) =
        subst (λ e. IsOfType p own e kind.0) (sym (trees.expression_is p here (layer.Procedure at kind n)))
        (plain_typed at kind _ (λ s. literal s (value.Procedure n None) kind.0 (is, of)))
    expression_sound _ _ (typed.inner_procedure at kind n q procedures is level of) =
        subst (λ e. IsOfType p own e kind.0) (sym (trees.expression_is p here (layer.InnerProcedure at kind n)))
        (plain_typed at kind _ (λ s. subst (λ o. Gives p own s (Typed p kind.0) (there o >>= (λ (q : ProcDef). activation_at p here (q.level - 1) >>= (λ activation. given (value.Procedure n (Some activation)))))) (sym is) (inner_given s n kind.0 q procedures level of)))
    expression_sound _ _ (typed.constant at kind n v is of) =
        subst (λ e. IsOfType p own e kind.0) (sym (trees.expression_is p here (layer.Constant at kind n)))
        (plain_typed at kind _ (λ s. subst (λ o. Gives p own s (Typed p kind.0) (there o)) (sym is) (literal s v kind.0 (of s))))
    expression_sound _ _ (typed.chain c t is) =
        subst (λ e. IsOfType p own e t) (sym (trees.expression_is p here (layer.Chain c)))
        (of_chain_sound p own here (chain p here c.now) t (chain_typed c.now (ValueOf t) is))
    expression_sound _ _ (typed.prefixed at kind os e t is fits) =
        subst (λ e. IsOfType p own e kind.0) (sym (trees.expression_is p here (layer.Prefixed at kind os e)))
        (plain_typed at kind _ (prefix_form p own os.now (expression p here e.now) t kind.0 (expression_sound e.now t is) fits))
    expression_sound _ _ (typed.operations at first rest t result is row) =
        subst (λ e. IsOfType p own e result) (sym (trees.expression_is p here (layer.Operations at first rest)))
        (operations_typed at (expression p here first.now) (map (trees.operation p here) rest.now) t result (expression_sound first.now t is) (row_typed t rest.now result row))
    expression_sound _ _ (typed.set_of at kind elements member is numbers all) =
        subst (λ e. IsOfType p own e kind.0) (sym (trees.expression_is p here (layer.SetOf at kind elements)))
        (plain_typed at kind _ (λ s. set_form p own kind.0 member is numbers (map (trees.set_element p here) elements.now) (elements_typed member elements.now all) s [] tt))
    expression_sound _ _ (typed.record_of at kind fields ns is all each) =
        let f = fields_typed _ fields.now ns all in
        subst (λ e. IsOfType p own e kind.0) (sym (trees.expression_is p here (layer.RecordOf at kind fields)))
        (plain_typed at kind _ (record_form p own kind.0 (map (trees.field p here) fields.now) is f.0 (subst (typed.HasEachField _) (sym f.1) each)))
    expression_sound _ _ (typed.ranged at kind e t is from to) =
        subst (λ e. IsOfType p own e kind.0) (sym (trees.expression_is p here (layer.Convert at kind conversion.Range e)))
        (plain_typed at kind _ (range_form p own at (expression p here e.now) t kind.0 (expression_sound e.now t is) from to))
    expression_sound _ _ (typed.narrowed at kind e t is from to) =
        subst (λ e. IsOfType p own e kind.0) (sym (trees.expression_is p here (layer.Convert at kind conversion.Narrow e)))
        (plain_typed at kind _ (narrow_form p own at (expression p here e.now) t kind.0 (expression_sound e.now t is) from to))
    expression_sound _ _ (typed.tested at kind e other t is from boolean) =
        subst (λ e. IsOfType p own e kind.0) (sym (trees.expression_is p here (layer.TypeTest at kind e other)))
        (plain_typed at kind _ (test_form p own (expression p here e.now) t other.0 kind.0 (expression_sound e.now t is) from boolean))
    expression_sound _ _ (typed.widened e t wider is from to part) = widen (expression p here e) t wider (expression_sound e t is) from to part
    expression_sound _ _ (typed.array_of at kind first rest elements is_filled e size row arrays of sizes all fits) =
        subst (λ e. IsOfType p own e kind.0) (sym (trees.expression_is p here (layer.ArrayOf at kind elements is_filled)))
        (plain_typed at kind _ (λ s. subst (λ xs. Gives p own s (Typed p kind.0) (constructors.array_value p kind.0 (map (expression p here) xs) is_filled)) (sym row)
        (array_form p own kind.0 e size is_filled (expression p here first) (map (expression p here) rest) arrays of sizes (subst (λ xs. TypedRowOf p own e (map (expression p here) xs)) row (row_of_typed e elements.now all)) (subst (λ n. count_fits is_filled size (elements_of p kind.0) (suc n) ≡ true) (sym (length-map rest (expression p here))) (subst (λ (xs : List CoreExpr). count_fits is_filled size (elements_of p kind.0) (length xs) ≡ true) row fits)) s)))
    expression_sound _ _ (typed.empty_array at kind elements e size row arrays of sizes said fits) =
        subst (λ e. IsOfType p own e kind.0) (sym (trees.expression_is p here (layer.ArrayOf at kind elements false)))
        (plain_typed at kind _ (λ s. subst (λ xs. Gives p own s (Typed p kind.0) (constructors.array_value p kind.0 (map (expression p here) xs) false)) (sym row)
        (empty_form p own kind.0 e size arrays of sizes said fits s)))
    expression_sound _ _ (typed.new_cell at kind made sizes bindings us no_sizes bound class is content) =
        subst (λ e. IsOfType p own e kind.0) (sym (trees.expression_is p here (layer.New at kind made sizes bindings)))
        (plain_typed at kind _ (λ s. subst (λ xs. Gives p own s (Typed p kind.0) (constructors.new_cell p made.0 (map (expression p here) xs) (map (trees.binding p here) bindings.now))) (sym no_sizes)
        (new_sound p own made.0 kind.0 (map (trees.binding p here) bindings.now) us (bindings_typed kind.0 bindings.now us bound) class is content s)))
    expression_sound _ _ (typed.routine c t is) =
        subst (λ e. IsOfType p own e t) (sym (trees.expression_is p here (layer.Builtin c)))
        (record { value = routine_typed c.now (Some t) is; unread = unread_sound _ t (routine_typed c.now (Some t) is) })
    expression_sound _ _ (typed.outermost at kind e is) =
        subst (λ e. IsOfType p own e kind.0) (sym (trees.expression_is p here (layer.Convert at kind conversion.Nested e)))
        (plain_typed at kind _ (λ s. bind_sound p own s (Typed p kind.0) (Typed p kind.0) _ _ ((expression_sound e.now kind.0 is).value s) (λ v u l q. nested at kind.0 v u q)))
    expression_sound _ _ (typed.limit_of at kind l begins base row noted c b t e form is arrays of numbers has) =
        let known = chain_typed c.now (PlaceOf b t) is in
        subst (λ e. IsOfType p own e kind.0) (sym (trees.expression_is p here (layer.ArrayLimit at kind l c)))
        (plain_typed at kind _ (λ s. limit_sound p own here l noted.0 kind.0 (chain p here c.now) b t
        (ap (λ (c : Chained). c.kind) (ap (chain p here) form ∙ trees.chain_is p here (record { pos = begins; base = base; steps = row; kind = Some noted })))
        (λ u. known.thing u) arrays has numbers s))
    expression_sound _ _ (typed.opened e t other size is alike) = of_open (expression p here e) t other size (expression_sound e t is) alike
    expression_sound _ _ (typed.shaped at kind e t size wanted is alike) =
        subst (λ e. IsOfType p own e kind.0) (sym (trees.expression_is p here (layer.Convert at kind conversion.Shape e)))
        (plain_typed at kind _ (shape_form at kind.0 (expression p here e.now) t size wanted (expression_sound e.now t is) alike))
    expression_sound _ _ (typed.above e t other is c d under) = of_above (expression p here e) t other (expression_sound e t is) c d under
    expression_sound _ _ (typed.called_as e t other is procedures class alike) = of_alike (expression p here e) t other (expression_sound e t is) procedures class alike
    expression_sound _ _ (typed.same e t other is alike) = of_same (expression p here e) t other (expression_sound e t is) alike

    row_typed : (t : ℕ) (os : List Operation) (result : ℕ) → IsRow p here own t os result → TypedRow p own t (map (trees.operation p here) os) result
    row_typed _ _ _ (typed.last t) = rows.none t
    row_typed _ _ _ (typed.next t right result o at e kind os is fits row) =
        subst (λ x. TypedRow p own t (x ∷ map (trees.operation p here) os) result) (sym (trees.operation_is p here (record { operator = o; pos = at; right = e; kind = kind })))
        (rows.more t right kind.0 result (record { operator = o; pos = at; right = expression p here e.now; kind = Some kind.0 }) (map (trees.operation p here) os) (expression_sound e.now right is) fits (row_typed kind.0 os result row))

    elements_typed : (member : ℕ) (es : List SetElement) → AreSetElements p here own member es → TypedElements p own member (map (trees.set_element p here) es)
    elements_typed _ _ (typed.no_elements member) = parts.no_elements
    elements_typed _ _ (typed.one_element member e es is more) =
        subst (λ x. TypedElements p own member (x ∷ map (trees.set_element p here) es)) (sym (trees.set_element_is p here (layer.One e)))
        (parts.one_element (expression p here e.now) (map (trees.set_element p here) es) (expression_sound e.now member is) (elements_typed member es more))
    elements_typed _ _ (typed.range_element member first last es is also more) =
        subst (λ x. TypedElements p own member (x ∷ map (trees.set_element p here) es)) (sym (trees.set_element_is p here (layer.Range first last)))
        (parts.range_element (expression p here first.now) (expression p here last.now) (map (trees.set_element p here) es) (expression_sound first.now member is) (expression_sound last.now member also) (elements_typed member es more))

    fields_typed : (fields : List Field) (vs : List FieldValue) (ns : List ℕ) → AreFieldValues p here own fields vs ns → TypedFields p own fields (map (trees.field p here) vs) × (map field_of (map (trees.field p here) vs) ≡ ns)
    fields_typed _ _ _ (typed.no_fields fields) = (parts.no_fields, refl)
    fields_typed _ _ _ (typed.one_field fields n f e vs ns there is more) =
        let rest = fields_typed fields vs ns more in
        let v : Valued = record { owner = None; field = n; value = expression p here e.now } in
        subst (λ x. TypedFields p own fields (x ∷ map (trees.field p here) vs) × (map field_of (x ∷ map (trees.field p here) vs) ≡ n ∷ ns)) (sym (trees.field_is p here (record { field = n; value = e })))
        (parts.one_field v (map (trees.field p here) vs) (subst (parts.IsForField p own (expression p here e.now)) (sym there) (expression_sound e.now f.kind.0 is)) rest.0, ap (λ ms. n ∷ ms) rest.1)

    pub chain_typed : (c : Chain) (g : Given) → IsChain p here own c g → TypedChain p own here (chain p here c) g
    chain_typed _ _ (typed.steps at base row kind g h is all) =
        subst (λ c. TypedChain p own here c h) (sym (trees.chain_is p here (record { pos = at; base = base; steps = row; kind = kind })))
        (chain_sound p own here at (trees.base p here base) g h (map (trees.step p here) row.now) (type_of kind) (base_typed base g is) (steps_typed g row.now h all))

    base_typed : (b : Base) (g : Given) → IsBase p here own b g → TypedBase p own here (trees.base p here b) g
    base_typed _ _ (typed.global x kind v is fixed) =
        let g : Given = PlaceOf true (type_of_variable v.kind) in
        subst (λ b. TypedBase p own here b g) (sym (trees.base_is p here (layer.Global x kind)))
        (record {
          thing = λ at s. thing_given p own g s (At (whole (Global x))) (global_place p own.holds s x v is fixed);
          unread = λ at s. given_sound p own s (IsReadable p own) (At (whole (Global x))) (λ u l. readable p own g u (At (whole (Global x))) (global_place p own.holds u x v is fixed));
        })
    base_typed _ _ (typed.own_variable level x kind t mine is fixed) =
        let g : Given = PlaceOf true t in
        subst (λ b. TypedBase p own here b g) (sym (trees.base_is p here (layer.Local level x kind)))
        (record {
          thing = λ at s. own_sound p own here level x t mine is fixed s;
          unread = λ at s. bind_sound p own s (IsGiven p own.holds g) (IsReadable p own) _ given (own_sound p own here level x t mine is fixed s) (λ thing u l q. given_sound p own u (IsReadable p own) thing (λ w k. readable p own g w thing (given_stays p own.holds g u w thing k q)));
        })
    base_typed _ _ (typed.subarray array start count kind b t e f n m first rest is arrays of sizes opened open_element open_sizes same one numbers two others) =
        let g : Given = PlaceOf b kind.0 in
        let partly : ArePartly p own here t kind.0 = record { array = arrays; e = e; element_is = of; first = first; rest = rest; sizes = sizes; open_array = opened; f = f; open_element = open_element; open_sizes = open_sizes; same = same } in
        let known = chain_typed array.now (PlaceOf b t) is in
        let sound = subarray_sound p own here in
        let left = expression_sound start.now n one in
        let right = expression_sound count.now m two in
        subst (λ b. TypedBase p own here b g) (sym (trees.base_is p here (layer.Subarray array start count kind)))
        (record {
          thing = λ at s. sound at (chain p here array.now) (expression p here start.now) (expression p here count.now) b t kind.0 n m partly (λ u. known.thing u) left numbers right others s;
          unread = λ at s. bind_sound p own s (IsGiven p own.holds g) (IsReadable p own) _ given (sound at (chain p here array.now) (expression p here start.now) (expression p here count.now) b t kind.0 n m partly (λ u. known.thing u) left numbers right others s) (λ thing u l q. given_sound p own u (IsReadable p own) thing (λ w k. readable p own g w thing (given_stays p own.holds g u w thing k q)));
        })
    base_typed _ _ (typed.own_name level x kind a mine is knows) =
        let g : Given = PlaceOf a.is_variable a.kind in
        subst (λ b. TypedBase p own here b g) (sym (trees.base_is p here (layer.Alias level x kind)))
        (record {
          thing = λ at s. name_sound p own here level x a mine is knows s;
          unread = λ at s. bind_sound p own s (IsGiven p own.holds g) (IsReadable p own) _ given (name_sound p own here level x a mine is knows s) (λ thing u l q. given_sound p own u (IsReadable p own) thing (λ w k. readable p own g w thing (given_stays p own.holds g u w thing k q)));
        })
    base_typed _ _ (typed.inner c g is) =
        let known = chain_typed c.now g is in
        subst (λ b. TypedBase p own here b g) (sym (trees.base_is p here (layer.Inner c)))
        (record { thing = λ at s. known.thing s; unread = λ at s. known.unread s })
    base_typed _ _ (typed.value e t is) =
        let known = expression_sound e.now t is in
        subst (λ b. TypedBase p own here b (ValueOf t)) (sym (trees.base_is p here (layer.Base::Value e)))
        (record {
          thing = λ at s. bind_sound p own s (Typed p t) (IsGiven p own.holds (ValueOf t)) _ _ (known.value s) (λ v u l q. thing_given p own (ValueOf t) u (Is v) q);
          unread = λ at s. known.unread s;
        })

    steps_typed : (g : Given) (row : List Step) (h : Given) → AreSteps p here own g row h → TypedSteps p own here g (map (trees.step p here) row) h
    steps_typed _ _ _ (typed.no_steps g) = chains.none g
    steps_typed _ _ _ (typed.one_step g h k s row is more) = chains.next g h k (trees.step p here s) (map (trees.step p here) row) (step_typed g s h is) (steps_typed h row k more)

    step_typed : (g : Given) (s : Step) (h : Given) → IsStep p here own g s h → TypedStep p own here g (trees.step p here s) h
    step_typed _ _ _ (typed.read kind b t) =
        subst (λ x. TypedStep p own here (PlaceOf b t) x (ValueOf t)) (sym (trees.step_is p here (layer.Read kind)))
        (record { goes = λ before s thing f. read_sound p own here b t s thing f })
    step_typed _ _ _ (typed.keep kind t) =
        subst (λ x. TypedStep p own here (ValueOf t) x (PlaceOf false t)) (sym (trees.step_is p here (layer.Keep kind)))
        (record { goes = λ before s thing f. keep_sound p own here t s thing f })
    step_typed _ _ _ (typed.field n kind b t f is there fixed) =
        subst (λ x. TypedStep p own here (PlaceOf b t) x (PlaceOf b f.kind.0)) (sym (trees.step_is p here (layer.Field n kind)))
        (record { goes = λ before s thing g. field_sound p own here n b t f is there fixed s thing g })
    step_typed _ _ _ (typed.dereference kind t k e objects) =
        subst (λ x. TypedStep p own here (ValueOf t) x (PlaceOf true k)) (sym (trees.step_is p here (layer.Dereference kind)))
        (record { goes = λ before s thing g. dereference_sound p own here before.pos t k e objects s thing g })
    step_typed _ _ _ (typed.object_field owner n kind t u c have fixed) =
        subst (λ x. TypedStep p own here (ValueOf t) x (PlaceOf true u)) (sym (trees.step_is p here (layer.ObjectField owner n kind)))
        (record { goes = λ before s thing g. object_field_sound p own here before.pos owner.0 n t u c have fixed s thing g })
    step_typed _ _ _ (typed.call actuals kind t ns c agree all each) =
        subst (λ x. TypedStep p own here (ValueOf t) x (given_by (result_in (node_of p t)))) (sym (trees.step_is p here (layer.Call actuals kind)))
        (record { goes = λ before s thing g. call_sound p own here agree before (map (trees.actual p here) actuals.now) t c (actuals_typed (formals_in (node_of p t)) actuals.now ns all) s thing g })
    step_typed _ _ _ (typed.method_call owner m actuals kind t result formals ns c have all each) =
        subst (λ x. TypedStep p own here (ValueOf t) x (given_by result)) (sym (trees.step_is p here (layer.MethodCall owner m actuals kind)))
        (record { goes = λ before s thing g. method_call_sound p own here before.pos owner.0 m (map (trees.actual p here) actuals.now) t result c have (actuals_typed formals actuals.now ns all) s thing g })
    step_typed _ _ _ (typed.element_of index kind b t e i is of indexed numbers) =
        subst (λ x. TypedStep p own here (PlaceOf b t) x (PlaceOf b e)) (sym (trees.step_is p here (layer.Element index kind)))
        (record { goes = λ before s thing g. element_sound p own here (expression p here index.now) b t e i is of (expression_sound index.now i indexed) numbers before.kind s thing g })

    bindings_typed : (t : ℕ) (bs : List Binding) (us : List ℕ) → AreBindings p here own t bs us → TypedBindings p own t (map (trees.binding p here) bs) us
    bindings_typed _ _ _ (typed.no_bindings t) = creating.none
    bindings_typed _ _ _ (typed.one_binding t owner n e u bs us of is more) =
        subst (λ x. TypedBindings p own t (x ∷ map (trees.binding p here) bs) (u ∷ us)) (sym (trees.binding_is p here (record { owner = owner; field = n; value = e })))
        (creating.more (record { owner = type_of owner; field = n; value = expression p here e.now }) (map (trees.binding p here) bs) u us of (expression_sound e.now u is) (bindings_typed t bs us more))

    row_of_typed : (e : ℕ) (xs : List CoreExpr) → AreElementsOf p here own e xs → TypedRowOf p own e (map (expression p here) xs)
    row_of_typed _ _ (typed.none_of e) = rowing.none
    row_of_typed _ _ (typed.one_of e x xs is more) = rowing.more (expression p here x) (map (expression p here) xs) (expression_sound x e is) (row_of_typed e xs more)

    pub routine_typed : (c : BuiltinCall) (k : Option ℕ) → IsRoutine p here own c k → (s : Store) → Gives p own s (IsServed p own k) (routine p here c).value
    routine_typed _ _ (typed.routine_call at r actuals order kind ts all each fits) s =
        subst (λ (c : Served). Gives p own s (IsServed p own (type_of kind)) c.value) (sym (trees.routine_is p here (record { pos = at; routine = r; actuals = actuals; order = order; kind = kind })))
        (routine_sound p own r at (map (expression p here) actuals.now) order.now ts (type_of kind) (operands_typed actuals.now ts all) each fits s)

    operands_typed : (es : List CoreExpr) (ts : List ℕ) → AreOperands p here own es ts → TypedOperands p own (map (expression p here) es) ts
    operands_typed _ _ typed.no_operands = serving.no_operands
    operands_typed _ _ (typed.one_operand e es t ts is more) = serving.one_operand (expression p here e) (map (expression p here) es) t ts (expression_sound e t is) (operands_typed es ts more)

    actuals_typed : (formals : List Formal) (xs : List Actual) (ns : List ℕ) → AreActuals p here own formals xs ns → TypedPassings p own here (map (trees.actual p here) xs)
    actuals_typed _ _ _ (typed.no_actuals formals) = calling.no_passings
    actuals_typed _ _ _ (typed.value_actual formals n f kind e more ns there takes closed is rest) =
        subst (λ x. TypedPassings p own here (x ∷ map (trees.actual p here) more)) (sym (trees.actual_is p here (layer.Actual::Value n kind e)))
        (calling.one_passing (By_value n kind.0 (expression p here e.now)) (map (trees.actual p here) more) (calling.by_value n kind.0 (expression p here e.now) f.kind.0 (expression_sound e.now f.kind.0 is) closed) (actuals_typed formals more ns rest))
    actuals_typed _ _ _ (typed.place_actual formals n f kind c checks b t more ns there takes is same rest) =
        subst (λ x. TypedPassings p own here (x ∷ map (trees.actual p here) more)) (sym (trees.actual_is p here (layer.Place n kind c checks)))
        (calling.one_passing (By_place n kind.0 (chain p here c.now) checks) (map (trees.actual p here) more) (calling.by_place n kind.0 (chain p here c.now) checks b t (chain_typed c.now (PlaceOf b t) is)) (actuals_typed formals more ns rest))

pub expressions_are_sound : ExpressionsAreSound
expressions_are_sound p here own e t is = expression_sound p own here e t is
