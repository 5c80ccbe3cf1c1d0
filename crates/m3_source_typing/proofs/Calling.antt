-- Calls are defined, and give results of their types, where the answers fit.
use Rattle.std.proofs.Common.{◌≡◌, ⊎_elim, ℕ, zero, suc, Bool, true, false, List, [], ◌∷◌, ◌++◌, length, Option, Some, None, refl, sym, ap, ◌∙◌, subst}
use Rattle.std.specs.Prelude.{◌==◌, not}
use Rattle.std.specs.Option.{option_map, option_map_or, option_and_then, option_to_list}
use Rattle.m3_base.specs.declared.outcomes.FaultKind.TheVariants as fault_kind
use Rattle.m3_base.specs.declared.places.Pos.{Pos}
use Rattle.m3_core.specs.declared.program.ProcDef.{ProcDef}
use Rattle.m3_types.specs.declared.nodes.Formal.{Formal}
use Rattle.m3_types.specs.declared.nodes.Mode.{Mode}
use Rattle.m3_types.specs.declared.nodes.Mode.TheVariants as mode
use Rattle.m3_types.specs.declared.nodes.TypeId.{TypeId}
use Rattle.m3_runs.specs.Languages as asked
use Rattle.m3_runs.specs.Languages.{Answer, Calls}
use Rattle.m3_values.specs.Values as value
use Rattle.m3_values.specs.Values.{Value}
use Rattle.m3_values.specs.Arrays.{shape, fits}
use Rattle.m3_values.specs.Programs.{Program, procedure_at}
use Rattle.m3_values.specs.Types.{node_of, formals_in, is_open, type_sizes}
use Rattle.m3_values.specs.Methods.{method_place, procedure_of}
use Rattle.m3_values.specs.Places.{Thing, Is, At}
use Rattle.m3_values.specs.Store.{Store, cell_at, has_type, kind_of_object}
use Rattle.m3_source_meaning.specs.Meanings.{given}
use Rattle.m3_source_meaning.specs.Phrases.{Here, Expression, Chained, Passing, By_value, By_place, Before}
use Rattle.m3_source_meaning.specs.Constructors.{numbered, in_order_from, in_order}
use Rattle.m3_source_meaning.specs.Calls as meaning
use Rattle.m3_source_meaning.specs.Calls.{Passed, Passes, Copies, thing_of}
use Rattle.m3_source_meaning.specs.Designators as designators
use Rattle.m3_source_meaning.specs.Travelling.{argument_type, raised_by, result_of}
use Rattle.m3_source_typing.specs.ValueTypes.{OfReferences, OfProcedures, class_of, result_in, same_result, IsProcedureOf, HasType}
use Rattle.m3_source_typing.specs.Stores.{IsLater}
use Rattle.m3_source_typing.specs.Points.{AnswerFits, IsResult, result_type}
use Rattle.m3_source_typing.specs.Sound.{Scope, Gives, IsReadable, IsOfType}
use Rattle.m3_source_typing.specs.Operators as rule
use Rattle.m3_source_typing.specs.Expressions.{PlaceOf, ValueOf, given_by, HeadingsAgree, HaveMethod}
use Rattle.m3_source_typing.proofs.Staying.{reference_stays, argument_stays}
use Rattle.m3_source_typing.proofs.Combining.{given_sound, bind_sound, holding_sound, holding_all_sound, fault_sound, unless_sound, seeing_sound, valued_sound, acting_sound, raising_sound}
use Rattle.m3_source_typing.proofs.Operands.{right_true}
use Rattle.m3_source_typing.proofs.Operating.{Typed}
use Rattle.m3_source_typing.proofs.Places.{IsGiven, given_stays, readable, thing_given}
use Rattle.m3_source_typing.proofs.Sameness.{share_values}
use Rattle.m3_source_typing.proofs.Chains.{TypedChain, by_value_sound}
use Rattle.m3_source_typing.proofs.Cells.{references, IsKind, kind_there}

-- an actual that is passed as it is
abbrev pub IsPassed : Passed → Type 0
IsPassed (Passes thing) = Unit {0}
IsPassed (Copies kind thing) = ⊥

abbrev AllPassed : List Passed → Type 0
AllPassed [] = Unit {0}
AllPassed (x ∷ xs) = IsPassed x × AllPassed xs

abbrev EachPassed : List (ℕ × Passed) → Type 0
EachPassed [] = Unit {0}
EachPassed (x ∷ xs) = IsPassed x.1 × EachPassed xs

-- well typed actuals, of which none is copied
pub data TypedPassing (p : Program) (own : Scope) (here : Here) : Passing → Type 0 where
  by_value : (n kind : ℕ) (e : Expression) (t : ℕ) → IsOfType p own e t → is_open p kind ≡ false → TypedPassing p own here (By_value n kind e)
  by_place : (n kind : ℕ) (c : Chained) (checks b : Bool) (t : ℕ) → TypedChain p own here c (PlaceOf b t) → TypedPassing p own here (By_place n kind c checks)

pub data TypedPassings (p : Program) (own : Scope) (here : Here) : List Passing → Type 0 where
  no_passings : TypedPassings p own here []
  one_passing : (x : Passing) (xs : List Passing) → TypedPassing p own here x → TypedPassings p own here xs → TypedPassings p own here (x ∷ xs)

-- ---- in the order of formals

each_and : (xs : List (ℕ × Passed)) (x : ℕ × Passed) → EachPassed xs → IsPassed x.1 → EachPassed (xs ++ x ∷ [])
each_and [] x h g = (g, tt)
each_and (y ∷ xs) x h g = (h.0, each_and xs x h.1 g)

numbered_passed : (n : ℕ) (xs : List (ℕ × Passed)) → EachPassed xs → AllPassed (option_to_list (numbered n xs))
numbered_passed n [] h = tt
numbered_passed n (x ∷ xs) h = at (x.0 == n) (numbered_passed n xs h.1)
  where
    at : (b : Bool) → AllPassed (option_to_list (numbered n xs)) → AllPassed (option_to_list (elim b as (λ c. Option Passed) [ true ↦ Some x.1 | false ↦ numbered n xs ]))
    at true g = (h.0, tt)
    at false g = g

both_passed : (xs ys : List Passed) → AllPassed xs → AllPassed ys → AllPassed (xs ++ ys)
both_passed [] ys h g = g
both_passed (x ∷ xs) ys h g = (h.0, both_passed xs ys h.1 g)

ordered_from : (count at : ℕ) (xs : List (ℕ × Passed)) → EachPassed xs → AllPassed (in_order_from count at xs)
ordered_from zero at xs h = tt
ordered_from (suc count) at xs h = both_passed (option_to_list (numbered at xs)) (in_order_from count (suc at) xs) (numbered_passed at xs h) (ordered_from count (suc at) xs h)

module _ (p : Program) (own : Scope) (here : Here) where
  -- ---- actuals

  value_for_sound : (m : Mode) (b : Bool) (kind : ℕ) (e : Expression) (t : ℕ) → b ≡ false → IsOfType p own e t → (s : Store) → Gives p own s (λ u x. IsPassed x) (meaning.value_for p m b kind e)
  value_for_sound m true kind e t closed is s = absurd (let bad : true ≡ false = closed in cc)
  value_for_sound mode.Value false kind e t closed is s = bind_sound p own s (Typed p t) _ _ _ (is.value s) (λ v u l q. given_sound p own u _ (Passes (Is v)) (λ w k. tt))
  value_for_sound mode.Var false kind e t closed is s = bind_sound p own s (Typed p t) _ _ _ (is.value s) (λ v u l q. given_sound p own u _ (meaning.new_variable v) (λ w k. tt))
  value_for_sound mode.Readonly false kind e t closed is s = bind_sound p own s (Typed p t) _ _ _ (is.value s) (λ v u l q. given_sound p own u _ (meaning.new_variable v) (λ w k. tt))

  check_sound : (b : Bool) (at : Pos) (kind : ℕ) (thing : Thing) (s : Store) → IsReadable p own s thing → Gives p own s (λ u x. Unit {0}) (meaning.check_of_shape p b at kind thing)
  check_sound false at kind thing s h = given_sound p own s _ tt (λ u l. tt)
  check_sound true at kind thing s h = bind_sound p own s _ _ _ _ (valued_sound p own s thing h)
      (λ v u l q. bind_sound p own u (λ w x. not (fits (type_sizes p kind) (shape v)) ≡ false) _ _ given (unless_sound p own u fault_kind.Shape at (not (fits (type_sizes p kind) (shape v)))) (λ x w k f. given_sound p own w _ x (λ y d. tt)))

  actual_sound : (formals : List Formal) (x : Passing) → TypedPassing p own here x → (s : Store) → Gives p own s (λ u y. IsPassed y.1) (meaning.actual p formals x)
  actual_sound formals _ (by_value n kind e t is closed) s =
      bind_sound p own s (λ u y. IsPassed y) _ _ _ (value_for_sound (meaning.mode_of p formals n) (is_open p kind) kind e t closed is s)
      (λ y u l q. given_sound p own u (λ w z. IsPassed z.1) (n, y) (λ w k. q))
  actual_sound formals _ (by_place n kind c checks b t is) s =
      bind_sound p own s (IsGiven p own.holds (PlaceOf b t)) _ _ _ (is.thing s)
      (λ thing u l q. bind_sound p own u (λ w x. Unit {0}) _ _ _ (check_sound checks c.pos kind thing u (readable p own (PlaceOf b t) u thing q))
      (λ x w k f. given_sound p own w (λ y z. IsPassed z.1) (n, Passes thing) (λ y d. tt)))

  each_actual_sound : (formals : List Formal) (xs : List Passing) → TypedPassings p own here xs → (before : List (ℕ × Passed)) → EachPassed before → (s : Store) → Gives p own s (λ u ys. EachPassed ys) (meaning.each_actual p formals before xs)
  each_actual_sound formals _ no_passings before h s = given_sound p own s _ before (λ u l. h)
  each_actual_sound formals _ (one_passing x xs is more) before h s =
      bind_sound p own s (λ u y. IsPassed y.1) _ _ _ (holding_all_sound p own s _ _ (meaning.actual p formals x) (actual_sound formals x is s))
      (λ y u l q. each_actual_sound formals xs more (before ++ y ∷ []) (each_and before y h q) u)

  each_copied_sound : (xs : List Passed) → AllPassed xs → (s : Store) → Gives p own s (λ u things. Unit {0}) (meaning.each_copied p xs)
  each_copied_sound [] h s = given_sound p own s _ [] (λ u l. tt)
  each_copied_sound (Copies kind thing ∷ xs) h s = absurd h.0
  each_copied_sound (Passes thing ∷ xs) h s =
      bind_sound p own s (λ u things. Unit {0}) _ _ _ (holding_sound p own s _ thing (meaning.each_copied p xs) (each_copied_sound xs h.1 s))
      (λ things u l q. given_sound p own u _ (thing ∷ things) (λ w k. tt))

  -- ---- the call

  result_given : (s : Store) (v : Value) (o r : Option ℕ) → IsResult p s v o → same_result p o r ≡ true → IsGiven p own.holds (given_by r) s (Is v)
  result_given s v None r h e = absurd h
  result_given s v (Some t) None h e = absurd (let bad : false ≡ true = e in cc)
  result_given s v (Some t) (Some u) h e = share_values p s v t u e h

  no_result : (s : Store) (v : Value) (o r : Option ℕ) → o ≡ None → same_result p o r ≡ true → IsGiven p own.holds (given_by r) s (Is v)
  no_result s v None None h e = tt
  no_result s v None (Some u) h e = absurd (let bad : false ≡ true = e in cc)
  no_result s v (Some t) r h e = absurd (let bad : Some t ≡ None = h in cc)

  abbrev IsResultThing : Option ℕ → Store → Value → Type 0
  IsResultThing r s v = IsGiven p own.holds (given_by r) s (Is v)

  result_stays : (r : Option ℕ) (s u : Store) (v : Value) → IsLater s u → IsResultThing r s v → IsResultThing r u v
  result_stays r s u v l h = given_stays p own.holds (given_by r) s u (Is v) l h

  result_sound : (q : ℕ) (env : Thing) (formals : List Thing) (r : Option ℕ) (a : Answer Thing) (s : Store) → same_result p (result_type p q) r ≡ true → AnswerFits p s (Calls q env formals) a → Gives p own s (IsResultThing r) (result_of p a)
  result_sound q env formals r (asked.Gives None) s e fits = given_sound p own s _ value.Nil (λ u l. result_stays r s u value.Nil l (no_result s value.Nil (result_type p q) r fits e))
  result_sound q env formals r (asked.Gives (Some (Is v))) s e fits = given_sound p own s _ v (λ u l. result_stays r s u v l (result_given s v (result_type p q) r fits e))
  result_sound q env formals r (asked.Gives (Some (At to))) s e fits = absurd fits
  result_sound q env formals r (asked.Raises x n t) s e fits = raising_sound p own s _ (raised_by p x n t) (λ u l. argument_stays p s u l _ (argument_type p x) fits)
  result_sound q env formals r (asked.Fails kind) s e fits = absurd fits

  called_sound : (q : ℕ) (around : Option ℕ) (formals : List Thing) (r : Option ℕ) (s : Store) → same_result p (result_type p q) r ≡ true → Gives p own s (IsGiven p own.holds (given_by r)) (meaning.called p q around formals)
  called_sound q around formals r s e =
      bind_sound p own s (λ u a. AnswerFits p u (Calls q (Is (value.Procedure q around)) formals) a) _ _ _ (acting_sound p own s (Calls q (Is (value.Procedure q around)) formals) (λ a. refl))
      (λ a u l fits. bind_sound p own u (IsResultThing r) _ _ _ (result_sound q (Is (value.Procedure q around)) formals r a u e fits)
      (λ v w k h. thing_given p own (given_by r) w (Is v) h))

  call_with_sound : (formals : List Formal) (first : List Thing) (q : ℕ) (around : Option ℕ) (xs : List Passing) (r : Option ℕ) → TypedPassings p own here xs → same_result p (result_type p q) r ≡ true → (s : Store) → Gives p own s (IsGiven p own.holds (given_by r)) (meaning.call_with p formals first q around xs)
  call_with_sound formals first q around xs r typed e s =
      bind_sound p own s (λ u ys. EachPassed ys) _ _ _ (holding_all_sound p own s _ first (meaning.each_actual p formals [] xs) (each_actual_sound formals xs typed [] tt s))
      (λ ys u l h. bind_sound p own u (λ w things. Unit {0}) _ _ _ (holding_all_sound p own u _ first (meaning.each_copied p (in_order ys)) (each_copied_sound (in_order ys) (ordered_from (length ys) 0 ys h) u))
      (λ things w k g. called_sound q around (first ++ things) r w e))

  -- ---- procedure values

  result_of_type : HeadingsAgree p → (n t : ℕ) (o : Option ProcDef) → procedure_at p n ≡ o → IsProcedureOf p o t → same_result p (result_type p n) (result_in (node_of p t)) ≡ true
  result_of_type agree n t None is h = absurd h
  result_of_type agree n t (Some q) is h =
      subst (λ r. same_result p r (result_in (node_of p t)) ≡ true) (agree n q is ∙ sym (ap (λ o. option_and_then (λ (q : ProcDef). option_map (λ (t : TypeId). t.0) q.result) o) is))
      (right_true _ (same_result p (result_in (node_of p q.kind.0)) (result_in (node_of p t))) h)

  call_of_sound : HeadingsAgree p → (before : Before) (xs : List Passing) (t : ℕ) → class_of p t ≡ OfProcedures → TypedPassings p own here xs → (v : Value) (s : Store) → HasType p s v t → Gives p own s (IsGiven p own.holds (given_by (result_in (node_of p t)))) (meaning.call_of p before xs v)
  call_of_sound agree before xs t c typed value.Nil s h = fault_sound p own s _ fault_kind.Nil before.pos
  call_of_sound agree before xs t c typed (value.Procedure q around) s h = call_with_sound (option_map_or (λ t. formals_in (node_of p t)) before.kind []) [] q around xs (result_in (node_of p t)) typed (result_of_type agree q t (procedure_at p q) refl h.1) s
  call_of_sound agree before xs t c typed (value.Ordinal z) s h = let bad : true ≡ false = sym (ap rule.is_procedures c) ∙ ap rule.is_procedures h.0 in absurd cc
  call_of_sound agree before xs t c typed (value.Pointer d) s h = let bad : true ≡ false = sym (ap rule.is_procedures c) ∙ ap rule.is_procedures h.0 in absurd cc
  call_of_sound agree before xs t c typed (value.Text n) s h = let bad : true ≡ false = sym (ap rule.is_procedures c) ∙ ap rule.is_procedures h.0 in absurd cc
  call_of_sound agree before xs t c typed value.MainThread s h = let bad : true ≡ false = sym (ap rule.is_procedures c) ∙ ap rule.is_procedures h.0 in absurd cc
  call_of_sound agree before xs t c typed (value.Members ms) s h = let bad : true ≡ false = sym (ap rule.is_procedures c) ∙ ap rule.is_procedures h.0 in absurd cc
  call_of_sound agree before xs t c typed (value.Record vs) s h = let bad : true ≡ false = sym (ap rule.is_procedures c) ∙ ap rule.is_procedures h.0 in absurd cc
  call_of_sound agree before xs t c typed (value.Array below vs) s h = let bad : true ≡ false = sym (ap rule.is_procedures c) ∙ ap rule.is_procedures h.0 in absurd cc

  pub call_sound : HeadingsAgree p → (before : Before) (xs : List Passing) (t : ℕ) → class_of p t ≡ OfProcedures → TypedPassings p own here xs → (s : Store) (thing : Thing) → IsGiven p own.holds (ValueOf t) s thing → Gives p own s (IsGiven p own.holds (given_by (result_in (node_of p t)))) (designators.by_value p here (meaning.call_of p before xs) thing)
  call_sound agree before xs t c typed s thing q = by_value_sound p own here t (given_by (result_in (node_of p t))) (meaning.call_of p before xs) (call_of_sound agree before xs t c typed) s thing q

  -- ---- methods

  bound_sound : (at : Pos) (formals : List Formal) (xs : List Passing) (object : Value) (o r : Option ℕ) → TypedPassings p own here xs → ((n : ℕ) → o ≡ Some n → same_result p (result_type p n) r ≡ true) → (s : Store) → Gives p own s (IsGiven p own.holds (given_by r)) (meaning.bound_call p at formals xs object o)
  bound_sound at formals xs object None r typed h s = fault_sound p own s _ fault_kind.Nil at
  bound_sound at formals xs object (Some n) r typed h s = call_with_sound formals (Is object ∷ []) n None xs r typed (h n refl) s

  method_of_sound : (at : Pos) (owner m : ℕ) (xs : List Passing) (t c : ℕ) (r : Option ℕ) → HaveMethod p t (method_place p owner m) r → TypedPassings p own here xs → (s : Store) → has_type p s t (value.Pointer c) ≡ Some true → Gives p own s (IsGiven p own.holds (given_by r)) (meaning.method_of p at owner m xs (value.Pointer c))
  method_of_sound at owner m xs t c r have typed s h =
      bind_sound p own s (IsKind p t) _ _ _ (seeing_sound p own s (IsKind p t) (λ mem. kind_of_object p mem.store (value.Pointer c)) (λ mem l good. kind_there p t mem.store have.no_text have.no_thread (cell_at mem.store c) (reference_stays p s mem.store l c t h)))
      (λ kind u l q. bound_sound at _ xs (value.Pointer c) (procedure_of p kind (method_place p owner m)) r typed (λ n e. have.each kind q n e) u)

  pub method_call_sound : (at : Pos) (owner m : ℕ) (xs : List Passing) (t : ℕ) (r : Option ℕ) → class_of p t ≡ OfReferences → HaveMethod p t (method_place p owner m) r → TypedPassings p own here xs → (s : Store) (thing : Thing) → IsGiven p own.holds (ValueOf t) s thing → Gives p own s (IsGiven p own.holds (given_by r)) (designators.by_value p here (meaning.method_call p at owner m xs) thing)
  method_call_sound at owner m xs t r c have typed s thing q = by_value_sound p own here t (given_by r) (meaning.method_call p at owner m xs) go s thing q
    where
      go : (v : Value) (s : Store) → HasType p s v t → Gives p own s (IsGiven p own.holds (given_by r)) (meaning.method_call p at owner m xs v)
      go v s h = ⊎_elim
          (λ (is : v ≡ value.Nil). subst (λ x. Gives p own s (IsGiven p own.holds (given_by r)) (meaning.method_call p at owner m xs x)) (sym is) (fault_sound p own s _ fault_kind.Nil at))
          (λ w. subst (λ x. Gives p own s (IsGiven p own.holds (given_by r)) (meaning.method_call p at owner m xs x)) (sym w.1) (method_of_sound at owner m xs t w.0 r have typed s w.2))
          (references p s v t c have.no_text have.no_thread h)
