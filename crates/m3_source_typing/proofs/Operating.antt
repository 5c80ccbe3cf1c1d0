-- Operators between operands that fit them are defined.
use Rattle.std.proofs.Common.{◌≡◌, ℕ, ℤ, pos, Bool, true, false, List, [], ◌∷◌, Option, Some, None, refl, sym, ap, ◌∙◌, subst}
use Rattle.std.specs.Prelude.{◌+ℤ◌, ◌-ℤ◌, ◌*ℤ◌, neg_ℤ, nat_abs}
use Rattle.std.specs.Option.{option_map}
use Rattle.m3_base.specs.Integers.{is_integer}
use Rattle.m3_base.specs.declared.outcomes.FaultKind.TheVariants as fault_kind
use Rattle.m3_base.specs.declared.places.Pos.{Pos}
use Rattle.m3_core.specs.declared.exprs.Compared.{Compared}
use Rattle.m3_core.specs.declared.exprs.Compared.TheVariants as compared
use Rattle.m3_core.specs.declared.exprs.Operator.{Operator}
use Rattle.m3_core.specs.declared.exprs.Operator.TheVariants as operator
use Rattle.m3_core.specs.declared.exprs.Prefix.{Prefix}
use Rattle.m3_core.specs.declared.exprs.PrefixOperator.{PrefixOperator}
use Rattle.m3_core.specs.declared.exprs.PrefixOperator.TheVariants as prefix
use Rattle.m3_core.specs.declared.exprs.Relation.{Relation}
use Rattle.m3_core.specs.declared.exprs.Relation.TheVariants as relation
use Rattle.m3_runs.specs.Languages as asked
use Rattle.m3_runs.specs.Languages.{Answer, Concatenated, Makes}
use Rattle.m3_types.specs.declared.nodes.TypeNode.{TypeNode}
use Rattle.m3_types.specs.declared.nodes.TypeNode.TheVariants as node
use Rattle.m3_values.specs.Values as value
use Rattle.m3_values.specs.Values.{Value, same_integer, truth}
use Rattle.m3_values.specs.Integers as integers
use Rattle.m3_values.specs.Integers.{Computed}
use Rattle.m3_values.specs.Sets as sets
use Rattle.m3_values.specs.Programs.{Program}
use Rattle.m3_values.specs.Types.{Bounds, node_of, unveiled, unveiled_in}
use Rattle.m3_values.specs.Places.{Thing, Is, At}
use Rattle.m3_values.specs.Store as store
use Rattle.m3_values.specs.Store.{Cell, Store, cell_at, cell_has_type, is_text_type}
use Rattle.m3_source_meaning.specs.Meanings.{Evaluates, given, ◌>>=◌}
use Rattle.m3_source_meaning.specs.Phrases.{Expression, Operated}
use Rattle.m3_source_meaning.specs.Operators as meaning
use Rattle.m3_source_typing.specs.ValueTypes.{class_in, class_of, member_bounds, AreMembersOf, HasType}
use Rattle.m3_source_typing.specs.Stores.{IsLater}
use Rattle.m3_source_typing.specs.Points.{AnswerFits, IsMade}
use Rattle.m3_source_typing.specs.Sound.{Scope, Gives, IsOfType}
use Rattle.m3_source_typing.specs.Operators as rule
use Rattle.m3_source_typing.specs.Operators.{is_numbers, is_text_in}
use Rattle.m3_source_typing.proofs.Staying.{type_stays}
use Rattle.m3_source_typing.proofs.Combining.{given_sound, bind_sound, holding_sound, fault_sound, computed_sound, acting_sound}
use Rattle.m3_source_typing.proofs.Operands as operand
use Rattle.m3_source_typing.proofs.Operands.{left_true, right_true, IsIntegerResult, number_of, set_of, truth_typed, integer_typed}

abbrev pub Typed : Program → ℕ → Store → Value → Type 0
Typed p t s v = HasType p s v t

module _ (p : Program) (own : Scope) where
  -- a value of a type is given
  pub typed_given : (s : Store) (t : ℕ) (v : Value) → HasType p s v t → Gives p own s (Typed p t) (given v)
  typed_given s t v h = given_sound p own s (Typed p t) v (λ u l. type_stays p s u l v t h)

  pub truth_given : (s : Store) (b : Bool) (t : ℕ) → rule.is_boolean p t ≡ true → Gives p own s (Typed p t) (given (truth b))
  truth_given s b t h = typed_given s t (truth b) (truth_typed p s b t h)

  integer_given : (s : Store) (at : Pos) (c : Computed ℤ) (t : ℕ) → rule.is_integer p t ≡ true → IsIntegerResult c → Gives p own s (Typed p t) (meaning.ordinal at c)
  integer_given s at c t h i = bind_sound p own s (λ u z. is_integer z ≡ true) (Typed p t) _ _
      (computed_sound p own s (λ u z. is_integer z ≡ true) at c (λ x e u l. i x e))
      (λ z u l q. typed_given u t (value.Ordinal z) (integer_typed p u z t h q))

  -- ---- operators before an operand

  signed_sound : (o : PrefixOperator) (at : Pos) (t u : ℕ) (s : Store) (v : Value) → rule.prefix_fits p o t u ≡ true → HasType p s v t → Gives p own s (Typed p u) (meaning.signed o at v)
  signed_sound prefix.Not at t u s v fits h =
      let n = number_of p s v t (left_true _ _ (left_true _ _ fits)) h in
      subst (λ w. Gives p own s (Typed p u) (meaning.signed prefix.Not at w)) (sym n.1) (truth_given s (same_integer n.0 (pos 0)) u (right_true _ _ fits))
  signed_sound prefix.Minus at t u s v fits h =
      let n = number_of p s v t (left_true _ _ (left_true _ _ fits)) h in
      subst (λ w. Gives p own s (Typed p u) (meaning.signed prefix.Minus at w)) (sym n.1) (integer_given s at (integers.negated n.0) u (right_true _ _ fits) (operand.within_is (neg_ℤ n.0)))
  signed_sound prefix.Abs at t u s v fits h =
      let n = number_of p s v t (left_true _ _ (left_true _ _ fits)) h in
      subst (λ w. Gives p own s (Typed p u) (meaning.signed prefix.Abs at w)) (sym n.1) (integer_given s at (integers.absolute n.0) u (right_true _ _ fits) (operand.within_is (pos (nat_abs n.0))))

  pub prefixed_sound : (os : List Prefix) (t u : ℕ) (s : Store) (v : Value) → rule.prefixes_fit p os t u ≡ true → HasType p s v t → Gives p own s (Typed p u) (meaning.prefixed os v)
  prefixed_sound [] t u s v fits h = absurd (let bad : false ≡ true = fits in cc)
  prefixed_sound (o ∷ []) t u s v fits h = bind_sound p own s (Typed p t) (Typed p u) _ _ (typed_given s t v h) (λ w r l q. signed_sound o.operator o.pos t u r w fits q)
  prefixed_sound (o ∷ more ∷ os) t u s v fits h =
      bind_sound p own s (Typed p u) (Typed p u) _ _ (prefixed_sound (more ∷ os) t u s v (right_true (rule.prefix_fits p o.operator u u) _ fits) h)
      (λ w r l q. signed_sound o.operator o.pos u u r w (left_true _ _ fits) q)

  -- ---- operators between two operands

  arithmetic_sound : (compute : ℤ → ℤ → Computed ℤ) → ((x y : ℤ) → IsIntegerResult (compute x y)) → (at : Pos) (t r u : ℕ) (s : Store) (v w : Value) → rule.arithmetic_fits p t r u ≡ true → HasType p s v t → HasType p s w r → Gives p own s (Typed p u) (meaning.arithmetic compute at v w)
  arithmetic_sound compute is at t r u s v w fits h g =
      let left = left_true (rule.is_number p t) (rule.is_number p r) (left_true _ _ fits) in
      let right = right_true (rule.is_number p t) (rule.is_number p r) (left_true _ _ fits) in
      let m = number_of p s v t (left_true _ _ left) h in
      let n = number_of p s w r (left_true _ _ right) g in
      subst (λ a. Gives p own s (Typed p u) (meaning.arithmetic compute at a w)) (sym m.1)
      (subst (λ b. Gives p own s (Typed p u) (meaning.arithmetic compute at (value.Ordinal m.0) b)) (sym n.1)
      (integer_given s at (compute m.0 n.0) u (right_true _ _ fits) (is m.0 n.0)))

  abbrev KeepsMembers : (List ℤ → List ℤ → List ℤ) → Type 0
  KeepsMembers combine = (b : Option Bounds) (ms ns : List ℤ) → AreMembersOf ms b → AreMembersOf ns b → AreMembersOf (combine ms ns) b

  sets_sound : (combine : List ℤ → List ℤ → List ℤ) → KeepsMembers combine → (t r u : ℕ) (s : Store) (v w : Value) → rule.sets_fit p t r u ≡ true → HasType p s v t → HasType p s w r → Gives p own s (Typed p u) (meaning.on_sets combine v w)
  sets_sound combine keeps t r u s v w fits h g =
      let one = operand.sets_are p t r (left_true (rule.same_sets p t r) _ fits) in
      let two = operand.sets_are p t u (right_true (rule.same_sets p t r) _ fits) in
      let m = set_of p s v t one.0 h in
      let n = set_of p s w r one.1 g in
      subst (λ a. Gives p own s (Typed p u) (meaning.on_sets combine a w)) (sym m.1)
      (subst (λ b. Gives p own s (Typed p u) (meaning.on_sets combine (value.Members m.0) b)) (sym n.1)
      (typed_given s u (value.Members (combine m.0 n.0))
      (two.1, subst (AreMembersOf (combine m.0 n.0)) two.2 (keeps (member_bounds p t) m.0 n.0 m.2 (subst (AreMembersOf n.0) (sym one.2) n.2)))))

  pub identical_sound : (r : Relation) (u : ℕ) (s : Store) (v w : Value) → rule.is_equality r ≡ true → rule.is_boolean p u ≡ true → Gives p own s (Typed p u) (meaning.identical r v w)
  identical_sound relation.Equal u s v w e h = truth_given s _ u h
  identical_sound relation.NotEqual u s v w e h = truth_given s _ u h
  identical_sound relation.Less u s v w e h = absurd (let bad : false ≡ true = e in cc)
  identical_sound relation.LessEqual u s v w e h = absurd (let bad : false ≡ true = e in cc)
  identical_sound relation.Greater u s v w e h = absurd (let bad : false ≡ true = e in cc)
  identical_sound relation.GreaterEqual u s v w e h = absurd (let bad : false ≡ true = e in cc)

  compared_sound : (r : Relation) (c : Compared) (t k u : ℕ) (s : Store) (v w : Value) → rule.comparison_fits p r c t k ≡ true → rule.is_boolean p u ≡ true → HasType p s v t → HasType p s w k → Gives p own s (Typed p u) (meaning.compared_by r c v w)
  compared_sound r compared.Ordinals t k u s v w fits is h g =
      let m = number_of p s v t (left_true (rule.is_ordinal p t) (rule.is_ordinal p k) (left_true _ _ fits)) h in
      let n = number_of p s w k (right_true (rule.is_ordinal p t) (rule.is_ordinal p k) (left_true _ _ fits)) g in
      subst (λ a. Gives p own s (Typed p u) (meaning.compared_by r compared.Ordinals a w)) (sym m.1)
      (subst (λ b. Gives p own s (Typed p u) (meaning.compared_by r compared.Ordinals (value.Ordinal m.0) b)) (sym n.1)
      (truth_given s _ u is))
  compared_sound r compared.Sets t k u s v w fits is h g =
      let one = operand.sets_are p t k fits in
      let m = set_of p s v t one.0 h in
      let n = set_of p s w k one.1 g in
      subst (λ a. Gives p own s (Typed p u) (meaning.compared_by r compared.Sets a w)) (sym m.1)
      (subst (λ b. Gives p own s (Typed p u) (meaning.compared_by r compared.Sets (value.Members m.0) b)) (sym n.1)
      (truth_given s _ u is))
  compared_sound r compared.References t k u s v w fits is h g = identical_sound r u s v w (right_true _ _ fits) is
  compared_sound r compared.Procedures t k u s v w fits is h g = identical_sound r u s v w (right_true _ _ fits) is
  compared_sound r compared.Structures t k u s v w fits is h g = identical_sound r u s v w (right_true _ _ fits) is

  -- IN
  member_set : (t set : ℕ) (o : Option ℕ) → rule.is_member_of p t set o ≡ true → (m : ℕ) × (o ≡ Some m)
  member_set t set None h = absurd (let bad : false ≡ true = h in cc)
  member_set t set (Some m) h = (m, refl)

  membership_sound : (t k u : ℕ) (s : Store) (v w : Value) → rule.operator_fits p operator.In t k u ≡ true → HasType p s v t → HasType p s w k → Gives p own s (Typed p u) (meaning.membership v w)
  membership_sound t k u s v w fits h g =
      let both = left_true _ (rule.is_boolean p u) fits in
      let found = member_set t k _ (right_true (rule.is_ordinal p t) _ both) in
      let m = number_of p s v t (left_true (rule.is_ordinal p t) _ both) h in
      let n = set_of p s w k (operand.set_class (node_of p k) found.0 found.1) g in
      subst (λ a. Gives p own s (Typed p u) (meaning.membership a w)) (sym m.1)
      (subst (λ b. Gives p own s (Typed p u) (meaning.membership (value.Ordinal m.0) b)) (sym n.1)
      (truth_given s _ u (right_true _ (rule.is_boolean p u) fits)))

  -- a right operand, and what is done with both
  right_sound : (go : Value → Evaluates Value) (left : Value) (e : Expression) (t r u : ℕ) (s : Store) → HasType p s left t → IsOfType p own e r → ((k : Store) → IsLater s k → (w : Value) → HasType p k left t → HasType p k w r → Gives p own k (Typed p u) (go w)) → Gives p own s (Typed p u) (meaning.right_of go left e)
  right_sound go left e t r u s h is n =
      bind_sound p own s (Typed p r) (Typed p u) _ _ (holding_sound p own s (Typed p r) (Is left) e.value (is.value s))
      (λ w k l q. n k l w (type_stays p s k l left t h) q)

  -- AND and OR
  settled_sound : (b : Bool) (v : Value) (next : Evaluates Value) (u : ℕ) (s : Store) → HasType p s v u → Gives p own s (Typed p u) next → Gives p own s (Typed p u) (meaning.unless_settled b v next)
  settled_sound true v next u s h g = typed_given s u v h
  settled_sound false v next u s h g = g

  part_sound : (e : Expression) (r u : ℕ) (s : Store) → IsOfType p own e r → is_numbers (class_of p r) ≡ true → is_numbers (class_of p u) ≡ true → rule.is_part p r u ≡ true → Gives p own s (Typed p u) (e.value >>= given)
  part_sound e r u s is n m within =
      bind_sound p own s (Typed p r) (Typed p u) _ _ (is.value s)
      (λ w k l q. let z = number_of p k w r n q in typed_given k u w (subst (λ a. HasType p k a u) (sym z.1) (operand.part_typed p k z.0 r u m within z.2)))

  or_sound : (left : Value) (e : Expression) (t r u : ℕ) (s : Store) → rule.logic_fits p t r u ≡ true → HasType p s left t → IsOfType p own e r → Gives p own s (Typed p u) (meaning.or_next left e.value)
  or_sound left e t r u s fits h is =
      let four = left_true _ (rule.is_part p r u) fits in
      let three = left_true _ (rule.is_part p t u) four in
      let two = left_true _ (rule.is_truth p r) three in
      let boolean = left_true _ (rule.is_truth p t) two in
      let numbers = operand.boolean_numbers p u boolean in
      let z = number_of p s left t (left_true _ _ (right_true (rule.is_boolean p u) (rule.is_truth p t) two)) h in
      subst (λ a. Gives p own s (Typed p u) (meaning.or_next a e.value)) (sym z.1)
      (settled_sound _ (value.Ordinal z.0) e.value u s (operand.part_typed p s z.0 t u numbers (right_true _ (rule.is_part p t u) four) z.2)
      (part_sound e r u s is (left_true _ _ (right_true _ (rule.is_truth p r) three)) numbers (right_true _ (rule.is_part p r u) fits)))

  and_sound : (left : Value) (e : Expression) (t r u : ℕ) (s : Store) → rule.logic_fits p t r u ≡ true → HasType p s left t → IsOfType p own e r → Gives p own s (Typed p u) (meaning.and_next left e.value)
  and_sound left e t r u s fits h is =
      let four = left_true _ (rule.is_part p r u) fits in
      let three = left_true _ (rule.is_part p t u) four in
      let two = left_true _ (rule.is_truth p r) three in
      let boolean = left_true _ (rule.is_truth p t) two in
      let numbers = operand.boolean_numbers p u boolean in
      let z = number_of p s left t (left_true _ _ (right_true (rule.is_boolean p u) (rule.is_truth p t) two)) h in
      subst (λ a. Gives p own s (Typed p u) (meaning.and_next a e.value)) (sym z.1)
      (settled_sound _ (value.Ordinal z.0) e.value u s (operand.part_typed p s z.0 t u numbers (right_true _ (rule.is_part p t u) four) z.2)
      (part_sound e r u s is (left_true _ _ (right_true _ (rule.is_truth p r) three)) numbers (right_true _ (rule.is_part p r u) fits)))

  -- texts
  not_nil_sound : (s : Store) (at : Pos) (v : Value) → Gives p own s (λ k u. Unit {0}) (meaning.not_nil at v)
  not_nil_sound s at value.Nil = fault_sound p own s _ fault_kind.Nil at
  not_nil_sound s at _ = given_sound p own s _ tt (λ k l. tt)

  pub text_node : (o : Option TypeNode) → is_text_in o ≡ true → o ≡ Some node.Text
  text_node (Some node.Text) h = refl
  text_node None h = absurd (let bad : false ≡ true = h in cc)
  text_node (Some n) h = absurd (let bad : false ≡ true = h in cc)

  text_typed : (s : Store) (c u : ℕ) (t v : Thing) (o : Option Cell) → cell_at s c ≡ o → is_text_in (node_of p u) ≡ true → IsMade (Concatenated t v) o → HasType p s (value.Pointer c) u
  text_typed s c u t v (Some (store.Bytes bytes)) e h made =
      let is = text_node (node_of p u) h in
      let bare : unveiled p u ≡ u = ap (unveiled_in p u) is in
      (ap class_in is, ap (λ o. option_map (cell_has_type p (unveiled p u)) o) e ∙ ap (λ k. Some (is_text_type p (node_of p k))) bare ∙ ap (λ o. Some (is_text_type p o)) is)
  text_typed s c u t v None e h made = absurd made
  text_typed s c u t v (Some (store.Made k w n)) e h made = absurd made
  text_typed s c u t v (Some (store.Forked n r j)) e h made = absurd made

  made_sound : (s : Store) (u : ℕ) (t v : Thing) (a : Answer Thing) → is_text_in (node_of p u) ≡ true → AnswerFits p s (Makes (Concatenated t v)) a → Gives p own s (Typed p u) (meaning.made a)
  made_sound s u t v (asked.Gives (Some (Is (value.Pointer c)))) h fits = typed_given s u (value.Pointer c) (text_typed s c u t v (cell_at s c) refl h fits)
  made_sound s u t v (asked.Gives None) h fits = absurd fits
  made_sound s u t v (asked.Gives (Some (At place))) h fits = absurd fits
  made_sound s u t v (asked.Gives (Some (Is value.Nil))) h fits = absurd fits
  made_sound s u t v (asked.Gives (Some (Is (value.Ordinal z)))) h fits = absurd fits
  made_sound s u t v (asked.Gives (Some (Is (value.Text n)))) h fits = absurd fits
  made_sound s u t v (asked.Gives (Some (Is value.MainThread))) h fits = absurd fits
  made_sound s u t v (asked.Gives (Some (Is (value.Procedure q x)))) h fits = absurd fits
  made_sound s u t v (asked.Gives (Some (Is (value.Members ms)))) h fits = absurd fits
  made_sound s u t v (asked.Gives (Some (Is (value.Record vs)))) h fits = absurd fits
  made_sound s u t v (asked.Gives (Some (Is (value.Array below vs)))) h fits = absurd fits
  made_sound s u t v (asked.Raises e n y) h fits = absurd fits
  made_sound s u t v (asked.Fails kind) h fits = absurd fits

  concatenated_sound : (at : Pos) (left : Value) (e : Expression) (r u : ℕ) (s : Store) → IsOfType p own e r → is_text_in (node_of p u) ≡ true → Gives p own s (Typed p u) (meaning.concatenated at left e)
  concatenated_sound at left e r u s is h =
      bind_sound p own s _ (Typed p u) _ _ (not_nil_sound s at left)
      (λ x k l q. bind_sound p own k (Typed p r) (Typed p u) _ _ (holding_sound p own k (Typed p r) (Is left) e.value (is.value k))
      (λ v m g f. bind_sound p own m _ (Typed p u) _ _ (not_nil_sound m e.pos v)
      (λ y n d c. bind_sound p own n (λ o a. AnswerFits p o (Makes (Concatenated (Is left) (Is v))) a) (Typed p u) _ _ (acting_sound p own n (Makes (Concatenated (Is left) (Is v))) (λ a. refl))
      (λ a o b fits. made_sound o u (Is left) (Is v) a h fits))))

  -- THE TABLE
  operator_sound : (at : Pos) (o : Operator) (to : Pos) (e : Expression) (kind : Option ℕ) (left : Value) (t r u : ℕ) (s : Store) → rule.operator_fits p o t r u ≡ true → HasType p s left t → IsOfType p own e r → Gives p own s (Typed p u) (meaning.operated_on at (record { operator = o; pos = to; right = e; kind = kind }) left)
  operator_sound at operator.Or to e kind left t r u s fits h is = or_sound left e t r u s fits h is
  operator_sound at operator.And to e kind left t r u s fits h is = and_sound left e t r u s fits h is
  operator_sound at operator.Plus to e kind left t r u s fits h is = right_sound _ left e t r u s h is (λ k l w f g. arithmetic_sound integers.sum (λ x y. operand.within_is (x +ℤ y)) to t r u k left w fits f g)
  operator_sound at operator.Minus to e kind left t r u s fits h is = right_sound _ left e t r u s h is (λ k l w f g. arithmetic_sound integers.difference (λ x y. operand.within_is (x -ℤ y)) to t r u k left w fits f g)
  operator_sound at operator.Times to e kind left t r u s fits h is = right_sound _ left e t r u s h is (λ k l w f g. arithmetic_sound integers.product (λ x y. operand.within_is (x *ℤ y)) to t r u k left w fits f g)
  operator_sound at operator.Div to e kind left t r u s fits h is = right_sound _ left e t r u s h is (λ k l w f g. arithmetic_sound integers.divided (λ x y. operand.unless_is y (integers.within_integer (integers.quotient x y)) (operand.within_is (integers.quotient x y))) to t r u k left w fits f g)
  operator_sound at operator.Mod to e kind left t r u s fits h is = right_sound _ left e t r u s h is (λ k l w f g. arithmetic_sound integers.modulo (λ x y. operand.unless_is y (integers.within_integer (integers.rest x y)) (operand.within_is (integers.rest x y))) to t r u k left w fits f g)
  operator_sound at operator.Union to e kind left t r u s fits h is = right_sound _ left e t r u s h is (λ k l w f g. sets_sound sets.union operand.union_in t r u k left w fits f g)
  operator_sound at operator.Difference to e kind left t r u s fits h is = right_sound _ left e t r u s h is (λ k l w f g. sets_sound sets.difference (λ b ms ns a c. operand.filter_in b _ ms a) t r u k left w fits f g)
  operator_sound at operator.Intersection to e kind left t r u s fits h is = right_sound _ left e t r u s h is (λ k l w f g. sets_sound sets.intersection (λ b ms ns a c. operand.filter_in b _ ms a) t r u k left w fits f g)
  operator_sound at operator.SymmetricDifference to e kind left t r u s fits h is = right_sound _ left e t r u s h is (λ k l w f g. sets_sound sets.symmetric_difference operand.symmetric_in t r u k left w fits f g)
  operator_sound at operator.Concatenate to e kind left t r u s fits h is = concatenated_sound at left e r u s is (right_true _ (is_text_in (node_of p u)) fits)
  operator_sound at operator.In to e kind left t r u s fits h is = right_sound _ left e t r u s h is (λ k l w f g. membership_sound t r u k left w fits f g)
  operator_sound at (operator.Compare x c) to e kind left t r u s fits h is = right_sound _ left e t r u s h is (λ k l w f g. compared_sound x c t r u k left w (left_true _ (rule.is_boolean p u) fits) (right_true _ (rule.is_boolean p u) fits) f g)

  pub operated_sound : (at : Pos) (o : Operated) (left : Value) (t r u : ℕ) (s : Store) → rule.operator_fits p o.operator t r u ≡ true → HasType p s left t → IsOfType p own o.right r → Gives p own s (Typed p u) (meaning.operated_on at o left)
  operated_sound at o left t r u s fits h is = operator_sound at o.operator o.pos o.right o.kind left t r u s fits h is
