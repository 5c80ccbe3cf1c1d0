-- Rows of operators, conversions and type tests are defined.
use Rattle.std.proofs.Common.{◌≡◌, ℕ, ℤ, Bool, true, false, List, [], ◌∷◌, Option, Some, None, refl, sym, ap, ◌∙◌, subst}
use Rattle.std.specs.Prelude.{not}
use Rattle.std.specs.Option.{option_map}
use Rattle.m3_base.specs.declared.outcomes.FaultKind.TheVariants as fault_kind
use Rattle.m3_base.specs.declared.places.Pos.{Pos}
use Rattle.m3_core.specs.declared.exprs.Compared.TheVariants as compared
use Rattle.m3_core.specs.declared.exprs.Conversion.TheVariants as conversion
use Rattle.m3_core.specs.declared.exprs.Operator.{Operator}
use Rattle.m3_core.specs.declared.exprs.Prefix.{Prefix}
use Rattle.m3_core.specs.declared.exprs.Operator.TheVariants as operator
use Rattle.m3_values.specs.Values as value
use Rattle.m3_values.specs.Values.{Value}
use Rattle.m3_values.specs.Integers.{is_between}
use Rattle.m3_values.specs.Programs.{Program}
use Rattle.m3_values.specs.Types.{Bounds, bounds, bounds_in, node_of, unveiled}
use Rattle.m3_values.specs.Store.{Cell, Store, cell_at, cell_has_type, has_type}
use Rattle.m3_types.specs.declared.nodes.TypeNode.{TypeNode}
use Rattle.m3_types.specs.declared.nodes.TypeNode.TheVariants as node
use Rattle.m3_source_meaning.specs.Meanings.{given, seeing, ◌>>=◌}
use Rattle.m3_source_meaning.specs.Phrases.{Expression, Operated}
use Rattle.m3_source_meaning.specs.Operators as meaning
use Rattle.m3_source_typing.specs.ValueTypes.{Class, OfNumbers, OfReferences, OfProcedures, OfSets, OfRecords, OfArrays, NoType, class_in, class_of, IsOfNil, IsNumberOf, HasType}
use Rattle.m3_source_typing.specs.Sound.{Scope, Gives, IsReadable, IsOfType}
use Rattle.m3_source_typing.specs.Operators as rule
use Rattle.m3_source_typing.specs.Operators.{is_numbers, is_references}
use Rattle.m3_source_typing.proofs.Staying.{and_later, type_stays}
use Rattle.m3_source_typing.proofs.Combining.{given_sound, bind_sound, holding_sound, unless_sound, seeing_sound, valued_sound}
use Rattle.m3_source_typing.proofs.Operands.{left_true, right_true, number_of}
use Rattle.m3_source_typing.proofs.Operating.{Typed, typed_given, truth_given, identical_sound, operated_sound, prefixed_sound}

-- operators in a row, from an operand of a type on to a result
pub data TypedRow (p : Program) (own : Scope) : ℕ → List Operated → ℕ → Type 0 where
  none : (t : ℕ) → TypedRow p own t [] t
  more : (t right kind result : ℕ) (o : Operated) (os : List Operated) → IsOfType p own o.right right → rule.operator_fits p o.operator t right kind ≡ true → TypedRow p own kind os result → TypedRow p own t (o ∷ os) result

module _ (p : Program) (own : Scope) where
  structures : (o : Operator) (to : Pos) (e : Expression) (kind : Option ℕ) (t r u : ℕ) (s : Store) (v w : Value) → rule.operator_fits p o t r u ≡ true → meaning.is_structural o ≡ true → Gives p own s (Typed p u) (meaning.compared_by (meaning.relation_of o) compared.Structures v w)
  structures (operator.Compare x compared.Structures) to e kind t r u s v w fits so = identical_sound p own x u s v w (right_true _ _ (left_true _ (rule.is_boolean p u) fits)) (right_true _ (rule.is_boolean p u) fits)
  structures (operator.Compare x compared.Ordinals) to e kind t r u s v w fits so = absurd (let bad : false ≡ true = so in cc)
  structures (operator.Compare x compared.Sets) to e kind t r u s v w fits so = absurd (let bad : false ≡ true = so in cc)
  structures (operator.Compare x compared.References) to e kind t r u s v w fits so = absurd (let bad : false ≡ true = so in cc)
  structures (operator.Compare x compared.Procedures) to e kind t r u s v w fits so = absurd (let bad : false ≡ true = so in cc)
  structures _ to e kind t r u s v w fits so = absurd (let bad : false ≡ true = so in cc)

  -- a comparison of structures reads both operands once both are evaluated
  read_both : (o : Operator) (to : Pos) (e : Expression) (kind : Option ℕ) (first : Expression) (t r u : ℕ) (s : Store) → rule.operator_fits p o t r u ≡ true → IsOfType p own first t → IsOfType p own e r → (b : Bool) → meaning.is_structural o ≡ b →
      Gives p own s (Typed p u) (meaning.first_operated b first (record { operator = o; pos = to; right = e; kind = kind }))
  read_both o to e kind first t r u s fits is right false not_so =
      bind_sound p own s (Typed p t) (Typed p u) _ _ (is.value s) (λ v k l q. operated_sound p own first.pos (record { operator = o; pos = to; right = e; kind = kind }) v t r u k fits q right)
  read_both o to e kind first t r u s fits is right true so =
      bind_sound p own s (IsReadable p own) (Typed p u) _ _ (is.unread s)
      (λ a k l q. bind_sound p own k (IsReadable p own) (Typed p u) _ _ (holding_sound p own k (IsReadable p own) a e.unread (right.unread k))
      (λ b m g f. bind_sound p own m _ (Typed p u) _ _ (valued_sound p own m a (record { reads = λ n d typed. q.reads n (and_later k m n.store g d) typed }))
      (λ v n d c. bind_sound p own n _ (Typed p u) _ _ (valued_sound p own n b (record { reads = λ x y typed. f.reads x (and_later m n x.store d y) typed }))
      (λ w x y z. structures o to e kind t r u x v w fits so))))

  first_sound : (o : Operated) (first : Expression) (t r u : ℕ) (s : Store) → rule.operator_fits p o.operator t r u ≡ true → IsOfType p own first t → IsOfType p own o.right r → Gives p own s (Typed p u) (meaning.first_operated (meaning.is_structural o.operator) first o)
  first_sound o first t r u s fits is right = read_both o.operator o.pos o.right o.kind first t r u s fits is right (meaning.is_structural o.operator) refl

  further_sound : (at : Pos) (t u : ℕ) (os : List Operated) → TypedRow p own t os u → (s : Store) (v : Value) → HasType p s v t → Gives p own s (Typed p u) (meaning.operated_further at os v)
  further_sound at _ _ _ (none t) s v h = typed_given p own s t v h
  further_sound at _ _ _ (more t right kind result o os is fits row) s v h =
      bind_sound p own s (Typed p kind) (Typed p result) _ _ (operated_sound p own at o v t right kind s fits h is)
      (λ w k l q. further_sound at kind result os row k w q)

  pub row_sound : (first : Expression) (t u : ℕ) (os : List Operated) → TypedRow p own t os u → (s : Store) → IsOfType p own first t → Gives p own s (Typed p u) (meaning.operations first os)
  row_sound first _ _ _ (none t) s is = is.value s
  row_sound first _ _ _ (more t right kind result o os r fits row) s is =
      bind_sound p own s (Typed p kind) (Typed p result) _ _ (first_sound o first t right kind s fits is r)
      (λ w k l q. further_sound first.pos kind result os row k w q)

  -- ---- conversions

  pub ordinal_bounds : (o : Option TypeNode) → is_numbers (class_in o) ≡ true → (b : Bounds) × (bounds_in o ≡ Some b)
  ordinal_bounds (Some node.Integer) h = (_, refl)
  ordinal_bounds (Some node.Boolean) h = (_, refl)
  ordinal_bounds (Some node.Character) h = (_, refl)
  ordinal_bounds (Some (node.Enumeration names)) h = (_, refl)
  ordinal_bounds (Some (node.Subrange base first last)) h = (_, refl)
  ordinal_bounds None h = absurd (let bad : false ≡ true = h in cc)
  ordinal_bounds (Some n) h = absurd (let bad : false ≡ true = h in cc)

  not_not : (b : Bool) → not b ≡ false → b ≡ true
  not_not true h = refl
  not_not false h = absurd (let bad : true ≡ false = h in cc)

  pub number_class : (c : Class) → is_numbers c ≡ true → c ≡ OfNumbers
  number_class OfNumbers h = refl
  number_class OfReferences h = absurd (let bad : false ≡ true = h in cc)
  number_class OfProcedures h = absurd (let bad : false ≡ true = h in cc)
  number_class OfSets h = absurd (let bad : false ≡ true = h in cc)
  number_class OfRecords h = absurd (let bad : false ≡ true = h in cc)
  number_class OfArrays h = absurd (let bad : false ≡ true = h in cc)
  number_class NoType h = absurd (let bad : false ≡ true = h in cc)

  pub in_bounds : (at : Pos) (o : Option Bounds) (b : Bounds) (z : ℤ) (s : Store) → o ≡ Some b → Gives p own s (λ k u. IsNumberOf z o) (meaning.within at o z)
  in_bounds at None b z s e = absurd (let bad : None ≡ Some b = e in cc)
  in_bounds at (Some c) b z s e = bind_sound p own s (λ k u. not (is_between c.first c.last z) ≡ false) _ _ given (unless_sound p own s fault_kind.Range at (not (is_between c.first c.last z)))
      (λ u k l q. given_sound p own k _ u (λ m g. not_not _ q))

  pub range_sound : (at : Pos) (kind : ℕ) (z : ℤ) (s : Store) → rule.is_ordinal p kind ≡ true → Gives p own s (Typed p kind) (meaning.in_range p at kind z)
  range_sound at kind z s h =
      let b = ordinal_bounds (node_of p kind) h in
      bind_sound p own s (λ k u. IsNumberOf z (bounds p kind)) (Typed p kind) _ _ (in_bounds at (bounds p kind) b.0 z s b.1)
      (λ u k l q. typed_given p own k kind (value.Ordinal z) (number_class (class_of p kind) h, q))

  -- ---- references

  -- whether a reference is of a type is known
  abbrev Tells : Store → ℕ → Value → Type 0
  Tells s t v = (b : Bool) × (has_type p s t v ≡ Some b)

  cell_tells : (k : ℕ) (o : Option Cell) (t : ℕ) → option_map (cell_has_type p t) o ≡ Some true → (b : Bool) × (option_map (cell_has_type p k) o ≡ Some b)
  cell_tells k None t h = absurd (let bad : None ≡ Some true = h in cc)
  cell_tells k (Some cell) t h = (cell_has_type p k cell, refl)

  wrong_class : (c d : Class) → is_references c ≡ true → c ≡ d → is_references d ≡ false → ⊥
  wrong_class c d h e n = let bad : true ≡ false = sym h ∙ ap is_references e ∙ n in absurd cc

  tells : (s : Store) (v : Value) (t k : ℕ) → is_references (class_of p t) ≡ true → HasType p s v t → Tells s k v
  tells s value.Nil t k n h = (true, refl)
  tells s (value.Pointer c) t k n h = cell_tells (unveiled p k) (cell_at s c) (unveiled p t) h.1
  tells s (value.Text c) t k n h = (_, refl)
  tells s value.MainThread t k n h = (_, refl)
  tells s (value.Ordinal z) t k n h = absurd (wrong_class _ _ n h.0 refl)
  tells s (value.Procedure q a) t k n h = absurd (wrong_class _ _ n h.0 refl)
  tells s (value.Members ms) t k n h = absurd (wrong_class _ _ n h.0 refl)
  tells s (value.Record vs) t k n h = absurd (wrong_class _ _ n h.0 refl)
  tells s (value.Array below vs) t k n h = absurd (wrong_class _ _ n h.0 refl)

  reference_class : (c : Class) → is_references c ≡ true → c ≡ OfReferences
  reference_class OfReferences h = refl
  reference_class OfNumbers h = absurd (let bad : false ≡ true = h in cc)
  reference_class OfProcedures h = absurd (let bad : false ≡ true = h in cc)
  reference_class OfSets h = absurd (let bad : false ≡ true = h in cc)
  reference_class OfRecords h = absurd (let bad : false ≡ true = h in cc)
  reference_class OfArrays h = absurd (let bad : false ≡ true = h in cc)
  reference_class NoType h = absurd (let bad : false ≡ true = h in cc)

  -- a reference that is of a type
  pub narrowed : (s : Store) (v : Value) (t k : ℕ) → is_references (class_of p t) ≡ true → is_references (class_of p k) ≡ true → HasType p s v t → has_type p s k v ≡ Some true → HasType p s v k
  narrowed s value.Nil t k n m h e = subst IsOfNil (sym (reference_class (class_of p k) m)) tt
  narrowed s (value.Pointer c) t k n m h e = (reference_class (class_of p k) m, e)
  narrowed s (value.Text c) t k n m h e = (reference_class (class_of p k) m, e, h.2)
  narrowed s value.MainThread t k n m h e = (reference_class (class_of p k) m, e)
  narrowed s (value.Ordinal z) t k n m h e = absurd (wrong_class _ _ n h.0 refl)
  narrowed s (value.Procedure q a) t k n m h e = absurd (wrong_class _ _ n h.0 refl)
  narrowed s (value.Members ms) t k n m h e = absurd (wrong_class _ _ n h.0 refl)
  narrowed s (value.Record vs) t k n m h e = absurd (wrong_class _ _ n h.0 refl)
  narrowed s (value.Array below vs) t k n m h e = absurd (wrong_class _ _ n h.0 refl)

  pub tested : (s : Store) (v : Value) (t k : ℕ) → is_references (class_of p t) ≡ true → HasType p s v t → Gives p own s (λ u b. (has_type p u k v ≡ Some b) × HasType p u v t) (seeing (λ m. has_type p m.store k v))
  tested s v t k n h = seeing_sound p own s _ (λ m. has_type p m.store k v)
      (λ m l typed. let g = type_stays p s m.store l v t h in let b = tells m.store v t k n g in (b.0, b.1, (b.1, g)))

  -- ---- forms

  pub prefix_form : (os : List Prefix) (operand : Expression) (t result : ℕ) → IsOfType p own operand t → rule.prefixes_fit p os t result ≡ true → (s : Store) → Gives p own s (Typed p result) (operand.value >>= meaning.prefixed os)
  prefix_form os operand t result is fits s =
      bind_sound p own s (Typed p t) (Typed p result) _ _ (is.value s) (λ v k l q. prefixed_sound p own os t result k v fits q)

  pub range_form : (at : Pos) (operand : Expression) (t kind : ℕ) → IsOfType p own operand t → rule.is_ordinal p t ≡ true → rule.is_ordinal p kind ≡ true → (s : Store) → Gives p own s (Typed p kind) (operand.value >>= meaning.converted p conversion.Range at kind)
  range_form at operand t kind is from to s =
      bind_sound p own s (Typed p t) (Typed p kind) _ _ (is.value s)
      (λ v k l q. let z = number_of p k v t from q in
      subst (λ w. Gives p own k (Typed p kind) (meaning.converted p conversion.Range at kind w)) (sym z.1) (range_sound at kind z.0 k to))

  pub narrow_form : (at : Pos) (operand : Expression) (t kind : ℕ) → IsOfType p own operand t → is_references (class_of p t) ≡ true → is_references (class_of p kind) ≡ true → (s : Store) → Gives p own s (Typed p kind) (operand.value >>= meaning.converted p conversion.Narrow at kind)
  narrow_form at operand t kind is from to s =
      bind_sound p own s (Typed p t) (Typed p kind) _ _ (is.value s)
      (λ v k l q. bind_sound p own k (λ u b. (has_type p u kind v ≡ Some b) × HasType p u v t) (Typed p kind) _ _ (tested k v t kind from q)
      (λ b m g f. bind_sound p own m (λ u w. not b ≡ false) (Typed p kind) _ _ (unless_sound p own m fault_kind.Narrow at (not b))
      (λ w n d c. typed_given p own n kind v (type_stays p m n d v kind (narrowed m v t kind from to f.1 (f.0 ∙ ap Some (not_not b c)))))))

  pub test_form : (operand : Expression) (t kind truth : ℕ) → IsOfType p own operand t → is_references (class_of p t) ≡ true → rule.is_boolean p truth ≡ true → (s : Store) → Gives p own s (Typed p truth) (operand.value >>= meaning.type_test p kind)
  test_form operand t kind truth is from boolean s =
      bind_sound p own s (Typed p t) (Typed p truth) _ _ (is.value s)
      (λ v k l q. bind_sound p own k (λ u b. (has_type p u kind v ≡ Some b) × HasType p u v t) (Typed p truth) _ _ (tested k v t kind from q)
      (λ b m g f. truth_given p own m b truth boolean))
