-- All forms of expressions are safe, if their parts are.
use Rattle.std.proofs.Common.{◌≡◌, refl, ap, subst, map, zero, suc, ℕ, ℤ, pos, Bool, true, false, List, [], ◌∷◌, ◌++◌, Option, Some, None}
use Rattle.std.specs.Prelude.{not, ◌==◌, ◌-ℤ◌, length, take, slice_get}
use Rattle.std.specs.Option.{option_to_list, option_map, option_map_or, option_and_then}
use Rattle.m3_base.specs.declared.outcomes.FaultKind.TheVariants as fault_kind
use Rattle.m3_base.specs.declared.places.Pos.{Pos}
use Rattle.m3_types.specs.declared.nodes.Formal.{Formal}
use Rattle.m3_types.specs.declared.nodes.Mode.{Mode}
use Rattle.m3_types.specs.declared.nodes.Mode.TheVariants as mode
use Rattle.m3_core.specs.declared.exprs.ArrayLimit.{ArrayLimit}
use Rattle.m3_core.specs.declared.exprs.Compared.{Compared}
use Rattle.m3_core.specs.declared.exprs.Compared.TheVariants as compared
use Rattle.m3_core.specs.declared.exprs.Conversion.{Conversion}
use Rattle.m3_core.specs.declared.exprs.Conversion.TheVariants as conversion
use Rattle.m3_core.specs.declared.exprs.Operator.{Operator}
use Rattle.m3_core.specs.declared.exprs.Operator.TheVariants as operator
use Rattle.m3_core.specs.declared.exprs.Prefix.{Prefix}
use Rattle.m3_core.specs.declared.exprs.PrefixOperator.{PrefixOperator}
use Rattle.m3_core.specs.declared.exprs.PrefixOperator.TheVariants as prefix
use Rattle.m3_core.specs.declared.exprs.Relation.{Relation}
use Rattle.m3_core.specs.declared.exprs.Relation.TheVariants as relation
use Rattle.m3_runs.specs.Languages as asked
use Rattle.m3_runs.specs.Languages.{Answer, Raises, Fails}
use Rattle.m3_values.specs.Values as value
use Rattle.m3_values.specs.Values.{Value}
use Rattle.m3_values.specs.Integers.{Computed, count_of}
use Rattle.m3_values.specs.Arrays.{count, shape}
use Rattle.m3_values.specs.Programs.{Program}
use Rattle.m3_values.specs.Types.{Bounds, open_dimensions, first_index, methods_in, node_of}
use Rattle.m3_values.specs.Methods.{method_place, procedure_of}
use Rattle.m3_values.specs.Store.{thing_in, shared_thing, has_type, kind_of_object}
use Rattle.m3_values.specs.Places as place
use Rattle.m3_values.specs.Places.{Place, Thing, Is, At}
use Rattle.m3_source_meaning.specs.Meanings.{Now, Evaluates, given, seeing, ◌>>=◌}
use Rattle.m3_source_meaning.specs.Phrases.{Here, Expression, Chained, Based, Before, Stepped, Operated, Adding, Valued, Passing, By_value, By_place}
use Rattle.m3_source_meaning.specs.Designators as designators
use Rattle.m3_source_meaning.specs.Operators as operators
use Rattle.m3_source_meaning.specs.Constructors as constructors
use Rattle.m3_source_meaning.specs.Travelling as travelling
use Rattle.m3_source_meaning.specs.Calls as calls
use Rattle.m3_source_meaning.specs.Calls.{Passed, Passes, Copies}
use Rattle.m3_source_meaning.specs.Sharing.{Use, use_of}
use Rattle.m3_source_laws.specs.Own.{AllOf}
use Rattle.m3_source_laws.proofs.Safe.{Invariant, Within, Gives, Safe, safe_given, gives_given, safe_done, safe_bind, gives_bind, gives_so, gives_any, safe_then, safe_holding, safe_holding_all, safe_fault, safe_undefined, safe_computed, safe_unless, safe_seeing, gives_seeing, safe_reading, safe_valued, safe_filling, safe_writing, safe_acting, safe_raising}

-- ---- phrases with parts

pub record SafeExpression (inv : Invariant) (e : Expression) : Type 0 where
  pub value : Safe inv e.value
  pub unread : Safe inv e.unread

-- a chain that is a place of such a variable, if it is one of a procedure
pub record SafeChained (inv : Invariant) (r : Option Use) (c : Chained) : Type 0 where
  pub thing : Gives inv (inv.rooted r) c.thing
  pub unread : Safe inv c.unread

pub record SafeBased (inv : Invariant) (r : Option Use) (b : Based) : Type 0 where
  pub thing : (at : Pos) → Gives inv (inv.rooted r) (b.thing at)
  pub unread : (at : Pos) → Safe inv (b.unread at)

pub record SafeStepped (inv : Invariant) (s : Stepped) : Type 0 where
  pub goes : (r : Option Use) (before : Before) (thing : Thing) → inv.rooted r thing → Gives inv (inv.rooted r) (s.goes before thing)

abbrev pub SafeAdding : Invariant → Adding → Type 0
SafeAdding inv f = (ms : List ℤ) → Safe inv (f ms)

-- a place that is passed is one that others may see
abbrev pub SafePassing : Invariant → Passing → Type 0
SafePassing inv (By_value formal kind e) = SafeExpression inv e
SafePassing inv (By_place formal kind c checks) = Gives inv inv.out c.thing

abbrev pub SafeOperated : Invariant → Operated → Type 0
SafeOperated inv o = SafeExpression inv o.right

abbrev pub SafeValued : Invariant → Valued → Type 0
SafeValued inv v = SafeExpression inv v.value

pub is_value : {inv : Invariant} {P : Thing → Type 0} {e : Evaluates Value} → ((v : Value) → P (Is v)) → Safe inv e → Gives inv P (e >>= (λ v. given (Is v)))
is_value p h = safe_bind h (λ v. gives_given (Is v) (p v))

-- a value is no place of any variable
pub is_rooted : (inv : Invariant) (r : Option Use) (v : Value) → inv.rooted r (Is v)
is_rooted inv r v = inv.of_any r (Is v) (inv.value v)

-- values that are listed
pub all_values : (inv : Invariant) (vs : List Value) → AllOf inv.out (map Is vs)
all_values inv [] = tt
all_values inv (v ∷ vs) = (inv.value v, all_values inv vs)

-- ---- Designators

module _ (inv : Invariant) (p : Program) (here : Here) (w : Within p here inv) where
  pub safe_activation : (level : ℕ) → Safe inv (designators.activation_at p here level)
  safe_activation level = safe_seeing _

  -- what a name stands for
  own_rooted : (level x : ℕ) (now : Now) (thing : Thing) → designators.is_own p here level x ≡ true → inv.holds now → thing_in now.memory.own x ≡ Some thing → inv.rooted (Some (use_of level x)) (designators.stands_for (place.Own x) thing)
  own_rooted level x now (Is v) own g is = w.own level x now v own g is
  own_rooted level x now (At to) own g is = inv.of_any _ (At to) (w.alias x now to g is)

  mapped : {A B : Type 0} (P : B → Type 0) (f : A → B) (o : Option A) → ((x : A) → o ≡ Some x → P (f x)) → (y : B) → option_map f o ≡ Some y → P y
  mapped P f None h y e = absurd (let bad : None ≡ Some y = e in cc)
  mapped P f (Some x) h y e = let q : Some (f x) ≡ Some y = e in let same : f x ≡ y = cc in subst P same (h x refl)

  gives_own : (level x : ℕ) → designators.is_own p here level x ≡ true → Gives inv (inv.rooted (Some (use_of level x))) (designators.own_name p here x)
  gives_own level x own = gives_seeing _ (λ now thing g is. mapped (inv.rooted (Some (use_of level x))) (designators.stands_for (place.Own x)) (thing_in now.memory.own x) (λ t e. own_rooted level x now t own g e) thing is)

  gives_shared : (r : Option Use) (x a : ℕ) → Gives inv (inv.rooted r) (designators.shared_name p here x a)
  gives_shared r x a = gives_seeing _ (λ now thing g is. mapped (inv.rooted r) (designators.stands_for (place.Local a x)) (shared_thing now.memory.store a x) (λ t e. inv.of_any r _ (w.shared a x now t g e)) thing is)

  gives_named_by : (b : Bool) (level x : ℕ) → designators.is_own p here level x ≡ b → Gives inv (inv.rooted (Some (use_of level x))) (designators.named_by p here b level x)
  gives_named_by true level x own = gives_own level x own
  gives_named_by false level x own = safe_bind (safe_activation level) (λ a. gives_shared _ x a)

  pub gives_named : (level x : ℕ) → Gives inv (inv.rooted (Some (use_of level x))) (designators.named p here level x)
  gives_named level x = gives_named_by (designators.is_own p here level x) level x refl

  -- the place that a name stands for is one that others may see
  place_out : (thing t : Thing) → designators.place_in thing ≡ Some t → ((to : Place) → thing ≡ At to → inv.out (At to)) → inv.out t
  place_out (Is v) t e h = absurd (let bad : None ≡ Some t = e in cc)
  place_out (At to) t e h = let q : Some (At to) ≡ Some t = e in let same : At to ≡ t = cc in subst inv.out same (h to refl)

  found : (o : Option Thing) (t : Thing) → option_and_then designators.place_in o ≡ Some t → ((to : Place) → o ≡ Some (At to) → inv.out (At to)) → inv.out t
  found None t e h = absurd (let bad : None ≡ Some t = e in cc)
  found (Some thing) t e h = place_out thing t e (λ to is. h to (ap Some is))

  gives_alias_by : (b : Bool) (level x : ℕ) → Gives inv inv.out (designators.alias_by p here b level x)
  gives_alias_by true level x = gives_seeing _ (λ now t g is. found (thing_in now.memory.own x) t is (λ to e. w.alias x now to g e))
  gives_alias_by false level x = safe_bind (safe_activation level) (λ a. gives_seeing _ (λ now t g is. found (shared_thing now.memory.store a x) t is (λ to e. w.shared a x now (At to) g e)))

  pub gives_alias : (r : Option Use) (level x : ℕ) → Gives inv (inv.rooted r) (designators.alias p here level x)
  gives_alias r level x = gives_so (gives_alias_by (designators.is_own p here level x) level x) (λ t h. inv.of_any r t h)

  pub safe_read_step : (r : Option Use) (thing : Thing) → Gives inv (inv.rooted r) (designators.read_step p here thing)
  safe_read_step r thing = safe_bind (safe_valued thing) (λ v. gives_given (Is v) (is_rooted inv r v))

  pub safe_keep_step : (r : Option Use) (thing : Thing) → inv.rooted r thing → Gives inv (inv.rooted r) (designators.keep_step p here thing)
  safe_keep_step r (Is v) h = gives_given _ (inv.of_any r _ (inv.new v))
  safe_keep_step r (At at) h = gives_given _ h

  pub safe_dereferenced : (r : Option Use) (at : Pos) (v : Value) → Gives inv (inv.rooted r) (designators.dereferenced p here at v)
  safe_dereferenced r at (value.Pointer c) = gives_given _ (inv.of_any r _ (inv.cell c))
  safe_dereferenced r at value.Nil = safe_fault _ _
  safe_dereferenced r at _ = safe_undefined

  pub safe_field_step : (r : Option Use) (f : ℕ) (thing : Thing) → inv.rooted r thing → Gives inv (inv.rooted r) (designators.field_step p here f thing)
  safe_field_step r f (At at) h = gives_given _ (inv.further r at (place.Field f) h)
  safe_field_step r f (Is v) h = safe_undefined

  pub safe_object_field : (r : Option Use) (at : Pos) (owner f : ℕ) (v : Value) → Gives inv (inv.rooted r) (designators.object_field_of p here at owner f v)
  safe_object_field r at owner f (value.Pointer c) = gives_given _ (inv.further r (place.whole (place.Referent c)) _ (inv.of_any r _ (inv.cell c)))
  safe_object_field r at owner f value.Nil = safe_fault _ _
  safe_object_field r at owner f _ = safe_undefined

  pub safe_by_value : (r : Option Use) (go : Value → Evaluates Thing) → ((v : Value) → Gives inv (inv.rooted r) (go v)) → (thing : Thing) → Gives inv (inv.rooted r) (designators.by_value p here go thing)
  safe_by_value r go h (Is v) = h v
  safe_by_value r go h (At at) = safe_undefined

  safe_element_there : (r : Option Use) (at : Pos) (to : Place) (size : ℕ) (i : Option ℕ) → inv.rooted r (At to) → Gives inv (inv.rooted r) (designators.element_there p here at to size i)
  safe_element_there r at to size None h = safe_fault _ _
  safe_element_there r at to size (Some i) h = safe_then (safe_unless _ _ _) (gives_given _ (inv.further r to (place.Element i) h))

  safe_element_at : (r : Option Use) (at : Pos) (kind : Option ℕ) (to : Place) (array i : Value) → inv.rooted r (At to) → Gives inv (inv.rooted r) (designators.element_at p here at kind to array i)
  safe_element_at r at kind to array (value.Ordinal z) h = safe_element_there r at to (count array) (count_of (z -ℤ option_map_or (first_index p) kind (pos 0))) h
  safe_element_at r at kind to array _ h = safe_undefined

  pub safe_element_step : (r : Option Use) (index : Expression) → SafeExpression inv index → (kind : Option ℕ) (thing : Thing) → inv.rooted r thing → Gives inv (inv.rooted r) (designators.element_step p here index kind thing)
  safe_element_step r index h kind (At to) g = safe_bind (safe_holding (At to) h.value) (λ i. safe_bind (safe_reading to) (λ array. safe_element_at r index.pos kind to array i g))
  safe_element_step r index h kind (Is v) g = safe_undefined

  safe_part_there : (r : Option Use) (at : Pos) (to : Place) (size : ℕ) (i n : Option ℕ) → inv.rooted r (At to) → Gives inv (inv.rooted r) (designators.part_there p here at to size i n)
  safe_part_there r at to size (Some i) (Some n) h = safe_then (safe_unless _ _ _) (gives_given _ (inv.further r to (place.Part i n) h))
  safe_part_there r at to size _ _ h = safe_fault _ _

  safe_part_at : (r : Option Use) (at : Pos) (to : Place) (array i n : Value) → inv.rooted r (At to) → Gives inv (inv.rooted r) (designators.part_at p here at to array i n)
  safe_part_at r at to array (value.Ordinal i) (value.Ordinal n) h = safe_part_there r at to (count array) (count_of i) (count_of n) h
  safe_part_at r at to array _ _ h = safe_undefined

  safe_subarray_of : (r : Option Use) (at : Pos) (i n : Expression) → SafeExpression inv i → SafeExpression inv n → (thing : Thing) → inv.rooted r thing → Gives inv (inv.rooted r) (designators.subarray_of p here at i n thing)
  safe_subarray_of r at i n h k (At to) g =
      safe_bind (safe_holding (At to) h.value) (λ s. safe_bind (safe_holding (At to) (safe_holding (Is s) k.value)) (λ c. safe_bind (safe_reading to) (λ array. safe_part_at r at to array s c g)))
  safe_subarray_of r at i n h k (Is v) g = safe_undefined

  pub safe_subarray : (r : Option Use) (at : Pos) (array : Chained) (i n : Expression) → SafeChained inv r array → SafeExpression inv i → SafeExpression inv n → Gives inv (inv.rooted r) (designators.subarray p here at array i n)
  safe_subarray r at array i n c h k = gives_bind c.thing (λ t g. safe_subarray_of r at i n h k t g)

  pub safe_stepping : (r : Option Use) (before : Before) (steps : List Stepped) → AllOf (SafeStepped inv) steps → (thing : Thing) → inv.rooted r thing → Gives inv (inv.rooted r) (designators.stepping p here before steps thing)
  safe_stepping r before [] h thing g = gives_given thing g
  safe_stepping r before (s ∷ steps) h thing g = gives_bind (h.0.goes r before thing g) (λ t f. safe_stepping r _ steps h.1 t f)

  safe_last : (r : Option Use) (b : Bool) (s : Stepped) → SafeStepped inv s → (before : Before) (thing : Thing) → inv.rooted r thing → Safe inv (elim b as (λ x. Evaluates Thing) [ true ↦ given thing | false ↦ s.goes before thing ])
  safe_last r true s h before thing g = safe_given thing
  safe_last r false s h before thing g = gives_any (h.goes r before thing g)

  safe_stepping_unread : (r : Option Use) (before : Before) (steps : List Stepped) → AllOf (SafeStepped inv) steps → (thing : Thing) → inv.rooted r thing → Safe inv (designators.stepping_unread p here before steps thing)
  safe_stepping_unread r before [] h thing g = safe_given thing
  safe_stepping_unread r before (s ∷ []) h thing g = safe_last r s.is_read s h.0 before thing g
  safe_stepping_unread r before (s ∷ t ∷ steps) h thing g = gives_bind (h.0.goes r before thing g) (λ u f. safe_stepping_unread r _ (t ∷ steps) h.1 u f)

  safe_chain_unread : (r : Option Use) (at : Pos) (base : Based) (steps : List Stepped) → SafeBased inv r base → AllOf (SafeStepped inv) steps → Safe inv (designators.chain_unread p here at base steps)
  safe_chain_unread r at base [] b h = b.unread at
  safe_chain_unread r at base (s ∷ steps) b h = gives_bind (b.thing at) (λ t g. safe_stepping_unread r _ (s ∷ steps) h t g)

  pub safe_chained : (r : Option Use) (at : Pos) (base : Based) (steps : List Stepped) (kind : Option ℕ) → SafeBased inv r base → AllOf (SafeStepped inv) steps → SafeChained inv r (designators.chained p here at base steps kind)
  safe_chained r at base steps kind b h = record {
    thing = gives_bind (b.thing at) (λ t g. safe_stepping r _ steps h t g);
    unread = safe_chain_unread r at base steps b h;
  }

-- ---- Operators

safe_ordinal : {inv : Invariant} (at : Pos) (c : Computed ℤ) → Safe inv (operators.ordinal at c)
safe_ordinal at c = safe_bind (safe_computed at c) (λ z. safe_given _)

pub safe_nil_check : {inv : Invariant} (at : Pos) (v : Value) → Safe inv (operators.not_nil at v)
safe_nil_check at value.Nil = safe_fault _ _
safe_nil_check at _ = safe_done

pub safe_made : {inv : Invariant} (a : Answer Thing) → Safe inv (operators.made a)
safe_made (asked.Gives (Some (Is v))) = safe_given v
safe_made _ = safe_undefined

safe_signed : {inv : Invariant} (o : PrefixOperator) (at : Pos) (v : Value) → Safe inv (operators.signed o at v)
safe_signed prefix.Not at (value.Ordinal z) = safe_given _
safe_signed prefix.Minus at (value.Ordinal z) = safe_ordinal at _
safe_signed prefix.Abs at (value.Ordinal z) = safe_ordinal at _
safe_signed _ at _ = safe_undefined

pub safe_prefixed : {inv : Invariant} (os : List Prefix) (v : Value) → Safe inv (operators.prefixed os v)
safe_prefixed [] v = safe_given v
safe_prefixed (o ∷ os) v = safe_bind (safe_prefixed os v) (λ u. safe_signed o.operator o.pos u)

safe_arithmetic : {inv : Invariant} (f : ℤ → ℤ → Computed ℤ) (at : Pos) (v u : Value) → Safe inv (operators.arithmetic f at v u)
safe_arithmetic f at (value.Ordinal x) (value.Ordinal y) = safe_ordinal at _
safe_arithmetic f at _ _ = safe_undefined

safe_on_sets : {inv : Invariant} (f : List ℤ → List ℤ → List ℤ) (v u : Value) → Safe inv (operators.on_sets f v u)
safe_on_sets f (value.Members ms) (value.Members ns) = safe_given _
safe_on_sets f _ _ = safe_undefined

safe_membership : {inv : Invariant} (v u : Value) → Safe inv (operators.membership v u)
safe_membership (value.Ordinal z) (value.Members ms) = safe_given _
safe_membership _ _ = safe_undefined

safe_identical : {inv : Invariant} (r : Relation) (v u : Value) → Safe inv (operators.identical r v u)
safe_identical relation.Equal v u = safe_given _
safe_identical relation.NotEqual v u = safe_given _
safe_identical _ v u = safe_undefined

safe_compared : {inv : Invariant} (r : Relation) (c : Compared) (v u : Value) → Safe inv (operators.compared_by r c v u)
safe_compared r compared.Ordinals (value.Ordinal x) (value.Ordinal y) = safe_given _
safe_compared r compared.Sets (value.Members ms) (value.Members ns) = safe_given _
safe_compared r compared.References v u = safe_identical r v u
safe_compared r compared.Procedures v u = safe_identical r v u
safe_compared r compared.Structures v u = safe_identical r v u
safe_compared r _ v u = safe_undefined

safe_both_read : {inv : Invariant} (r : Relation) (c : Compared) (t u : Thing) → Safe inv (operators.both_read r c t u)
safe_both_read r c t u = safe_bind (safe_valued t) (λ v. safe_bind (safe_valued u) (λ w. safe_compared r c v w))

safe_settled : {inv : Invariant} (b : Bool) (v : Value) (e : Evaluates Value) → Safe inv e → Safe inv (operators.unless_settled b v e)
safe_settled true v e h = safe_given v
safe_settled false v e h = h

safe_or : {inv : Invariant} (v : Value) (e : Evaluates Value) → Safe inv e → Safe inv (operators.or_next v e)
safe_or (value.Ordinal z) e h = safe_settled _ _ e h
safe_or _ e h = safe_undefined

safe_and : {inv : Invariant} (v : Value) (e : Evaluates Value) → Safe inv e → Safe inv (operators.and_next v e)
safe_and (value.Ordinal z) e h = safe_settled _ _ e h
safe_and _ e h = safe_undefined

safe_concatenated : {inv : Invariant} (at : Pos) (v : Value) (e : Expression) → SafeExpression inv e → Safe inv (operators.concatenated at v e)
safe_concatenated {inv = inv} at v e h = safe_then (safe_nil_check at v) (safe_bind (safe_holding (Is v) h.value) (λ u. safe_then (safe_nil_check e.pos u) (safe_bind (safe_acting _ (inv.value v, (inv.value u, tt))) (λ a. safe_made a))))

safe_right : {inv : Invariant} (go : Value → Evaluates Value) → ((v : Value) → Safe inv (go v)) → (v : Value) (e : Expression) → SafeExpression inv e → Safe inv (operators.right_of go v e)
safe_right go h v e k = safe_bind (safe_holding (Is v) k.value) h

safe_operator : {inv : Invariant} (at : Pos) (o : Operator) (to : Pos) (right : Expression) (kind : Option ℕ) (left : Value) → SafeExpression inv right → Safe inv (operators.operated_on at (record { operator = o; pos = to; right = right; kind = kind }) left)
safe_operator at operator.Or to right kind left h = safe_or left right.value h.value
safe_operator at operator.And to right kind left h = safe_and left right.value h.value
safe_operator at operator.Plus to right kind left h = safe_right _ (λ v. safe_arithmetic _ to left v) left right h
safe_operator at operator.Minus to right kind left h = safe_right _ (λ v. safe_arithmetic _ to left v) left right h
safe_operator at operator.Times to right kind left h = safe_right _ (λ v. safe_arithmetic _ to left v) left right h
safe_operator at operator.Div to right kind left h = safe_right _ (λ v. safe_arithmetic _ to left v) left right h
safe_operator at operator.Mod to right kind left h = safe_right _ (λ v. safe_arithmetic _ to left v) left right h
safe_operator at operator.Union to right kind left h = safe_right _ (λ v. safe_on_sets _ left v) left right h
safe_operator at operator.Difference to right kind left h = safe_right _ (λ v. safe_on_sets _ left v) left right h
safe_operator at operator.Intersection to right kind left h = safe_right _ (λ v. safe_on_sets _ left v) left right h
safe_operator at operator.SymmetricDifference to right kind left h = safe_right _ (λ v. safe_on_sets _ left v) left right h
safe_operator at operator.Concatenate to right kind left h = safe_concatenated at left right h
safe_operator at operator.In to right kind left h = safe_right _ (λ v. safe_membership left v) left right h
safe_operator at (operator.Compare r c) to right kind left h = safe_right _ (λ v. safe_compared r c left v) left right h

safe_operated_on : {inv : Invariant} (at : Pos) (o : Operated) (left : Value) → SafeOperated inv o → Safe inv (operators.operated_on at o left)
safe_operated_on at o left h = safe_operator at o.operator o.pos o.right o.kind left h

safe_first : {inv : Invariant} (b : Bool) (first : Expression) (o : Operated) → SafeExpression inv first → SafeOperated inv o → Safe inv (operators.first_operated b first o)
safe_first true first o h k = safe_bind h.unread (λ t. safe_bind (safe_holding t k.unread) (λ u. safe_both_read (operators.relation_of o.operator) compared.Structures t u))
safe_first false first o h k = safe_bind h.value (λ v. safe_operated_on first.pos o v k)

safe_further : {inv : Invariant} (at : Pos) (os : List Operated) → AllOf (SafeOperated inv) os → (v : Value) → Safe inv (operators.operated_further at os v)
safe_further at [] h v = safe_given v
safe_further at (o ∷ os) h v = safe_bind (safe_operated_on at o v h.0) (λ u. safe_further at os h.1 u)

pub safe_operations : {inv : Invariant} (first : Expression) (os : List Operated) → SafeExpression inv first → AllOf (SafeOperated inv) os → Safe inv (operators.operations first os)
safe_operations first [] h k = h.value
safe_operations first (o ∷ os) h k = safe_bind (safe_first _ first o h k.0) (λ v. safe_further first.pos os k.1 v)

pub safe_within : {inv : Invariant} (at : Pos) (b : Option Bounds) (z : ℤ) → Safe inv (operators.within at b z)
safe_within at None z = safe_undefined
safe_within at (Some b) z = safe_unless _ _ _

module _ (p : Program) where
  pub safe_in_range : {inv : Invariant} (at : Pos) (kind : ℕ) (z : ℤ) → Safe inv (operators.in_range p at kind z)
  safe_in_range at kind z = safe_then (safe_within at _ z) (safe_given _)

  safe_not_inner : {inv : Invariant} (at : Pos) (a : Option ℕ) → Safe inv (operators.not_inner p at a)
  safe_not_inner at None = safe_done
  safe_not_inner at (Some a) = safe_fault _ _

  pub safe_converted : {inv : Invariant} (c : Conversion) (at : Pos) (kind : ℕ) (v : Value) → Safe inv (operators.converted p c at kind v)
  safe_converted conversion.Range at kind (value.Ordinal z) = safe_in_range at kind z
  safe_converted conversion.Range at kind _ = safe_undefined
  safe_converted conversion.Narrow at kind v = safe_bind (safe_seeing (λ m. has_type p m.store kind v)) (λ b. safe_then (safe_unless fault_kind.Narrow at (not b)) (safe_given v))
  safe_converted conversion.Shape at kind v = safe_then (safe_unless _ _ _) (safe_given v)
  safe_converted conversion.Nested at kind (value.Procedure q a) = safe_then (safe_not_inner at a) (safe_given _)
  safe_converted conversion.Nested at kind v = safe_given v

  pub safe_type_test : {inv : Invariant} (t : ℕ) (v : Value) → Safe inv (operators.type_test p t v)
  safe_type_test t v = safe_bind (safe_seeing _) (λ b. safe_given _)

  pub safe_limit : {inv : Invariant} {r : Option Use} (l : ArrayLimit) (index : Option Bounds) (c : Chained) → SafeChained inv r c → Safe inv (operators.array_limit p l index c)
  safe_limit l index c h = gives_bind h.thing (λ t g. safe_bind (safe_valued t) (λ v. safe_given _))

-- ---- Constructors

safe_one_member : {inv : Invariant} (ms : List ℤ) (v : Value) → Safe inv (constructors.one_member ms v)
safe_one_member ms (value.Ordinal z) = safe_given _
safe_one_member ms _ = safe_undefined

safe_range_of : {inv : Invariant} (ms : List ℤ) (v u : Value) → Safe inv (constructors.range_of_members ms v u)
safe_range_of ms (value.Ordinal a) (value.Ordinal b) = safe_given _
safe_range_of ms _ _ = safe_undefined

pub safe_with_one : {inv : Invariant} (e : Expression) → SafeExpression inv e → SafeAdding inv (constructors.with_one e)
safe_with_one e h ms = safe_bind h.value (λ v. safe_one_member ms v)

pub safe_with_all : {inv : Invariant} (a b : Expression) → SafeExpression inv a → SafeExpression inv b → SafeAdding inv (constructors.with_all a b)
safe_with_all a b h k ms = safe_bind h.value (λ v. safe_bind (safe_holding (Is v) k.value) (λ u. safe_range_of ms v u))

pub safe_set_of : {inv : Invariant} (es : List Adding) → AllOf (SafeAdding inv) es → (ms : List ℤ) → Safe inv (constructors.set_of es ms)
safe_set_of [] h ms = safe_given _
safe_set_of (e ∷ es) h ms = safe_bind (safe_holding (Is (value.Members ms)) (h.0 ms)) (λ ns. safe_set_of es h.1 ns)

safe_first_shape : {inv : Invariant} (at : Pos) (vs : List Value) (v : Value) → Safe inv (constructors.has_first_shape at vs v)
safe_first_shape at [] v = safe_done
safe_first_shape at (u ∷ vs) v = safe_unless _ _ _

safe_each_element : {inv : Invariant} (es : List Expression) → AllOf (SafeExpression inv) es → (before : List Value) → Safe inv (constructors.each_element before es)
safe_each_element [] h before = safe_given before
safe_each_element (e ∷ es) h before = safe_bind (safe_holding_all _ h.0.value) (λ v. safe_then (safe_first_shape e.pos before v) (safe_each_element es h.1 (before ++ v ∷ [])))

safe_each_field : {inv : Invariant} (fs : List Valued) → AllOf (SafeValued inv) fs → (before : List (ℕ × Value)) → Safe inv (constructors.each_field before fs)
safe_each_field [] h before = safe_given before
safe_each_field (f ∷ fs) h before = safe_bind (safe_holding_all _ h.0.value) (λ v. safe_each_field fs h.1 (before ++ (f.field, v) ∷ []))

pub safe_record_of : {inv : Invariant} (fs : List Valued) → AllOf (SafeValued inv) fs → Safe inv (constructors.record_of fs)
safe_record_of fs h = safe_bind (safe_each_field fs h []) (λ vs. safe_given _)

module _ (p : Program) where
  pub safe_array_value : {inv : Invariant} (kind : ℕ) (es : List Expression) (b : Bool) → AllOf (SafeExpression inv) es → Safe inv (constructors.array_value p kind es b)
  safe_array_value kind es b h = safe_bind (safe_each_element es h []) (λ vs. safe_given _)

  safe_size_value : {inv : Invariant} (at : Pos) (v : Value) → Safe inv (constructors.size_value p at v)
  safe_size_value at (value.Ordinal z) = safe_unless _ _ _
  safe_size_value at _ = safe_undefined

  safe_each_size : {inv : Invariant} (es : List Expression) → AllOf (SafeExpression inv) es → (before : List Value) → Safe inv (constructors.each_size p before es)
  safe_each_size [] h before = safe_given before
  safe_each_size (e ∷ es) h before = safe_bind (safe_holding_all _ h.0.value) (λ v. safe_then (safe_size_value e.pos v) (safe_each_size es h.1 (before ++ v ∷ [])))

  safe_each_binding : {inv : Invariant} (bs : List Valued) → AllOf (SafeValued inv) bs → (before : List Value) → Safe inv (constructors.each_binding p before bs)
  safe_each_binding [] h before = safe_given before
  safe_each_binding (b ∷ bs) h before = safe_bind (safe_holding_all _ h.0.value) (λ v. safe_each_binding bs h.1 (before ++ v ∷ []))

  safe_stored : {inv : Invariant} (c : ℕ) (bs : List Valued) (vs : List Value) → Safe inv (constructors.stored p c bs vs)
  safe_stored c [] vs = safe_done
  safe_stored c (b ∷ bs) [] = safe_done
  safe_stored c (b ∷ bs) (v ∷ vs) = safe_then (safe_writing (place.further (place.whole (place.Referent c)) (place.Field (constructors.cell_field p b.owner b.field))) v) (safe_stored c bs vs)

  safe_furnished : {inv : Invariant} (kind : ℕ) (sizes : List ℕ) (bs : List Valued) (vs : List Value) (v : Value) → Safe inv (constructors.furnished p kind sizes bs vs v)
  safe_furnished kind sizes bs vs (value.Pointer c) = safe_then (safe_filling c _) (safe_then (safe_stored c bs vs) (safe_given _))
  safe_furnished kind sizes bs vs _ = safe_undefined

  pub safe_new : {inv : Invariant} (made : ℕ) (sizes : List Expression) (bs : List Valued) → AllOf (SafeExpression inv) sizes → AllOf (SafeValued inv) bs → Safe inv (constructors.new_cell p made sizes bs)
  safe_new {inv = inv} made sizes bs h k = safe_bind (safe_each_size sizes h []) (λ ns. safe_bind (safe_each_binding bs k []) (λ vs. safe_bind (safe_holding_all _ (safe_acting _ (all_values inv ns))) (λ a. safe_bind (safe_made a) (λ c. safe_furnished _ _ bs vs c))))

  -- ---- Calls

  safe_result : {inv : Invariant} (a : Answer Thing) → Safe inv (travelling.result_of p a)
  safe_result (asked.Gives None) = safe_given _
  safe_result (asked.Gives (Some (Is v))) = safe_given v
  safe_result (asked.Gives (Some (At at))) = safe_undefined
  safe_result (Raises e n t) = safe_raising _
  safe_result (Fails kind) = safe_undefined

  -- what is passed is one that others may see; what is copied needn't be
  abbrev HandedOver : Invariant → Passed → Type 0
  HandedOver inv (Passes thing) = inv.out thing
  HandedOver inv (Copies kind thing) = Unit {0}

  gives_value_for : {inv : Invariant} (m : Mode) (b : Bool) (kind : ℕ) (e : Expression) → SafeExpression inv e → Gives inv (HandedOver inv) (calls.value_for p m b kind e)
  gives_value_for mode.Value true kind e h = safe_bind h.unread (λ t. gives_given _ tt)
  gives_value_for {inv = inv} mode.Value false kind e h = safe_bind h.value (λ v. gives_given _ (inv.value v))
  gives_value_for {inv = inv} mode.Var b kind e h = safe_bind h.value (λ v. gives_given _ (inv.new v))
  gives_value_for {inv = inv} mode.Readonly b kind e h = safe_bind h.value (λ v. gives_given _ (inv.new v))

  safe_check_of_shape : {inv : Invariant} (b : Bool) (at : Pos) (kind : ℕ) (t : Thing) → Safe inv (calls.check_of_shape p b at kind t)
  safe_check_of_shape false at kind t = safe_done
  safe_check_of_shape true at kind t = safe_bind (safe_valued t) (λ v. safe_unless _ _ _)

  abbrev Numbered : Invariant → ℕ × Passed → Type 0
  Numbered inv x = HandedOver inv x.1

  gives_actual : {inv : Invariant} (fs : List Formal) (a : Passing) → SafePassing inv a → Gives inv (Numbered inv) (calls.actual p fs a)
  gives_actual fs (By_value formal kind e) h = gives_bind (gives_value_for _ _ kind e h) (λ x g. gives_given _ g)
  gives_actual fs (By_place formal kind c b) h = gives_bind h (λ t g. safe_then (safe_check_of_shape b c.pos kind t) (gives_given _ g))

  all_and_one : {A : Type 0} (P : A → Type 0) (xs : List A) (x : A) → AllOf P xs → P x → AllOf P (xs ++ x ∷ [])
  all_and_one P [] x h g = (g, tt)
  all_and_one P (y ∷ xs) x h g = (h.0, all_and_one P xs x h.1 g)

  gives_each_actual : {inv : Invariant} (fs : List Formal) (actuals : List Passing) → AllOf (SafePassing inv) actuals → (before : List (ℕ × Passed)) → AllOf (Numbered inv) before → Gives inv (AllOf (Numbered inv)) (calls.each_actual p fs before actuals)
  gives_each_actual fs [] h before g = gives_given before g
  gives_each_actual {inv = inv} fs (a ∷ more) h before g = gives_bind (safe_holding_all _ (gives_actual fs a h.0)) (λ x f. gives_each_actual fs more h.1 (before ++ x ∷ []) (all_and_one (Numbered inv) before x g f))

  -- in the order of their numbers they are the same
  abbrev IfThere : {A : Type 0} → (A → Type 0) → Option A → Type 0
  IfThere P None = Unit {0}
  IfThere P (Some x) = P x

  numbered_one : {A : Type 0} (P : A → Type 0) (n : ℕ) (b : Bool) (x : A) (o : Option A) → P x → IfThere P o → IfThere P (elim b as (λ c. Option A) [ true ↦ Some x | false ↦ o ])
  numbered_one P n true x o h g = h
  numbered_one P n false x o h g = g

  all_numbered : {A : Type 0} (P : A → Type 0) (n : ℕ) (xs : List (ℕ × A)) → AllOf (λ x. P x.1) xs → IfThere P (constructors.numbered n xs)
  all_numbered P n [] h = tt
  all_numbered P n (x ∷ xs) h = numbered_one P n (x.0 == n) x.1 (constructors.numbered n xs) h.0 (all_numbered P n xs h.1)

  all_with : {A : Type 0} (P : A → Type 0) (o : Option A) (xs : List A) → IfThere P o → AllOf P xs → AllOf P (option_to_list o ++ xs)
  all_with P None xs h g = g
  all_with P (Some x) xs h g = (h, g)

  all_in_order_from : {A : Type 0} (P : A → Type 0) (count at : ℕ) (xs : List (ℕ × A)) → AllOf (λ x. P x.1) xs → AllOf P (constructors.in_order_from count at xs)
  all_in_order_from P zero at xs h = tt
  all_in_order_from P (suc count) at xs h = all_with P (constructors.numbered at xs) _ (all_numbered P at xs h) (all_in_order_from P count (suc at) xs h)

  safe_copied_into : {inv : Invariant} (c v : Value) → Safe inv (calls.copied_into p c v)
  safe_copied_into (value.Pointer c) v = safe_then (safe_filling c v) (safe_given _)
  safe_copied_into _ v = safe_undefined

  all_sizes : (inv : Invariant) (ns : List ℕ) → AllOf inv.out (map (λ n. Is (value.number n)) ns)
  all_sizes inv [] = tt
  all_sizes inv (n ∷ ns) = (inv.value (value.number n), all_sizes inv ns)

  safe_copy_of : {inv : Invariant} (kind : ℕ) (t : Thing) → Safe inv (calls.copy_of p kind t)
  safe_copy_of {inv = inv} kind t = safe_bind (safe_valued t) (λ before. safe_bind (safe_holding t (safe_acting _ (all_sizes inv (take (open_dimensions p kind) (shape before))))) (λ a. safe_bind (safe_made a) (λ c. safe_bind (safe_valued t) (λ v. safe_copied_into c v))))

  gives_each_copied : {inv : Invariant} (ps : List Passed) → AllOf (HandedOver inv) ps → Gives inv (AllOf inv.out) (calls.each_copied p ps)
  gives_each_copied [] h = gives_given [] tt
  gives_each_copied (Passes t ∷ ps) h = gives_bind (safe_holding t (gives_each_copied ps h.1)) (λ ts g. gives_given _ (h.0, g))
  gives_each_copied {inv = inv} (Copies kind t ∷ ps) h = safe_bind (safe_holding_all _ (safe_copy_of kind t)) (λ c. gives_bind (safe_holding (Is c) (gives_each_copied ps h.1)) (λ ts g. gives_given _ (inv.value c, g)))

  gives_called : {inv : Invariant} (r : Option Use) (q : ℕ) (a : Option ℕ) (ts : List Thing) → AllOf inv.out ts → Gives inv (inv.rooted r) (calls.called p q a ts)
  gives_called {inv = inv} r q a ts h = safe_bind (safe_acting _ (inv.value (value.Procedure q a), h)) (λ answer. safe_bind (safe_result answer) (λ v. gives_given _ (is_rooted inv r v)))

  all_behind : {A : Type 0} (P : A → Type 0) (xs ys : List A) → AllOf P xs → AllOf P ys → AllOf P (xs ++ ys)
  all_behind P [] ys h g = g
  all_behind P (x ∷ xs) ys h g = (h.0, all_behind P xs ys h.1 g)

  gives_call_with : {inv : Invariant} (r : Option Use) (fs : List Formal) (first : List Thing) → AllOf inv.out first → (q : ℕ) (a : Option ℕ) (actuals : List Passing) → AllOf (SafePassing inv) actuals → Gives inv (inv.rooted r) (calls.call_with p fs first q a actuals)
  gives_call_with {inv = inv} r fs first f q a actuals h = gives_bind (safe_holding_all first (gives_each_actual fs actuals h [] tt)) (λ passed g. gives_bind (safe_holding_all first (gives_each_copied (constructors.in_order passed) (all_in_order_from (HandedOver inv) (length passed) 0 passed g))) (λ ts k. gives_called r q a (first ++ ts) (all_behind inv.out first ts f k)))

  pub safe_call_of : {inv : Invariant} (r : Option Use) (before : Before) (actuals : List Passing) → AllOf (SafePassing inv) actuals → (v : Value) → Gives inv (inv.rooted r) (calls.call_of p before actuals v)
  safe_call_of r before actuals h (value.Procedure q a) = gives_call_with r _ [] tt q a actuals h
  safe_call_of r before actuals h value.Nil = safe_fault _ _
  safe_call_of r before actuals h _ = safe_undefined

  safe_bound_call : {inv : Invariant} (r : Option Use) (at : Pos) (fs : List Formal) (actuals : List Passing) → AllOf (SafePassing inv) actuals → (object : Value) (q : Option ℕ) → Gives inv (inv.rooted r) (calls.bound_call p at fs actuals object q)
  safe_bound_call r at fs actuals h object None = safe_fault _ _
  safe_bound_call {inv = inv} r at fs actuals h object (Some q) = gives_call_with r fs (Is object ∷ []) (inv.value object, tt) q None actuals h

  pub safe_kind_of : {inv : Invariant} (v : Value) → Safe inv (seeing (λ m. kind_of_object p m.store v))
  safe_kind_of v = safe_seeing _

  safe_method_of : {inv : Invariant} (r : Option Use) (at : Pos) (owner method : ℕ) (actuals : List Passing) → AllOf (SafePassing inv) actuals → (object : Value) → Gives inv (inv.rooted r) (calls.method_of p at owner method actuals object)
  safe_method_of r at owner method actuals h object = safe_bind (safe_kind_of object) (λ kind. safe_bound_call r at (calls.signature_of p (slice_get (methods_in (node_of p owner)) method)) actuals h object (procedure_of p kind (method_place p owner method)))

  pub safe_method_call : {inv : Invariant} (r : Option Use) (at : Pos) (owner method : ℕ) (actuals : List Passing) → AllOf (SafePassing inv) actuals → (object : Value) → Gives inv (inv.rooted r) (calls.method_call p at owner method actuals object)
  safe_method_call r at owner method actuals h value.Nil = safe_fault _ _
  safe_method_call r at owner method actuals h object = safe_method_of r at owner method actuals h object
