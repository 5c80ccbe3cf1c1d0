-- What values of a type look like, and the types of results.
use Rattle.std.proofs.Common.{◌-ℤ◌, ◌+ℤ◌, ◌≤◌, ◌<◌, zero, ◌≡◌, ℕ, ℤ, pos, negsuc, Bool, true, false, List, [], ◌∷◌, Option, Some, None, refl, sym, ap, ◌∙◌, subst, arith, suc}
use Rattle.std.specs.Prelude.{◌&&◌, cond, int_le, int_lt}
use Rattle.std.specs.List.{filter}
use Rattle.std.specs.Option.{option_and_then}
use Rattle.std.proofs.lemmas.Bool.{eqb-true}
use Rattle.std.proofs.lemmas.Bool.Decides.{nat_tests}
use Rattle.m3_base.specs.Integers.{is_integer}
use Rattle.m3_base.specs.declared.outcomes.FaultKind.{FaultKind}
use Rattle.m3_base.specs.declared.outcomes.FaultKind.TheVariants.{DivZero}
use Rattle.m3_types.specs.declared.nodes.TypeNode.{TypeNode}
use Rattle.m3_types.specs.declared.nodes.TypeNode.TheVariants as node
use Rattle.m3_values.specs.Values as value
use Rattle.m3_values.specs.Values.{Value, same_integer, truth}
use Rattle.m3_values.specs.Integers.{Computed, Result, Fault, checked, within_integer, is_between, unless_zero}
use Rattle.m3_values.specs.Sets as sets
use Rattle.m3_values.specs.Programs.{Program}
use Rattle.m3_values.specs.Types.{Bounds, bounds, bounds_in, node_of}
use Rattle.m3_values.specs.Store.{Store}
use Rattle.m3_source_typing.specs.ValueTypes.{Class, OfNumbers, OfReferences, OfProcedures, OfSets, OfRecords, OfArrays, NoType, class_in, class_of, member_in, member_bounds, IsOfNil, IsNumberOf, AreMembersOf, HasType}
use Rattle.m3_source_typing.specs.Operators as operators
use Rattle.m3_source_typing.specs.Operators.{is_numbers, is_integer_in, is_boolean_in, same_bounds, within_bounds}
use Rattle.std.proofs.lemmas.Int.{ints}

-- ---- tests

pub left_true : (a b : Bool) → (a && b) ≡ true → a ≡ true
left_true true b h = refl
left_true false b h = h

pub right_true : (a b : Bool) → (a && b) ≡ true → b ≡ true
right_true true b h = h
right_true false b h = absurd (let bad : false ≡ true = h in cc)

pub both_true : (a b : Bool) → a ≡ true → b ≡ true → (a && b) ≡ true
both_true true b h g = g
both_true false b h g = h

pub same_number : (x y : ℤ) → same_integer x y ≡ true → x ≡ y
same_number (pos m) (pos n) h = ap pos (eqb-true m n h)
same_number (negsuc m) (negsuc n) h = ap negsuc (eqb-true m n h)
same_number (pos m) (negsuc n) h = absurd (let bad : false ≡ true = h in cc)
same_number (negsuc m) (pos n) h = absurd (let bad : false ≡ true = h in cc)

pub at_most : (x y z : ℤ) → int_le x y ≡ true → int_le y z ≡ true → int_le x z ≡ true
at_most (pos a) (pos b) (pos c) h g = grind (arith, nat_tests)
at_most (pos a) (pos b) (negsuc c) h g = absurd (let bad : false ≡ true = g in cc)
at_most (pos a) (negsuc b) z h g = absurd (let bad : false ≡ true = h in cc)
at_most (negsuc a) (pos b) (pos c) h g = refl
at_most (negsuc a) (pos b) (negsuc c) h g = absurd (let bad : false ≡ true = g in cc)
at_most (negsuc a) (negsuc b) (pos c) h g = refl
at_most (negsuc a) (negsuc b) (negsuc c) h g = grind (arith, nat_tests)

-- ---- classes

other : (test : Class → Bool) (c d : Class) → test c ≡ true → c ≡ d → test d ≡ false → ⊥
other test c d h e n = let bad : true ≡ false = sym h ∙ ap test e ∙ n in absurd cc

nil_is_none : (c : Class) → is_numbers c ≡ true → IsOfNil c → ⊥
nil_is_none OfNumbers h n = n
nil_is_none OfReferences h n = let bad : false ≡ true = h in absurd cc
nil_is_none OfProcedures h n = let bad : false ≡ true = h in absurd cc
nil_is_none OfSets h n = n
nil_is_none OfRecords h n = n
nil_is_none OfArrays h n = n
nil_is_none NoType h n = n

nil_is_no_set : (c : Class) → c ≡ OfSets → IsOfNil c → ⊥
nil_is_no_set c e n = subst IsOfNil e n

pub numbers_is : (c : Class) → is_numbers c ≡ true → c ≡ OfNumbers
numbers_is OfNumbers h = refl
numbers_is OfReferences h = absurd (let bad : false ≡ true = h in cc)
numbers_is OfProcedures h = absurd (let bad : false ≡ true = h in cc)
numbers_is OfSets h = absurd (let bad : false ≡ true = h in cc)
numbers_is OfRecords h = absurd (let bad : false ≡ true = h in cc)
numbers_is OfArrays h = absurd (let bad : false ≡ true = h in cc)
numbers_is NoType h = absurd (let bad : false ≡ true = h in cc)

pub set_class : (o : Option TypeNode) (m : ℕ) → member_in o ≡ Some m → class_in o ≡ OfSets
set_class (Some (node.SetOf base)) m e = refl
set_class None m e = absurd (let bad : None ≡ Some m = e in cc)
set_class (Some n) m e = absurd (let bad : None ≡ Some m = e in cc)

found : (f : ℕ → Option Bounds) (o : Option ℕ) (b : Bounds) → option_and_then f o ≡ Some b → (m : ℕ) × (o ≡ Some m)
found f None b e = absurd (let bad : None ≡ Some b = e in cc)
found f (Some m) b e = (m, refl)

pub integer_node : (o : Option TypeNode) → is_integer_in o ≡ true → o ≡ Some node.Integer
integer_node (Some node.Integer) h = refl
integer_node None h = absurd (let bad : false ≡ true = h in cc)
integer_node (Some n) h = absurd (let bad : false ≡ true = h in cc)

pub boolean_node : (o : Option TypeNode) → is_boolean_in o ≡ true → o ≡ Some node.Boolean
boolean_node (Some node.Boolean) h = refl
boolean_node None h = absurd (let bad : false ≡ true = h in cc)
boolean_node (Some n) h = absurd (let bad : false ≡ true = h in cc)

same_two : (a b : Bounds) → a.first ≡ b.first → a.last ≡ b.last → a ≡ b
same_two a b e f = ap (λ x. record { first = x; last = a.last }) e ∙ ap (λ y. record { first = b.first; last = y }) f

both_there : (a b : Option Bounds) → same_bounds a b ≡ true → (x : Bounds) × (y : Bounds) × (a ≡ Some x) × (b ≡ Some y) × (x ≡ y)
both_there (Some x) (Some y) h = (x, y, refl, refl, same_two x y (same_number x.first y.first (left_true _ _ h)) (same_number x.last y.last (right_true _ _ h)))
both_there None b h = absurd (let bad : false ≡ true = h in cc)
both_there (Some x) None h = absurd (let bad : false ≡ true = h in cc)

module _ (p : Program) where
  -- ---- what values look like

  pub number_of : (s : Store) (v : Value) (t : ℕ) → is_numbers (class_of p t) ≡ true → HasType p s v t → (z : ℤ) × (v ≡ value.Ordinal z) × IsNumberOf z (bounds p t)
  number_of s (value.Ordinal z) t n h = (z, refl, h.1)
  number_of s value.Nil t n h = absurd (nil_is_none (class_of p t) n h)
  number_of s (value.Pointer c) t n h = absurd (other is_numbers _ _ n h.0 refl)
  number_of s (value.Text c) t n h = absurd (other is_numbers _ _ n h.0 refl)
  number_of s value.MainThread t n h = absurd (other is_numbers _ _ n h.0 refl)
  number_of s (value.Procedure q a) t n h = absurd (other is_numbers _ _ n h.0 refl)
  number_of s (value.Members ms) t n h = absurd (other is_numbers _ _ n h.0 refl)
  number_of s (value.Record vs) t n h = absurd (other is_numbers _ _ n h.0 refl)
  number_of s (value.Array below vs) t n h = absurd (other is_numbers _ _ n h.0 refl)

  abbrev is_set : Class → Bool
  is_set OfSets = true
  is_set _ = false

  pub set_of : (s : Store) (v : Value) (t : ℕ) → class_of p t ≡ OfSets → HasType p s v t → (ms : List ℤ) × (v ≡ value.Members ms) × AreMembersOf ms (member_bounds p t)
  set_of s (value.Members ms) t n h = (ms, refl, h.1)
  set_of s value.Nil t n h = absurd (nil_is_no_set (class_of p t) n h)
  set_of s (value.Ordinal z) t n h = absurd (other is_set _ _ (ap is_set n) h.0 refl)
  set_of s (value.Pointer c) t n h = absurd (other is_set _ _ (ap is_set n) h.0 refl)
  set_of s (value.Text c) t n h = absurd (other is_set _ _ (ap is_set n) h.0 refl)
  set_of s value.MainThread t n h = absurd (other is_set _ _ (ap is_set n) h.0 refl)
  set_of s (value.Procedure q a) t n h = absurd (other is_set _ _ (ap is_set n) h.0 refl)
  set_of s (value.Record vs) t n h = absurd (other is_set _ _ (ap is_set n) h.0 refl)
  set_of s (value.Array below vs) t n h = absurd (other is_set _ _ (ap is_set n) h.0 refl)

  -- ---- types of results

  pub truth_typed : (s : Store) (b : Bool) (t : ℕ) → operators.is_boolean p t ≡ true → HasType p s (truth b) t
  truth_typed s false t h = let is = boolean_node (node_of p t) h in (ap class_in is, subst (IsNumberOf (pos 0)) (sym (ap bounds_in is)) refl)
  truth_typed s true t h = let is = boolean_node (node_of p t) h in (ap class_in is, subst (IsNumberOf (pos 1)) (sym (ap bounds_in is)) refl)

  abbrev integers : Bounds
  integers = record { first = negsuc 9223372036854775807; last = pos 9223372036854775807 }

  in_integers : (z : ℤ) → is_integer z ≡ true → is_between (negsuc 9223372036854775807) (pos 9223372036854775807) z ≡ true
  in_integers (pos n) h = grind (arith, nat_tests)
  in_integers (negsuc n) h = both_true _ true (grind (arith, nat_tests)) refl

  pub integer_typed : (s : Store) (z : ℤ) (t : ℕ) → operators.is_integer p t ≡ true → is_integer z ≡ true → HasType p s (value.Ordinal z) t
  integer_typed s z t h i = let is = integer_node (node_of p t) h in (ap class_in is, subst (IsNumberOf z) (sym (ap bounds_in is)) (in_integers z i))

  -- a number of a type with narrower bounds
  pub within_two : (z : ℤ) (a b : Option Bounds) → within_bounds a b ≡ true → IsNumberOf z a → IsNumberOf z b
  within_two z (Some a) (Some b) h n =
      both_true _ _ (at_most b.first a.first z (left_true _ _ h) (left_true _ _ n)) (at_most z a.last b.last (right_true _ _ n) (right_true _ _ h))
  within_two z None b h n = absurd n
  within_two z (Some a) None h n = absurd (let bad : false ≡ true = h in cc)

  pub part_typed : (s : Store) (z : ℤ) (t u : ℕ) → is_numbers (class_of p u) ≡ true → operators.is_part p t u ≡ true → IsNumberOf z (bounds p t) → HasType p s (value.Ordinal z) u
  part_typed s z t u n h i = (numbers_is (class_of p u) n, within_two z (bounds p t) (bounds p u) h i)

  pub boolean_numbers : (t : ℕ) → operators.is_boolean p t ≡ true → is_numbers (class_of p t) ≡ true
  boolean_numbers t h = ap (λ o. is_numbers (class_in o)) (boolean_node (node_of p t) h)

  -- sets of the same members
  pub sets_are : (t u : ℕ) → operators.same_sets p t u ≡ true → (class_of p t ≡ OfSets) × (class_of p u ≡ OfSets) × (member_bounds p t ≡ member_bounds p u)
  sets_are t u h =
      let two = both_there (member_bounds p t) (member_bounds p u) h in
      let m = found (bounds p) (member_in (node_of p t)) two.0 two.2 in
      let n = found (bounds p) (member_in (node_of p u)) two.1 two.3 in
      (set_class (node_of p t) m.0 m.1, set_class (node_of p u) n.0 n.1, two.2 ∙ ap Some two.4 ∙ sym two.3)

-- ---- results of computations

-- a result of a computation, or another one
abbrev result_or : ℤ → Computed ℤ → ℤ
result_or z (Result x) = x
result_or z (Fault kind) = z

result_is : (z x : ℤ) → Result z ≡ Result x → z ≡ x
result_is z x e = ap (result_or z) e

abbrev is_result : Computed ℤ → Bool
is_result (Result x) = true
is_result (Fault kind) = false

no_result : (kind : FaultKind) (x : ℤ) → Fault kind ≡ Result x → ⊥
no_result kind x e = let bad : false ≡ true = ap is_result e in absurd cc

pub checked_is : (b : Bool) (z x : ℤ) → checked b z ≡ Result x → (b ≡ true) × (z ≡ x)
checked_is true z x e = (refl, result_is z x e)
checked_is false z x e = absurd (no_result _ x e)

abbrev pub IsIntegerResult : Computed ℤ → Type 0
IsIntegerResult c = (x : ℤ) → c ≡ Result x → is_integer x ≡ true

pub within_is : (z : ℤ) → IsIntegerResult (within_integer z)
within_is z x e = let q = checked_is (is_integer z) z x e in subst (λ y. is_integer y ≡ true) q.1 q.0

if_is : (b : Bool) (c : Computed ℤ) → IsIntegerResult c → IsIntegerResult (cond b (Fault DivZero) c)
if_is true c h x e = absurd (no_result DivZero x e)
if_is false c h x e = h x e

pub unless_is : (y : ℤ) (c : Computed ℤ) → IsIntegerResult c → IsIntegerResult (unless_zero y c)
unless_is y c h = if_is (same_integer y (pos 0)) c h

-- ---- sets

module _ (b : Option Bounds) where
  put_in : (one two : Bool) (z m : ℤ) (ms more : List ℤ) → IsNumberOf z b → AreMembersOf (m ∷ ms) b → AreMembersOf more b → AreMembersOf (cond one (z ∷ m ∷ ms) (cond two (m ∷ ms) (m ∷ more))) b
  put_in true two z m ms more h g f = (h, g)
  put_in false true z m ms more h g f = g
  put_in false false z m ms more h g f = (g.0, f)

  pub with_member_in : (z : ℤ) (ms : List ℤ) → IsNumberOf z b → AreMembersOf ms b → AreMembersOf (sets.with_member z ms) b
  with_member_in z [] h g = (h, tt)
  with_member_in z (m ∷ ms) h g = put_in (int_lt z m) (same_integer z m) z m ms (sets.with_member z ms) h g (with_member_in z ms h g.1)

  pub members_in : (count : ℕ) (first : ℤ) (ms : List ℤ) → ((i : ℕ) → i < count → IsNumberOf (first +ℤ pos i) b) → AreMembersOf ms b → AreMembersOf (sets.with_members count first ms) b
  members_in zero first ms h g = g
  members_in (suc count) first ms h g =
      let none : first +ℤ pos 0 ≡ first = omega (arith, ints) in
      with_member_in first (sets.with_members count (first +ℤ pos 1) ms) (subst (λ z. IsNumberOf z b) none (h 0 (omega arith)))
      (members_in count (first +ℤ pos 1) ms (λ i less. let same : first +ℤ pos (suc i) ≡ (first +ℤ pos 1) +ℤ pos i = omega (arith, ints) in subst (λ z. IsNumberOf z b) same (h (suc i) (omega arith))) g)

  pub union_in : (ms ns : List ℤ) → AreMembersOf ms b → AreMembersOf ns b → AreMembersOf (sets.union ms ns) b
  union_in [] ns h g = g
  union_in (m ∷ ms) ns h g = with_member_in m (sets.union ms ns) h.0 (union_in ms ns h.1 g)

  kept_one : (c : Bool) (m : ℤ) (ms : List ℤ) → IsNumberOf m b → AreMembersOf ms b → AreMembersOf (cond c (m ∷ ms) ms) b
  kept_one true m ms h g = (h, g)
  kept_one false m ms h g = g

  pub filter_in : (f : ℤ → Bool) (ms : List ℤ) → AreMembersOf ms b → AreMembersOf (filter f ms) b
  filter_in f [] h = tt
  filter_in f (m ∷ ms) h = kept_one (f m) m (filter f ms) h.0 (filter_in f ms h.1)

  pub symmetric_in : (ms ns : List ℤ) → AreMembersOf ms b → AreMembersOf ns b → AreMembersOf (sets.symmetric_difference ms ns) b
  symmetric_in ms ns h g = union_in (sets.difference ms ns) (sets.difference ns ms) (filter_in _ ms h) (filter_in _ ns g)

-- the members from one to another are between these
between : (b : Bounds) (first last d : ℤ) → last -ℤ first ≡ d → is_between b.first b.last first ≡ true → is_between b.first b.last last ≡ true → (i : ℕ) → i < sets.steps d → is_between b.first b.last (first +ℤ pos i) ≡ true
between b first last (pos n) e h g i less =
    let le : i ≤ n = omega arith in
    let low : int_le b.first first ≡ true = left_true (int_le b.first first) (int_le first b.last) h in
    let high : int_le last b.last ≡ true = right_true (int_le b.first last) (int_le last b.last) g in
    both_true (int_le b.first (first +ℤ pos i)) (int_le (first +ℤ pos i) b.last) (grind (arith, ints)) (grind (arith, ints))
between b first last (negsuc n) e h g i less = absurd (omega arith)

pub range_in : (o : Option Bounds) (first last : ℤ) (ms : List ℤ) → IsNumberOf first o → IsNumberOf last o → AreMembersOf ms o → AreMembersOf (sets.with_range first last ms) o
range_in None first last ms h g f = absurd h
range_in (Some b) first last ms h g f = members_in (Some b) (sets.steps (last -ℤ first)) first ms (λ i less. between b first last (last -ℤ first) refl h g i less) f
