-- OPERATORS (report, 2.6.6 to 2.6.11): signs, arithmetic, sets, relations, AND, OR and NOT, texts;
-- and the checks of conversions.
use Rattle.std.specs.Prelude.{ℕ, ℤ, pos, neg_ℤ, ◌+ℤ◌, Bool, true, false, not, List, [], ◌∷◌, Option, Some, None, int_lt, int_le}
use Rattle.std.specs.Option.{option_map_or}
use Rattle.m3_base.specs.declared.outcomes.FaultKind.TheVariants as fault_kind
use Rattle.m3_base.specs.declared.places.Pos.{Pos}
use Rattle.m3_core.specs.declared.exprs.ArrayLimit.{ArrayLimit}
use Rattle.m3_core.specs.declared.exprs.ArrayLimit.TheVariants as limit
use Rattle.m3_core.specs.declared.exprs.Compared.{Compared}
use Rattle.m3_core.specs.declared.exprs.Compared.TheVariants as compared
use Rattle.m3_core.specs.declared.exprs.Conversion.{Conversion}
use Rattle.m3_core.specs.declared.exprs.Conversion.TheVariants as conversion
use Rattle.m3_core.specs.declared.exprs.Operator.{Operator}
use Rattle.m3_core.specs.declared.exprs.Operator.TheVariants as operator
use Rattle.m3_core.specs.declared.exprs.Prefix.{Prefix}
use Rattle.m3_core.specs.declared.exprs.PrefixOperator.{PrefixOperator}
use Rattle.m3_core.specs.declared.exprs.PrefixOperator.TheVariants as prefix
use Rattle.m3_core.specs.declared.exprs.Relation.{Relation}
use Rattle.m3_core.specs.declared.exprs.Relation.TheVariants as relation
use Rattle.m3_runs.specs.Languages.{Concatenated, Makes, Answer, Gives}
use Rattle.m3_values.specs.Values.{Value, Ordinal, Nil, Procedure, Members, same, same_integer, truth, number}
use Rattle.m3_values.specs.Integers as integers
use Rattle.m3_values.specs.Integers.{Computed, is_between}
use Rattle.m3_values.specs.Sets as sets
use Rattle.m3_values.specs.Programs.{Program}
use Rattle.m3_values.specs.Types.{Bounds, bounds, type_sizes}
use Rattle.m3_values.specs.Arrays.{shape, count, fits}
use Rattle.m3_values.specs.Places.{Thing, Is}
use Rattle.m3_values.specs.Store.{has_type}
use Rattle.m3_source_meaning.specs.Meanings.{Evaluates, Acts, given, done, fault, undefined, seeing, valued, computed, unless, acting, holding, ◌>>=◌, ◌>>◌}
use Rattle.m3_source_meaning.specs.Phrases.{Expression, Chained, Operated}

abbrev pub ordinal : Pos → Computed ℤ → Evaluates Value
ordinal at c = computed at c >>= (λ z. given (Ordinal z))

-- a value that may not be NIL
abbrev pub not_nil : Pos → Value → Acts
not_nil at Nil = fault fault_kind.Nil at
not_nil at _ = done

-- what was made at a point
abbrev pub made : Answer Thing → Evaluates Value
made (Gives (Some (Is v))) = given v
made _ = undefined

-- ---- signs, ABS and NOT

abbrev pub signed : PrefixOperator → Pos → Value → Evaluates Value
signed prefix.Not at (Ordinal z) = given (truth (same_integer z (pos 0)))
signed prefix.Minus at (Ordinal z) = ordinal at (integers.negated z)
signed prefix.Abs at (Ordinal z) = ordinal at (integers.absolute z)
signed _ at _ = undefined

-- a row of them, the outermost first
abbrev pub prefixed : List Prefix → Value → Evaluates Value
prefixed [] v = given v
prefixed (o ∷ os) v = prefixed os v >>= signed o.operator o.pos

-- ---- arithmetic and sets

abbrev pub arithmetic : (ℤ → ℤ → Computed ℤ) → Pos → (left right : Value) → Evaluates Value
arithmetic compute at (Ordinal x) (Ordinal y) = ordinal at (compute x y)
arithmetic compute at _ _ = undefined

abbrev pub on_sets : (List ℤ → List ℤ → List ℤ) → (left right : Value) → Evaluates Value
on_sets combine (Members ms) (Members ns) = given (Members (combine ms ns))
on_sets combine _ _ = undefined

abbrev pub membership : (left right : Value) → Evaluates Value
membership (Ordinal z) (Members ms) = given (truth (sets.is_in z ms))
membership _ _ = undefined

-- ---- relations

abbrev pub ordered : Relation → ℤ → ℤ → Bool
ordered relation.Equal x y = same_integer x y
ordered relation.NotEqual x y = not (same_integer x y)
ordered relation.Less x y = int_lt x y
ordered relation.LessEqual x y = int_le x y
ordered relation.Greater x y = int_lt y x
ordered relation.GreaterEqual x y = int_le y x

-- inclusion, and proper inclusion
abbrev pub included : Relation → List ℤ → List ℤ → Bool
included relation.Equal ms ns = sets.is_equal ms ns
included relation.NotEqual ms ns = not (sets.is_equal ms ns)
included relation.Less ms ns = sets.is_properly_within ms ns
included relation.LessEqual ms ns = sets.is_within ms ns
included relation.Greater ms ns = sets.is_properly_within ns ms
included relation.GreaterEqual ms ns = sets.is_within ns ms

abbrev pub identical : Relation → Value → Value → Evaluates Value
identical relation.Equal v u = given (truth (same v u))
identical relation.NotEqual v u = given (truth (not (same v u)))
identical _ v u = undefined

abbrev pub compared_by : Relation → Compared → (left right : Value) → Evaluates Value
compared_by r compared.Ordinals (Ordinal x) (Ordinal y) = given (truth (ordered r x y))
compared_by r compared.Sets (Members ms) (Members ns) = given (truth (included r ms ns))
compared_by r compared.References v u = identical r v u
compared_by r compared.Procedures v u = identical r v u
compared_by r compared.Structures v u = identical r v u
compared_by r _ v u = undefined

-- Operands of `=` that are records or arrays are read once both are evaluated.
abbrev pub both_read : Relation → Compared → (left right : Thing) → Evaluates Value
both_read r c left right = do
  v ← valued left
  u ← valued right
  compared_by r c v u

-- ---- AND and OR

abbrev pub unless_settled : (settled : Bool) → Value → Evaluates Value → Evaluates Value
unless_settled true v next = given v
unless_settled false v next = next

abbrev pub or_next : Value → Evaluates Value → Evaluates Value
or_next (Ordinal z) next = unless_settled (not (same_integer z (pos 0))) (Ordinal z) next
or_next v next = undefined

abbrev pub and_next : Value → Evaluates Value → Evaluates Value
and_next (Ordinal z) next = unless_settled (same_integer z (pos 0)) (Ordinal z) next
and_next v next = undefined

-- ---- texts

-- `&` makes a new text, at a point
abbrev pub concatenated : (at : Pos) → (left : Value) → (right : Expression) → Evaluates Value
concatenated at left right = do
  not_nil at left
  v ← holding (Is left) right.value
  not_nil right.pos v
  a ← acting (Makes (Concatenated (Is left) (Is v)))
  made a

-- ---- an operator and its right operand

abbrev pub right_of : (Value → Evaluates Value) → Value → Expression → Evaluates Value
right_of go left right = holding (Is left) right.value >>= go

-- one whose left operand was evaluated; `at` is the place of that operand
abbrev pub operated_on : (at : Pos) → Operated → (left : Value) → Evaluates Value
operated_on at o left = elim o.operator [
  | operator.Or ↦ or_next left o.right.value
  | operator.And ↦ and_next left o.right.value
  | operator.Plus ↦ right_of (arithmetic integers.sum o.pos left) left o.right
  | operator.Minus ↦ right_of (arithmetic integers.difference o.pos left) left o.right
  | operator.Times ↦ right_of (arithmetic integers.product o.pos left) left o.right
  | operator.Div ↦ right_of (arithmetic integers.divided o.pos left) left o.right
  | operator.Mod ↦ right_of (arithmetic integers.modulo o.pos left) left o.right
  | operator.Union ↦ right_of (on_sets sets.union left) left o.right
  | operator.Difference ↦ right_of (on_sets sets.difference left) left o.right
  | operator.Intersection ↦ right_of (on_sets sets.intersection left) left o.right
  | operator.SymmetricDifference ↦ right_of (on_sets sets.symmetric_difference left) left o.right
  | operator.Concatenate ↦ concatenated at left o.right
  | operator.In ↦ right_of (membership left) left o.right
  | operator.Compare r c ↦ right_of (compared_by r c left) left o.right
]

-- A comparison of structures leaves both operands where they are; every other operator reads its
-- left operand first.
abbrev pub is_structural : Operator → Bool
is_structural (operator.Compare r compared.Structures) = true
is_structural _ = false

abbrev pub relation_of : Operator → Relation
relation_of (operator.Compare r c) = r
relation_of _ = relation.Equal

abbrev pub first_operated : (is_structural : Bool) → Expression → Operated → Evaluates Value
first_operated true first o = do
  left ← first.unread
  right ← holding left o.right.unread
  both_read (relation_of o.operator) compared.Structures left right
first_operated false first o = first.value >>= operated_on first.pos o

-- further operators group to the left
abbrev pub operated_further : (at : Pos) → List Operated → Value → Evaluates Value
operated_further at [] v = given v
operated_further at (o ∷ os) v = operated_on at o v >>= operated_further at os

abbrev pub operations : Expression → List Operated → Evaluates Value
operations first [] = first.value
operations first (o ∷ os) =
    first_operated (is_structural o.operator) first o >>= operated_further first.pos os

-- ---- conversions, type tests, and the limits of arrays

abbrev pub within : Pos → Option Bounds → ℤ → Acts
within at None z = undefined
within at (Some b) z = unless fault_kind.Range at (not (is_between b.first b.last z))

module _ (p : Program) where
  -- the ordinal type has such a value
  abbrev pub in_range : Pos → (kind : ℕ) → ℤ → Evaluates Value
  in_range at kind z = do
    within at (bounds p kind) z
    given (Ordinal z)

  abbrev pub not_inner : Pos → Option ℕ → Acts
  not_inner at None = done
  not_inner at (Some activation) = fault fault_kind.NestedProc at

  abbrev pub converted : Conversion → Pos → (kind : ℕ) → Value → Evaluates Value
  converted conversion.Range at kind (Ordinal z) = in_range at kind z
  converted conversion.Range at kind _ = undefined
  converted conversion.Narrow at kind v = do
    is_it ← seeing (λ m. has_type p m.store kind v)
    unless fault_kind.Narrow at (not is_it)
    given v
  converted conversion.Shape at kind v = do
    unless fault_kind.Shape at (not (fits (type_sizes p kind) (shape v)))
    given v
  converted conversion.Nested at kind (Procedure procedure around) = do
    not_inner at around
    given (Procedure procedure around)
  converted conversion.Nested at kind v = given v

  -- ISTYPE
  abbrev pub type_test : (tested : ℕ) → Value → Evaluates Value
  type_test tested v = do
    is_it ← seeing (λ m. has_type p m.store tested v)
    given (truth is_it)

  -- FIRST, LAST and NUMBER: a fixed array has the bounds of its index type
  abbrev pub limit_of_index : ArrayLimit → Bounds → ℕ → Value
  limit_of_index limit.First b n = Ordinal b.first
  limit_of_index limit.Last b n = Ordinal b.last
  limit_of_index limit.Number b n = number n

  abbrev pub open_bounds : ℕ → Bounds
  open_bounds n = record { first = pos 0; last = pos n +ℤ neg_ℤ (pos 1) }

  abbrev pub array_limit : ArrayLimit → Option Bounds → Chained → Evaluates Value
  array_limit l index array = do
    thing ← array.thing
    v ← valued thing
    given (limit_of_index l (option_map_or (λ b. b) index (open_bounds (count v))) (count v))
