-- CONSTRUCTORS (report, 2.6.8) and NEW (2.6.9): sets, arrays, records, and new cells.
use Rattle.std.specs.Prelude.{ℕ, ℤ, suc, pos, ◌==◌, Bool, true, false, not, List, [], ◌∷◌, ◌++◌, length, map, Option, Some, None, int_lt}
use Rattle.std.specs.Option.{option_to_list}
use Rattle.m3_base.specs.declared.outcomes.FaultKind.TheVariants as fault_kind
use Rattle.m3_base.specs.declared.places.Pos.{Pos}
use Rattle.m3_types.specs.declared.nodes.TypeNode.{TypeNode}
use Rattle.m3_types.specs.declared.nodes.TypeNode.TheVariants as node
use Rattle.m3_runs.specs.Languages.{Makes, Cell}
use Rattle.m3_values.specs.Values.{Value, Ordinal, Pointer, Members, Record, row_of}
use Rattle.m3_values.specs.Sets.{with_member, with_range}
use Rattle.m3_values.specs.Programs.{Program}
use Rattle.m3_values.specs.Types.{node_of, element, elements, below_type, unveiled, kind_of, object_fields, object_field}
use Rattle.m3_values.specs.Arrays.{shape, array_of, up_to, same_shape}
use Rattle.m3_values.specs.Constants.{default_of, sized_default, field_default}
use Rattle.m3_values.specs.Places.{Referent, Field as A_field, Is, whole, further}
use Rattle.m3_values.specs.Store.{holding as held_in}
use Rattle.m3_source_meaning.specs.Meanings.{Evaluates, Acts, given, done, undefined, changing, writing, unless, acting, holding, holding_all, ◌>>=◌, ◌>>◌}
use Rattle.m3_source_meaning.specs.Phrases.{Expression, Valued}
use Rattle.m3_source_meaning.specs.Operators.{made}

-- ---- things by their numbers

abbrev pub numbered : {A : Type 0} → ℕ → List (ℕ × A) → Option A
numbered n [] = None
numbered n (x ∷ xs) = elim (x.0 == n) [ true ↦ Some x.1 | false ↦ numbered n xs ]

-- those with the numbers from one on, in their order
abbrev pub in_order_from : {A : Type 0} → (count at : ℕ) → List (ℕ × A) → List A
in_order_from ℕ.zero at xs = []
in_order_from (suc count) at xs =
    option_to_list (numbered at xs) ++ in_order_from count (suc at) xs

abbrev pub in_order : {A : Type 0} → List (ℕ × A) → List A
in_order xs = in_order_from (length xs) 0 xs

-- ---- sets

abbrev pub one_member : List ℤ → Value → Evaluates (List ℤ)
one_member ms (Ordinal z) = given (with_member z ms)
one_member ms _ = undefined

abbrev pub range_of_members : List ℤ → (first last : Value) → Evaluates (List ℤ)
range_of_members ms (Ordinal first) (Ordinal last) = given (with_range first last ms)
range_of_members ms _ _ = undefined

abbrev pub with_one : Expression → List ℤ → Evaluates (List ℤ)
with_one e ms = e.value >>= one_member ms

abbrev pub with_all : (first last : Expression) → List ℤ → Evaluates (List ℤ)
with_all first last ms = do
  v ← first.value
  u ← holding (Is v) last.value
  range_of_members ms v u

-- each element adds its members
abbrev pub set_of : List (List ℤ → Evaluates (List ℤ)) → List ℤ → Evaluates Value
set_of [] ms = given (Members ms)
set_of (e ∷ es) ms = holding (Is (Members ms)) (e ms) >>= set_of es

-- ---- arrays

-- rows of an open array have the shape of the first one
abbrev pub has_first_shape : Pos → List Value → Value → Acts
has_first_shape at [] v = done
has_first_shape at (first ∷ vs) v =
    unless fault_kind.Shape at (not (same_shape (shape first) (shape v)))

abbrev pub each_element : (before : List Value) → List Expression → Evaluates (List Value)
each_element before [] = given before
each_element before (e ∷ es) = do
  v ← holding_all (map Is before) e.value
  has_first_shape e.pos before v
  each_element (before ++ v ∷ []) es

abbrev pub filled : Bool → (size : ℕ) → List Value → List Value
filled true size vs = up_to size vs
filled false size vs = vs

-- ---- records

abbrev pub each_field : (before : List (ℕ × Value)) → List Valued → Evaluates (List (ℕ × Value))
each_field before [] = given before
each_field before (f ∷ fs) = do
  v ← holding_all (map (λ b. Is b.1) before) f.value.value
  each_field (before ++ (f.field, v) ∷ []) fs

abbrev pub record_of : List Valued → Evaluates Value
record_of fs = do
  vs ← each_field [] fs
  given (Record (row_of (in_order vs)))

module _ (p : Program) where
  abbrev pub array_value : (kind : ℕ) → List Expression → (is_filled : Bool) → Evaluates Value
  array_value kind es is_filled = do
    vs ← each_element [] es
    given (array_of (below_type p (element p kind)) (filled is_filled (elements p kind) vs))

  -- ---- NEW

  abbrev pub size_value : Pos → Value → Acts
  size_value at (Ordinal z) = unless fault_kind.Size at (int_lt z (pos 0))
  size_value at _ = undefined

  abbrev pub each_size : (before : List Value) → List Expression → Evaluates (List Value)
  each_size before [] = given before
  each_size before (e ∷ es) = do
    v ← holding_all (map Is before) e.value
    size_value e.pos v
    each_size (before ++ v ∷ []) es

  -- the values of bindings, as written
  abbrev pub each_binding : (before : List Value) → List Valued → Evaluates (List Value)
  each_binding before [] = given before
  each_binding before (b ∷ bs) = do
    v ← holding_all (map Is before) b.value.value
    each_binding (before ++ v ∷ []) bs

  abbrev pub natural : Value → ℕ
  natural (Ordinal (pos n)) = n
  natural _ = 0

  -- what a new cell holds: the defaults
  abbrev pub first_content : Option TypeNode → (kind : ℕ) → (sizes : List ℕ) → Value
  first_content (Some (node.RefTo brand target)) kind sizes = sized_default p sizes target.0
  first_content _ kind sizes =
      Record (row_of (map (field_default p (default_of p)) (object_fields p kind)))

  -- the place of a field among those of the cell
  abbrev pub cell_field : Option ℕ → ℕ → ℕ
  cell_field None f = f
  cell_field (Some owner) f = object_field p owner f

  abbrev pub stored : ℕ → List Valued → List Value → Acts
  stored c (b ∷ bs) (v ∷ vs) =
      writing (further (whole (Referent c)) (A_field (cell_field b.owner b.field))) v
      >> stored c bs vs
  stored c _ _ = done

  -- gives a new cell its defaults and its bindings
  abbrev pub furnished : (kind : ℕ) → (sizes : List ℕ) → List Valued → List Value → Value
      → Evaluates Value
  furnished kind sizes bs vs (Pointer c) = do
    changing (held_in (Referent c) (first_content (node_of p kind) kind sizes))
    stored c bs vs
    given (Pointer c)
  furnished kind sizes bs vs _ = undefined

  -- NEW: the sizes or the bindings, the point, the cell with its defaults, and the bindings stored
  abbrev pub new_cell : (made_type : ℕ) → List Expression → List Valued → Evaluates Value
  new_cell made_type sizes bindings = do
    ns ← each_size [] sizes
    vs ← each_binding [] bindings
    a ← holding_all (map Is vs) (acting (Makes (Cell (kind_of p made_type) (map Is ns))))
    c ← made a
    furnished (unveiled p made_type) (map natural ns) bindings vs c
