-- Parts of values: what a path leads to, and what a value becomes where a part of it changes.
use Rattle.std.proofs.Common.{◌≡◌, ℕ, zero, suc, ◌<◌, Bool, true, false, List, [], ◌∷◌, ◌++◌, length, map, take, drop, ◌+◌, Option, Some, None, refl, sym, ap, ◌∙◌, subst, arith}
use Rattle.std.specs.Prelude.{◌&&◌, ◌==◌, if◌then◌else◌, nat_lt, slice_get, slice_set}
use Rattle.std.specs.Option.{option_map_or, option_and_then}
use Rattle.std.proofs.lemmas.Bool.{eqb-true}
use Rattle.std.proofs.lemmas.Bool.Decides.{nat_tests}
use Rattle.std.proofs.lemmas.List.{length-set}
use Rattle.std.proofs.lemmas.Option.{slice_get_within}
use Rattle.m3_types.specs.declared.nodes.Field.{Field}
use Rattle.m3_types.specs.declared.nodes.TypeNode.{TypeNode}
use Rattle.m3_types.specs.declared.nodes.TypeNode.TheVariants as node
use Rattle.m3_values.specs.Values as value
use Rattle.m3_values.specs.Values.{Value, Values, items, row_of}
use Rattle.m3_values.specs.Arrays.{shape}
use Rattle.m3_values.specs.Programs.{Program}
use Rattle.m3_values.specs.Types.{node_of, depth, element, element_in, sizes_to, size_said, type_sizes}
use Rattle.m3_values.specs.Places as place
use Rattle.m3_values.specs.Places.{Place, Selector, selected, value_in, with_item, with_selected, value_with}
use Rattle.m3_values.specs.Store.{Store, Memory, held_by, holding, read, write}
use Rattle.m3_source_typing.specs.ValueTypes.{Class, OfNumbers, OfReferences, OfProcedures, OfSets, OfRecords, OfArrays, NoType, class_in, class_of, record_fields, is_count, has_sizes, HasFixedSizes, IsOfNil, HasType, AreFields, AreElements}
use Rattle.m3_source_typing.proofs.Operands.{left_true, right_true}

-- ---- through a path

same_option : (o : Option Value) → option_and_then (value_in []) o ≡ o
same_option None = refl
same_option (Some v) = refl

through_one : (path : List Selector) (s : Selector) (o : Option Value) → ((v : Value) → value_in (path ++ s ∷ []) v ≡ option_and_then (selected s) (value_in path v)) → option_and_then (value_in (path ++ s ∷ [])) o ≡ option_and_then (selected s) (option_and_then (value_in path) o)
through_one path s None h = refl
through_one path s (Some v) h = h v

pub value_further : (path : List Selector) (s : Selector) (v : Value) → value_in (path ++ s ∷ []) v ≡ option_and_then (selected s) (value_in path v)
value_further [] s v = same_option (selected s v)
value_further (x ∷ path) s v = through_one path s (selected x v) (value_further path s)

pub read_further : (m : Memory) (to : Place) (s : Selector) → read m (place.further to s) ≡ option_and_then (selected s) (read m to)
read_further m to s = through_one to.path s (held_by m to.name) (value_further to.path s)

-- ---- with another part

-- the value with another part in place of what the last selector selects is that with another whole
with_further : (path : List Selector) (s : Selector) (v part x new changed : Value) → value_in path v ≡ Some part → selected s part ≡ Some x → with_selected s new part ≡ Some changed → value_with (path ++ s ∷ []) new v ≡ value_with path changed v
with_further [] s v part x new changed e f g =
    let whole : Some v ≡ Some part = e in
    let same : v ≡ part = cc in
    ap (option_and_then (λ (old : Value). option_and_then (λ (c : Value). with_selected s c v) (Some new))) (ap (selected s) same ∙ f) ∙ ap (with_selected s new) same ∙ g
with_further (h ∷ path) s v part x new changed e f g = go (λ w k. with_further path s w part x new changed k f g) (selected h v) e
  where
    go : ((w : Value) → value_in path w ≡ Some part → value_with (path ++ s ∷ []) new w ≡ value_with path changed w) → (o : Option Value) → option_and_then (value_in path) o ≡ Some part → option_and_then (λ (old : Value). option_and_then (λ (c : Value). with_selected h c v) (value_with (path ++ s ∷ []) new old)) o ≡ option_and_then (λ (old : Value). option_and_then (λ (c : Value). with_selected h c v) (value_with path changed old)) o
    go within None k = refl
    go within (Some w) k = ap (option_and_then (λ (c : Value). with_selected h c v)) (within w k)

pub write_further : (m : Memory) (to : Place) (s : Selector) (part x new changed : Value) → read m to ≡ Some part → selected s part ≡ Some x → with_selected s new part ≡ Some changed → write (place.further to s) new m ≡ write to changed m
write_further m to s part x new changed e f g = go (held_by m to.name) e
  where
    go : (o : Option Value) → option_and_then (value_in to.path) o ≡ Some part → option_and_then (λ (old : Value). option_and_then (λ (v : Value). holding to.name v m) (value_with (to.path ++ s ∷ []) new old)) o ≡ option_and_then (λ (old : Value). option_and_then (λ (v : Value). holding to.name v m) (value_with to.path changed old)) o
    go None k = refl
    go (Some w) k = ap (option_and_then (λ (v : Value). holding to.name v m)) (with_further to.path s w part x new changed k f g)

is_less : (m n : ℕ) → m < n → nat_lt m n ≡ true
is_less m n h = grind (arith, nat_tests)

-- an item that is there is set
pub item_set : (vs : List Value) (n : ℕ) (v old : Value) → slice_get vs n ≡ Some old → with_item n v vs ≡ Some (slice_set vs n v)
item_set vs n v old e = ap (λ b. if b then Some (slice_set vs n v) else None) (is_less n (length vs) (slice_get_within vs n old e))

pub items_of : (vs : List Value) → items (row_of vs) ≡ vs
items_of [] = refl
items_of (v ∷ vs) = ap (λ us. v ∷ us) (items_of vs)

row_again : (vs : Values) → row_of (items vs) ≡ vs
row_again value.End = refl
row_again (value.More v vs) = ap (value.More v) (row_again vs)

-- ---- parts of values

module _ (p : Program) where
  abbrev is_records : Class → Bool
  is_records OfRecords = true
  is_records _ = false

  abbrev is_arrays : Class → Bool
  is_arrays OfArrays = true
  is_arrays _ = false

  wrong : (test : Class → Bool) (c d e : Class) → c ≡ d → c ≡ e → test d ≡ true → test e ≡ false → ⊥
  wrong test c d e h g is isnt = let bad : true ≡ false = sym is ∙ ap test (sym h ∙ g) ∙ isnt in absurd cc

  pub record_of : (s : Store) (v : Value) (t : ℕ) → class_of p t ≡ OfRecords → HasType p s v t → (vs : Values) × (v ≡ value.Record vs) × AreFields p s vs (record_fields (node_of p t))
  record_of s (value.Record vs) t c h = (vs, refl, h.1)
  record_of s value.Nil t c h = absurd (subst IsOfNil c h)
  record_of s (value.Ordinal z) t c h = absurd (wrong is_records _ _ _ c h.0 refl refl)
  record_of s (value.Pointer n) t c h = absurd (wrong is_records _ _ _ c h.0 refl refl)
  record_of s (value.Text n) t c h = absurd (wrong is_records _ _ _ c h.0 refl refl)
  record_of s value.MainThread t c h = absurd (wrong is_records _ _ _ c h.0 refl refl)
  record_of s (value.Procedure q a) t c h = absurd (wrong is_records _ _ _ c h.0 refl refl)
  record_of s (value.Members ms) t c h = absurd (wrong is_records _ _ _ c h.0 refl refl)
  record_of s (value.Array below vs) t c h = absurd (wrong is_records _ _ _ c h.0 refl refl)

  pub record ArrayOf (s : Store) (v : Value) (t : ℕ) : Type 0 where
    pub below : List ℕ
    pub elements : Values
    pub is : v ≡ value.Array below elements
    pub typed : AreElements p s elements below (element p t)
    pub sizes : has_sizes (type_sizes p t) (shape (value.Array below elements)) ≡ true

  pub array_of : (s : Store) (v : Value) (t : ℕ) → class_of p t ≡ OfArrays → HasType p s v t → ArrayOf s v t
  array_of s (value.Array below vs) t c h = record { below = below; elements = vs; is = refl; typed = h.1; sizes = h.2 }
  array_of s value.Nil t c h = absurd (subst IsOfNil c h)
  array_of s (value.Ordinal z) t c h = absurd (wrong is_arrays _ _ _ c h.0 refl refl)
  array_of s (value.Pointer n) t c h = absurd (wrong is_arrays _ _ _ c h.0 refl refl)
  array_of s (value.Text n) t c h = absurd (wrong is_arrays _ _ _ c h.0 refl refl)
  array_of s value.MainThread t c h = absurd (wrong is_arrays _ _ _ c h.0 refl refl)
  array_of s (value.Procedure q a) t c h = absurd (wrong is_arrays _ _ _ c h.0 refl refl)
  array_of s (value.Members ms) t c h = absurd (wrong is_arrays _ _ _ c h.0 refl refl)
  array_of s (value.Record vs) t c h = absurd (wrong is_arrays _ _ _ c h.0 refl refl)

  pub field_there : (s : Store) (vs : Values) (fs : List Field) (n : ℕ) (f : Field) → AreFields p s vs fs → slice_get fs n ≡ Some f → (v : Value) × (slice_get (items vs) n ≡ Some v) × HasType p s v f.kind.0
  field_there s value.End [] n f h e = absurd (let bad : None ≡ Some f = e in cc)
  field_there s value.End (g ∷ fs) n f h e = absurd h
  field_there s (value.More v vs) [] n f h e = absurd h
  field_there s (value.More v vs) (g ∷ fs) zero f h e = let q : Some g ≡ Some f = e in let same : g ≡ f = cc in (v, refl, subst (λ (x : Field). HasType p s v x.kind.0) same h.0)
  field_there s (value.More v vs) (g ∷ fs) (suc n) f h e = field_there s vs fs n f h.1 e

  pub element_there : (s : Store) (vs : Values) (below : List ℕ) (o : Option ℕ) (e i : ℕ) → AreElements p s vs below o → o ≡ Some e → i < length (items vs) → (v : Value) × (slice_get (items vs) i ≡ Some v) × HasType p s v e × (shape v ≡ below)
  element_there s vs below None e i h is less = absurd h
  element_there s value.End below (Some k) e i h is less = absurd (omega arith)
  element_there s (value.More v vs) below (Some k) e zero h is less = let q : Some k ≡ Some e = is in let same : k ≡ e = cc in (v, refl, subst (HasType p s v) same h.0, h.1)
  element_there s (value.More v vs) below (Some k) e (suc i) h is less = element_there s vs below (Some k) e i h.2 is (omega arith)

  pub fields_set : (s : Store) (vs : Values) (fs : List Field) (n : ℕ) (f : Field) (v : Value) → AreFields p s vs fs → slice_get fs n ≡ Some f → HasType p s v f.kind.0 → AreFields p s (row_of (slice_set (items vs) n v)) fs
  fields_set s value.End [] n f v h e g = h
  fields_set s value.End (k ∷ fs) n f v h e g = absurd h
  fields_set s (value.More u vs) [] n f v h e g = absurd h
  fields_set s (value.More u vs) (k ∷ fs) zero f v h e g = let q : Some k ≡ Some f = e in let same : f ≡ k = cc in (subst (λ (x : Field). HasType p s v x.kind.0) same g, subst (λ us. AreFields p s us fs) (sym (row_again vs)) h.1)
  fields_set s (value.More u vs) (k ∷ fs) (suc n) f v h e g = (h.0, fields_set s vs fs n f v h.1 e g)

  elements_set : (s : Store) (vs : Values) (below : List ℕ) (o : Option ℕ) (e i : ℕ) (v : Value) → AreElements p s vs below o → o ≡ Some e → HasType p s v e → shape v ≡ below → AreElements p s (row_of (slice_set (items vs) i v)) below o
  elements_set s vs below None e i v h is g f = absurd h
  elements_set s value.End below (Some k) e i v h is g f = tt
  elements_set s (value.More u vs) below (Some k) e zero v h is g f = let q : Some k ≡ Some e = is in let same : e ≡ k = cc in (subst (HasType p s v) same g, f, subst (λ us. AreElements p s us below (Some k)) (sym (row_again vs)) h.2)
  elements_set s (value.More u vs) below (Some k) e (suc i) v h is g f = (h.0, h.1, elements_set s vs below (Some k) e i v h.2 is g f)

  -- a record with another field, and an array with another element
  pub record_with : (s : Store) (vs : Values) (t n : ℕ) (f : Field) (v : Value) → class_of p t ≡ OfRecords → AreFields p s vs (record_fields (node_of p t)) → slice_get (record_fields (node_of p t)) n ≡ Some f → HasType p s v f.kind.0 → HasType p s (value.Record (row_of (slice_set (items vs) n v))) t
  record_with s vs t n f v c h e g = (c, fields_set s vs (record_fields (node_of p t)) n f v h e g)

  pub same_shape : (vs : Values) (below : List ℕ) (i : ℕ) (v : Value) → shape (value.Array below (row_of (slice_set (items vs) i v))) ≡ shape (value.Array below vs)
  same_shape vs below i v = ap (λ n. n ∷ below) (ap length (items_of (slice_set (items vs) i v)) ∙ length-set (items vs) i v)

  pub array_with : (s : Store) (vs : Values) (below : List ℕ) (t e i : ℕ) (v : Value) → HasType p s (value.Array below vs) t → element p t ≡ Some e → HasType p s v e → shape v ≡ below → HasType p s (value.Array below (row_of (slice_set (items vs) i v))) t
  array_with s vs below t e i v h is g f = (h.0, elements_set s vs below (element p t) e i v h.1 is g f, subst (λ sizes. has_sizes (type_sizes p t) sizes ≡ true) (sym (same_shape vs below i v)) h.2)

  -- ---- shapes

  no_element : (o : Option TypeNode) → is_arrays (class_in o) ≡ false → element_in o ≡ None
  no_element None h = refl
  no_element (Some node.Reserved) h = refl
  no_element (Some node.Integer) h = refl
  no_element (Some node.Boolean) h = refl
  no_element (Some node.Character) h = refl
  no_element (Some (node.Enumeration names)) h = refl
  no_element (Some (node.Subrange base first last)) h = refl
  no_element (Some (node.FixedArray index element)) h = absurd (let bad : true ≡ false = h in cc)
  no_element (Some (node.OpenArray element)) h = absurd (let bad : true ≡ false = h in cc)
  no_element (Some (node.Fields fields)) h = refl
  no_element (Some (node.SetOf base)) h = refl
  no_element (Some (node.RefTo brand target)) h = refl
  no_element (Some (node.Object brand parent fields methods overrides)) h = refl
  no_element (Some (node.Procedure formals result raises)) h = refl
  no_element (Some (node.Opaque bound secret)) h = refl
  no_element (Some node.Null) h = refl
  no_element (Some node.RefAny) h = refl
  no_element (Some node.Text) h = refl
  no_element (Some node.Mutex) h = refl
  no_element (Some node.Root) h = refl
  no_element (Some (node.Constant value)) h = refl

  no_sizes : (limit t : ℕ) → element p t ≡ None → sizes_to p limit t ≡ []
  no_sizes zero t e = refl
  no_sizes (suc limit) t e = ap (λ o. option_map_or (λ e. size_said p t ∷ sizes_to p limit e) o []) e

  none_said : (sizes : List ℕ) → map Some sizes ≡ [] → sizes ≡ []
  none_said [] e = refl
  none_said (n ∷ sizes) e = absurd cc

  all_said : (sizes have : List ℕ) → has_sizes (map Some sizes) have ≡ true → have ≡ sizes
  all_said [] [] h = refl
  all_said [] (n ∷ have) h = absurd (let bad : false ≡ true = h in cc)
  all_said (size ∷ sizes) [] h = absurd (let bad : false ≡ true = h in cc)
  all_said (size ∷ sizes) (n ∷ have) h =
      let one : size ≡ n = eqb-true size n (right_true (is_count n) (size == n) (left_true (is_count n && (size == n)) (has_sizes (map Some sizes) have) h)) in
      ap (λ m. m ∷ have) (sym one) ∙ ap (λ ns. size ∷ ns) (all_said sizes have (right_true (is_count n && (size == n)) (has_sizes (map Some sizes) have) h))

  without_shape : (t : ℕ) → (c : Class) → class_of p t ≡ c → is_arrays c ≡ false → (f : HasFixedSizes p t) → [] ≡ f.sizes
  without_shape t c e h f = sym (none_said f.sizes (sym f.are ∙ no_sizes (depth p) t (no_element (node_of p t) (ap is_arrays e ∙ h))))

  nil_is_no_array : (c : Class) → IsOfNil c → is_arrays c ≡ false
  nil_is_no_array OfReferences h = refl
  nil_is_no_array OfProcedures h = refl
  nil_is_no_array OfNumbers h = absurd h
  nil_is_no_array OfSets h = absurd h
  nil_is_no_array OfRecords h = absurd h
  nil_is_no_array OfArrays h = absurd h
  nil_is_no_array NoType h = absurd h

  none_wanted : (t : ℕ) (c : Class) → class_of p t ≡ c → is_arrays c ≡ false → has_sizes (type_sizes p t) [] ≡ true
  none_wanted t c e h = ap (λ sizes. has_sizes sizes []) (no_sizes (depth p) t (no_element (node_of p t) (ap is_arrays e ∙ h)))

  -- each value has a shape that its type says
  pub shape_said : (s : Store) (v : Value) (t : ℕ) → HasType p s v t → has_sizes (type_sizes p t) (shape v) ≡ true
  shape_said s (value.Ordinal z) t h = none_wanted t _ h.0 refl
  shape_said s value.Nil t h = none_wanted t _ refl (nil_is_no_array (class_of p t) h)
  shape_said s (value.Pointer c) t h = none_wanted t _ h.0 refl
  shape_said s (value.Text n) t h = none_wanted t _ h.0 refl
  shape_said s value.MainThread t h = none_wanted t _ h.0 refl
  shape_said s (value.Procedure q around) t h = none_wanted t _ h.0 refl
  shape_said s (value.Members ms) t h = none_wanted t _ h.0 refl
  shape_said s (value.Record vs) t h = none_wanted t _ h.0 refl
  shape_said s (value.Array below vs) t h = h.2

  -- the values of a type that says the size of each dimension have that shape
  pub fixed_shape : (s : Store) (v : Value) (t : ℕ) → HasType p s v t → (f : HasFixedSizes p t) → shape v ≡ f.sizes
  fixed_shape s (value.Ordinal z) t h f = without_shape t _ h.0 refl f
  fixed_shape s value.Nil t h f = without_shape t _ refl (nil_is_no_array (class_of p t) h) f
  fixed_shape s (value.Pointer c) t h f = without_shape t _ h.0 refl f
  fixed_shape s (value.Text n) t h f = without_shape t _ h.0 refl f
  fixed_shape s value.MainThread t h f = without_shape t _ h.0 refl f
  fixed_shape s (value.Procedure q around) t h f = without_shape t _ h.0 refl f
  fixed_shape s (value.Members ms) t h f = without_shape t _ h.0 refl f
  fixed_shape s (value.Record vs) t h f = without_shape t _ h.0 refl f
  fixed_shape s (value.Array below vs) t h f = all_said f.sizes (shape (value.Array below vs)) (subst (λ wanted. has_sizes wanted (shape (value.Array below vs)) ≡ true) f.are h.2)

  -- ---- elements from one on

  elements_taken : (s : Store) (n : ℕ) (vs : Values) (below : List ℕ) (o : Option ℕ) → AreElements p s vs below o → AreElements p s (row_of (take n (items vs))) below o
  elements_taken s n vs below None h = absurd h
  elements_taken s zero vs below (Some e) h = tt
  elements_taken s (suc n) value.End below (Some e) h = tt
  elements_taken s (suc n) (value.More v vs) below (Some e) h = (h.0, h.1, elements_taken s n vs below (Some e) h.2)

  elements_dropped : (s : Store) (n : ℕ) (vs : Values) (below : List ℕ) (o : Option ℕ) → AreElements p s vs below o → AreElements p s (row_of (drop n (items vs))) below o
  elements_dropped s n vs below None h = absurd h
  elements_dropped s zero vs below (Some e) h = subst (λ us. AreElements p s us below (Some e)) (sym (row_again vs)) h
  elements_dropped s (suc n) value.End below (Some e) h = tt
  elements_dropped s (suc n) (value.More v vs) below (Some e) h = elements_dropped s n vs below (Some e) h.2

  both_elements : (s : Store) (us vs : List Value) (below : List ℕ) (o : Option ℕ) → AreElements p s (row_of us) below o → AreElements p s (row_of vs) below o → AreElements p s (row_of (us ++ vs)) below o
  both_elements s us vs below None h g = absurd h
  both_elements s [] vs below (Some e) h g = g
  both_elements s (u ∷ us) vs below (Some e) h g = (h.0, h.1, both_elements s us vs below (Some e) h.2 g)

  pub part_elements : (s : Store) (start n : ℕ) (vs : Values) (below : List ℕ) (o : Option ℕ) → AreElements p s vs below o → AreElements p s (row_of (take n (drop start (items vs)))) below o
  part_elements s start n vs below o h = subst (λ us. AreElements p s (row_of (take n us)) below o) (items_of (drop start (items vs))) (elements_taken s n (row_of (drop start (items vs))) below o (elements_dropped s start vs below o h))

  pub replaced_elements : (s : Store) (start : ℕ) (us : Values) (vs : Values) (below : List ℕ) (o : Option ℕ) → AreElements p s us below o → AreElements p s vs below o → AreElements p s (row_of (take start (items vs) ++ items us ++ drop (start + length (items us)) (items vs))) below o
  replaced_elements s start us vs below o h g =
      both_elements s (take start (items vs) ++ items us) (drop (start + length (items us)) (items vs)) below o
      (both_elements s (take start (items vs)) (items us) below o (elements_taken s start vs below o g) (subst (λ xs. AreElements p s xs below o) (sym (row_again us)) h))
      (elements_dropped s (start + length (items us)) vs below o g)

  -- the outermost size is a number of elements
  pub size_counts : (sizes : List (Option ℕ)) (n : ℕ) (below : List ℕ) → has_sizes sizes (n ∷ below) ≡ true → is_count n ≡ true
  size_counts [] n below h = absurd (let bad : false ≡ true = h in cc)
  size_counts (None ∷ sizes) n below h = left_true (is_count n) (has_sizes sizes below) h
  size_counts (Some size ∷ sizes) n below h = left_true (is_count n) (size == n) (left_true (is_count n && (size == n)) (has_sizes sizes below) h)

  pub sizes_below : (o : Option ℕ) (sizes : List (Option ℕ)) (n : ℕ) (below : List ℕ) → has_sizes (o ∷ sizes) (n ∷ below) ≡ true → has_sizes sizes below ≡ true
  sizes_below None sizes n below h = right_true (is_count n) (has_sizes sizes below) h
  sizes_below (Some size) sizes n below h = right_true (is_count n && (size == n)) (has_sizes sizes below) h
