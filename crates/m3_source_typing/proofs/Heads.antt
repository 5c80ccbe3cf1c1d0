-- What a type's head and parts say of the type: all that the values of the type hang on.
use Rattle.std.proofs.Common.{◌≡◌, ℕ, ℤ, zero, suc, pos, negsuc, ◌⊎◌, inl, inr, Bool, true, false, List, [], ◌∷◌, ◌++◌, length, map, take, drop, Option, Some, None, refl, sym, ap, ◌∙◌}
use Rattle.std.specs.Prelude.{◌==◌, ◌||◌, ◌-ℤ◌, ◌^◌, is_some, slice_get}
use Rattle.std.specs.Option.{option_map, option_map_or, unwrap_or}
use Rattle.m3_types.specs.declared.nodes.Field.{Field}
use Rattle.m3_types.specs.declared.nodes.Formal.{Formal}
use Rattle.m3_types.specs.declared.nodes.TypeId.{TypeId}
use Rattle.m3_types.specs.declared.nodes.TypeNode.{TypeNode}
use Rattle.m3_types.specs.declared.nodes.TypeNode.TheVariants as node
use Rattle.m3_types.specs.Definitions as types
use Rattle.m3_types.specs.Definitions.{Head, FormalHead, head_of, head_of_formal, head_of_raises, parts_of, gather, field_default, formal_default, result_part}
use Rattle.m3_types.specs.Kinds.{size_of, span}
use Rattle.m3_values.specs.Programs.{Program}
use Rattle.m3_values.specs.Types.{Bounds, bounds_in, element_in, target_in, index_in, is_open_in, is_object_in, formals_in, node_of, is_below, unveiled_in}
use Rattle.m3_values.specs.Store.{is_text_type, is_thread_type, is_made_type}
use Rattle.m3_values.specs.Sameness.{head_code, integer_code, text_code, number_code, formal_code, flag_code, raises_code, mode_code}
use Rattle.m3_source_typing.specs.ValueTypes.{Class, OfNumbers, OfReferences, OfProcedures, OfSets, OfRecords, OfArrays, NoType, class_in, member_in, record_fields, result_in}
use Rattle.m3_source_typing.specs.Subtypes.{is_declared_in}

-- ---- rows of numbers

abbrev pub first_of : List ℕ → ℕ
first_of [] = 0
first_of (n ∷ ns) = n

abbrev pub rest_of : List ℕ → List ℕ
rest_of [] = []
rest_of (n ∷ ns) = ns

abbrev pub integer_of : List ℕ → ℤ
integer_of [] = pos 0
integer_of (zero ∷ ns) = pos (first_of ns)
integer_of (suc sign ∷ ns) = negsuc (first_of ns)

-- the part at a place, if one is said
abbrev pub pick : Option ℕ → List ℕ → Option ℕ
pick None parts = None
pick (Some i) parts = slice_get parts i

pub length_map : {A B : Type 0} (f : A → B) (xs : List A) → length (map f xs) ≡ length xs
length_map f [] = refl
length_map f (x ∷ xs) = ap suc (length_map f xs)

pub take_front : {A : Type 0} (xs ys : List A) → take (length xs) (xs ++ ys) ≡ xs
take_front [] ys = refl
take_front (x ∷ xs) ys = ap (λ zs. x ∷ zs) (take_front xs ys)

pub drop_front : {A : Type 0} (xs ys : List A) → drop (length xs) (xs ++ ys) ≡ ys
drop_front [] ys = refl
drop_front (x ∷ xs) ys = drop_front xs ys

one_then_other : {A : Type 0} (xs ys zs : List A) → (xs ++ ys) ++ zs ≡ xs ++ (ys ++ zs)
one_then_other [] ys zs = refl
one_then_other (x ∷ xs) ys zs = ap (λ us. x ∷ us) (one_then_other xs ys zs)

-- ---- what heads say

-- the entry of a table at the number of a head's form
abbrev pub in_table : {A : Type 0} → List A → A → ℕ → A
in_table entries missing n = unwrap_or (slice_get entries n) missing

abbrev pub class_by : ℕ → Class
class_by n = in_table (NoType ∷ NoType ∷ OfNumbers ∷ OfNumbers ∷ OfNumbers ∷ OfNumbers ∷ OfNumbers ∷ OfArrays ∷ OfArrays ∷ OfRecords ∷ OfSets ∷ OfReferences ∷ OfReferences ∷ OfProcedures ∷ OfReferences ∷ OfReferences ∷ OfReferences ∷ OfReferences ∷ OfReferences ∷ OfReferences ∷ []) NoType n

-- where among the parts the elements, members, referents and indices stand
abbrev pub element_place : ℕ → Option ℕ
element_place n = in_table (None ∷ None ∷ None ∷ None ∷ None ∷ None ∷ None ∷ Some 1 ∷ Some 0 ∷ []) None n

abbrev pub member_place : ℕ → Option ℕ
member_place n = in_table (None ∷ None ∷ None ∷ None ∷ None ∷ None ∷ None ∷ None ∷ None ∷ None ∷ Some 0 ∷ []) None n

abbrev pub target_place : ℕ → Option ℕ
target_place n = in_table (None ∷ None ∷ None ∷ None ∷ None ∷ None ∷ None ∷ None ∷ None ∷ None ∷ None ∷ Some 0 ∷ []) None n

abbrev pub above_place : ℕ → Option ℕ
above_place n = in_table (None ∷ None ∷ None ∷ None ∷ None ∷ None ∷ None ∷ None ∷ None ∷ None ∷ None ∷ None ∷ Some 0 ∷ []) None n

-- the parent that an object type names
abbrev pub named_parent : Option TypeNode → Option ℕ
named_parent (Some (node.Object brand parent fields methods overrides)) = Some parent.0
named_parent _ = None

abbrev pub index_place : ℕ → Option ℕ
index_place n = in_table (None ∷ None ∷ None ∷ None ∷ None ∷ None ∷ None ∷ Some 0 ∷ []) None n

abbrev pub made_by : ℕ → Bool → Bool → Bool
made_by n object below = elim (n == 16) as (λ b. Bool) [ true ↦ true | false ↦ elim (n == 19) as (λ b. Bool) [ true ↦ object | false ↦ below ] ]

abbrev pub bounds_by : List ℕ → Option Bounds
bounds_by code = in_table (
    None ∷ None ∷ Some (record { first = negsuc 9223372036854775807; last = pos 9223372036854775807 })
    ∷ Some (record { first = pos 0; last = pos 1 }) ∷ Some (record { first = pos 0; last = pos 255 })
    ∷ Some (record { first = pos 0; last = pos (first_of (rest_of code)) -ℤ pos 1 })
    ∷ Some (record { first = integer_of (rest_of code); last = integer_of (rest_of (rest_of (rest_of code))) })
    ∷ []) None (first_of code)

abbrev pub size_by : List ℕ → ℕ
size_by code = in_table (
    0 ∷ 0 ∷ 2 ^ 64 ∷ 2 ∷ 256 ∷ first_of (rest_of code)
    ∷ span (integer_of (rest_of code)) (integer_of (rest_of (rest_of (rest_of code)))) ∷ []) 0 (first_of code)

abbrev pub row_if : Bool → List ℕ → List ℕ
row_if true xs = xs
row_if false xs = []

abbrev pub part_if : Bool → Option ℕ → Option ℕ
part_if true part = part
part_if false part = None

abbrev pub is_positive : ℕ → Bool
is_positive zero = false
is_positive (suc n) = true

-- the kinds of the fields of a record, and of the formals of a procedure
abbrev pub fields_by : List ℕ → List ℕ → List ℕ
fields_by code parts = row_if (first_of code == 9) (take (first_of (rest_of code)) parts)

abbrev pub formals_by : List ℕ → List ℕ → List ℕ
formals_by code parts = row_if (first_of code == 13) (take (first_of (rest_of code)) parts)

-- the modes of so many formals, and what stands behind them
abbrev modes_from : ℕ → List ℕ → List ℕ
modes_from zero xs = []
modes_from (suc n) xs = first_of (drop (first_of xs) (rest_of xs)) ∷ modes_from n (rest_of (rest_of (drop (first_of xs) (rest_of xs))))

abbrev behind_formals : ℕ → List ℕ → List ℕ
behind_formals zero xs = xs
behind_formals (suc n) xs = behind_formals n (rest_of (rest_of (drop (first_of xs) (rest_of xs))))

abbrev pub modes_by : List ℕ → List ℕ
modes_by code = row_if (first_of code == 13) (modes_from (first_of (rest_of code)) (rest_of (rest_of code)))

abbrev pub has_result_by : List ℕ → Bool
has_result_by code = is_positive (first_of (behind_formals (first_of (rest_of code)) (rest_of (rest_of code))))

abbrev pub result_by : List ℕ → List ℕ → Option ℕ
result_by code parts = part_if (first_of code == 13) (part_if (has_result_by code) (slice_get parts (first_of (rest_of code))))

-- the place of an opaque type
abbrev pub opaque_by : List ℕ → Option ℕ
opaque_by code = in_table (None ∷ None ∷ None ∷ None ∷ None ∷ None ∷ None ∷ None ∷ None ∷ None ∷ None ∷ None ∷ None ∷ None ∷ Some (first_of (rest_of code)) ∷ []) None (first_of code)

-- the head of a definition at a place, as a row of numbers, and its parts
abbrev pub code_of : ℕ → Option TypeNode → List ℕ
code_of t o = head_code (option_map_or (head_of t) o types.Missing)

abbrev pub parts_in : Option TypeNode → List ℕ
parts_in o = option_map_or parts_of o []

module _ (p : Program) where
  pub record Known (t : ℕ) (o : Option TypeNode) : Type 0 where
    pub class : class_in o ≡ class_by (first_of (code_of t o))
    pub opened : is_open_in o ≡ (first_of (code_of t o) == 8)
    pub element : element_in o ≡ pick (element_place (first_of (code_of t o))) (parts_in o)
    pub member : member_in o ≡ pick (member_place (first_of (code_of t o))) (parts_in o)
    pub target : target_in o ≡ pick (target_place (first_of (code_of t o))) (parts_in o)
    pub above : named_parent o ≡ pick (above_place (first_of (code_of t o))) (parts_in o)
    pub declared : is_declared_in o ≡ ((first_of (code_of t o) == 12) || (first_of (code_of t o) == 18))
    pub index : index_in o ≡ pick (index_place (first_of (code_of t o))) (parts_in o)
    pub text : is_text_type p o ≡ ((first_of (code_of t o) == 16) || (first_of (code_of t o) == 17))
    pub made : (kind : ℕ) → is_made_type p kind t o ≡ made_by (first_of (code_of t o)) (is_object_in (node_of p kind)) (is_below p kind t)

  pub known : (t : ℕ) (o : Option TypeNode) → Known t o
  known t None = record { class = refl; opened = refl; element = refl; member = refl; target = refl; above = refl; declared = refl; index = refl; text = refl; made = λ kind. refl }
  known t (Some node.Reserved) = record { class = refl; opened = refl; element = refl; member = refl; target = refl; above = refl; declared = refl; index = refl; text = refl; made = λ kind. refl }
  known t (Some node.Integer) = record { class = refl; opened = refl; element = refl; member = refl; target = refl; above = refl; declared = refl; index = refl; text = refl; made = λ kind. refl }
  known t (Some node.Boolean) = record { class = refl; opened = refl; element = refl; member = refl; target = refl; above = refl; declared = refl; index = refl; text = refl; made = λ kind. refl }
  known t (Some node.Character) = record { class = refl; opened = refl; element = refl; member = refl; target = refl; above = refl; declared = refl; index = refl; text = refl; made = λ kind. refl }
  known t (Some (node.Enumeration names)) = record { class = refl; opened = refl; element = refl; member = refl; target = refl; above = refl; declared = refl; index = refl; text = refl; made = λ kind. refl }
  known t (Some (node.Subrange base first last)) = record { class = refl; opened = refl; element = refl; member = refl; target = refl; above = refl; declared = refl; index = refl; text = refl; made = λ kind. refl }
  known t (Some (node.FixedArray index element)) = record { class = refl; opened = refl; element = refl; member = refl; target = refl; above = refl; declared = refl; index = refl; text = refl; made = λ kind. refl }
  known t (Some (node.OpenArray element)) = record { class = refl; opened = refl; element = refl; member = refl; target = refl; above = refl; declared = refl; index = refl; text = refl; made = λ kind. refl }
  known t (Some (node.Fields fields)) = record { class = refl; opened = refl; element = refl; member = refl; target = refl; above = refl; declared = refl; index = refl; text = refl; made = λ kind. refl }
  known t (Some (node.SetOf base)) = record { class = refl; opened = refl; element = refl; member = refl; target = refl; above = refl; declared = refl; index = refl; text = refl; made = λ kind. refl }
  known t (Some (node.RefTo brand target)) = record { class = refl; opened = refl; element = refl; member = refl; target = refl; above = refl; declared = refl; index = refl; text = refl; made = λ kind. refl }
  known t (Some (node.Object brand parent fields methods overrides)) = record { class = refl; opened = refl; element = refl; member = refl; target = refl; above = refl; declared = refl; index = refl; text = refl; made = λ kind. refl }
  known t (Some (node.Procedure formals result raises)) = record { class = refl; opened = refl; element = refl; member = refl; target = refl; above = refl; declared = refl; index = refl; text = refl; made = λ kind. refl }
  known t (Some (node.Opaque bound secret)) = record { class = refl; opened = refl; element = refl; member = refl; target = refl; above = refl; declared = refl; index = refl; text = refl; made = λ kind. refl }
  known t (Some node.Null) = record { class = refl; opened = refl; element = refl; member = refl; target = refl; above = refl; declared = refl; index = refl; text = refl; made = λ kind. refl }
  known t (Some node.RefAny) = record { class = refl; opened = refl; element = refl; member = refl; target = refl; above = refl; declared = refl; index = refl; text = refl; made = λ kind. refl }
  known t (Some node.Text) = record { class = refl; opened = refl; element = refl; member = refl; target = refl; above = refl; declared = refl; index = refl; text = refl; made = λ kind. refl }
  known t (Some node.Mutex) = record { class = refl; opened = refl; element = refl; member = refl; target = refl; above = refl; declared = refl; index = refl; text = refl; made = λ kind. refl }
  known t (Some node.Root) = record { class = refl; opened = refl; element = refl; member = refl; target = refl; above = refl; declared = refl; index = refl; text = refl; made = λ kind. refl }
  known t (Some (node.Constant value)) = record { class = refl; opened = refl; element = refl; member = refl; target = refl; above = refl; declared = refl; index = refl; text = refl; made = λ kind. refl }

  range_is : (first last : ℤ) → Some (record { first = first; last = last }) ≡ bounds_by (6 ∷ integer_code first ++ integer_code last)
  range_is (pos m) (pos n) = refl
  range_is (pos m) (negsuc n) = refl
  range_is (negsuc m) (pos n) = refl
  range_is (negsuc m) (negsuc n) = refl

  pub bounds_known : (t : ℕ) (o : Option TypeNode) → bounds_in o ≡ bounds_by (code_of t o)
  bounds_known t None = refl
  bounds_known t (Some node.Reserved) = refl
  bounds_known t (Some node.Integer) = refl
  bounds_known t (Some node.Boolean) = refl
  bounds_known t (Some node.Character) = refl
  bounds_known t (Some (node.Enumeration names)) = ap (λ n. Some (record { first = pos 0; last = pos n -ℤ pos 1 })) (sym (length_map _ names.now))
  bounds_known t (Some (node.Subrange base first last)) = range_is first last
  bounds_known t (Some (node.FixedArray index element)) = refl
  bounds_known t (Some (node.OpenArray element)) = refl
  bounds_known t (Some (node.Fields fields)) = refl
  bounds_known t (Some (node.SetOf base)) = refl
  bounds_known t (Some (node.RefTo brand target)) = refl
  bounds_known t (Some (node.Object brand parent fields methods overrides)) = refl
  bounds_known t (Some (node.Procedure formals result raises)) = refl
  bounds_known t (Some (node.Opaque bound secret)) = refl
  bounds_known t (Some node.Null) = refl
  bounds_known t (Some node.RefAny) = refl
  bounds_known t (Some node.Text) = refl
  bounds_known t (Some node.Mutex) = refl
  bounds_known t (Some node.Root) = refl
  bounds_known t (Some (node.Constant value)) = refl

  span_is : (first last : ℤ) → span first last ≡ size_by (6 ∷ integer_code first ++ integer_code last)
  span_is (pos m) (pos n) = refl
  span_is (pos m) (negsuc n) = refl
  span_is (negsuc m) (pos n) = refl
  span_is (negsuc m) (negsuc n) = refl

  pub size_known : (t : ℕ) (o : Option TypeNode) → size_of (option_map_or (head_of t) o types.Missing) ≡ size_by (code_of t o)
  size_known t None = refl
  size_known t (Some node.Reserved) = refl
  size_known t (Some node.Integer) = refl
  size_known t (Some node.Boolean) = refl
  size_known t (Some node.Character) = refl
  size_known t (Some (node.Enumeration names)) = refl
  size_known t (Some (node.Subrange base first last)) = span_is first last
  size_known t (Some (node.FixedArray index element)) = refl
  size_known t (Some (node.OpenArray element)) = refl
  size_known t (Some (node.Fields fields)) = refl
  size_known t (Some (node.SetOf base)) = refl
  size_known t (Some (node.RefTo brand target)) = refl
  size_known t (Some (node.Object brand parent fields methods overrides)) = refl
  size_known t (Some (node.Procedure formals result raises)) = refl
  size_known t (Some (node.Opaque bound secret)) = refl
  size_known t (Some node.Null) = refl
  size_known t (Some node.RefAny) = refl
  size_known t (Some node.Text) = refl
  size_known t (Some node.Mutex) = refl
  size_known t (Some node.Root) = refl
  size_known t (Some (node.Constant value)) = refl

  -- ---- fields and formals

  abbrev pub field_kind : Field → ℕ
  field_kind f = f.kind.0

  abbrev pub formal_kind : Formal → ℕ
  formal_kind f = f.kind.0

  abbrev pub formal_mode : Formal → ℕ
  formal_mode f = mode_code f.mode

  front_taken : {A B : Type 0} (kind : A → ℕ) (head : A → B) (xs : List A) (ys : List ℕ) → map kind xs ≡ take (length (map head xs)) (map kind xs ++ ys)
  front_taken kind head [] ys = refl
  front_taken kind head (x ∷ xs) ys = ap (λ zs. kind x ∷ zs) (front_taken kind head xs ys)

  pub fields_known : (t : ℕ) (o : Option TypeNode) → map field_kind (record_fields o) ≡ fields_by (code_of t o) (parts_in o)
  fields_known t None = refl
  fields_known t (Some node.Reserved) = refl
  fields_known t (Some node.Integer) = refl
  fields_known t (Some node.Boolean) = refl
  fields_known t (Some node.Character) = refl
  fields_known t (Some (node.Enumeration names)) = refl
  fields_known t (Some (node.Subrange base first last)) = refl
  fields_known t (Some (node.FixedArray index element)) = refl
  fields_known t (Some (node.OpenArray element)) = refl
  fields_known t (Some (node.Fields fields)) = front_taken field_kind types.head_of_field fields.now (gather field_default fields.now)
  fields_known t (Some (node.SetOf base)) = refl
  fields_known t (Some (node.RefTo brand target)) = refl
  fields_known t (Some (node.Object brand parent fields methods overrides)) = refl
  fields_known t (Some (node.Procedure formals result raises)) = refl
  fields_known t (Some (node.Opaque bound secret)) = refl
  fields_known t (Some node.Null) = refl
  fields_known t (Some node.RefAny) = refl
  fields_known t (Some node.Text) = refl
  fields_known t (Some node.Mutex) = refl
  fields_known t (Some node.Root) = refl
  fields_known t (Some (node.Constant value)) = refl

  formals_taken : (xs : List Formal) (ys zs : List ℕ) → map formal_kind xs ≡ take (length (map head_of_formal xs)) ((map formal_kind xs ++ ys) ++ zs)
  formals_taken [] ys zs = refl
  formals_taken (x ∷ xs) ys zs = ap (λ us. formal_kind x ∷ us) (formals_taken xs ys zs)

  pub formals_known : (t : ℕ) (o : Option TypeNode) → map formal_kind (formals_in o) ≡ formals_by (code_of t o) (parts_in o)
  formals_known t None = refl
  formals_known t (Some node.Reserved) = refl
  formals_known t (Some node.Integer) = refl
  formals_known t (Some node.Boolean) = refl
  formals_known t (Some node.Character) = refl
  formals_known t (Some (node.Enumeration names)) = refl
  formals_known t (Some (node.Subrange base first last)) = refl
  formals_known t (Some (node.FixedArray index element)) = refl
  formals_known t (Some (node.OpenArray element)) = refl
  formals_known t (Some (node.Fields fields)) = refl
  formals_known t (Some (node.SetOf base)) = refl
  formals_known t (Some (node.RefTo brand target)) = refl
  formals_known t (Some (node.Object brand parent fields methods overrides)) = refl
  formals_known t (Some (node.Procedure formals result raises)) = formals_taken formals.now (result_part result) (gather formal_default formals.now)
  formals_known t (Some (node.Opaque bound secret)) = refl
  formals_known t (Some node.Null) = refl
  formals_known t (Some node.RefAny) = refl
  formals_known t (Some node.Text) = refl
  formals_known t (Some node.Mutex) = refl
  formals_known t (Some node.Root) = refl
  formals_known t (Some (node.Constant value)) = refl

  bytes_are : (bytes rest : List ℕ) → drop (length bytes) (gather number_code bytes ++ rest) ≡ rest
  bytes_are [] rest = refl
  bytes_are (b ∷ bytes) rest = bytes_are bytes rest

  -- what stands behind the name of the first formal
  behind_name : (f : FormalHead) (fs : List FormalHead) (rest : List ℕ) → drop (first_of (gather formal_code (f ∷ fs) ++ rest)) (rest_of (gather formal_code (f ∷ fs) ++ rest)) ≡ mode_code f.mode ∷ (flag_code f.has_default ++ (gather formal_code fs ++ rest))
  behind_name f fs rest =
      ap (λ xs. drop (first_of xs) (rest_of xs)) (one_then_other (formal_code f) (gather formal_code fs) rest ∙ one_then_other (text_code f.name) (mode_code f.mode ∷ flag_code f.has_default) (gather formal_code fs ++ rest))
      ∙ bytes_are f.name (mode_code f.mode ∷ (flag_code f.has_default ++ (gather formal_code fs ++ rest)))

  flag_is_one : (b : Bool) (rest : List ℕ) → rest_of (flag_code b ++ rest) ≡ rest
  flag_is_one false rest = refl
  flag_is_one true rest = refl

  pub modes_are : (fs : List Formal) (rest : List ℕ) → map formal_mode fs ≡ modes_from (length (map head_of_formal fs)) (gather formal_code (map head_of_formal fs) ++ rest)
  modes_are [] rest = refl
  modes_are (f ∷ fs) rest =
      let behind = behind_name (head_of_formal f) (map head_of_formal fs) rest in
      ap (λ ms. formal_mode f ∷ ms) (modes_are fs rest)
      ∙ ap (λ xs. formal_mode f ∷ modes_from (length (map head_of_formal fs)) xs) (sym (flag_is_one (is_some f.default) (gather formal_code (map head_of_formal fs) ++ rest)))
      ∙ ap (λ xs. first_of xs ∷ modes_from (length (map head_of_formal fs)) (rest_of (rest_of xs))) (sym behind)

  pub rest_is : (fs : List Formal) (rest : List ℕ) → rest ≡ behind_formals (length (map head_of_formal fs)) (gather formal_code (map head_of_formal fs) ++ rest)
  rest_is [] rest = refl
  rest_is (f ∷ fs) rest =
      let behind = behind_name (head_of_formal f) (map head_of_formal fs) rest in
      rest_is fs rest
      ∙ ap (λ xs. behind_formals (length (map head_of_formal fs)) xs) (sym (flag_is_one (is_some f.default) (gather formal_code (map head_of_formal fs) ++ rest)))
      ∙ ap (λ xs. behind_formals (length (map head_of_formal fs)) (rest_of (rest_of xs))) (sym behind)

  pub modes_known : (t : ℕ) (o : Option TypeNode) → map formal_mode (formals_in o) ≡ modes_by (code_of t o)
  modes_known t None = refl
  modes_known t (Some node.Reserved) = refl
  modes_known t (Some node.Integer) = refl
  modes_known t (Some node.Boolean) = refl
  modes_known t (Some node.Character) = refl
  modes_known t (Some (node.Enumeration names)) = refl
  modes_known t (Some (node.Subrange base first last)) = refl
  modes_known t (Some (node.FixedArray index element)) = refl
  modes_known t (Some (node.OpenArray element)) = refl
  modes_known t (Some (node.Fields fields)) = refl
  modes_known t (Some (node.SetOf base)) = refl
  modes_known t (Some (node.RefTo brand target)) = refl
  modes_known t (Some (node.Object brand parent fields methods overrides)) = refl
  modes_known t (Some (node.Procedure formals result raises)) =
      let flag : List ℕ = flag_code (is_some result) in
      let raised : List ℕ = raises_code (head_of_raises raises) in
      modes_are formals.now (flag ++ raised)
      ∙ ap (λ xs. modes_from (length (map head_of_formal formals.now)) xs) (sym (one_then_other (gather formal_code (map head_of_formal formals.now)) flag raised))
  modes_known t (Some (node.Opaque bound secret)) = refl
  modes_known t (Some node.Null) = refl
  modes_known t (Some node.RefAny) = refl
  modes_known t (Some node.Text) = refl
  modes_known t (Some node.Mutex) = refl
  modes_known t (Some node.Root) = refl
  modes_known t (Some (node.Constant value)) = refl

  part_there : (fs : List Formal) (t : ℕ) (more : List ℕ) → Some t ≡ slice_get ((map formal_kind fs ++ t ∷ []) ++ more) (length (map head_of_formal fs))
  part_there [] t more = refl
  part_there (f ∷ fs) t more = part_there fs t more

  result_there : (fs : List Formal) (result : Option TypeId) (raises more : List ℕ) → option_map (λ (t : TypeId). t.0) result ≡ part_if (is_positive (first_of (flag_code (is_some result) ++ raises))) (slice_get ((map formal_kind fs ++ result_part result) ++ more) (length (map head_of_formal fs)))
  result_there fs None raises more = refl
  result_there fs (Some t) raises more = part_there fs t.0 more

  pub result_known : (t : ℕ) (o : Option TypeNode) → result_in o ≡ result_by (code_of t o) (parts_in o)
  result_known t None = refl
  result_known t (Some node.Reserved) = refl
  result_known t (Some node.Integer) = refl
  result_known t (Some node.Boolean) = refl
  result_known t (Some node.Character) = refl
  result_known t (Some (node.Enumeration names)) = refl
  result_known t (Some (node.Subrange base first last)) = refl
  result_known t (Some (node.FixedArray index element)) = refl
  result_known t (Some (node.OpenArray element)) = refl
  result_known t (Some (node.Fields fields)) = refl
  result_known t (Some (node.SetOf base)) = refl
  result_known t (Some (node.RefTo brand target)) = refl
  result_known t (Some (node.Object brand parent fields methods overrides)) = refl
  result_known t (Some (node.Procedure formals result raises)) =
      let flag : List ℕ = flag_code (is_some result) in
      let raised : List ℕ = raises_code (head_of_raises raises) in
      result_there formals.now result raised (gather formal_default formals.now)
      ∙ ap (λ xs. part_if (is_positive (first_of xs)) (slice_get ((map formal_kind formals.now ++ result_part result) ++ gather formal_default formals.now) (length (map head_of_formal formals.now))))
      (rest_is formals.now (flag ++ raised) ∙ ap (λ xs. behind_formals (length (map head_of_formal formals.now)) xs) (sym (one_then_other (gather formal_code (map head_of_formal formals.now)) flag raised)))
  result_known t (Some (node.Opaque bound secret)) = refl
  result_known t (Some node.Null) = refl
  result_known t (Some node.RefAny) = refl
  result_known t (Some node.Text) = refl
  result_known t (Some node.Mutex) = refl
  result_known t (Some node.Root) = refl
  result_known t (Some (node.Constant value)) = refl

  -- ---- opaque types

  -- an opaque type says its place; every other stands for itself
  pub record IsPlain (t : ℕ) (o : Option TypeNode) : Type 0 where
    pub none : opaque_by (code_of t o) ≡ None
    pub bare : unveiled_in p t o ≡ t
    pub thread : is_thread_type p o ≡ ((first_of (code_of t o) == 16) || (first_of (code_of t o) == 19))

  pub opaque_or : (t : ℕ) (o : Option TypeNode) → (opaque_by (code_of t o) ≡ Some t) ⊎ IsPlain t o
  opaque_or t None = inr (record { none = refl; bare = refl; thread = refl })
  opaque_or t (Some node.Reserved) = inr (record { none = refl; bare = refl; thread = refl })
  opaque_or t (Some node.Integer) = inr (record { none = refl; bare = refl; thread = refl })
  opaque_or t (Some node.Boolean) = inr (record { none = refl; bare = refl; thread = refl })
  opaque_or t (Some node.Character) = inr (record { none = refl; bare = refl; thread = refl })
  opaque_or t (Some (node.Enumeration names)) = inr (record { none = refl; bare = refl; thread = refl })
  opaque_or t (Some (node.Subrange base first last)) = inr (record { none = refl; bare = refl; thread = refl })
  opaque_or t (Some (node.FixedArray index element)) = inr (record { none = refl; bare = refl; thread = refl })
  opaque_or t (Some (node.OpenArray element)) = inr (record { none = refl; bare = refl; thread = refl })
  opaque_or t (Some (node.Fields fields)) = inr (record { none = refl; bare = refl; thread = refl })
  opaque_or t (Some (node.SetOf base)) = inr (record { none = refl; bare = refl; thread = refl })
  opaque_or t (Some (node.RefTo brand target)) = inr (record { none = refl; bare = refl; thread = refl })
  opaque_or t (Some (node.Object brand parent fields methods overrides)) = inr (record { none = refl; bare = refl; thread = refl })
  opaque_or t (Some (node.Procedure formals result raises)) = inr (record { none = refl; bare = refl; thread = refl })
  opaque_or t (Some (node.Opaque bound secret)) = inl refl
  opaque_or t (Some node.Null) = inr (record { none = refl; bare = refl; thread = refl })
  opaque_or t (Some node.RefAny) = inr (record { none = refl; bare = refl; thread = refl })
  opaque_or t (Some node.Text) = inr (record { none = refl; bare = refl; thread = refl })
  opaque_or t (Some node.Mutex) = inr (record { none = refl; bare = refl; thread = refl })
  opaque_or t (Some node.Root) = inr (record { none = refl; bare = refl; thread = refl })
  opaque_or t (Some (node.Constant value)) = inr (record { none = refl; bare = refl; thread = refl })
