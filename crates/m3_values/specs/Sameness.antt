-- Whether two types are the same, as a test: the definitions are compared to a depth that suffices
-- for all types of the program.
use Rattle.std.specs.Prelude.{ℕ, ℤ, zero, suc, pos, negsuc, ◌==◌, Bool, true, false, List, [], ◌∷◌, ◌++◌, length, Option, Some, None}
use Rattle.m3_types.specs.declared.nodes.Mode.{Mode}
use Rattle.m3_types.specs.declared.nodes.Mode.TheVariants as mode
use Rattle.m3_types.specs.declared.nodes.TypeNode.{TypeNode}
use Rattle.m3_types.specs.Definitions as types
use Rattle.m3_types.specs.Definitions.{Head, BrandHead, FieldHead, FormalHead, RaisesHead, ValueHead, head_at, parts_at, gather}
use Rattle.m3_values.specs.Values.{same_list}

-- ---- a head as a row of numbers, which is another one for each other head

abbrev pub flag_code : Bool → List ℕ
flag_code false = 0 ∷ []
flag_code true = 1 ∷ []

abbrev pub integer_code : ℤ → List ℕ
integer_code (pos n) = 0 ∷ n ∷ []
integer_code (negsuc n) = 1 ∷ n ∷ []

-- how many there are, and each
abbrev pub row_code : {A : Type 0} → (A → List ℕ) → List A → List ℕ
row_code code xs = length xs ∷ gather code xs

abbrev pub number_code : ℕ → List ℕ
number_code n = n ∷ []

abbrev pub text_code : List ℕ → List ℕ
text_code bytes = row_code number_code bytes

abbrev pub brand_code : BrandHead → List ℕ
brand_code (types.BrandText bytes) = 0 ∷ text_code bytes
brand_code (types.BrandOccurrence n) = 1 ∷ n ∷ []

abbrev pub branding_code : Option BrandHead → List ℕ
branding_code None = 0 ∷ []
branding_code (Some brand) = 1 ∷ brand_code brand

abbrev pub field_code : FieldHead → List ℕ
field_code f = text_code f.name ++ flag_code f.has_default

abbrev pub mode_code : Mode → ℕ
mode_code mode.Value = 0
mode_code mode.Var = 1
mode_code mode.Readonly = 2

abbrev pub formal_code : FormalHead → List ℕ
formal_code f = text_code f.name ++ mode_code f.mode ∷ flag_code f.has_default

abbrev pub raises_code : RaisesHead → List ℕ
raises_code types.AnyException = 0 ∷ []
raises_code (types.Exceptions exceptions) = 1 ∷ row_code number_code exceptions

abbrev pub value_code : ValueHead → List ℕ
value_code (types.AnOrdinal z) = 0 ∷ integer_code z
value_code types.ANil = 1 ∷ []
value_code (types.ATextValue bytes) = 2 ∷ text_code bytes
value_code (types.AProcedureValue n) = 3 ∷ n ∷ []
value_code (types.ASetValue members) = 4 ∷ row_code number_code members
value_code types.ARecordValue = 5 ∷ []
value_code (types.AnArrayValue count) = 6 ∷ count ∷ []

abbrev pub head_code : Head → List ℕ
head_code types.Missing = 0 ∷ []
head_code (types.AReserved place) = 1 ∷ place ∷ []
head_code types.AnInteger = 2 ∷ []
head_code types.ABoolean = 3 ∷ []
head_code types.ACharacter = 4 ∷ []
head_code (types.AnEnumeration names) = 5 ∷ row_code text_code names
head_code (types.ASubrange first last) = 6 ∷ integer_code first ++ integer_code last
head_code types.AFixedArray = 7 ∷ []
head_code types.AnOpenArray = 8 ∷ []
head_code (types.ARecord fields) = 9 ∷ row_code field_code fields
head_code types.ASet = 10 ∷ []
head_code (types.ARef brand) = 11 ∷ branding_code brand
head_code (types.AnObject brand fields methods overrides) =
    12 ∷ branding_code brand ++ row_code field_code fields ++ row_code field_code methods
    ++ row_code text_code overrides
head_code (types.AProcedure formals has_result raises) =
    13 ∷ row_code formal_code formals ++ flag_code has_result ++ raises_code raises
head_code (types.AnOpaque place) = 14 ∷ place ∷ []
head_code types.ANull = 15 ∷ []
head_code types.ARefAny = 16 ∷ []
head_code types.AText = 17 ∷ []
head_code types.AMutex = 18 ∷ []
head_code types.ARoot = 19 ∷ []
head_code (types.AConstant value) = 20 ∷ value_code value

-- ---- types

abbrev pub or_else : Bool → (ℕ → Bool) → Bool
or_else true test = true
or_else false test = test 0

abbrev pub and_then : Bool → (ℕ → Bool) → Bool
and_then false test = false
and_then true test = test 0

module _ (nodes : List TypeNode) where
  abbrev pub same_head : ℕ → ℕ → Bool
  same_head a b = same_list ◌==◌ (head_code (head_at nodes a)) (head_code (head_at nodes b))

  -- written out to a depth, the two definitions are equal
  abbrev pub same_to : (depth : ℕ) → ℕ → ℕ → Bool
  same_to zero a b = true
  same_to (suc depth) a b =
      or_else (a == b) (λ _. and_then (same_head a b)
      (λ _. same_list (same_to depth) (parts_at nodes a) (parts_at nodes b)))

  -- Definitions that differ at all differ at a depth that is no greater than their number.
  abbrev pub is_same_type : ℕ → ℕ → Bool
  is_same_type a b = same_to (length nodes) a b
