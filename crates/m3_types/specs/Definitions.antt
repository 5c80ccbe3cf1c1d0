-- A type's or a constant's definition at its top: its head, which is all but the places that it names,
-- and its parts, which are those places in order.
use Rattle.std.specs.Prelude.{ℕ, ℤ, Bool, List, [], ◌∷◌, ◌++◌, map, Option, Some, None, is_some, slice_get}
use Rattle.std.specs.Option.{option_map_or}
use Rattle.m3_types.specs.declared.nodes.TypeId.{TypeId}
use Rattle.m3_types.specs.declared.nodes.Brand.{Brand}
use Rattle.m3_types.specs.declared.nodes.Brand.TheVariants as brands
use Rattle.m3_types.specs.declared.nodes.ConstValue.{ConstValue}
use Rattle.m3_types.specs.declared.nodes.ConstValue.TheVariants as values
use Rattle.m3_types.specs.declared.nodes.Initial.{Initial}
use Rattle.m3_types.specs.declared.nodes.Mode.{Mode}
use Rattle.m3_types.specs.declared.nodes.Field.{Field}
use Rattle.m3_types.specs.declared.nodes.Formal.{Formal}
use Rattle.m3_types.specs.declared.nodes.Method.{Method}
use Rattle.m3_types.specs.declared.nodes.Override.{Override}
use Rattle.m3_types.specs.declared.nodes.Raises.{Raises}
use Rattle.m3_types.specs.declared.nodes.Raises.TheVariants.{Any, Only}
use Rattle.m3_types.specs.declared.nodes.TypeNode.{TypeNode}
use Rattle.m3_types.specs.declared.nodes.TypeNode.TheVariants.{Reserved, Integer, Boolean, Character, Enumeration, Subrange, FixedArray, OpenArray, Fields, SetOf, RefTo, Object, Procedure, Opaque, Null, RefAny, Text, Mutex, Root, Constant}

-- ---- heads

-- a brand, by the bytes of its text or by its occurrence
pub data BrandHead : Type 0 where
  BrandText : List ℕ → BrandHead
  BrandOccurrence : ℕ → BrandHead

-- a field or method without its type and its default: its name, and whether it has a default
pub record FieldHead : Type 0 where
  pub name : List ℕ
  pub has_default : Bool

-- a formal without its type and its default
pub record FormalHead : Type 0 where
  pub name : List ℕ
  pub mode : Mode
  pub has_default : Bool

-- the exceptions of a RAISES
pub data RaisesHead : Type 0 where
  AnyException : RaisesHead
  Exceptions : List ℕ → RaisesHead

-- all of a constant but the constants that it names
pub data ValueHead : Type 0 where
  AnOrdinal : ℤ → ValueHead
  ANil : ValueHead
  ATextValue : List ℕ → ValueHead
  AProcedureValue : ℕ → ValueHead
  ASetValue : List ℕ → ValueHead
  ARecordValue : ValueHead
  AnArrayValue : ℕ → ValueHead

-- All of a definition but the places that it names. An opaque type is told by its place, since it is
-- the same as itself alone, and so is a place that was only reserved.
pub data Head : Type 0 where
  Missing : Head
  AReserved : ℕ → Head
  AnInteger : Head
  ABoolean : Head
  ACharacter : Head
  AnEnumeration : List (List ℕ) → Head
  ASubrange : ℤ → ℤ → Head
  AFixedArray : Head
  AnOpenArray : Head
  ARecord : List FieldHead → Head
  ASet : Head
  ARef : Option BrandHead → Head
  AnObject : Option BrandHead → List FieldHead → List FieldHead → List (List ℕ) → Head
  AProcedure : List FormalHead → Bool → RaisesHead → Head
  AnOpaque : ℕ → Head
  ANull : Head
  ARefAny : Head
  AText : Head
  AMutex : Head
  ARoot : Head
  AConstant : ValueHead → Head

abbrev pub head_of_brand : Brand → BrandHead
head_of_brand (brands.Text text) = BrandText text.now
head_of_brand (brands.Occurrence n) = BrandOccurrence n

abbrev pub head_of_branding : Option Brand → Option BrandHead
head_of_branding None = None
head_of_branding (Some brand) = Some (head_of_brand brand)

abbrev pub head_of_field : Field → FieldHead
head_of_field f = record { name = f.name.now; has_default = is_some f.default }

abbrev pub head_of_formal : Formal → FormalHead
head_of_formal f = record { name = f.name.now; mode = f.mode; has_default = is_some f.default }

abbrev pub head_of_method : Method → FieldHead
head_of_method m = record { name = m.name.now; has_default = is_some m.default }

abbrev pub head_of_raises : Raises → RaisesHead
head_of_raises Any = AnyException
head_of_raises (Only exceptions) = Exceptions exceptions.now

abbrev pub head_of_value : ConstValue → ValueHead
head_of_value (values.Ordinal n) = AnOrdinal n
head_of_value values.Nil = ANil
head_of_value (values.Text text) = ATextValue text.now
head_of_value (values.Procedure p) = AProcedureValue p
head_of_value (values.Set members) = ASetValue members.now
head_of_value (values.Fields fields) = ARecordValue
head_of_value (values.Elements elements count) = AnArrayValue count

-- the head of the definition that stands at a place
abbrev pub head_of : ℕ → TypeNode → Head
head_of place Reserved = AReserved place
head_of place Integer = AnInteger
head_of place Boolean = ABoolean
head_of place Character = ACharacter
head_of place (Enumeration names) = AnEnumeration (map (λ n. n.now) names.now)
head_of place (Subrange base first last) = ASubrange first last
head_of place (FixedArray index element) = AFixedArray
head_of place (OpenArray element) = AnOpenArray
head_of place (Fields fields) = ARecord (map head_of_field fields.now)
head_of place (SetOf base) = ASet
head_of place (RefTo brand target) = ARef (head_of_branding brand)
head_of place (Object brand parent fields methods overrides) = AnObject (head_of_branding brand) (map head_of_field fields.now) (map head_of_method methods.now) (map (λ o. o.name.now) overrides.now)
head_of place (Procedure formals result raises) = AProcedure (map head_of_formal formals.now) (is_some result) (head_of_raises raises)
head_of place (Opaque bound secret) = AnOpaque place
head_of place Null = ANull
head_of place RefAny = ARefAny
head_of place Text = AText
head_of place Mutex = AMutex
head_of place Root = ARoot
head_of place (Constant value) = AConstant (head_of_value value)

-- ---- parts

-- the type of a result, where there is one
abbrev pub result_part : Option TypeId → List ℕ
result_part None = []
result_part (Some t) = t.0 ∷ []

-- the types that a definition names, in order; those of an opaque type don't count
abbrev pub types_of : TypeNode → List ℕ
types_of (Subrange base first last) = base.0 ∷ []
types_of (FixedArray index element) = index.0 ∷ element.0 ∷ []
types_of (OpenArray element) = element.0 ∷ []
types_of (Fields fields) = map (λ f. f.kind.0) fields.now
types_of (SetOf base) = base.0 ∷ []
types_of (RefTo brand target) = target.0 ∷ []
types_of (Object brand parent fields methods overrides) = parent.0 ∷ map (λ f. f.kind.0) fields.now ++ map (λ m. m.signature.0) methods.now
types_of (Procedure formals result raises) = map (λ f. f.kind.0) formals.now ++ result_part result
types_of _ = []

-- the value of a default, where there is one
abbrev pub default_part : Option Initial → List ℕ
default_part None = []
default_part (Some d) = d.value.0 ∷ []

-- what f makes of each element, put together in order
abbrev pub gather : {A : Type 0} → (A → List ℕ) → List A → List ℕ
gather f [] = []
gather f (x ∷ xs) = f x ++ gather f xs

abbrev pub field_default : Field → List ℕ
field_default f = default_part f.default

abbrev pub method_default : Method → List ℕ
method_default m = default_part m.default

abbrev pub formal_default : Formal → List ℕ
formal_default f = default_part f.default

-- the fields of a record or the elements of an array
abbrev pub parts_of_value : ConstValue → List ℕ
parts_of_value (values.Fields fields) = map (λ c. c.0) fields.now
parts_of_value (values.Elements elements count) = map (λ c. c.0) elements.now
parts_of_value _ = []

-- the constants that a definition names, in order
abbrev pub constants_of : TypeNode → List ℕ
constants_of (Fields fields) = gather field_default fields.now
constants_of (Object brand parent fields methods overrides) = gather field_default fields.now ++ gather method_default methods.now ++ map (λ o. o.value.0) overrides.now
constants_of (Procedure formals result raises) = gather formal_default formals.now
constants_of (Constant value) = parts_of_value value
constants_of _ = []

-- the types and then the constants that a definition names
abbrev pub parts_of : TypeNode → List ℕ
parts_of node = types_of node ++ constants_of node

-- ---- at a place

-- the definition at a place, or none past the end of the list
abbrev pub node_at : List TypeNode → ℕ → Option TypeNode
node_at nodes place = slice_get nodes place

abbrev pub head_at : List TypeNode → ℕ → Head
head_at nodes place = option_map_or (head_of place) (node_at nodes place) Missing

abbrev pub types_at : List TypeNode → ℕ → List ℕ
types_at nodes place = option_map_or types_of (node_at nodes place) []

abbrev pub parts_at : List TypeNode → ℕ → List ℕ
parts_at nodes place = option_map_or parts_of (node_at nodes place) []
