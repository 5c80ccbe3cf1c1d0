-- THE VALUES OF A TYPE, in a store: what a variable of the type may hold.
use Rattle.std.specs.Prelude.{◌≡◌, ℕ, ℤ, ◌&&◌, ◌==◌, ◌<◌, Bool, true, false, List, [], ◌∷◌, length, map, Option, Some, None, nat_lt}
use Rattle.std.specs.Option.{option_map, option_and_then}
use Rattle.m3_core.specs.declared.program.ProcDef.{ProcDef}
use Rattle.m3_types.specs.declared.nodes.Field.{Field}
use Rattle.m3_types.specs.declared.nodes.Formal.{Formal}
use Rattle.m3_types.specs.declared.nodes.Mode.{Mode}
use Rattle.m3_types.specs.declared.nodes.Mode.TheVariants as mode
use Rattle.m3_types.specs.declared.nodes.TypeId.{TypeId}
use Rattle.m3_types.specs.declared.nodes.TypeNode.{TypeNode}
use Rattle.m3_types.specs.declared.nodes.TypeNode.TheVariants as node
use Rattle.m3_values.specs.Values.{Value, Values, End, More, Ordinal, Nil, Pointer, Text, MainThread, Procedure, Members, Record, Array, same_list}
use Rattle.m3_values.specs.Integers.{is_between}
use Rattle.m3_values.specs.Programs.{Program, procedure_at}
use Rattle.m3_values.specs.Types.{Bounds, bounds, node_of, element, formals_in, is_same, type_sizes}
use Rattle.m3_values.specs.Arrays.{shape}
use Rattle.m3_values.specs.Store.{Store, has_type}

-- ---- what a type is of

-- numbers, references, procedures, sets, records or arrays; or it is no type
pub data Class : Type 0 where
  OfNumbers : Class
  OfReferences : Class
  OfProcedures : Class
  OfSets : Class
  OfRecords : Class
  OfArrays : Class
  NoType : Class

abbrev pub class_in : Option TypeNode → Class
class_in None = NoType
class_in (Some node.Reserved) = NoType
class_in (Some node.Integer) = OfNumbers
class_in (Some node.Boolean) = OfNumbers
class_in (Some node.Character) = OfNumbers
class_in (Some (node.Enumeration names)) = OfNumbers
class_in (Some (node.Subrange base first last)) = OfNumbers
class_in (Some (node.FixedArray index element)) = OfArrays
class_in (Some (node.OpenArray element)) = OfArrays
class_in (Some (node.Fields fields)) = OfRecords
class_in (Some (node.SetOf base)) = OfSets
class_in (Some (node.RefTo brand target)) = OfReferences
class_in (Some (node.Object brand parent fields methods overrides)) = OfReferences
class_in (Some (node.Procedure formals result raises)) = OfProcedures
class_in (Some (node.Opaque bound secret)) = OfReferences
class_in (Some node.Null) = OfReferences
class_in (Some node.RefAny) = OfReferences
class_in (Some node.Text) = OfReferences
class_in (Some node.Mutex) = OfReferences
class_in (Some node.Root) = OfReferences
class_in (Some (node.Constant value)) = NoType

-- the type of a set's members
abbrev pub member_in : Option TypeNode → Option ℕ
member_in (Some (node.SetOf base)) = Some base.0
member_in _ = None

abbrev pub record_fields : Option TypeNode → List Field
record_fields (Some (node.Fields fields)) = fields.now
record_fields _ = []

abbrev pub result_in : Option TypeNode → Option ℕ
result_in (Some (node.Procedure formals result raises)) = option_map (λ (t : TypeId). t.0) result
result_in _ = None

-- NIL is a value of each reference type and each procedure type
abbrev pub IsOfNil : Class → Type 0
IsOfNil OfReferences = Unit {0}
IsOfNil OfProcedures = Unit {0}
IsOfNil _ = ⊥

-- ---- numbers and sets

abbrev pub IsNumberOf : ℤ → Option Bounds → Type 0
IsNumberOf z None = ⊥
IsNumberOf z (Some b) = is_between b.first b.last z ≡ true

abbrev pub AreMembersOf : List ℤ → Option Bounds → Type 0
AreMembersOf [] b = Unit {0}
AreMembersOf (m ∷ ms) b = IsNumberOf m b × AreMembersOf ms b

-- ---- arrays

-- a number of elements is in INTEGER
abbrev pub is_count : ℕ → Bool
is_count n = nat_lt n 9223372036854775808

-- a shape has so many dimensions, and the sizes that are said of them
abbrev pub has_sizes : List (Option ℕ) → List ℕ → Bool
has_sizes [] [] = true
has_sizes (None ∷ wanted) (n ∷ sizes) = is_count n && has_sizes wanted sizes
has_sizes (Some size ∷ wanted) (n ∷ sizes) =
    (is_count n && (size == n)) && has_sizes wanted sizes
has_sizes _ _ = false

module _ (p : Program) where
  abbrev pub class_of : ℕ → Class
  class_of t = class_in (node_of p t)

  abbrev pub member_bounds : ℕ → Option Bounds
  member_bounds t = option_and_then (bounds p) (member_in (node_of p t))

  -- the type says the size of each dimension, as that of every variable does
  pub record HasFixedSizes (t : ℕ) : Type 0 where
    pub sizes : List ℕ
    pub are : type_sizes p t ≡ map Some sizes

  -- ---- procedures

  abbrev pub same_mode : Mode → Mode → Bool
  same_mode mode.Value mode.Value = true
  same_mode mode.Var mode.Var = true
  same_mode mode.Readonly mode.Readonly = true
  same_mode _ _ = false

  abbrev pub same_formal : Formal → Formal → Bool
  same_formal f g = same_mode f.mode g.mode && is_same p f.kind.0 g.kind.0

  abbrev pub same_result : Option ℕ → Option ℕ → Bool
  same_result None None = true
  same_result (Some t) (Some u) = is_same p t u
  same_result _ _ = false

  -- a procedure of the first type can be called as one of the other
  abbrev pub called_alike : Option TypeNode → Option TypeNode → Bool
  called_alike a b =
      same_list same_formal (formals_in a) (formals_in b) && same_result (result_in a) (result_in b)

  abbrev pub IsProcedureOf : Option ProcDef → ℕ → Type 0
  IsProcedureOf None t = ⊥
  IsProcedureOf (Some q) t = called_alike (node_of p q.kind.0) (node_of p t) ≡ true

  -- ---- values

  abbrev mutual
    -- THE VALUE IS ONE OF THE TYPE
    pub HasType : Store → Value → ℕ → Type 0
    HasType s (Ordinal z) t = (class_of t ≡ OfNumbers) × IsNumberOf z (bounds p t)
    HasType s Nil t = IsOfNil (class_of t)
    HasType s (Pointer c) t =
        (class_of t ≡ OfReferences) × (has_type p s t (Pointer c) ≡ Some true)
    HasType s (Text n) t =
        (class_of t ≡ OfReferences) × (has_type p s t (Text n) ≡ Some true)
        × (n < length p.texts)
    HasType s MainThread t =
        (class_of t ≡ OfReferences) × (has_type p s t MainThread ≡ Some true)
    HasType s (Procedure q around) t =
        (class_of t ≡ OfProcedures) × IsProcedureOf (procedure_at p q) t
    HasType s (Members ms) t = (class_of t ≡ OfSets) × AreMembersOf ms (member_bounds t)
    HasType s (Record vs) t =
        (class_of t ≡ OfRecords) × AreFields s vs (record_fields (node_of p t))
    HasType s (Array below vs) t =
        (class_of t ≡ OfArrays) × AreElements s vs below (element p t)
        × (has_sizes (type_sizes p t) (shape (Array below vs)) ≡ true)

    -- each field of a record has a value of its type
    pub AreFields : Store → Values → List Field → Type 0
    AreFields s End [] = Unit {0}
    AreFields s (More v vs) (f ∷ fs) = HasType s v f.kind.0 × AreFields s vs fs
    AreFields s _ _ = ⊥

    -- the elements of an array have its element type and one shape
    pub AreElements : Store → Values → List ℕ → Option ℕ → Type 0
    AreElements s vs below None = ⊥
    AreElements s End below (Some e) = Unit {0}
    AreElements s (More v vs) below (Some e) =
        HasType s v e × (shape v ≡ below) × AreElements s vs below (Some e)
