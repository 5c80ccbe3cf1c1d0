-- When a graph of types is well formed: each definition has its form, each opaque type that the program
-- reveals is revealed fully, and each reveal gives a type of an opaque type.
use Rattle.std.specs.Prelude.{◌≡◌, ◌<◌, ◌≤◌, ⊤, ℕ, IsTrue, IsSome, IsSomeAnd, List, length, All}
use Rattle.std.specs.List.Sorted.{IsStrictlyIncreasing}
use Rattle.m3_types.specs.declared.nodes.TypeNode.{TypeNode}
use Rattle.m3_types.specs.declared.nodes.TypeNode.TheVariants.{Reserved, Integer, Boolean, Character, Enumeration, Subrange, FixedArray, SetOf, Object, Procedure, Opaque, Mutex, Root, Constant}
use Rattle.m3_types.specs.declared.nodes.ConstValue.{ConstValue}
use Rattle.m3_types.specs.declared.nodes.ConstValue.TheVariants as values
use Rattle.m3_types.specs.declared.nodes.Raises.{Raises}
use Rattle.m3_types.specs.declared.nodes.Raises.TheVariants.{Any, Only}
use Rattle.m3_types.specs.declared.nodes.Secret.TheVariants.{Revealed}
use Rattle.m3_types.specs.declared.nodes.Method.{Method}
use Rattle.m3_types.specs.declared.nodes.Reveal.{Reveal}
use Rattle.m3_types.specs.Definitions.{AnOpaque, node_at, head_at, types_of, constants_of}
use Rattle.m3_types.specs.Kinds.{is_reference}
use Rattle.m3_types.specs.Reveals.{full_reveal}

-- ---- what stands at a place

-- a type's definition, which was given
abbrev pub DefinesType : TypeNode → Type 0
DefinesType Reserved = ⊥
DefinesType (Constant value) = ⊥
DefinesType _ = ⊤

abbrev pub DefinesConstant : TypeNode → Type 0
DefinesConstant (Constant value) = ⊤
DefinesConstant _ = ⊥

-- INTEGER, BOOLEAN, CHAR or an enumeration
abbrev pub DefinesBase : TypeNode → Type 0
DefinesBase Integer = ⊤
DefinesBase Boolean = ⊤
DefinesBase Character = ⊤
DefinesBase (Enumeration names) = ⊤
DefinesBase _ = ⊥

abbrev pub DefinesOrdinal : TypeNode → Type 0
DefinesOrdinal (Subrange base first last) = ⊤
DefinesOrdinal node = DefinesBase node

-- a type that an object type may add to
abbrev pub DefinesParent : TypeNode → Type 0
DefinesParent (Object brand parent fields methods overrides) = ⊤
DefinesParent (Opaque bound secret) = ⊤
DefinesParent Mutex = ⊤
DefinesParent Root = ⊤
DefinesParent _ = ⊥

abbrev pub DefinesProcedure : TypeNode → Type 0
DefinesProcedure (Procedure formals result raises) = ⊤
DefinesProcedure _ = ⊥

abbrev pub IsType : List TypeNode → ℕ → Type 0
IsType nodes place = IsSomeAnd (node_at nodes place) DefinesType

abbrev pub IsConstant : List TypeNode → ℕ → Type 0
IsConstant nodes place = IsSomeAnd (node_at nodes place) DefinesConstant

abbrev pub IsBase : List TypeNode → ℕ → Type 0
IsBase nodes place = IsSomeAnd (node_at nodes place) DefinesBase

abbrev pub IsOrdinal : List TypeNode → ℕ → Type 0
IsOrdinal nodes place = IsSomeAnd (node_at nodes place) DefinesOrdinal

abbrev pub IsParent : List TypeNode → ℕ → Type 0
IsParent nodes place = IsSomeAnd (node_at nodes place) DefinesParent

abbrev pub IsProcedure : List TypeNode → ℕ → Type 0
IsProcedure nodes place = IsSomeAnd (node_at nodes place) DefinesProcedure

abbrev pub IsReference : List TypeNode → ℕ → Type 0
IsReference nodes place = IsTrue (is_reference (head_at nodes place))

abbrev pub IsOpaque : List TypeNode → ℕ → Type 0
IsOpaque nodes place = head_at nodes place ≡ AnOpaque place

-- ---- definitions

-- the exceptions of a procedure type rise
abbrev pub AreInOrder : Raises → Type 0
AreInOrder Any = ⊤
AreInOrder (Only exceptions) = IsStrictlyIncreasing exceptions.now

-- an array lists no more elements than it has, and none only where it has none
abbrev pub FitElements : ℕ → ℕ → Type 0
FitElements listed count = (listed ≤ count) × (listed ≡ 0 → count ≡ 0)

-- the members of a set rise, and an array's elements are as many as are needed
abbrev pub IsValue : ConstValue → Type 0
IsValue (values.Set members) = IsStrictlyIncreasing members.now
IsValue (values.Elements elements count) = FitElements (length elements.now) count
IsValue _ = ⊤

-- the signature of a method is a procedure type
abbrev pub IsMethod : List TypeNode → Method → Type 0
IsMethod nodes method = IsProcedure nodes method.signature.0

-- what a definition asks of what it names, beside that it is there
abbrev pub HasOwnForm : List TypeNode → TypeNode → Type 0
HasOwnForm nodes Reserved = ⊥
HasOwnForm nodes (Subrange base first last) = IsBase nodes base.0
HasOwnForm nodes (FixedArray index element) = IsOrdinal nodes index.0
HasOwnForm nodes (SetOf base) = IsOrdinal nodes base.0
HasOwnForm nodes (Object brand parent fields methods overrides) =
    IsParent nodes parent.0 × All (IsMethod nodes) methods.now
HasOwnForm nodes (Procedure formals result raises) = AreInOrder raises
HasOwnForm nodes (Opaque bound secret) = IsReference nodes bound.0
HasOwnForm nodes (Constant value) = IsValue value
HasOwnForm nodes _ = ⊤

-- what a definition names is there and of the kind that is asked for, and its rows are in order
pub record HasForm (nodes : List TypeNode) (node : TypeNode) : Type 0 where
  pub types : All (IsType nodes) (types_of node)
  pub constants : All (IsConstant nodes) (constants_of node)
  pub own : HasOwnForm nodes node

abbrev pub HasFormAt : List TypeNode → ℕ → Type 0
HasFormAt nodes place = IsSomeAnd (node_at nodes place) (HasForm nodes)

-- ---- the graph

-- an opaque type that the program reveals is revealed fully
abbrev pub IsRevealed : List Reveal → ℕ → TypeNode → Type 0
IsRevealed reveals place (Opaque bound Revealed) = IsSome (full_reveal reveals place)
IsRevealed reveals place _ = ⊤

abbrev pub IsRevealedAt : List TypeNode → List Reveal → ℕ → Type 0
IsRevealedAt nodes reveals place = IsSomeAnd (node_at nodes place) (IsRevealed reveals place)

-- a reveal gives a type of an opaque type
abbrev pub IsReveal : List TypeNode → Reveal → Type 0
IsReveal nodes reveal = IsOpaque nodes reveal.opaque.0 × IsType nodes reveal.bound.0

-- a well formed graph, by its definitions and its reveals
pub record IsWellFormed (nodes : List TypeNode) (reveals : List Reveal) : Type 0 where
  pub forms : (place : ℕ) → place < length nodes → HasFormAt nodes place
  pub revealed : (place : ℕ) → place < length nodes → IsRevealedAt nodes reveals place
  pub revealing : All (IsReveal nodes) reveals
