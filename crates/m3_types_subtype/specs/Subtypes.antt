-- The subtype relation: the rules of the language, closed under reflexivity and transitivity, in the
-- view of a unit, and what may be assigned to what.
use Rattle.std.specs.Prelude.{◌≡◌, ℕ, ℤ, zero, suc, ◌<◌, ◌≤ℤ◌, ◌<ℤ◌, ◌⊎◌, Bool, true, IsTrue, List, length, map, Contains, Option, Some, None, is_some}
use Rattle.m3_types.specs.declared.nodes.Mode.{Mode}
use Rattle.m3_types.specs.declared.nodes.Reveal.{Reveal}
use Rattle.m3_types.specs.declared.nodes.TypeNode.{TypeNode}
use Rattle.m3_types.specs.declared.nodes.TypeNode.TheVariants.{FixedArray, OpenArray}
use Rattle.m3_types.specs.Definitions.{node_at, types_at, FormalHead, RaisesHead, AnyException, Exceptions, Head, head_at, ASubrange, AProcedure, AnOpaque, ANull, ARefAny, ARoot}
use Rattle.m3_types.specs.Kinds.{is_below_refany, is_below_root, has_nil, size_of, named_above}
use Rattle.m3_types_subtype.specs.Sameness.{Matched, Same}

-- ---- ordinal types

-- from first to last is empty, or between low and high
abbrev pub IsWithin : ℤ → ℤ → ℤ → ℤ → Type 0
IsWithin first last low high = (last <ℤ first) ⊎ ((low ≤ℤ first) × (last ≤ℤ high))

-- a subrange of the same base that the other contains
abbrev pub SubrangeBelow : List TypeNode → ℕ → ℕ → Type 0
SubrangeBelow nodes a b = (f : ℤ) × (l : ℤ) × (g : ℤ) × (m : ℤ) × (head_at nodes a ≡ ASubrange f l) × (head_at nodes b ≡ ASubrange g m) × Matched (Same nodes) (types_at nodes a) (types_at nodes b) × IsWithin f l g m

-- ---- arrays

-- the outermost dimension of an array: its size, or none where it is open, and the element type
abbrev pub dimension_of : List TypeNode → Option TypeNode → Option (Option ℕ × ℕ)
dimension_of nodes (Some (FixedArray index element)) = Some (Some (size_of (head_at nodes index.0)), element.0)
dimension_of nodes (Some (OpenArray element)) = Some (None, element.0)
dimension_of nodes _ = None

abbrev pub dimension_at : List TypeNode → ℕ → Option (Option ℕ × ℕ)
dimension_at nodes a = dimension_of nodes (node_at nodes a)

-- in one dimension: both open, or fixed and open, or both fixed with equal size
abbrev pub FitsDimension : Option ℕ → Option ℕ → Type 0
FitsDimension size None = Unit {0}
FitsDimension None (Some m) = ⊥
FitsDimension (Some n) (Some m) = n ≡ m

-- the element types below so many dimensions are the same, and each dimension fits
abbrev pub DimensionsFit : List TypeNode → ℕ → ℕ → ℕ → Type 0
DimensionsFit nodes zero a b = Same nodes a b
DimensionsFit nodes (suc count) a b = (s : Option ℕ) × (e : ℕ) × (t : Option ℕ) × (f : ℕ) × (dimension_at nodes a ≡ Some (s, e)) × (dimension_at nodes b ≡ Some (t, f)) × FitsDimension s t × DimensionsFit nodes count e f

-- one dimension of both: the element types, where it fits
abbrev pub ElementsOf : List TypeNode → ℕ → ℕ → ℕ × ℕ → Type 0
ElementsOf nodes a b p = (s : Option ℕ) × (t : Option ℕ) × (dimension_at nodes a ≡ Some (s, p.0)) × (dimension_at nodes b ≡ Some (t, p.1)) × FitsDimension s t

-- the types fit in fewer than so many dimensions, or are the same
abbrev pub FitsBelow : List TypeNode → ℕ → ℕ → ℕ → Type 0
FitsBelow nodes limit a b = (count : ℕ) × (count < limit) × DimensionsFit nodes count a b

-- Among so many dimensions, no open one stands below a fixed one.
abbrev pub OpenFirst : List TypeNode → ℕ → ℕ → Type 0
OpenFirst nodes zero a = Unit {0}
OpenFirst nodes (suc count) a = (s : Option ℕ) (e : ℕ) → dimension_at nodes a ≡ Some (s, e) → ((f : ℕ) → is_some s ≡ true → dimension_at nodes e ≡ Some (None, f) → ⊥) × OpenFirst nodes count e

-- Both are arrays that fit in at least one dimension. An array that doesn't contain itself has no more
-- dimensions than there are types.
abbrev pub ArrayBelow : List TypeNode → ℕ → ℕ → Type 0
ArrayBelow nodes a b = OpenFirst nodes (length nodes) a × OpenFirst nodes (length nodes) b × ((count : ℕ) × (count < length nodes) × DimensionsFit nodes (suc count) a b)

-- ---- procedures

-- each exception of the first RAISES is one of the second
abbrev pub RaisesWithin : RaisesHead → RaisesHead → Type 0
RaisesWithin x AnyException = Unit {0}
RaisesWithin AnyException (Exceptions ys) = ⊥
RaisesWithin (Exceptions xs) (Exceptions ys) = (e : ℕ) → Contains xs e → Contains ys e

-- the modes of formals, in order
abbrev pub modes_of : List FormalHead → List Mode
modes_of formals = map (λ f. f.mode) formals

-- two procedure types with as many formals of the same modes, results in both or in neither, and no
-- more exceptions in the first
abbrev pub SignaturesFit : Head → Head → Type 0
SignaturesFit h k = (fs : List FormalHead) × (r : Bool) × (x : RaisesHead) × (gs : List FormalHead) × (s : Bool) × (y : RaisesHead) × (h ≡ AProcedure fs r x) × (k ≡ AProcedure gs s y) × (modes_of fs ≡ modes_of gs) × (r ≡ s) × RaisesWithin x y

-- and the types of the formals and of the result are the same
abbrev pub ProcedureBelow : List TypeNode → ℕ → ℕ → Type 0
ProcedureBelow nodes a b = SignaturesFit (head_at nodes a) (head_at nodes b) × Matched (Same nodes) (types_at nodes a) (types_at nodes b)

-- ---- references

-- NULL and each reference type and procedure type
abbrev pub NullBelow : List TypeNode → ℕ → ℕ → Type 0
NullBelow nodes a b = (head_at nodes a ≡ ANull) × IsTrue (has_nil (head_at nodes b))

-- a REF type, an object type, TEXT or ROOT, and REFANY
abbrev pub RefAnyAbove : List TypeNode → ℕ → ℕ → Type 0
RefAnyAbove nodes a b = IsTrue (is_below_refany (head_at nodes a)) × (head_at nodes b ≡ ARefAny)

-- an object type or MUTEX, and ROOT
abbrev pub RootAbove : List TypeNode → ℕ → ℕ → Type 0
RootAbove nodes a b = IsTrue (is_below_root (head_at nodes a)) × (head_at nodes b ≡ ARoot)

-- in the view, the opaque type is revealed with this type
abbrev pub Reveals : List TypeNode → List Reveal → ℕ → ℕ → ℕ → Type 0
Reveals nodes reveals view opaque bound = (r : Reveal) × Contains reveals r × (r.view ≡ view) × (r.opaque.0 ≡ opaque) × (r.bound.0 ≡ bound) × (head_at nodes opaque ≡ AnOpaque opaque)

-- in the view, the opaque type is fully revealed to be this type
abbrev pub RevealsFully : List TypeNode → List Reveal → ℕ → ℕ → ℕ → Type 0
RevealsFully nodes reveals view opaque bound = (r : Reveal) × Contains reveals r × (r.view ≡ view) × (r.opaque.0 ≡ opaque) × (r.bound.0 ≡ bound) × (head_at nodes opaque ≡ AnOpaque opaque) × (r.full ≡ true)

-- ---- the relation

-- What the two types alone decide: they are the same, or a rule says that the first is below the second.
pub data Directly : List TypeNode → ℕ → ℕ → Type 0 where
  same : {nodes : List TypeNode} {a b : ℕ} → Same nodes a b → Directly nodes a b
  null : {nodes : List TypeNode} {a b : ℕ} → NullBelow nodes a b → Directly nodes a b
  refany : {nodes : List TypeNode} {a b : ℕ} → RefAnyAbove nodes a b → Directly nodes a b
  root : {nodes : List TypeNode} {a b : ℕ} → RootAbove nodes a b → Directly nodes a b
  subrange : {nodes : List TypeNode} {a b : ℕ} → SubrangeBelow nodes a b → Directly nodes a b
  array : {nodes : List TypeNode} {a b : ℕ} → ArrayBelow nodes a b → Directly nodes a b
  procedure : {nodes : List TypeNode} {a b : ℕ} → ProcedureBelow nodes a b → Directly nodes a b

-- The first type is a subtype of the second, in the view of a unit.
pub data Subtype : List TypeNode → List Reveal → ℕ → ℕ → ℕ → Type 0 where
  -- reflexivity, and the rules on two types alone
  directly : {nodes : List TypeNode} {reveals : List Reveal} {view a b : ℕ} → Directly nodes a b → Subtype nodes reveals view a b
  transitive : {nodes : List TypeNode} {reveals : List Reveal} {view a b c : ℕ} → Subtype nodes reveals view a b → Subtype nodes reveals view b c → Subtype nodes reveals view a c
  -- a subrange and its base, an object type and its parent, an opaque type and its bound
  above : {nodes : List TypeNode} {reveals : List Reveal} {view a b : ℕ} → named_above (node_at nodes a) ≡ Some b → Subtype nodes reveals view a b
  -- an opaque type and the type in a reveal of it
  revealed : {nodes : List TypeNode} {reveals : List Reveal} {view a b : ℕ} → Reveals nodes reveals view a b → Subtype nodes reveals view a b
  -- the type that fully reveals an opaque type, and the opaque type
  hidden : {nodes : List TypeNode} {reveals : List Reveal} {view a b : ℕ} → RevealsFully nodes reveals view b a → Subtype nodes reveals view a b

-- ---- how the relation is decided: upwards from the first type, a step at a time

pub data Step : List TypeNode → List Reveal → ℕ → ℕ → ℕ → Type 0 where
  up : {nodes : List TypeNode} {reveals : List Reveal} {view x y : ℕ} → named_above (node_at nodes x) ≡ Some y → Step nodes reveals view x y
  reveal : {nodes : List TypeNode} {reveals : List Reveal} {view x y : ℕ} → Reveals nodes reveals view x y → Step nodes reveals view x y
  hide : {nodes : List TypeNode} {reveals : List Reveal} {view x y z : ℕ} → RevealsFully nodes reveals view y z → Directly nodes x z → Step nodes reveals view x y
  nil : {nodes : List TypeNode} {reveals : List Reveal} {view x y : ℕ} → NullBelow nodes x y → Step nodes reveals view x y

-- what is reached in any number of steps
pub data Steps : List TypeNode → List Reveal → ℕ → ℕ → ℕ → Type 0 where
  start : {nodes : List TypeNode} {reveals : List Reveal} {view a : ℕ} → Steps nodes reveals view a a
  further : {nodes : List TypeNode} {reveals : List Reveal} {view a x y : ℕ} → Steps nodes reveals view a x → Step nodes reveals view x y → Steps nodes reveals view a y
