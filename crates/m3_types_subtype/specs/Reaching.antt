-- Types that are reached going upwards, each once, in order.
use Rattle.std.specs.Prelude.{◌≡◌, ℕ, ◌^◌, ◌<◌, true, List, ◌++◌, All, nat_eq}
use Rattle.std.specs.List.{IsDistinct, list_any}
use Rattle.std.specs.Ordering.{nat_cmp}
use Rattle.std.specs.BTreeSet.{BTreeSet, contains}
use Rattle.m3_types.specs.declared.nodes.TypeNode.{TypeNode}
use Rattle.m3_types.specs.declared.nodes.Reveal.{Reveal}
use Rattle.m3_types.specs.Definitions.{head_at, AnOpaque}
use Rattle.m3_types_subtype.specs.Subtypes.{Directly, Step, Steps}

-- the list has the place
abbrev pub Has : List ℕ → ℕ → Type 0
Has places y = list_any (nat_eq y) places ≡ true

-- each place is there once, and the set has the places of the list
pub record IsVisited (seen : BTreeSet ℕ) (places : List ℕ) : Type 0 where
  pub distinct : IsDistinct nat_eq places
  pub agrees : (q : ℕ) → contains nat_cmp seen q ≡ list_any (nat_eq q) places
  pub small : (q : ℕ) → Has places q → q < 2 ^ 64

-- new is old with more at its end
abbrev pub Extends : List ℕ → List ℕ → Type 0
Extends old new = (rest : List ℕ) × (new ≡ old ++ rest)

-- what was added is a step above x
pub record AddsSteps (nodes : List TypeNode) (reveals : List Reveal) (view x : ℕ) (old new : List ℕ) : Type 0 where
  pub extends : Extends old new
  pub sound : (a : ℕ) → Steps nodes reveals view a x → All (Steps nodes reveals view a) old → All (Steps nodes reveals view a) new

-- each step above x is there, and x isn't directly below b
pub record IsDone (nodes : List TypeNode) (reveals : List Reveal) (view b : ℕ) (places : List ℕ) (x : ℕ) : Type 0 where
  pub closed : (y : ℕ) → Step nodes reveals view x y → Has places y
  pub apart : Directly nodes x b → ⊥

-- the reveal applies in the view and is of the opaque type x
abbrev pub BoundAbove : List TypeNode → Reveal → ℕ → ℕ → Type 0
BoundAbove nodes r view x = (r.view ≡ view) × (r.opaque.0 ≡ x) × (head_at nodes x ≡ AnOpaque x)

-- the reveal is full, applies in the view, and x is directly below the type that it gives
abbrev pub OpaqueAbove : List TypeNode → Reveal → ℕ → ℕ → Type 0
OpaqueAbove nodes r view x = (r.view ≡ view) × (r.full ≡ true) × (head_at nodes r.opaque.0 ≡ AnOpaque r.opaque.0) × Directly nodes x r.bound.0
