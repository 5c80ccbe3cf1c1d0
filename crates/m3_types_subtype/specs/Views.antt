-- WHAT A UNIT SEES behind a type: the type that fully reveals it where that applies in the unit, else
-- the least of its partial reveals that apply, else its bound.
use Rattle.std.specs.Prelude.{◌≡◌, ℕ, zero, suc, ◌⊎◌, true, List, length, Contains, Option, Some, None}
use Rattle.m3_types.specs.declared.nodes.Reveal.{Reveal}
use Rattle.m3_types.specs.declared.nodes.TypeNode.{TypeNode}
use Rattle.m3_types.specs.declared.nodes.TypeNode.TheVariants.{Opaque}
use Rattle.m3_types.specs.Definitions.{node_at}
use Rattle.m3_types_subtype.specs.Subtypes.{Subtype}

-- the view of the whole program, where each reveal applies
abbrev pub whole_program : ℕ
whole_program = 4294967295

-- the bound of an opaque type; none of any other
abbrev pub bound_in : Option TypeNode → Option ℕ
bound_in (Some (Opaque bound secret)) = Some bound.0
bound_in _ = None

abbrev pub bound_at : List TypeNode → ℕ → Option ℕ
bound_at nodes t = bound_in (node_at nodes t)

-- the reveal is of an opaque type and applies in a view
abbrev pub IsOf : (view opaque : ℕ) → Reveal → Type 0
IsOf view opaque r = (r.view ≡ view) × (r.opaque.0 ≡ opaque)

-- and it is one of these
pub record Applies (reveals : List Reveal) (view opaque : ℕ) (r : Reveal) : Type 0 where
  pub there : Contains reveals r
  pub applies : IsOf view opaque r

-- none of these that applies is full
abbrev pub NoneIsFull : List Reveal → ℕ → ℕ → Type 0
NoneIsFull reveals view opaque =
    (r : Reveal) → Contains reveals r → IsOf view opaque r → r.full ≡ true → ⊥

abbrev pub NoneApplies : List Reveal → ℕ → ℕ → Type 0
NoneApplies reveals view opaque = (r : Reveal) → Contains reveals r → IsOf view opaque r → ⊥

module _ (nodes : List TypeNode) (reveals : List Reveal) where
  -- strictly below, by the whole program
  pub record IsStrictlyBelow (a b : ℕ) : Type 0 where
    pub below : Subtype nodes reveals whole_program a b
    pub strictly : Subtype nodes reveals whole_program b a → ⊥

  -- Some of these reveals gives this type, and none of those that apply gives one strictly below it.
  -- In a program that keeps the rules, where the types are in one line, it is the least.
  pub record IsLeastOf (some : List Reveal) (view opaque bound : ℕ) : Type 0 where
    pub reveal : Reveal
    pub given : Applies some view opaque reveal
    pub gives : reveal.bound.0 ≡ bound
    pub least : (r : Reveal) → Contains some r → IsOf view opaque r
        → IsStrictlyBelow r.bound.0 bound → ⊥

  -- A UNIT SEES the second type behind the first.
  pub data Sees (view : ℕ) : ℕ → ℕ → Type 0 where
    itself : {t : ℕ} → bound_at nodes t ≡ None → Sees view t t
    fully : {t bound : ℕ} (r : Reveal) → bound_at nodes t ≡ Some bound → Applies reveals view t r
        → r.full ≡ true → Sees view t r.bound.0
    partly : {t bound least : ℕ} → bound_at nodes t ≡ Some bound → NoneIsFull reveals view t
        → IsLeastOf reveals view t least → Sees view t least
    by_bound : {t bound : ℕ} → bound_at nodes t ≡ Some bound → NoneApplies reveals view t
        → Sees view t bound

  -- what is seen behind it, and behind that, so many times
  pub data SeesAfter (view : ℕ) : (times : ℕ) → ℕ → ℕ → Type 0 where
    not_yet : {t : ℕ} → SeesAfter view zero t t
    further : {times t u v : ℕ} → SeesAfter view times t u → Sees view u v
        → SeesAfter view (suc times) t v

  -- THE STRUCTURE of a type: what is seen behind it in the end, which is seen as it is itself; or what
  -- is seen behind as many as there are types.
  pub record HasStructure (view t structure : ℕ) : Type 0 where
    pub times : ℕ
    pub sees : SeesAfter view times t structure
    pub ends : Sees view structure structure ⊎ (times ≡ length nodes)
