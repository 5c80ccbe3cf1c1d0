-- What may be assigned to what, and where that needs a check when the program runs.
use Rattle.std.specs.Prelude.{◌≡◌, ℕ, ℤ, pos, negsuc, ◌-ℤ◌, ◌≤ℤ◌, ◌⊎◌, Bool, true, IsTrue, List, length, Option, Some, None}
use Rattle.m3_types_subtype.specs.declared.assign.Assign.{Assign}
use Rattle.m3_types_subtype.specs.declared.assign.Assign.TheVariants.{Yes, Checked, No}
use Rattle.m3_types.specs.declared.nodes.Reveal.{Reveal}
use Rattle.m3_types.specs.declared.nodes.TypeNode.{TypeNode}
use Rattle.m3_types.specs.declared.nodes.TypeNode.TheVariants.{Integer, Boolean, Character, Enumeration, Subrange}
use Rattle.m3_types.specs.Definitions.{Head, node_at, head_at, AFixedArray, AnOpenArray}
use Rattle.m3_types_subtype.specs.Sameness.{Same}
use Rattle.m3_types.specs.Kinds.{is_reference}
use Rattle.m3_types_subtype.specs.Subtypes.{Subtype}

-- the members of an ordinal type: its base type, and the numbers of the first and the last
pub record Members : Type 0 where
  pub base : ℕ
  pub first : ℤ
  pub last : ℤ

abbrev pub members_of : ℕ → TypeNode → Option Members
members_of place Integer = Some (record { base = place; first = negsuc 9223372036854775807; last = pos 9223372036854775807 })
members_of place Boolean = Some (record { base = place; first = pos 0; last = pos 1 })
members_of place Character = Some (record { base = place; first = pos 0; last = pos 255 })
members_of place (Enumeration names) = Some (record { base = place; first = pos 0; last = pos (length names.now) -ℤ pos 1 })
members_of place (Subrange base first last) = Some (record { base = base.0; first = first; last = last })
members_of place _ = None

abbrev pub members_in : ℕ → Option TypeNode → Option Members
members_in place None = None
members_in place (Some node) = members_of place node

abbrev pub members_at : List TypeNode → ℕ → Option Members
members_at nodes place = members_in place (node_at nodes place)

-- a number that is in both ranges
abbrev pub CommonMember : Members → Members → Type 0
CommonMember m n = (z : ℤ) × (m.first ≤ℤ z) × (z ≤ℤ m.last) × (n.first ≤ℤ z) × (z ≤ℤ n.last)

-- two ordinal types of one base with a common member
abbrev pub ShareMember : List TypeNode → ℕ → ℕ → Type 0
ShareMember nodes a b = (m : Members) × (n : Members) × (members_at nodes a ≡ Some m) × (members_at nodes b ≡ Some n) × CommonMember m n × Same nodes m.base n.base

abbrev pub is_array_or_reference : Head → Bool
is_array_or_reference AFixedArray = true
is_array_or_reference AnOpenArray = true
is_array_or_reference head = is_reference head

-- the two cases with a check: an array or reference type that is above the other, and ordinal types
-- with a common member
abbrev pub NeedsCheck : List TypeNode → List Reveal → ℕ → ℕ → ℕ → Type 0
NeedsCheck nodes reveals view a b = (IsTrue (is_array_or_reference (head_at nodes a)) × Subtype nodes reveals view b a) ⊎ ShareMember nodes a b

-- how a value of the first type may be assigned to a variable of the second
abbrev pub IsAssign : List TypeNode → List Reveal → ℕ → ℕ → ℕ → Assign → Type 0
IsAssign nodes reveals view a b Yes = Subtype nodes reveals view a b
IsAssign nodes reveals view a b Checked = (Subtype nodes reveals view a b → ⊥) × NeedsCheck nodes reveals view a b
IsAssign nodes reveals view a b No = (Subtype nodes reveals view a b → ⊥) × (NeedsCheck nodes reveals view a b → ⊥)
