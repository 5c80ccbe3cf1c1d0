-- What stands behind an opaque type, and how the reveals of a graph are found.
use Rattle.std.specs.Prelude.{◌≡◌, ℕ, ◌<◌, ◌⊎◌, ◌&&◌, ◌==◌, if◌then◌else◌, true, List, [], ◌∷◌, length, All, Option, Some, None, slice_get}
use Rattle.std.specs.Option.{option_and_then}
use Rattle.std.specs.HashMap.{HashMap}
use Rattle.m3_types.specs.declared.nodes.Reveal.{Reveal}
use Rattle.m3_types.specs.declared.nodes.TypeNode.{TypeNode}
use Rattle.m3_types.specs.declared.places.Link.{Link}
use Rattle.m3_types.specs.Marks.{mark_at}
use Rattle.m3_types.specs.Noting.{newest_of, IsNoted}

-- The type that fully reveals an opaque type. A program has one full reveal of each, and lists it for
-- each unit where it applies.
abbrev pub full_reveal : List Reveal → ℕ → Option ℕ
full_reveal [] opaque = None
full_reveal (r ∷ reveals) opaque = if r.full && (r.opaque.0 == opaque) then Some r.bound.0 else full_reveal reveals opaque

-- ---- how they are found

-- each reveal is noted under its view and its opaque type
abbrev pub AreNoted : {S : Type 0} → List Reveal → HashMap (ℕ × ℕ) ℕ S → List Link → Type 0
AreNoted reveals newest links = (place : ℕ) (r : Reveal) → slice_get reveals place ≡ Some r → ∥ IsNoted links (newest_of newest r.view r.opaque.0) place ∥₁

-- each full reveal is noted under its view and the mark of the type that it gives, or under 0
abbrev pub AreHidden : {S : Type 0} → List TypeNode → List Reveal → HashMap (ℕ × ℕ) ℕ S → List Link → Type 0
AreHidden nodes reveals newest links = (place : ℕ) (r : Reveal) → slice_get reveals place ≡ Some r → r.full ≡ true → ∥ (IsNoted links (newest_of newest r.view 0) place ⊎ IsNoted links (newest_of newest r.view (mark_at nodes r.bound.0)) place) ∥₁

-- the entry of a list at a place
abbrev pub entry_at : List (Option ℕ) → ℕ → Option ℕ
entry_at entries i = option_and_then (λ entry. entry) (slice_get entries i)

-- what is known first, and else the other
abbrev pub first_known : Option ℕ → Option ℕ → Option ℕ
first_known (Some t) other = Some t
first_known None other = other

-- the list has, for each definition, the type that fully reveals it; and only definitions that are there are revealed
pub record AreFull (nodes : List TypeNode) (reveals : List Reveal) (fully : List (Option ℕ)) : Type 0 where
  pub size : length fully ≡ length nodes
  pub entries : (i : ℕ) → i < length nodes → entry_at fully i ≡ full_reveal reveals i
  pub there : All (λ r. r.opaque.0 < length nodes) reveals
