-- Places that were noted under keys: each key has the link of the place that was noted last, and each
-- link that of the one before.
use Rattle.std.specs.Prelude.{◌≡◌, ◌<◌, ◌&&◌, nat_eq, ℕ, List, length, Bool, Option, Some, None, slice_get}
use Rattle.std.specs.HashMap.{HashMap, get}
use Rattle.m3_types.specs.declared.places.Link.{Link}

-- the two keys are equal
abbrev pub same_key : ℕ × ℕ → ℕ × ℕ → Bool
same_key p q = nat_eq p.0 q.0 && nat_eq p.1 q.1

-- the link of the place that was noted last under a key
abbrev pub newest_of : {S : Type 0} → HashMap (ℕ × ℕ) ℕ S → ℕ → ℕ → Option ℕ
newest_of newest view id = get same_key newest (view, id)

-- the place is at the link, or at one before it
pub data IsNoted : List Link → Option ℕ → ℕ → Type 0 where
  here : {links : List Link} {number place : ℕ} {link : Link} → slice_get links number ≡ Some link → link.place ≡ place → IsNoted links (Some number) place
  before : {links : List Link} {number place : ℕ} {link : Link} → slice_get links number ≡ Some link → IsNoted links link.older place → IsNoted links (Some number) place

-- each link leads to an earlier one
abbrev pub Descends : List Link → Type 0
Descends links = (number older : ℕ) (link : Link) → slice_get links number ≡ Some link → link.older ≡ Some older → older < number

-- each key has a link that is there
abbrev pub AreThere : {S : Type 0} → HashMap (ℕ × ℕ) ℕ S → List Link → Type 0
AreThere newest links = (view id number : ℕ) → newest_of newest view id ≡ Some number → number < length links
