-- The stacks as the code holds them: the words of each slot's, and the one that stands at hand.
use Rattle.std.specs.Prelude.{ℕ, ◌+◌, ◌*◌, ◌^◌, ◌≤◌, ◌<◌, ◌≡◌, Bool, ◌&&◌, nat_le, nat_lt, if◌then◌else◌, List, [], length, Option, None, Some, slice_index, slice_index_or, slice_set}
use Rattle.std.proofs.Common.{Vec, Global}
use Rattle.m3_threads.specs.Spaces.{slot_at, place_at}
use Rattle.m3_threads.specs.PlacesInside.{HaveRoom, contents}

-- how many words a stack has, and the words of the stack in each slot
pub record Stacked : Type 0 where
  pub depth : ℕ
  pub words : List (List ℕ)

-- an address is in one of these stacks: it names one of 64 slots, and there is a word at its place
abbrev pub is_in : List (List ℕ) → ℕ → Bool
is_in stacks at = nat_le (2 ^ 40) at && (nat_lt (slot_at at) 64 && nat_lt (place_at at) (length (slice_index_or stacks (slot_at at) [])))

-- the word at an address, if it is in one of them; the stacks after it was replaced
abbrev pub word_in : List (List ℕ) → ℕ → Option ℕ
word_in stacks at = if is_in stacks at then Some (slice_index (slice_index_or stacks (slot_at at) []) (place_at at)) else None

abbrev pub put_in : List (List ℕ) → ℕ → ℕ → List (List ℕ)
put_in stacks at word =
    if is_in stacks at then slice_set stacks (slot_at at) (slice_set (slice_index_or stacks (slot_at at) []) (place_at at) word) else stacks

-- the stack at hand has a slot, in which stands one without words
pub record AreStacks (depth : ℕ) (others : List (Vec ℕ Global)) (near : Vec ℕ Global) (slot base : ℕ) : Type 0 where
  pub few : length others ≤ 64
  pub within : slot < length others
  pub begins : base ≡ 2 ^ 40 * (slot + 1)
  pub small : depth ≤ 2 ^ 20
  pub blank : slice_index_or (contents others) slot [] ≡ []
  pub room : HaveRoom depth (slice_set others slot near)
