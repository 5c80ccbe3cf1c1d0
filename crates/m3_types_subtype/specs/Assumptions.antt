-- Types that are taken to be the same while two types are compared: the pairs that were assumed, and
-- the classes that they make.
use Rattle.std.specs.Prelude.{◌≡◌, ℕ, ◌+◌, ◌^◌, ◌≤◌, ◌⊎◌, List, [], ◌∷◌, ◌++◌, length, take, All, Contains}
use Rattle.m3_types.specs.declared.nodes.TypeNode.{TypeNode}
use Rattle.m3_types.specs.Definitions.{head_at, parts_at}
use Rattle.m3_types_subtype.specs.Sameness.{Matched, Same}
use Rattle.m3_types_subtype.specs.Classes.{SameClass, root_count}

-- the two are equal if the two of each pair are
pub data Linked : List (ℕ × ℕ) → ℕ → ℕ → Type 0 where
  given : {pairs : List (ℕ × ℕ)} {i j : ℕ} → Contains pairs (i, j) → Linked pairs i j
  itself : {pairs : List (ℕ × ℕ)} {i : ℕ} → Linked pairs i i
  turned : {pairs : List (ℕ × ℕ)} {i j : ℕ} → Linked pairs i j → Linked pairs j i
  chained : {pairs : List (ℕ × ℕ)} {i j k : ℕ} → Linked pairs i j → Linked pairs j k → Linked pairs i k

-- The classes of a forest are those that the pairs make, and no pair is there without need.
pub record IsKept (parent : ℕ → ℕ) (pairs : List (ℕ × ℕ)) : Type 0 where
  pub sound : (i j : ℕ) → SameClass parent i j → Linked pairs i j
  pub each : All (λ p. SameClass parent p.0 p.1) pairs
  pub count : (n : ℕ) → 2 ^ 64 ≤ n → root_count parent n + length pairs ≡ n

-- one pair more, or none
abbrev pub AddsPair : ℕ → ℕ → List (ℕ × ℕ) → List (ℕ × ℕ) → Type 0
AddsPair x y old new = (new ≡ old) ⊎ (new ≡ old ++ (x, y) ∷ [])

-- new has what old had in front, and all that was added is the same types if those at the same places of xs and ys are
pub record AddsPairs (xs ys : List ℕ) (old new : List (ℕ × ℕ)) : Type 0 where
  pub front : take (length old) new ≡ old
  pub longer : length old ≤ length new
  pub forced : (nodes : List TypeNode) → Matched (Same nodes) xs ys → All (λ p. Same nodes p.0 p.1) old → All (λ p. Same nodes p.0 p.1) new

-- the two definitions are equal at their top, and their parts are related
abbrev pub Agrees : List TypeNode → (ℕ → ℕ → Type 0) → ℕ → ℕ → Type 0
Agrees nodes R a b = (head_at nodes a ≡ head_at nodes b) × Matched R (parts_at nodes a) (parts_at nodes b)
