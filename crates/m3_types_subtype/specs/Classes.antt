-- Classes of numbers, kept as a forest: each number has a parent that isn't above it, a number that is
-- its own parent is a root, and two numbers are in one class if the same root is above them.
use Rattle.std.specs.Prelude.{◌≡◌, ◌≢◌, ℕ, zero, suc, ◌+◌, ◌⊎◌, ◌==◌, if◌then◌else◌, unwrap_or}
use Rattle.std.specs.Ordering.{nat_cmp}
use Rattle.std.specs.BTreeMap.{BTreeMap, get}

-- the parent of a number: one without an entry is a root
abbrev pub parent_of : BTreeMap ℕ ℕ → ℕ → ℕ
parent_of parents i = unwrap_or (get nat_cmp parents i) i

-- what is reached from a number in so many steps
unfoldable pub ancestor : (ℕ → ℕ) → ℕ → ℕ → ℕ
ancestor parent zero i = i
ancestor parent (suc steps) i = ancestor parent steps (parent i)

-- The root above a number. As parents aren't above their children, as many steps as the number says suffice.
abbrev pub root_of : (ℕ → ℕ) → ℕ → ℕ
root_of parent i = ancestor parent i i

-- the two numbers are in one class
abbrev pub SameClass : (ℕ → ℕ) → ℕ → ℕ → Type 0
SameClass parent i j = root_of parent i ≡ root_of parent j

-- how many numbers below n are roots
unfoldable pub root_count : (ℕ → ℕ) → ℕ → ℕ
root_count parent zero = 0
root_count parent (suc n) = root_count parent n + (if parent n == n then 1 else 0)

-- i and j were in one class, or one of them was with a and the other with b
abbrev pub Joins : (ℕ → ℕ → Type 0) → ℕ → ℕ → ℕ → ℕ → Type 0
Joins R a b i j = R i j ⊎ ((R i a × R j b) ⊎ (R i b × R j a))

-- a number whose root was the high one has the low one now, and any other has the root that it had
abbrev pub MovesRoot : ℕ → ℕ → ℕ → ℕ → Type 0
MovesRoot high low old new = ((old ≡ high) × (new ≡ low)) ⊎ ((old ≢ high) × (new ≡ old))
