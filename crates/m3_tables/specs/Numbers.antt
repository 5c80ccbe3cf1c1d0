-- Numbers as bytes, the lowest byte first.
use Rattle.std.specs.Prelude.{ℕ, zero, suc, Bool, true, false, not, ◌||◌, ◌&&◌, ◌==◌, nat_lt, List, [], ◌∷◌, drop}
use Rattle.byteorder.specs.Endian.{little_number}

-- the number in the first four bytes
unfoldable pub word_in : List ℕ → ℕ
word_in bytes = little_number 4 bytes

-- the number in the first two bytes
unfoldable pub half_in : List ℕ → ℕ
half_in bytes = little_number 2 bytes

-- so many numbers of four bytes each, one after the other
abbrev pub numbers : ℕ → List ℕ → List ℕ
numbers zero bytes = []
numbers (suc n) bytes = word_in bytes ∷ numbers n (drop 4 bytes)

-- whether a number stands in a list
abbrev pub has : List ℕ → ℕ → Bool
has [] n = false
has (x ∷ xs) n = x == n || has xs n

-- whether each number is above the one before
abbrev pub rises : List ℕ → Bool
rises [] = true
rises (x ∷ []) = true
rises (x ∷ y ∷ xs) = nat_lt x y && rises (y ∷ xs)

-- whether each number stands in a list once
abbrev pub is_once : List ℕ → Bool
is_once [] = true
is_once (x ∷ xs) = not (has xs x) && is_once xs
