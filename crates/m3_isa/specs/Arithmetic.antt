-- What the arithmetic of the instructions gives, on words and on signed integers.
use Rattle.std.specs.Prelude.{ℕ, suc, ◌-◌, ◌*◌, ◌/◌, ◌%◌, ◌^◌, ◌==◌, Bool, Option, Some, None, if◌then◌else◌, ℤ, pos, negsuc, neg_ℤ, ◌-ℤ◌, ◌*ℤ◌, min}
use Rattle.std.specs.Int.{rotate_left, w64, div_ceil}
use Rattle.m3_base.specs.Words.{word_of, add_words}
use Rattle.m3_base.specs.Integers.{is_integer}

-- the word of an integer of the language, and none for another
abbrev pub integer_word : ℤ → Option ℕ
integer_word z = if is_integer z then Some (word_of z) else None

-- none where the divisor is 0
abbrev pub unless_zero : ℕ → Option ℕ → Option ℕ
unless_zero divisor answer = if divisor == 0 then None else answer

-- the quotient rounded down, where the divisor isn't 0
abbrev pub floor_quotient : ℤ → ℤ → ℤ
floor_quotient (pos x) (pos y) = pos (x / y)
floor_quotient (pos x) (negsuc y) = neg_ℤ (pos (div_ceil x (suc y)))
floor_quotient (negsuc x) (pos y) = negsuc (x / y)
floor_quotient (negsuc x) (negsuc y) = pos (suc x / suc y)

-- what that quotient leaves, with the sign of the divisor
abbrev pub floor_rest : ℤ → ℤ → ℤ
floor_rest x y = x -ℤ floor_quotient x y *ℤ y

-- a word's bits, each n places up, or down where n is below 0, with 0 for those that come from outside
abbrev pub shifted : ℕ → ℤ → ℕ
shifted word (pos n) = (word * 2 ^ n) % 2 ^ 64
shifted word (negsuc n) = word / 2 ^ suc n

-- a word's bits, each n places up modulo 64
abbrev pub rotated : ℕ → ℕ → ℕ
rotated word n = rotate_left w64 word (n % 64)

-- a test as a word
abbrev pub flag : Bool → ℕ
flag test = if test then 1 else 0

-- an address and a signed distance
abbrev pub moved_by : ℕ → ℤ → ℕ
moved_by at distance = add_words at (word_of distance)

-- byte n of a word, the lowest first
abbrev pub byte_in : ℕ → ℕ → ℕ
byte_in word n = word / 2 ^ (8 * n) % 256

-- how many words the bytes of a text take, eight in each
abbrev pub words_of_bytes : ℕ → ℕ
words_of_bytes bytes = div_ceil bytes 8

-- what of word k of a text's bytes lies below the text's length
abbrev pub below_length : ℕ → ℕ → ℕ → ℕ
below_length bytes k word = word % 2 ^ min 64 (8 * (bytes - 8 * k))
