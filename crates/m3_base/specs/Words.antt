-- Words of 64 bits: numbers below 2 ^ 64, and their signed reading in two's complement, which is
-- what INTEGER holds.
use Rattle.std.specs.Prelude.{ℕ, ℤ, FitsSigned, ◌+◌, ◌-◌, ◌*◌, ◌%◌, ◌^◌}
use Rattle.std.specs.Int.{cast_signed, cast_unsigned, w64}

-- the integer that a word stands for
abbrev pub signed_of : ℕ → ℤ
signed_of n = cast_signed w64 n

-- the word that stands for an integer
abbrev pub word_of : ℤ → ℕ
word_of z = cast_unsigned w64 z

-- an integer of the language: from -2 ^ 63 to 2 ^ 63 - 1
abbrev pub IsInteger : ℤ → Type 0
IsInteger z = FitsSigned w64 z

-- sums, differences and products of words, modulo 2 ^ 64
abbrev pub add_words : ℕ → ℕ → ℕ
add_words a b = (a + b) % 2 ^ 64

abbrev pub sub_words : ℕ → ℕ → ℕ
sub_words a b = (a + (2 ^ 64 - b)) % 2 ^ 64

abbrev pub mul_words : ℕ → ℕ → ℕ
mul_words a b = (a * b) % 2 ^ 64
