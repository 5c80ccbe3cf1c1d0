-- The operations on words give integers.
use Rattle.std.proofs.Common.{◌≡◌, ◌<◌, ◌*◌, ◌+◌, ◌-◌, ◌^◌, ◌/◌, ◌%◌, ℕ, ℤ, suc, pos, negsuc, true, arith, pow_pos}
use Rattle.std.specs.Prelude.{bit_and, bit_or, bit_xor}
use Rattle.std.specs.Int.{rotate_left, bit_not, w64}
use Rattle.std.proofs.lemmas.Bool.Decides.{nat_tests}
use Rattle.std.proofs.lemmas.Nat.{and_le_l, or_lt, xor_lt}
use Rattle.std.proofs.Math.Nat.{div-le_self, mod-le, mod-lt}
use Rattle.m3_base.specs.Integers.{is_integer, is_integer-exactly}
use Rattle.m3_base.specs.Words.{signed_of, word_of, add_words, sub_words, mul_words}
use Rattle.m3_values.specs.Integers as integers
use Rattle.m3_values.specs.Integers.{shifted, is_between}
use Rattle.m3_source_typing.specs.ValueTypes.{is_count}
use Rattle.m3_source_typing.specs.Stores.{is_byte}
use mir.Facts.{sfits_to_z, Fits-of_lt}

-- the word of an integer is below 2 ^ 64
word_below : (z : ℤ) → is_integer z ≡ true → word_of z < 2 ^ 64
word_below (pos n) h = grind (arith, nat_tests)
word_below (negsuc n) h = omega arith

-- a word stands for an integer
signed_is : (n : ℕ) → n < 2 ^ 64 → is_integer (signed_of n) ≡ true
signed_is n h = (is_integer-exactly (signed_of n)).1 (sfits_to_z (Fits-of_lt h))

left_below : (m : ℕ) → m % 2 ^ 64 < 2 ^ 64
left_below m = mod-lt m (pow_pos 64)

divided_below : (m n : ℕ) → m < 2 ^ 64 → m / n < 2 ^ 64
divided_below m n h = let most = div-le_self m n in omega arith

-- a number within the bounds of INTEGER is one
pub integer_within : (z : ℤ) → is_between (negsuc 9223372036854775807) (pos 9223372036854775807) z ≡ true → is_integer z ≡ true
integer_within (pos n) h = grind (arith, nat_tests)
integer_within (negsuc n) h = grind (arith, nat_tests)

pub count_within : (n : ℕ) → is_count n ≡ true → is_between (pos 0) (pos 9223372036854775807) (pos n) ≡ true
count_within n h = grind (arith, nat_tests)

pub byte_within : (n : ℕ) → is_byte n ≡ true → is_between (pos 0) (pos 255) (pos n) ≡ true
byte_within n h = grind (arith, nat_tests)

-- AN OPERATION OF TWO WORDS gives an integer, of integers
abbrev pub GivesIntegers : (ℤ → ℤ → ℤ) → Type 0
GivesIntegers compute =
    (x y : ℤ) → is_integer x ≡ true → is_integer y ≡ true → is_integer (compute x y) ≡ true

pub sum_is : GivesIntegers integers.word_sum
sum_is x y h g = signed_is (add_words (word_of x) (word_of y)) (left_below (word_of x + word_of y))

pub difference_is : GivesIntegers integers.word_difference
difference_is x y h g = signed_is (sub_words (word_of x) (word_of y)) (left_below (word_of x + (2 ^ 64 - word_of y)))

pub product_is : GivesIntegers integers.word_product
product_is x y h g = signed_is (mul_words (word_of x) (word_of y)) (left_below (word_of x * word_of y))

pub quotient_is : GivesIntegers integers.word_quotient
quotient_is x y h g = signed_is (word_of x / word_of y) (divided_below (word_of x) (word_of y) (word_below x h))

pub rest_is : GivesIntegers integers.word_rest
rest_is x y h g =
    let most = mod-le (word_of x) (word_of y) in
    let small = word_below x h in
    signed_is (word_of x % word_of y) (omega arith)

pub and_is : GivesIntegers integers.word_and
and_is x y h g =
    let most = and_le_l (word_of x) (word_of y) in
    let small = word_below x h in
    signed_is (bit_and (word_of x) (word_of y)) (omega arith)

pub or_is : GivesIntegers integers.word_or
or_is x y h g = signed_is (bit_or (word_of x) (word_of y)) (or_lt 64 (word_of x) (word_of y) (word_below x h) (word_below y g))

pub xor_is : GivesIntegers integers.word_xor
xor_is x y h g = signed_is (bit_xor (word_of x) (word_of y)) (xor_lt 64 (word_of x) (word_of y) (word_below x h) (word_below y g))

pub not_is : (x : ℤ) → is_integer x ≡ true → is_integer (integers.word_not x) ≡ true
not_is x h = signed_is (bit_not w64 (word_of x)) (omega arith)

shifted_below : (m : ℕ) (z : ℤ) → m < 2 ^ 64 → shifted m z < 2 ^ 64
shifted_below m (pos n) h = left_below (m * 2 ^ n)
shifted_below m (negsuc n) h = divided_below m (2 ^ suc n) h

pub shift_is : GivesIntegers integers.word_shift
shift_is x y h g = signed_is (shifted (word_of x) y) (shifted_below (word_of x) y (word_below x h))

pub rotation_is : GivesIntegers integers.word_rotate
rotation_is x y h g =
    let by = word_of y % 64 in
    signed_is (rotate_left w64 (word_of x) by)
    (or_lt 64 ((word_of x * 2 ^ (by % 64)) % 2 ^ 64) (word_of x / 2 ^ ((64 - by % 64) % 64)) (left_below (word_of x * 2 ^ (by % 64)))
    (divided_below (word_of x) (2 ^ ((64 - by % 64) % 64)) (word_below x h)))
