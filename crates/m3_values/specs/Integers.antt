-- INTEGER ARITHMETIC. Numbers have no bounds while they are computed with; a result outside
-- INTEGER is the fault Overflow where it comes up.
use Rattle.std.specs.Prelude.{ℕ, ℤ, suc, pos, negsuc, neg_ℤ, nat_abs, ◌+ℤ◌, ◌-ℤ◌, ◌*ℤ◌, ◌/◌, ◌%◌, ◌*◌, ◌^◌, ◌&&◌, Bool, true, false, if◌then◌else◌, Option, Some, None, int_le, nat_lt, nat_le, bit_and, bit_or, bit_xor}
use Rattle.std.specs.Int.{div_ceil, rotate_left, bit_not, w64}
use Rattle.m3_base.specs.Integers.{is_integer}
use Rattle.m3_base.specs.Words.{word_of, signed_of, add_words, sub_words, mul_words}
use Rattle.m3_base.specs.declared.outcomes.FaultKind.{FaultKind}
use Rattle.m3_base.specs.declared.outcomes.FaultKind.TheVariants.{Overflow, DivZero}
use Rattle.m3_values.specs.Values.{same_integer}

-- what a computation comes to: a result, or a fault
pub data Computed (A : Type 0) : Type 0 where
  Result : A → Computed A
  Fault : FaultKind → Computed A

abbrev pub checked : Bool → ℤ → Computed ℤ
checked true z = Result z
checked false z = Fault Overflow

-- the result as an INTEGER
abbrev pub within_integer : ℤ → Computed ℤ
within_integer z = checked (is_integer z) z

-- ---- the operators

-- the greatest number that isn't above the quotient
abbrev pub quotient : ℤ → ℤ → ℤ
quotient (pos x) (pos y) = pos (x / y)
quotient (pos x) (negsuc y) = neg_ℤ (pos (div_ceil x (suc y)))
quotient (negsuc x) (pos y) = negsuc (x / y)
quotient (negsuc x) (negsuc y) = pos (suc x / suc y)

abbrev pub rest : ℤ → ℤ → ℤ
rest x y = x -ℤ y *ℤ quotient x y

abbrev pub unless_zero : ℤ → Computed ℤ → Computed ℤ
unless_zero y go = if same_integer y (pos 0) then Fault DivZero else go

abbrev pub sum : ℤ → ℤ → Computed ℤ
sum x y = within_integer (x +ℤ y)

abbrev pub difference : ℤ → ℤ → Computed ℤ
difference x y = within_integer (x -ℤ y)

abbrev pub product : ℤ → ℤ → Computed ℤ
product x y = within_integer (x *ℤ y)

abbrev pub divided : ℤ → ℤ → Computed ℤ
divided x y = unless_zero y (within_integer (quotient x y))

abbrev pub modulo : ℤ → ℤ → Computed ℤ
modulo x y = unless_zero y (within_integer (rest x y))

abbrev pub negated : ℤ → Computed ℤ
negated x = within_integer (neg_ℤ x)

abbrev pub absolute : ℤ → Computed ℤ
absolute x = within_integer (pos (nat_abs x))

abbrev pub lesser : ℤ → ℤ → ℤ
lesser x y = if int_le x y then x else y

abbrev pub greater : ℤ → ℤ → ℤ
greater x y = if int_le y x then x else y

-- ---- the routines of Word, which read 64 bits without a sign

abbrev pub word_sum : ℤ → ℤ → ℤ
word_sum x y = signed_of (add_words (word_of x) (word_of y))

abbrev pub word_difference : ℤ → ℤ → ℤ
word_difference x y = signed_of (sub_words (word_of x) (word_of y))

abbrev pub word_product : ℤ → ℤ → ℤ
word_product x y = signed_of (mul_words (word_of x) (word_of y))

abbrev pub word_quotient : ℤ → ℤ → ℤ
word_quotient x y = signed_of (word_of x / word_of y)

abbrev pub word_rest : ℤ → ℤ → ℤ
word_rest x y = signed_of (word_of x % word_of y)

abbrev pub word_less : ℤ → ℤ → Bool
word_less x y = nat_lt (word_of x) (word_of y)

abbrev pub word_at_most : ℤ → ℤ → Bool
word_at_most x y = nat_le (word_of x) (word_of y)

abbrev pub word_and : ℤ → ℤ → ℤ
word_and x y = signed_of (bit_and (word_of x) (word_of y))

abbrev pub word_or : ℤ → ℤ → ℤ
word_or x y = signed_of (bit_or (word_of x) (word_of y))

abbrev pub word_xor : ℤ → ℤ → ℤ
word_xor x y = signed_of (bit_xor (word_of x) (word_of y))

abbrev pub word_not : ℤ → ℤ
word_not x = signed_of (bit_not w64 (word_of x))

-- bit i is bit i - n of the word, where there is one, else 0
abbrev pub shifted : ℕ → ℤ → ℕ
shifted word (pos n) = (word * 2 ^ n) % 2 ^ 64
shifted word (negsuc n) = word / 2 ^ suc n

abbrev pub word_shift : ℤ → ℤ → ℤ
word_shift x n = signed_of (shifted (word_of x) n)

-- bit i is bit (i - n) MOD 64 of the word
abbrev pub word_rotate : ℤ → ℤ → ℤ
word_rotate x n = signed_of (rotate_left w64 (word_of x) (word_of n % 64))

-- ---- members of ranges

abbrev pub is_between : ℤ → ℤ → ℤ → Bool
is_between first last z = int_le first z && int_le z last

-- a number from 0 on as a count of elements
abbrev pub count_of : ℤ → Option ℕ
count_of (pos n) = Some n
count_of (negsuc n) = None
