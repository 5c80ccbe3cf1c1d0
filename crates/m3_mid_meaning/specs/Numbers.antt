-- What operators and relations give for two words that are numbers, by the arithmetic of the
-- instructions.
use Rattle.std.specs.Prelude.{ℕ, ◌==◌, ◌/◌, ◌%◌, Bool, not, nat_lt, nat_le, int_lt, int_le, if◌then◌else◌, Option, Result, Ok, Err, ◌+ℤ◌, ◌-ℤ◌, ◌*ℤ◌, bit_and, bit_or, bit_xor}
use Rattle.std.specs.Option.{ok_or}
use Rattle.m3_base.specs.Words.{signed_of, word_of, add_words, sub_words, mul_words}
use Rattle.m3_base.specs.declared.outcomes.FaultKind.{FaultKind}
use Rattle.m3_base.specs.declared.outcomes.FaultKind.TheVariants.{Overflow, DivZero}
use Rattle.m3_isa.specs.Arithmetic.{integer_word, floor_quotient, floor_rest, shifted, rotated}
use Rattle.m3_mid.specs.declared.ops.WordOperator.{WordOperator}
use Rattle.m3_mid.specs.declared.ops.WordOperator.TheVariants as words
use Rattle.m3_mid.specs.declared.ops.CheckedOperator.{CheckedOperator}
use Rattle.m3_mid.specs.declared.ops.CheckedOperator.TheVariants as checks
use Rattle.m3_mid.specs.declared.ops.Relation.{Relation}
use Rattle.m3_mid.specs.declared.ops.Relation.TheVariants as relations

-- an operator that has a result for all numbers
abbrev pub operator_value : WordOperator → ℕ → ℕ → ℕ
operator_value words.Add a b = add_words a b
operator_value words.Subtract a b = sub_words a b
operator_value words.Multiply a b = mul_words a b
operator_value words.And a b = bit_and a b
operator_value words.Or a b = bit_or a b
operator_value words.Xor a b = bit_xor a b
operator_value words.Shift a b = shifted a (signed_of b)
operator_value words.Rotate a b = rotated a b

-- the word, or an overflow where there is none
abbrev pub or_overflow : Option ℕ → Result ℕ FaultKind
or_overflow word = ok_or word Overflow

-- the answer, or the fault of a division by 0
abbrev pub unless_by_zero : ℕ → Result ℕ FaultKind → Result ℕ FaultKind
unless_by_zero divisor answer = if divisor == 0 then Err DivZero else answer

-- an operator that may fault
abbrev pub checked_value : CheckedOperator → ℕ → ℕ → Result ℕ FaultKind
checked_value checks.Add a b = or_overflow (integer_word (signed_of a +ℤ signed_of b))
checked_value checks.Subtract a b = or_overflow (integer_word (signed_of a -ℤ signed_of b))
checked_value checks.Multiply a b = or_overflow (integer_word (signed_of a *ℤ signed_of b))
checked_value checks.Div a b =
    unless_by_zero b (or_overflow (integer_word (floor_quotient (signed_of a) (signed_of b))))
checked_value checks.Mod a b =
    unless_by_zero b (Ok (word_of (floor_rest (signed_of a) (signed_of b))))
checked_value checks.DivUnsigned a b = unless_by_zero b (Ok (a / b))
checked_value checks.ModUnsigned a b = unless_by_zero b (Ok (a % b))

-- whether a relation holds
abbrev pub is_related : Relation → ℕ → ℕ → Bool
is_related relations.Equal a b = a == b
is_related relations.NotEqual a b = not (a == b)
is_related relations.Less a b = int_lt (signed_of a) (signed_of b)
is_related relations.LessEqual a b = int_le (signed_of a) (signed_of b)
is_related relations.LessUnsigned a b = nat_lt a b
is_related relations.LessEqualUnsigned a b = nat_le a b
