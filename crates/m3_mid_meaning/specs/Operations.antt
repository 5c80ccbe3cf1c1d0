-- What operations without a point compute.
use Rattle.std.specs.Prelude.{ℕ, Bool, not, Option, Some, slice_get, bytes_eq}
use Rattle.std.specs.Option.{option_map}
use Rattle.m3_isa.specs.Arithmetic.{flag}
use Rattle.m3_mid.specs.declared.ops.WordOperator.{WordOperator}
use Rattle.m3_mid.specs.declared.ops.WordOperator.TheVariants as words
use Rattle.m3_mid.specs.declared.ops.Relation.{Relation}
use Rattle.m3_mid.specs.declared.ops.Relation.TheVariants as relations
use Rattle.m3_mid_meaning.specs.Numbers.{operator_value, is_related}
use Rattle.m3_mid_meaning.specs.Words.{Word, number, times_of, sum_of, difference_of, ◌>>=◌, number_of, of_numbers, is_one_word, are_one_row}
use Rattle.m3_mid_meaning.specs.Memory.{Memory, Around, row_at, store_row, fill, type_at, text_at}

-- Sums and differences are defined for all words, and everything else for numbers.
abbrev pub operated : WordOperator → Word → Word → Option Word
operated words.Add v w = Some (sum_of v w)
operated words.Subtract v w = Some (difference_of v w)
operated operator v w = option_map number (of_numbers (operator_value operator) v w)

-- Pointers to cells can be equal or not; everything else is defined for numbers.
abbrev pub is_true : Relation → Word → Word → Option Bool
is_true relations.Equal v w = is_one_word v w
is_true relations.NotEqual v w = option_map not (is_one_word v w)
is_true relation v w = of_numbers (is_related relation) v w

-- a test as a word
abbrev pub flag_word : Option Bool → Option Word
flag_word test = option_map (λ b. number (flag b)) test

-- so many words, as many as a word says, copied from one address to another
abbrev pub copied : Around → Memory → Word → Word → Word → Option Memory
copied around memory to from count =
    number_of count >>= λ n. row_at around memory n from >>= λ ws. store_row memory to ws

abbrev pub filled : Around → Memory → Word → Word → Word → Option Memory
filled around memory at count distance =
    number_of count >>= λ n. number_of distance >>= λ d. fill around n d at memory

abbrev pub are_equal : Around → Memory → Word → Word → Word → Option Bool
are_equal around memory left right count =
    number_of count >>= λ n.
    row_at around memory n left >>= λ vs.
    row_at around memory n right >>= λ ws.
    are_one_row vs ws

-- the address of an element of so many words, and an offset
abbrev pub element_address : Word → ℕ → Word → ℕ → Word
element_address array words index offset =
    sum_of (sum_of array (times_of words index)) (number offset)

abbrev pub is_of_type : Around → Memory → Word → ℕ → Option Bool
is_of_type around memory cell tested =
    option_map (λ t. around.is_below t tested) (type_at memory cell)

-- what a method of an object is
abbrev pub method_of : Around → Memory → Word → ℕ → Option ℕ
method_of around memory object method = type_at memory object >>= λ t. around.methods t method

abbrev pub text_byte : Around → Memory → Word → Word → Option ℕ
text_byte around memory text index =
    number_of index >>= λ n. text_at around memory text >>= λ bytes. slice_get bytes n

abbrev pub are_equal_texts : Around → Memory → Word → Word → Option Bool
are_equal_texts around memory left right =
    text_at around memory left >>= λ xs. option_map (bytes_eq xs) (text_at around memory right)
