-- The test for the integers of the language, for definitions that choose by it.
use Rattle.std.specs.Prelude.{ℤ, pos, negsuc, ◌^◌, ◌↔◌, Bool, IsTrue, nat_lt}
use Rattle.std.proofs.Common.{arith}
use Rattle.std.proofs.lemmas.Bool.Decides.{nat_tests}
use Rattle.m3_base.specs.Words.{IsInteger}

-- whether a number is an integer of the language
abbrev pub is_integer : ℤ → Bool
is_integer (pos n) = nat_lt n (2 ^ 63)
is_integer (negsuc n) = nat_lt n (2 ^ 63)

pub is_integer-exactly : (z : ℤ) → IsTrue (is_integer z) ↔ IsInteger z
is_integer-exactly (pos n) = ((λ h. record { sfits = grind (arith, nat_tests) }), (λ h. grind (arith, nat_tests)))
is_integer-exactly (negsuc n) = ((λ h. record { sfits = grind (arith, nat_tests) }), (λ h. grind (arith, nat_tests)))
