-- The number that digits stand for.
use Rattle.std.proofs.Common.{◌≡◌, ℕ, ◌+◌, ◌-◌, ◌*◌, ◌<◌, ◌≤◌, ◌^◌, Bool, true, false, cond, List, [], ◌∷◌, refl, ap, arith, length, get_or, drop, Option, None}
use Rattle.std.proofs.lemmas.List.{drop_more}
use Rattle.std.specs.Prelude.{fold, nat_lt}
use Rattle.std.specs.List.{list_all}
use Rattle.std.specs.Char.{is_ascii_digit}
use Rattle.std.proofs.lemmas.Bool.Decides.{nat_tests}
use Rattle.m3_plain.specs.PlainForm.{number_of}
use Rattle.m3_plain.specs.Lexing.{literal}

-- more digits make no smaller number
pub number_ge : (ds : List ℕ) (n : ℕ) → n ≤ fold (λ n digit. 10 * n + (digit - 48)) n ds
number_ge [] n = omega arith
number_ge (d ∷ ds) n = omega (arith, number_ge ds (10 * n + (d - 48)))

pub not_below : (m n : ℕ) → n ≤ m → nat_lt m n ≡ false
not_below m n h = grind (arith, nat_tests)

pub below : (m n : ℕ) → nat_lt m n ≡ true → m < n
below m n h = grind (arith, nat_tests)

either_none : {A : Type 0} (a b : Bool) (x : Option A) → b ≡ false → cond a (cond b x None) None ≡ None
either_none true true x h = cc
either_none true false x h = refl
either_none false b x h = refl

-- a number outside INTEGER is no literal
pub literal_over : (word : List ℕ) → 2 ^ 63 ≤ number_of word → literal word ≡ None
literal_over word h = either_none (list_all is_ascii_digit word) (nat_lt (number_of word) (2 ^ 63)) _ (not_below _ _ h)

one_digit : (word : List ℕ) (i n : ℕ) → i < length word → fold (λ n digit. 10 * n + (digit - 48)) n (drop i word) ≡ fold (λ n digit. 10 * n + (digit - 48)) (10 * n + (get_or word i 0 - 48)) (drop (i + 1) word)
one_digit word i n h = ap (λ ds. fold (λ n digit. 10 * n + (digit - 48)) n ds) (drop_more word i 0 h)

pub over_mul : (word : List ℕ) (i n : ℕ) → i < length word → (n * 10 < 18446744073709551616 → ⊥) → fold (λ n digit. 10 * n + (digit - 48)) n (drop i word) ≡ number_of word → literal word ≡ None
over_mul word i n h over e =
    let ge = number_ge (drop (i + 1) word) (10 * n + (get_or word i 0 - 48)) in
    literal_over word (omega (arith, one_digit word i n h, e, ge, over))

pub over_add : (word : List ℕ) (i n m d : ℕ) → i < length word → m ≡ n * 10 → d ≡ get_or word i 0 - 48 → (m + d < 18446744073709551616 → ⊥) → fold (λ n digit. 10 * n + (digit - 48)) n (drop i word) ≡ number_of word → literal word ≡ None
over_add word i n m d h is_m is_d over e =
    let ge = number_ge (drop (i + 1) word) (10 * n + (get_or word i 0 - 48)) in
    literal_over word (omega (arith, one_digit word i n h, e, ge, over))
