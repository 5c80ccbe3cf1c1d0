-- Counts and values as a loop reaches them.
use Rattle.std.proofs.Common.{◌≡◌, ℕ, zero, suc, ◌+◌, ◌-◌, ◌*◌, ◌<◌, ◌≤◌, Bool, true, false, ◌&&◌, eqb, List, [], ◌∷◌, length, get_or, drop, Option, Some, None, refl, sym, ap, ◌∙◌, inl, inr, arith, add-one, eq-eqb}
use Rattle.std.specs.Prelude.{◌≢◌, ◌⊎◌, ◌==◌, not, ◌||◌}
use Rattle.std.specs.Char.{digit_value}
use Rattle.std.proofs.Math.Nat.{mul-suc}
use Rattle.std.proofs.lemmas.Bool.{ne_eqb}
use Rattle.std.proofs.lemmas.List.{at_drop_more, at_drop_all}
use Rattle.m3_syntax.specs.Lexis.{value_behind, is_plain}
use Rattle.m3_lexer.specs.Reading.{plus, closed_len, body_len}

pub plus_plus : (a b : ℕ) (o : Option ℕ) → plus a (plus b o) ≡ plus (a + b) o
plus_plus a b None = refl
plus_plus a b (Some k) = ap (λ (n : ℕ). Some n) (omega arith)

pub plus_zero : (o : Option ℕ) → plus 0 o ≡ o
plus_zero None = refl
plus_zero (Some k) = ap (λ (n : ℕ). Some n) (omega arith)

-- digits make a number not_in smaller
pub value_behind_ge : (base n : ℕ) (digits : List ℕ) → 1 ≤ base → n ≤ value_behind base n digits
value_behind_ge base n [] h = omega arith
value_behind_ge zero n (d ∷ digits) h = absurd (omega arith)
value_behind_ge (suc b) n (d ∷ digits) h =
    let rest : n * suc b + digit_value d ≤ value_behind (suc b) (n * suc b + digit_value d) digits = value_behind_ge (suc b) (n * suc b + digit_value d) digits h in
    omega (arith, mul-suc n b)

-- ---- marks, one after another

both : (a l b m : ℕ) → a ≡ l → b ≡ m → ((a == l) && (b == m)) ≡ true
both a l b m p q = rw (eq-eqb a l p, eq-eqb b m q) refl

and_false : (b : Bool) → (b && false) ≡ false
and_false true = refl
and_false false = refl

not_both : (a l b m : ℕ) → (a ≢ l) ⊎ (b ≢ m) → ((a == l) && (b == m)) ≡ false
not_both a l b m (inl h) = rw (ne_eqb a l h) refl
not_both a l b m (inr h) = rw (ne_eqb b m h) (and_false (a == l))

pub goes_in : (l r depth len : ℕ) (rest : List ℕ) (total : Option ℕ) → 2 ≤ length rest → 0 < depth → get_or rest 0 0 ≡ l → get_or rest 1 0 ≡ 42
    → plus len (closed_len l r depth rest) ≡ total → plus (len + 2) (closed_len l r (depth + 1) (drop 2 rest)) ≡ total
goes_in l r depth len [] total two some p q so_far = absurd (omega arith)
goes_in l r depth len (a ∷ []) total two some p q so_far = absurd (omega arith)
goes_in l r zero len (a ∷ b ∷ text) total two some p q so_far = absurd (omega arith)
goes_in l r (suc n) len (a ∷ b ∷ text) total two some p q so_far =
    let step : closed_len l r (suc n) (a ∷ b ∷ text) ≡ plus 2 (closed_len l r (suc (suc n)) text) = rw (both a l b 42 p q) refl in
    rw add-one (sym (plus_plus len 2 (closed_len l r (suc (suc n)) text)) ∙ ap (plus len) (sym step) ∙ so_far)

pub comes_out : (l r depth len : ℕ) (rest : List ℕ) (total : Option ℕ) → 2 ≤ length rest → 0 < depth → (get_or rest 0 0 ≢ l) ⊎ (get_or rest 1 0 ≢ 42)
    → get_or rest 0 0 ≡ 42 → get_or rest 1 0 ≡ r
    → plus len (closed_len l r depth rest) ≡ total → plus (len + 2) (closed_len l r (depth - 1) (drop 2 rest)) ≡ total
comes_out l r depth len [] total two some not_in p q so_far = absurd (omega arith)
comes_out l r depth len (a ∷ []) total two some not_in p q so_far = absurd (omega arith)
comes_out l r zero len (a ∷ b ∷ text) total two some not_in p q so_far = absurd (omega arith)
comes_out l r (suc n) len (a ∷ b ∷ text) total two some not_in p q so_far =
    let less : suc n - 1 ≡ n = omega arith in
    let step : closed_len l r (suc n) (a ∷ b ∷ text) ≡ plus 2 (closed_len l r n text) = rw (not_both a l b 42 not_in, both a 42 b r p q) refl in
    rw less (sym (plus_plus len 2 (closed_len l r n text)) ∙ ap (plus len) (sym step) ∙ so_far)

pub goes_past : (l r depth len : ℕ) (rest : List ℕ) (total : Option ℕ) → 2 ≤ length rest → 0 < depth → (get_or rest 0 0 ≢ l) ⊎ (get_or rest 1 0 ≢ 42)
    → (get_or rest 0 0 ≢ 42) ⊎ (get_or rest 1 0 ≢ r)
    → plus len (closed_len l r depth rest) ≡ total → plus (len + 1) (closed_len l r depth (drop 1 rest)) ≡ total
goes_past l r depth len [] total two some not_in never so_far = absurd (omega arith)
goes_past l r depth len (a ∷ []) total two some not_in never so_far = absurd (omega arith)
goes_past l r zero len (a ∷ b ∷ text) total two some not_in never so_far = absurd (omega arith)
goes_past l r (suc n) len (a ∷ b ∷ text) total two some not_in never so_far =
    let step : closed_len l r (suc n) (a ∷ b ∷ text) ≡ plus 1 (closed_len l r (suc n) (b ∷ text)) = rw (not_both a l b 42 not_in, not_both a 42 b r never) refl in
    sym (plus_plus len 1 (closed_len l r (suc n) (b ∷ text))) ∙ ap (plus len) (sym step) ∙ so_far

-- ---- a text's body

plain_tests : (x y z : Bool) → not (x || (y || z)) ≡ true → (x ≡ false) × (y ≡ false) × (z ≡ false)
plain_tests true y z h = absurd cc
plain_tests false true z h = absurd cc
plain_tests false false true h = absurd cc
plain_tests false false false h = (refl, refl, refl)

-- a byte that stands for itself is neither a mark, nor a backslash, nor a line feed
pub plain_is : (mark c : ℕ) → is_plain mark c ≡ true → (eqb c mark ≡ false) × (eqb c 92 ≡ false) × (eqb c 10 ≡ false)
plain_is mark c h = plain_tests (eqb c mark) (eqb c 92) (eqb c 10) h

pub one_more : (len : ℕ) (rest : List ℕ) (total : Option ℕ) → 1 ≤ length rest → is_plain 34 (get_or rest 0 0) ≡ true
    → plus len (body_len rest) ≡ total → plus (len + 1) (body_len (drop 1 rest)) ≡ total
one_more len [] total one plain so_far = absurd (omega arith)
one_more len (c ∷ []) total one plain so_far =
    let step : body_len (c ∷ []) ≡ None = rw (plain_is 34 c plain).0 refl in
    sym (ap (plus len) step) ∙ so_far
one_more len (c ∷ d ∷ rest) total one plain so_far =
    let step : body_len (c ∷ d ∷ rest) ≡ plus 1 (body_len (d ∷ rest)) = let tests = plain_is 34 c plain in rw (tests.0, tests.1, tests.2) refl in
    sym (plus_plus len 1 (body_len (d ∷ rest))) ∙ sym (ap (plus len) step) ∙ so_far

pub two_more : (len : ℕ) (rest : List ℕ) (total : Option ℕ) → 2 ≤ length rest → get_or rest 0 0 ≡ 92 → get_or rest 1 0 ≢ 10
    → plus len (body_len rest) ≡ total → plus (len + 2) (body_len (drop 2 rest)) ≡ total
two_more len [] total two back other so_far = absurd (omega arith)
two_more len (c ∷ []) total two back other so_far = absurd (omega arith)
two_more len (c ∷ d ∷ rest) total two back other so_far =
    let step : body_len (92 ∷ d ∷ rest) ≡ plus 2 (body_len rest) = rw (ne_eqb d 10 other) refl in
    let whole : body_len (c ∷ d ∷ rest) ≡ plus 2 (body_len rest) = ap (λ (b : ℕ). body_len (b ∷ d ∷ rest)) back ∙ step in
    sym (plus_plus len 2 (body_len rest)) ∙ sym (ap (plus len) whole) ∙ so_far

-- ---- values

behind_more : (base n : ℕ) (digits : List ℕ) (i total : ℕ) → i < length digits → value_behind base n (drop i digits) ≡ total
    → value_behind base (n * base + digit_value (get_or digits i 0)) (drop (i + 1) digits) ≡ total
behind_more base n digits i total below so_far =
    let step : value_behind base n (drop i digits) ≡ value_behind base n (get_or digits i 0 ∷ drop (i + 1) digits) = at_drop_more (value_behind base n) digits i 0 below in
    sym step ∙ so_far

pub value_ge_sum : (base n : ℕ) (digits : List ℕ) (i total : ℕ) → 1 ≤ base → i < length digits → value_behind base n (drop i digits) ≡ total
    → n * base + digit_value (get_or digits i 0) ≤ total
value_ge_sum base n digits i total one below so_far =
    let after = behind_more base n digits i total below so_far in
    rw (← after) (value_behind_ge base (n * base + digit_value (get_or digits i 0)) (drop (i + 1) digits) one)

pub value_ge_product : (base n : ℕ) (digits : List ℕ) (i total : ℕ) → 1 ≤ base → i < length digits → value_behind base n (drop i digits) ≡ total
    → n * base ≤ total
value_ge_product base n digits i total one below so_far = omega (arith, value_ge_sum base n digits i total one below so_far)

pub value_whole : (base n : ℕ) (digits : List ℕ) (i total : ℕ) → length digits ≤ i → value_behind base n (drop i digits) ≡ total → n ≡ total
value_whole base n digits i total past so_far = sym (at_drop_all (value_behind base n) digits i past) ∙ so_far
