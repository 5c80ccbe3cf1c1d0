-- Number literals, as they are read and as they are spelled.
use Rattle.std.proofs.Common.{◌≡◌, ℕ, ℤ, pos, suc, ◌+◌, ◌^◌, ◌<◌, ◌≤◌, true, false, ◌&&◌, cond, List, [], ◌∷◌, ◌++◌, length, drop, Result, Ok, Err, refl, sym, ap, subst, ◌∙◌, inl, inr, append_assoc, arith}
use Rattle.std.specs.Prelude.{◌==◌, ◌≢◌, nat_le, nat_lt}
use Rattle.std.specs.List.{list_all, take_while}
use Rattle.std.specs.Char.{digit_value, is_digit, is_ascii_digit, is_ascii_hexdigit}
use Rattle.std.proofs.lemmas.Bool.{agree_below_at, and_parts, and_from, false≢true, eqb-true, cond-true, cond-false, le-ltb, lt-ltb, ltb-true, leb-true}
use Rattle.std.proofs.lemmas.List.{drop_at, length-append}
use Rattle.m3_base.specs.Words.{signed_of}
use Rattle.m3_syntax.specs.declared.tokens.TokenKind.TheVariants.{Number}
use Rattle.m3_syntax.specs.Lexis.{value, digits_of, past_digits, is_well_based, begins_base, begins_fraction, IsDecimal, IsBased, IsToken}
use Rattle.m3_lexer.specs.declared.fronts.Front.TheVariants.{Spelled}
use Rattle.m3_lexer.specs.Reading.{decimal_of, based_of, spelled_decimal, spelled_based, number_past, number_at}
use Rattle.m3_lexer.proofs.CharacterLaws.{value_small}
use Rattle.m3_lexer.proofs.TakeLaws.{all_taken, all_within, taken_all, cut}

-- ---- what stands behind the digits

decimal_past : (digits : List ℕ) (n : ℕ) (past : List ℕ) → begins_base past ≡ false → begins_fraction past ≡ false → number_past digits n past ≡ spelled_decimal n (decimal_of digits)
decimal_past digits n [] b f = refl
decimal_past digits n (c ∷ rest) b f = cond-false (c == 95) _ _ b ∙ cond-false (begins_fraction (c ∷ rest)) _ _ f

real_past : (digits : List ℕ) (n : ℕ) (past : List ℕ) → begins_fraction past ≡ true → number_past digits n past ≡ Err 9
real_past digits n [] f = absurd (false≢true f)
real_past digits n (c ∷ []) f = absurd (false≢true f)
real_past digits n (c ∷ d ∷ rest) f =
    let parts = and_parts (c == 46) (is_ascii_digit d) f in
    let same : c ≡ 46 = eqb-true c 46 parts.0 in
    subst (λ (k : ℕ). number_past digits n (k ∷ d ∷ rest) ≡ Err 9) (sym same) (cond-true (is_ascii_digit d) _ _ parts.1)

based_past : (digits : List ℕ) (n : ℕ) (past rest : List ℕ) → past ≡ 95 ∷ rest → number_past digits n past ≡ spelled_based n (based_of digits rest)
based_past digits n past rest e = ap (λ (l : List ℕ). number_past digits n l) e

-- ---- broken rules

pub number_large : (text : List ℕ) → begins_base (past_digits text) ≡ false → begins_fraction (past_digits text) ≡ false → 2 ^ 63 ≤ value 10 (digits_of text) → number_at text ≡ Err 7
unfolding number_at decimal_of
number_large text b f large =
    decimal_past (digits_of text) (length (digits_of text)) (past_digits text) b f
    ∙ ap (λ (r : Result ℤ ℕ). spelled_decimal (length (digits_of text)) r) (cond-false (nat_lt (value 10 (digits_of text)) (2 ^ 63)) _ _ (le-ltb (value 10 (digits_of text)) (2 ^ 63) large))

pub number_large_based : (text rest : List ℕ) → past_digits text ≡ 95 ∷ rest → is_well_based (value 10 (digits_of text)) (take_while is_ascii_hexdigit rest) ≡ true
    → 2 ^ 64 ≤ value (value 10 (digits_of text)) (take_while is_ascii_hexdigit rest) → number_at text ≡ Err 7
unfolding number_at based_of
number_large_based text rest e well large =
    let base = value 10 (digits_of text) in
    let digits = take_while is_ascii_hexdigit rest in
    based_past (digits_of text) (length (digits_of text)) (past_digits text) rest e
    ∙ ap (λ (r : Result (ℤ × ℕ) ℕ). spelled_based (length (digits_of text)) r) (cond-true (is_well_based base digits) _ _ well ∙ cond-false (nat_lt (value base digits) (2 ^ 64)) _ _ (le-ltb (value base digits) (2 ^ 64) large))

pub number_bad_base : (text rest : List ℕ) → past_digits text ≡ 95 ∷ rest → is_well_based (value 10 (digits_of text)) (take_while is_ascii_hexdigit rest) ≡ false → number_at text ≡ Err 8
unfolding number_at based_of
number_bad_base text rest e bad =
    based_past (digits_of text) (length (digits_of text)) (past_digits text) rest e
    ∙ ap (λ (r : Result (ℤ × ℕ) ℕ). spelled_based (length (digits_of text)) r) (cond-false (is_well_based (value 10 (digits_of text)) (take_while is_ascii_hexdigit rest)) _ _ bad)

pub number_real : (text : List ℕ) → begins_fraction (past_digits text) ≡ true → number_at text ≡ Err 9
unfolding number_at
number_real text f = real_past (digits_of text) (length (digits_of text)) (past_digits text) f

-- ---- good numbers

pub number_decimal : (text : List ℕ) → begins_base (past_digits text) ≡ false → begins_fraction (past_digits text) ≡ false → value 10 (digits_of text) < 2 ^ 63
    → number_at text ≡ Ok (Spelled (Number (pos (value 10 (digits_of text)))) (length (digits_of text)))
unfolding number_at decimal_of
number_decimal text b f small =
    decimal_past (digits_of text) (length (digits_of text)) (past_digits text) b f
    ∙ ap (λ (r : Result ℤ ℕ). spelled_decimal (length (digits_of text)) r) (cond-true (nat_lt (value 10 (digits_of text)) (2 ^ 63)) _ _ (lt-ltb (value 10 (digits_of text)) (2 ^ 63) small))

pub number_based : (text rest : List ℕ) → past_digits text ≡ 95 ∷ rest → is_well_based (value 10 (digits_of text)) (take_while is_ascii_hexdigit rest) ≡ true
    → value (value 10 (digits_of text)) (take_while is_ascii_hexdigit rest) < 2 ^ 64
    → number_at text ≡ Ok (Spelled (Number (signed_of (value (value 10 (digits_of text)) (take_while is_ascii_hexdigit rest)))) (length (digits_of text) + 1 + length (take_while is_ascii_hexdigit rest)))
unfolding number_at based_of
number_based text rest e well small =
    let base = value 10 (digits_of text) in
    let digits = take_while is_ascii_hexdigit rest in
    based_past (digits_of text) (length (digits_of text)) (past_digits text) rest e
    ∙ ap (λ (r : Result (ℤ × ℕ) ℕ). spelled_based (length (digits_of text)) r) (cond-true (is_well_based base digits) _ _ well ∙ cond-true (nat_lt (value base digits) (2 ^ 64)) _ _ (lt-ltb (value base digits) (2 ^ 64) small))

-- the decimal digits are a token
pub decimal_token : (text : List ℕ) → digits_of text ≢ [] → value 10 (digits_of text) < 2 ^ 63 → IsToken (digits_of text) (Number (pos (value 10 (digits_of text))))
decimal_token text some small = inl (record { some = some; digits = all_taken is_ascii_digit text; small = small; is = refl })

-- the digits, the underscore and the digits behind it are one
pub based_front : (text rest : List ℕ) → past_digits text ≡ 95 ∷ rest → (more : List ℕ) × (text ≡ (digits_of text ++ 95 ∷ take_while is_ascii_hexdigit rest) ++ more)
based_front text rest e =
    let digits = digits_of text in
    let behind = take_while is_ascii_hexdigit rest in
    let more = drop (length behind) rest in
    (more, sym (cut is_ascii_digit text) ∙ ap (λ (l : List ℕ). digits ++ l) (e ∙ ap (λ (l : List ℕ). 95 ∷ l) (sym (cut is_ascii_hexdigit rest))) ∙ sym (append_assoc digits (95 ∷ behind) more))

-- digits before an underscore are all the digits
digits_before : (digits rest : List ℕ) → list_all is_ascii_digit digits ≡ true → (digits_of (digits ++ 95 ∷ rest) ≡ digits) × (past_digits (digits ++ 95 ∷ rest) ≡ 95 ∷ rest)
digits_before digits rest h =
    let same : digits_of (digits ++ 95 ∷ rest) ≡ digits = taken_all is_ascii_digit digits 95 rest h refl in
    (same, ap (λ (l : List ℕ). drop (length l) (digits ++ 95 ∷ rest)) same ∙ drop_at digits (95 ∷ rest) (length digits) refl)

pub based_token : (text rest : List ℕ) → past_digits text ≡ 95 ∷ rest → is_well_based (value 10 (digits_of text)) (take_while is_ascii_hexdigit rest) ≡ true
    → value (value 10 (digits_of text)) (take_while is_ascii_hexdigit rest) < 2 ^ 64
    → IsToken (digits_of text ++ 95 ∷ take_while is_ascii_hexdigit rest) (Number (signed_of (value (value 10 (digits_of text)) (take_while is_ascii_hexdigit rest))))
based_token text rest e well small =
    let digits = digits_of text in
    let behind = take_while is_ascii_hexdigit rest in
    let front = digits_before digits behind (all_taken is_ascii_digit text) in
    inr (record {
      digits = behind;
      parts = front.1;
      well = subst (λ (l : List ℕ). is_well_based (value 10 l) behind ≡ true) (sym front.0) well;
      small = subst (λ (l : List ℕ). value (value 10 l) behind < 2 ^ 64) (sym front.0) small;
      is = ap (λ (l : List ℕ). signed_of (value (value 10 l) behind)) (sym front.0);
    })

-- ---- no number is longer

pub decimal_bound : (text other more : List ℕ) (v : ℤ) → text ≡ other ++ more → IsDecimal other v → length other ≤ length (digits_of text)
decimal_bound text other more v e d = rw e (all_within is_ascii_digit other more d.digits)

digit_is_hex : (d base : ℕ) → base ≤ 16 → is_digit d base ≡ true → is_ascii_hexdigit d ≡ true
digit_is_hex d base le h =
    let below : digit_value d < 16 = omega (arith, ltb-true (digit_value d) base h) in
    let agree = agree_below_at (λ b. cond (nat_lt (digit_value b) 16) (is_ascii_hexdigit b) true) (λ _. true) 256 d refl (value_small d (omega arith)) in
    sym (cond-true (nat_lt (digit_value d) 16) (is_ascii_hexdigit d) true (lt-ltb (digit_value d) 16 below)) ∙ agree

digits_hex : (digits : List ℕ) (base : ℕ) → base ≤ 16 → list_all (λ d. is_digit d base) digits ≡ true → list_all is_ascii_hexdigit digits ≡ true
digits_hex [] base le h = refl
digits_hex (d ∷ digits) base le h =
    let parts = and_parts (is_digit d base) (list_all (λ d. is_digit d base) digits) h in
    and_from (is_ascii_hexdigit d) (list_all is_ascii_hexdigit digits) (digit_is_hex d base le parts.0) (digits_hex digits base le parts.1)

-- what a number with a base tells of the text that it begins
pub record BasedIn (text other : List ℕ) : Type 0 where
  pub rest : List ℕ
  pub past : past_digits text ≡ 95 ∷ rest
  pub bound : length other ≤ length (digits_of text) + 1 + length (take_while is_ascii_hexdigit rest)

pub based_in : (text other more : List ℕ) (v : ℤ) → text ≡ other ++ more → IsBased other v → BasedIn text other
based_in text other more v e b =
    let digits = digits_of other in
    let shape : other ≡ digits ++ 95 ∷ b.digits = sym (cut is_ascii_digit other) ∙ ap (λ (l : List ℕ). digits ++ l) b.parts in
    let whole : text ≡ digits ++ 95 ∷ (b.digits ++ more) = e ∙ ap (λ (l : List ℕ). l ++ more) shape ∙ append_assoc digits (95 ∷ b.digits) more in
    let front = digits_before digits (b.digits ++ more) (all_taken is_ascii_digit other) in
    let same : digits_of text ≡ digits = ap digits_of whole ∙ front.0 in
    let past : past_digits text ≡ 95 ∷ (b.digits ++ more) = ap past_digits whole ∙ front.1 in
    let outer = and_parts (nat_le 2 (value 10 digits) && nat_le (value 10 digits) 16) (nat_lt 0 (length b.digits) && list_all (λ d. is_digit d (value 10 digits)) b.digits) b.well in
    let base = and_parts (nat_le 2 (value 10 digits)) (nat_le (value 10 digits) 16) outer.0 in
    let all = and_parts (nat_lt 0 (length b.digits)) (list_all (λ d. is_digit d (value 10 digits)) b.digits) outer.1 in
    let hex = digits_hex b.digits (value 10 digits) (leb-true (value 10 digits) 16 base.1) all.1 in
    let within = all_within is_ascii_hexdigit b.digits more hex in
    let size : length other ≡ length digits + suc (length b.digits) = ap length shape ∙ length-append digits (95 ∷ b.digits) in
    let same_len : length (digits_of text) ≡ length digits = ap length same in
    record { rest = b.digits ++ more; past = past; bound = omega (arith, within, size, same_len) }
