-- Escapes and character literals, as they are read and as they are spelled.
use Rattle.std.proofs.Common.{◌≡◌, ℕ, ◌+◌, ◌<◌, ◌≤◌, true, false, ◌&&◌, cond, List, [], ◌∷◌, ◌++◌, length, take, drop, Option, Some, None, Result, Ok, Err, refl, sym, ap, subst, ◌∙◌, inl, inr, arith}
use Rattle.std.specs.Prelude.{◌==◌, is_some, nat_lt}
use Rattle.std.specs.Option.{option_map}
use Rattle.std.specs.Char.{digit_value, is_digit}
use Rattle.std.proofs.lemmas.Bool.{agree_below_at, ltb-true, le-ltb, and_parts, cases_Bool, cases_lt, false≢true, eqb-true, cond-true, cond-false, and_from, and_left, and_right}
use Rattle.std.proofs.Math.Dec.{eqb-suc-zero}
use Rattle.std.proofs.lemmas.List.{drop_at, take-append-drop}
use Rattle.m3_syntax.specs.declared.tokens.TokenKind.TheVariants.{CharLit}
use Rattle.m3_syntax.specs.Lexis.{lettered, octal, escaped, spelled, is_plain, BeginsEscape, value}
use Rattle.m3_lexer.specs.declared.fronts.Front.{Front}
use Rattle.m3_lexer.specs.declared.fronts.Front.TheVariants.{Spelled}
use Rattle.m3_lexer.specs.Reading.{begins, escape_at, escape_from, closed_character, character_at}
use Rattle.m3_lexer.proofs.Heads.{apart}

pub some_is : {A : Type 0} (x y : A) → Some x ≡ Some y → x ≡ y
some_is x y e = cc

pub none_some : {A : Type 0} (o : Option A) → (is_some o ≡ true → ⊥) → o ≡ None
none_some None h = refl
none_some (Some x) h = absurd (h refl)

pub some_from : {A : Type 0} (o : Option A) → is_some o ≡ true → (x : A) × (o ≡ Some x)
some_from None h = absurd (false≢true h)
some_from (Some x) h = (x, refl)

-- ---- digits

far_value : (c : ℕ) → 123 ≤ c → digit_value c ≡ 36
far_value c h = rw (le-ltb c 48 (omega arith), le-ltb c 58 (omega arith), le-ltb c 65 (omega arith), le-ltb c 91 (omega arith), le-ltb c 97 (omega arith), le-ltb c 123 (omega arith)) refl

-- a digit is a byte
pub value_small : (c : ℕ) → digit_value c < 36 → c < 256
value_small c h =
    elim (cases_lt c 123) [ inl below ↦ omega arith | inr above ↦ absurd (omega (arith, far_value c above)) ]

octal_small : (c : ℕ) → is_digit c 8 ≡ true → c < 256
octal_small c h = value_small c (omega (arith, ltb-true (digit_value c) 8 h))

-- an octal digit is no letter of an escape, and stands for itself in a literal
pub octal_not_lettered : (c : ℕ) → is_digit c 8 ≡ true → lettered c ≡ None
octal_not_lettered c h =
    let no' = apart (λ b. is_digit b 8) (λ b. is_some (lettered b)) c (agree_below_at (λ b. is_digit b 8 && is_some (lettered b)) (λ _. false) 256 c refl (octal_small c h)) h in
    none_some (lettered c) (λ e. false≢true (sym no' ∙ e))

pub octal_plain : (c : ℕ) → is_digit c 8 ≡ true → is_plain 34 c ≡ true
octal_plain c h =
    let agree = agree_below_at (λ b. cond (is_digit b 8) (is_plain 34 b) true) (λ _. true) 256 c refl (octal_small c h) in
    rw h at agree

-- the digits of an octal escape
pub octal_digits : (x y z b : ℕ) → octal x y z ≡ Some b → (is_digit x 8 ≡ true) × (is_digit y 8 ≡ true) × (is_digit z 8 ≡ true)
octal_digits x y z b e =
    elim (cases_Bool ((is_digit x 8 && (is_digit y 8 && is_digit z 8)) && nat_lt (value 8 (x ∷ y ∷ z ∷ [])) 256)) [
      | inl good ↦
          let outer = and_parts (is_digit x 8 && (is_digit y 8 && is_digit z 8)) (nat_lt (value 8 (x ∷ y ∷ z ∷ [])) 256) good in
          let first = and_parts (is_digit x 8) (is_digit y 8 && is_digit z 8) outer.0 in
          let others = and_parts (is_digit y 8) (is_digit z 8) first.1 in
          (first.0, others.0, others.1)
      | inr bad ↦ let none : None ≡ Some b = rw bad at e in absurd cc
    ]

-- ---- escapes

pub escape_only : (e more : List ℕ) (b : ℕ) → escaped e ≡ Some b → escape_at (e ++ more) ≡ Some (b, length e)
unfolding escape_at
escape_only [] more b h = absurd cc
escape_only (c ∷ []) more b h = rw h refl
escape_only (x ∷ y ∷ []) more b h = absurd cc
escape_only (x ∷ y ∷ z ∷ []) more b h = rw (octal_not_lettered x (octal_digits x y z b h).0, h) refl
escape_only (x ∷ y ∷ z ∷ w ∷ rest) more b h = absurd cc

abbrev Escaped : List ℕ → ℕ × ℕ → Type 0
Escaped text x = (escaped (take x.1 text) ≡ Some x.0) × (x.1 ≤ length text)

three_found : (c y z : ℕ) (more : List ℕ) (x : ℕ × ℕ) (o : Option ℕ) → octal c y z ≡ o → option_map (λ byte. (byte, 3)) o ≡ Some x → Escaped (c ∷ y ∷ z ∷ more) x
three_found c y z more x None is h = absurd cc
three_found c y z more x (Some b) is h = subst (λ (p : ℕ × ℕ). Escaped (c ∷ y ∷ z ∷ more) p) (some_is (b, 3) x h) (is, omega arith)

from_found : (c : ℕ) (rest : List ℕ) (x : ℕ × ℕ) (o : Option ℕ) → lettered c ≡ o → escape_from o c rest ≡ Some x → Escaped (c ∷ rest) x
from_found c rest x (Some b) is h = subst (λ (p : ℕ × ℕ). Escaped (c ∷ rest) p) (some_is (b, 1) x h) (is, omega arith)
from_found c [] x None is h = absurd cc
from_found c (y ∷ []) x None is h = absurd cc
from_found c (y ∷ z ∷ more) x None is h = three_found c y z more x (octal c y z) refl h

pub escape_found : (text : List ℕ) (x : ℕ × ℕ) → escape_at text ≡ Some x → Escaped text x
unfolding escape_at
escape_found [] x h = absurd cc
escape_found (c ∷ rest) x h = from_found c rest x (lettered c) refl h

-- ---- character literals

plain_only : (c : ℕ) (rest more : List ℕ) (b : ℕ) → (c == 92) ≡ false → cond (is_plain 39 c && (length rest == 0)) (Some c) None ≡ Some b
    → character_at (c ∷ rest ++ 39 ∷ more) ≡ Ok (Spelled (CharLit b) (length (c ∷ rest) + 2))
unfolding character_at
plain_only c [] more b other e =
    elim (cases_Bool (is_plain 39 c)) [
      | inl plain ↦
          let both : (is_plain 39 c && true) ≡ true = and_from (is_plain 39 c) true plain refl in
          let same : c ≡ b = some_is c b (sym (cond-true (is_plain 39 c && true) (Some c) None both) ∙ e) in
          cond-false (c == 92) _ _ other ∙ cond-true (is_plain 39 c && true) _ _ both ∙ ap (λ (k : ℕ). Ok (Spelled (CharLit k) 3)) same
      | inr not_plain ↦
          let none : (is_plain 39 c && true) ≡ false = and_left (is_plain 39 c) true not_plain in
          let bad : None ≡ Some b = sym (cond-false (is_plain 39 c && true) (Some c) None none) ∙ e in
          absurd cc
    ]
plain_only c (d ∷ rest) more b other e =
    let none : (is_plain 39 c && (length (d ∷ rest) == 0)) ≡ false = and_right (is_plain 39 c) (length (d ∷ rest) == 0) (eqb-suc-zero (length rest)) in
    let bad : None ≡ Some b = sym (cond-false (is_plain 39 c && (length (d ∷ rest) == 0)) (Some c) None none) ∙ e in
    absurd cc

-- what stands for a byte between two marks is read so
pub character_only : (piece more : List ℕ) (b : ℕ) → spelled 39 piece ≡ Some b → character_at (piece ++ 39 ∷ more) ≡ Ok (Spelled (CharLit b) (length piece + 2))
unfolding character_at
character_only [] more b h = absurd cc
character_only (c ∷ rest) more b h =
    elim (cases_Bool (c == 92)) [
      | inl back ↦
          let e : escaped rest ≡ Some b = rw back at h in
          let closed : begins 39 (drop (length rest) (rest ++ 39 ∷ more)) ≡ true = rw (drop_at rest (39 ∷ more) (length rest) refl) refl in
          rw (back, escape_only rest (39 ∷ more) b e, closed) (ap (λ (n : ℕ). Ok (Spelled (CharLit b) n)) (omega arith))
      | inr other ↦
          let e : cond (is_plain 39 c && (length rest == 0)) (Some c) None ≡ Some b = sym (cond-false (c == 92) (escaped rest) (cond (is_plain 39 c && (length rest == 0)) (Some c) None) other) ∙ h in
          plain_only c rest more b other e
    ]

-- a backslash that begins no escape
pub character_escape : (rest after : List ℕ) → rest ≡ 92 ∷ after → (BeginsEscape after → ⊥) → character_at rest ≡ Err 5
unfolding character_at
character_escape rest after e none =
    let nothing : escape_at after ≡ None = none_some (escape_at after) (λ some.
    let x = some_from (escape_at after) some in
    let found = escape_found after x.0 x.1 in
    none (take x.0.1 after, drop x.0.1 after, sym (take-append-drop x.0.1 after), rw found.0 refl)) in
    rw (e, nothing) refl

pub begins_is : (b : ℕ) (xs : List ℕ) → begins b xs ≡ true → (ys : List ℕ) × (xs ≡ b ∷ ys)
begins_is b [] h = absurd (false≢true h)
begins_is b (x ∷ xs) h = (xs, ap (λ (k : ℕ). k ∷ xs) (eqb-true x b h))

unclosed : (c : ℕ) (rest e more : List ℕ) → c ≡ 92 → rest ≡ e ++ more → is_some (escaped e) ≡ true
    → ((piece more' : List ℕ) → c ∷ rest ≡ piece ++ 39 ∷ more' → spelled 39 piece ≡ None) → closed_character (escape_at rest) rest ≡ Err 6
unclosed c rest e more same parts some none =
    let x = some_from (escaped e) some in
    let read : escape_at rest ≡ Some (x.0, length e) = rw parts (escape_only e more x.0 x.1) in
    let after : drop (length e) rest ≡ more = rw parts (drop_at e more (length e) refl) in
    elim (cases_Bool (begins 39 more)) [
      | inl closed ↦
          let ends = begins_is 39 more closed in
          let bad : escaped e ≡ None = none (92 ∷ e) ends.0 (ap (λ (k : ℕ). k ∷ rest) same ∙ ap (λ (l : List ℕ). 92 ∷ l) (parts ∙ ap (λ (m : List ℕ). e ++ m) ends.1)) in
          let clash : None ≡ Some x.0 = sym bad ∙ x.1 in
          absurd cc
      | inr open' ↦ rw (read, after, open') refl
    ]

unplain : (c : ℕ) (rest : List ℕ) → (c == 92) ≡ false → ((piece more : List ℕ) → c ∷ rest ≡ piece ++ 39 ∷ more → spelled 39 piece ≡ None)
    → cond {A = Result Front ℕ} (is_plain 39 c && begins 39 rest) (Ok (Spelled (CharLit c) 3)) (Err 6) ≡ Err 6
unplain c rest other none =
    elim (cases_Bool (is_plain 39 c && begins 39 rest)) [
      | inl good ↦
          let parts = and_parts (is_plain 39 c) (begins 39 rest) good in
          let ends = begins_is 39 rest parts.1 in
          let bad : spelled 39 (c ∷ []) ≡ None = none (c ∷ []) ends.0 (ap (λ (l : List ℕ). c ∷ l) ends.1) in
          let is : spelled 39 (c ∷ []) ≡ Some c = cond-false (c == 92) _ _ other ∙ cond-true (is_plain 39 c && true) _ _ (and_from (is_plain 39 c) true parts.0 refl) in
          let clash : None ≡ Some c = sym bad ∙ is in
          absurd cc
      | inr bad ↦ cond-false (is_plain 39 c && begins 39 rest) _ _ bad
    ]

-- what is no literal for another reason
pub character_other : (rest : List ℕ) → ((after : List ℕ) → rest ≡ 92 ∷ after → BeginsEscape after)
    → ((piece more : List ℕ) → rest ≡ piece ++ 39 ∷ more → spelled 39 piece ≡ None) → character_at rest ≡ Err 6
unfolding character_at
character_other [] escapes none = refl
character_other (c ∷ rest) escapes none =
    elim (cases_Bool (c == 92)) [
      | inl back ↦
          let same : c ≡ 92 = eqb-true c 92 back in
          let b = escapes rest (ap (λ (k : ℕ). k ∷ rest) same) in
          cond-true (c == 92) _ _ back ∙ unclosed c rest b.0 b.1 same b.2 b.3 none
      | inr other ↦ cond-false (c == 92) _ _ other ∙ unplain c rest other none
    ]
