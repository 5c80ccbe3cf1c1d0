-- What is read at the beginning of a text is what stands there.
use Rattle.std.proofs.Common.{◌≡◌, ℕ, pos, suc, ◌+◌, ◌^◌, ◌≤◌, Bool, true, false, ◌&&◌, eqb, cond, List, [], ◌∷◌, ◌++◌, length, take, drop, Option, Some, None, Result, Ok, Err, refl, sym, ap, subst, ◌∙◌, inl, inr, append_assoc, arith}
use Rattle.std.specs.Prelude.{◌==◌, ◌≢◌, is_some}
use Rattle.std.specs.List.{list_all, take_while}
use Rattle.std.specs.Char.{is_ascii_digit, is_ascii_alphabetic, is_ascii_hexdigit}
use Rattle.std.proofs.lemmas.Bool.{false≢true, cases_Bool, cases_lt, both_ways, ne_eqb, eqb-true, eqb-false, and_parts, and_from, and_left, cond-true, cond-false, agree_below_at}
use Rattle.std.proofs.lemmas.List.{take_at, length-append, take-append-drop}
use Rattle.std.proofs.lemmas.List.Sums.{take_while-cons}
use Rattle.m3_base.specs.Words.{signed_of}
use Rattle.m3_syntax.specs.declared.tokens.Sign.{Sign}
use Rattle.m3_syntax.specs.declared.tokens.TokenKind.{TokenKind}
use Rattle.m3_syntax.specs.declared.tokens.TokenKind.TheVariants.{Ident, Keyword, Number, CharLit, TextLit, Symbol}
use Rattle.m3_syntax.specs.Spellings.{text_of_sign}
use Rattle.m3_syntax.specs.Lexis.{value, is_blank, is_name, is_name_byte, digits_of, past_digits, begins_base, begins_fraction, is_well_based, escaped, spelled, is_plain, BeginsEscape, IsSkip, blank, comment, pragma, IsToken, IsTextBody, bad_byte, open_comment, open_pragma, open_text, bad_escape, bad_character_escape, bad_character, large_decimal, large_based, bad_base, real_literal}
use Rattle.m3_lexer.specs.declared.fronts.Front.{Front}
use Rattle.m3_lexer.specs.declared.fronts.Front.TheVariants.{Skipped, Spelled}
use Rattle.m3_lexer.specs.Reading.{begins, closed_len, skipped_at, sign_at, escape_at, closed_character, character_at, body_len, is_well_escaped, text_at, closed_text, number_at}
use Rattle.m3_lexer.specs.Fronts.{IsFront}
use Rattle.m3_lexer.proofs.Heads.{letter_small, letter_not_blank, digit_not_blank, digit_not_letter, letter_class, digit_class, class_of, class_of_kind, word_is_name, sign_head, token_class}
use Rattle.m3_lexer.proofs.TakeLaws.{all_taken, all_within, cut}
use Rattle.m3_lexer.proofs.MarkLaws.{closed_found, closed_only}
use Rattle.m3_lexer.proofs.CharacterLaws.{none_some, some_from, escape_only, escape_found, character_only, begins_is}
use Rattle.m3_lexer.proofs.TextLaws.{Bodied, body_only, body_found, text_good, text_found, text_only}
use Rattle.m3_lexer.proofs.NumberLaws.{number_decimal, number_based, number_large, number_large_based, number_bad_base, number_real, decimal_token, based_front, based_token, decimal_bound, based_in}
use Rattle.m3_lexer.proofs.SignLaws.{sign_found, sign_bound}
use Rattle.m3_lexer.proofs.StandsLaws.{Clear, Sound, Longest, stands}

-- ---- what is skipped

pub blank_front : (c : ℕ) (rest : List ℕ) → is_blank c ≡ true → IsFront (c ∷ rest) (Ok (Skipped 1))
blank_front c rest h = (omega arith, omega arith, blank c refl h)

comment_found : (inner : List ℕ) (o : Option ℕ) → closed_len 40 41 1 inner ≡ o → IsFront (40 ∷ 42 ∷ inner) (skipped_at 2 o)
comment_found inner None e =
    open_comment inner refl (λ front more is closes.
    let read = closed_only 40 41 1 front more closes in
    let bad : None ≡ Some (length front) = sym e ∙ ap (closed_len 40 41 1) is ∙ read in
    absurd cc)
comment_found inner (Some k) e =
    let found = closed_found 40 41 1 inner k e in (
      omega (arith, found.1),
      omega arith,
      subst (λ (n : ℕ). IsSkip (take n (40 ∷ 42 ∷ inner))) (let s : suc (suc k) ≡ k + 2 = omega arith in s) (comment (take k inner) refl found.0),
    )

pragma_found : (inner : List ℕ) (o : Option ℕ) → closed_len 60 62 1 inner ≡ o → IsFront (60 ∷ 42 ∷ inner) (skipped_at 3 o)
pragma_found inner None e =
    open_pragma inner refl (λ front more is closes.
    let read = closed_only 60 62 1 front more closes in
    let bad : None ≡ Some (length front) = sym e ∙ ap (closed_len 60 62 1) is ∙ read in
    absurd cc)
pragma_found inner (Some k) e =
    let found = closed_found 60 62 1 inner k e in (
      omega (arith, found.1),
      omega arith,
      subst (λ (n : ℕ). IsSkip (take n (60 ∷ 42 ∷ inner))) (let s : suc (suc k) ≡ k + 2 = omega arith in s) (pragma (take k inner) refl found.0),
    )

pub comment_front : (inner : List ℕ) → IsFront (40 ∷ 42 ∷ inner) (skipped_at 2 (closed_len 40 41 1 inner))
comment_front inner = comment_found inner (closed_len 40 41 1 inner) refl

pub pragma_front : (inner : List ℕ) → IsFront (60 ∷ 42 ∷ inner) (skipped_at 3 (closed_len 60 62 1 inner))
pragma_front inner = pragma_found inner (closed_len 60 62 1 inner) refl

-- ---- names

-- a byte that passes a test that another fails is another byte
other_byte : (f : ℕ → Bool) (c k : ℕ) → f c ≡ true → f k ≡ false → c ≡ k → ⊥
other_byte f c k yes' nope e = both_ways (f k) nope (ap f (sym e) ∙ yes')

letter_name_byte : (c : ℕ) → is_ascii_alphabetic c ≡ true → is_name_byte c ≡ true
letter_name_byte c h =
    let agree = agree_below_at (λ b. cond (is_ascii_alphabetic b) (is_name_byte b) true) (λ _. true) 256 c refl (letter_small c h) in
    sym (cond-true (is_ascii_alphabetic c) (is_name_byte c) true h) ∙ agree

letter_clear : (c : ℕ) (rest : List ℕ) → is_ascii_alphabetic c ≡ true → Clear c rest
letter_clear c rest h = record {
  ink = letter_not_blank c h;
  uncommented = and_left (c == 40) (begins 42 rest) (ne_eqb c 40 (other_byte is_ascii_alphabetic c 40 h refl));
  unpragmaed = and_left (c == 60) (begins 42 rest) (ne_eqb c 60 (other_byte is_ascii_alphabetic c 60 h refl));
}

letter_sound : (c : ℕ) (rest : List ℕ) → is_ascii_alphabetic c ≡ true → Sound c rest
letter_sound c rest h = record {
  text = λ e rule _. other_byte is_ascii_alphabetic c 34 h refl e;
  character = λ e rule _. other_byte is_ascii_alphabetic c 39 h refl e;
  number = λ d rule _. both_ways (is_ascii_alphabetic c) (digit_not_letter c d) h;
}

-- a name's bytes are those of names
name_bytes : (c : ℕ) (f : List ℕ) → is_name (c ∷ f) ≡ true → list_all is_name_byte (c ∷ f) ≡ true
name_bytes c f h =
    let parts = and_parts (is_ascii_alphabetic c) (list_all is_name_byte f) h in
    and_from (is_name_byte c) (list_all is_name_byte f) (letter_name_byte c parts.0) parts.1

name_within : (c : ℕ) (rest f more : List ℕ) → c ∷ rest ≡ (c ∷ f) ++ more → is_name (c ∷ f) ≡ true → length (c ∷ f) ≤ length (take_while is_name_byte (c ∷ rest))
name_within c rest f more e h =
    subst (λ (l : List ℕ). length (c ∷ f) ≤ length (take_while is_name_byte l)) (sym e) (all_within is_name_byte (c ∷ f) more (name_bytes c f h))

name_longest : (c : ℕ) (rest : List ℕ) → is_ascii_alphabetic c ≡ true → Longest c rest (length (take_while is_name_byte (c ∷ rest)))
name_longest c rest h f more Ident e t same = name_within c rest f more e t.0
name_longest c rest h f more (Keyword w) e t same = name_within c rest f more e (subst (λ (l : List ℕ). is_name l ≡ true) (sym t) (word_is_name w))
name_longest c rest h f more (Number n) e t same = absurd (omega (arith, letter_class c h, same))
name_longest c rest h f more (CharLit b) e t same = absurd (omega (arith, letter_class c h, same))
name_longest c rest h f more TextLit e t same = absurd (omega (arith, letter_class c h, same))
name_longest c rest h f more (Symbol s) e t same = absurd (omega (arith, letter_class c h, same))

-- the name that a text begins with is one
pub name_is : (c : ℕ) (rest : List ℕ) → is_ascii_alphabetic c ≡ true → is_name (take_while is_name_byte (c ∷ rest)) ≡ true
name_is c rest h =
    rw (take_while-cons is_name_byte c rest, letter_name_byte c h) (and_from (is_ascii_alphabetic c) (list_all is_name_byte (take_while is_name_byte rest)) h (all_taken is_name_byte rest))

pub name_front : (c : ℕ) (rest : List ℕ) (kind : TokenKind) → is_ascii_alphabetic c ≡ true → IsToken (take_while is_name_byte (c ∷ rest)) kind
    → IsFront (c ∷ rest) (Ok (Spelled kind (length (take_while is_name_byte (c ∷ rest)))))
name_front c rest kind h t =
    stands c rest (take_while is_name_byte (c ∷ rest)) (drop (length (take_while is_name_byte (c ∷ rest))) (c ∷ rest)) kind (length (take_while is_name_byte (c ∷ rest)))
    (sym (cut is_name_byte (c ∷ rest))) refl t (letter_clear c rest h) (letter_sound c rest h) (name_longest c rest h)

-- ---- numbers

digit_clear : (c : ℕ) (rest : List ℕ) → is_ascii_digit c ≡ true → Clear c rest
digit_clear c rest h = record {
  ink = digit_not_blank c h;
  uncommented = and_left (c == 40) (begins 42 rest) (ne_eqb c 40 (other_byte is_ascii_digit c 40 h refl));
  unpragmaed = and_left (c == 60) (begins 42 rest) (ne_eqb c 60 (other_byte is_ascii_digit c 60 h refl));
}

ok_err : (f : Front) (rule : ℕ) (r : Result Front ℕ) → r ≡ Ok f → r ≡ Err rule → ⊥
ok_err f rule r a b = absurd cc

digit_sound : (c : ℕ) (rest : List ℕ) (f : Front) → is_ascii_digit c ≡ true → number_at (c ∷ rest) ≡ Ok f → Sound c rest
digit_sound c rest f h e = record {
  text = λ is rule _. other_byte is_ascii_digit c 34 h refl is;
  character = λ is rule _. other_byte is_ascii_digit c 39 h refl is;
  number = λ _ rule bad. ok_err f rule (number_at (c ∷ rest)) e bad;
}

digits_some : (c : ℕ) (rest : List ℕ) → is_ascii_digit c ≡ true → digits_of (c ∷ rest) ≢ []
digits_some c rest h e =
    let is : digits_of (c ∷ rest) ≡ c ∷ digits_of rest = rw (take_while-cons is_ascii_digit c rest, h) refl in
    let bad : c ∷ digits_of rest ≡ [] = sym is ∙ e in
    absurd cc

base_is : (xs : List ℕ) → begins_base xs ≡ true → (ys : List ℕ) × (xs ≡ 95 ∷ ys)
base_is [] h = absurd (false≢true h)
base_is (x ∷ xs) h = (xs, ap (λ (k : ℕ). k ∷ xs) (eqb-true x 95 h))

decimal_longest : (c : ℕ) (rest : List ℕ) → is_ascii_digit c ≡ true → begins_base (past_digits (c ∷ rest)) ≡ false → Longest c rest (length (digits_of (c ∷ rest)))
decimal_longest c rest h nb f more Ident e t same = absurd (omega (arith, digit_class c h, same))
decimal_longest c rest h nb f more (Keyword w) e t same = absurd (omega (arith, digit_class c h, same))
decimal_longest c rest h nb f more (Number v) e (inl d) same = decimal_bound (c ∷ rest) (c ∷ f) more v e d
decimal_longest c rest h nb f more (Number v) e (inr b) same =
    let found = based_in (c ∷ rest) (c ∷ f) more v e b in
    absurd (both_ways (begins_base (past_digits (c ∷ rest))) nb (ap begins_base found.past))
decimal_longest c rest h nb f more (CharLit b) e t same = absurd (omega (arith, digit_class c h, same))
decimal_longest c rest h nb f more TextLit e t same = absurd (omega (arith, digit_class c h, same))
decimal_longest c rest h nb f more (Symbol s) e t same = absurd (omega (arith, digit_class c h, same))

tails : (a : ℕ) (xs ys : List ℕ) → a ∷ xs ≡ a ∷ ys → xs ≡ ys
tails a xs ys e = cc

based_longest : (c : ℕ) (rest after : List ℕ) → is_ascii_digit c ≡ true → past_digits (c ∷ rest) ≡ 95 ∷ after
    → Longest c rest (length (digits_of (c ∷ rest)) + 1 + length (take_while is_ascii_hexdigit after))
based_longest c rest after h p f more Ident e t same = absurd (omega (arith, digit_class c h, same))
based_longest c rest after h p f more (Keyword w) e t same = absurd (omega (arith, digit_class c h, same))
based_longest c rest after h p f more (Number v) e (inl d) same = omega (arith, decimal_bound (c ∷ rest) (c ∷ f) more v e d)
based_longest c rest after h p f more (Number v) e (inr b) same =
    let found = based_in (c ∷ rest) (c ∷ f) more v e b in
    let is : found.rest ≡ after = tails 95 found.rest after (sym found.past ∙ p) in
    let len : length (take_while is_ascii_hexdigit found.rest) ≡ length (take_while is_ascii_hexdigit after) = ap (λ (l : List ℕ). length (take_while is_ascii_hexdigit l)) is in
    omega (arith, found.bound, len)
based_longest c rest after h p f more (CharLit b) e t same = absurd (omega (arith, digit_class c h, same))
based_longest c rest after h p f more TextLit e t same = absurd (omega (arith, digit_class c h, same))
based_longest c rest after h p f more (Symbol s) e t same = absurd (omega (arith, digit_class c h, same))

decimal_front : (c : ℕ) (rest : List ℕ) → is_ascii_digit c ≡ true → begins_base (past_digits (c ∷ rest)) ≡ false → begins_fraction (past_digits (c ∷ rest)) ≡ false
    → IsFront (c ∷ rest) (number_at (c ∷ rest))
decimal_front c rest h nb nf =
    let text = c ∷ rest in
    let some = digits_some c rest h in
    elim (cases_lt (value 10 (digits_of text)) (2 ^ 63)) [
      | inl small ↦
          let is = number_decimal text nb nf small in
          subst (IsFront text) (sym is)
          (stands c rest (digits_of text) (past_digits text) (Number (pos (value 10 (digits_of text)))) (length (digits_of text)) (sym (cut is_ascii_digit text)) refl
          (decimal_token text some small) (digit_clear c rest h) (digit_sound c rest (Spelled (Number (pos (value 10 (digits_of text)))) (length (digits_of text))) h is) (decimal_longest c rest h nb))
      | inr large ↦ subst (IsFront text) (sym (number_large text nb nf large)) (large_decimal some nb nf large)
    ]

based_front' : (c : ℕ) (rest after : List ℕ) → is_ascii_digit c ≡ true → past_digits (c ∷ rest) ≡ 95 ∷ after → IsFront (c ∷ rest) (number_at (c ∷ rest))
based_front' c rest after h p =
    let text = c ∷ rest in
    let some = digits_some c rest h in
    let base = value 10 (digits_of text) in
    let digits = take_while is_ascii_hexdigit after in
    elim (cases_Bool (is_well_based base digits)) [
      | inl well ↦ elim (cases_lt (value base digits) (2 ^ 64)) [
        | inl small ↦
            let is = number_based text after p well small in
            let whole = based_front text after p in
            subst (IsFront text) (sym is)
            (stands c rest (digits_of text ++ 95 ∷ digits) whole.0 (Number (signed_of (value base digits))) (length (digits_of text) + 1 + length digits) whole.1
            (omega (arith, length-append (digits_of text) (95 ∷ digits)))
            (based_token text after p well small) (digit_clear c rest h)
            (digit_sound c rest (Spelled (Number (signed_of (value base digits))) (length (digits_of text) + 1 + length digits)) h is) (based_longest c rest after h p))
        | inr large ↦ subst (IsFront text) (sym (number_large_based text after p well large)) (large_based after some p well large)
      ]
      | inr bad ↦ subst (IsFront text) (sym (number_bad_base text after p bad)) (bad_base after some p bad)
    ]

pub number_front : (c : ℕ) (rest : List ℕ) → is_ascii_digit c ≡ true → IsFront (c ∷ rest) (number_at (c ∷ rest))
number_front c rest h =
    let text = c ∷ rest in
    elim (cases_Bool (begins_base (past_digits text))) [
      | inl b ↦ let after = base_is (past_digits text) b in based_front' c rest after.0 h after.1
      | inr nb ↦ elim (cases_Bool (begins_fraction (past_digits text))) [
        | inl fraction ↦ subst (IsFront text) (sym (number_real text fraction)) (real_literal (digits_some c rest h) fraction)
        | inr nf ↦ decimal_front c rest h nb nf
      ]
    ]

-- ---- character literals

spelled_len : (k l : TokenKind) (m n : ℕ) (r : Result Front ℕ) → r ≡ Ok (Spelled k m) → r ≡ Ok (Spelled l n) → m ≡ n
spelled_len k l m n r a b = cc

character_good : (rest piece more : List ℕ) (b : ℕ) → rest ≡ piece ++ 39 ∷ more → spelled 39 piece ≡ Some b → character_at rest ≡ Ok (Spelled (CharLit b) (length piece + 2))
character_good rest piece more b e h = ap character_at e ∙ character_only piece more b h

-- what stands before the closing mark
inner_is : (k : ℕ) (rest f piece more : List ℕ) → k ∷ rest ≡ (k ∷ f) ++ more → k ∷ f ≡ k ∷ piece ++ k ∷ [] → rest ≡ piece ++ k ∷ more
inner_is k rest f piece more e is =
    tails k rest (f ++ more) e ∙ ap (λ (l : List ℕ). l ++ more) (tails k f (piece ++ k ∷ []) is) ∙ append_assoc piece (k ∷ []) more

character_longest : (rest piece more : List ℕ) (b : ℕ) → rest ≡ piece ++ 39 ∷ more → spelled 39 piece ≡ Some b → Longest 39 rest (length piece + 2)
character_longest rest piece more b e h f more' Ident e' t same = absurd (omega arith)
character_longest rest piece more b e h f more' (Keyword w) e' t same = absurd (omega arith)
character_longest rest piece more b e h f more' (Number v) e' t same = absurd (omega arith)
character_longest rest piece more b e h f more' (CharLit b') e' t same =
    let is = inner_is 39 rest f t.0 more' e' t.1 in
    let size : length t.0 + 2 ≡ length piece + 2 = spelled_len (CharLit b') (CharLit b) (length t.0 + 2) (length piece + 2) (character_at rest) (character_good rest t.0 more' b' is t.2) (character_good rest piece more b e h) in
    let len : length (39 ∷ f) ≡ length (39 ∷ t.0) + 1 = ap length t.1 ∙ length-append (39 ∷ t.0) (39 ∷ []) in
    omega (arith, size, len)
character_longest rest piece more b e h f more' TextLit e' t same = absurd (omega arith)
character_longest rest piece more b e h f more' (Symbol s) e' t same = absurd (omega arith)

character_stands : (rest piece more : List ℕ) (b : ℕ) → rest ≡ piece ++ 39 ∷ more → spelled 39 piece ≡ Some b → IsFront (39 ∷ rest) (character_at rest)
character_stands rest piece more b e h =
    let is = character_good rest piece more b e h in
    subst (IsFront (39 ∷ rest)) (sym is)
    (stands 39 rest (39 ∷ piece ++ 39 ∷ []) more (CharLit b) (length piece + 2) (ap (λ (l : List ℕ). 39 ∷ l) e ∙ sym (append_assoc (39 ∷ piece) (39 ∷ []) more))
    (omega (arith, length-append (39 ∷ piece) (39 ∷ []))) (piece, refl, h) (record { ink = refl; uncommented = refl; unpragmaed = refl })
    (record { text = λ q rule _. absurd (omega arith); character = λ _ rule bad. ok_err (Spelled (CharLit b) (length piece + 2)) rule (character_at rest) is bad; number = λ d rule _. false≢true d })
    (character_longest rest piece more b e h))

character_bad : (rest : List ℕ) → character_at rest ≡ Err 6 → ((after : List ℕ) → rest ≡ 92 ∷ after → BeginsEscape after) → IsFront (39 ∷ rest) (character_at rest)
character_bad rest is escapes =
    subst (IsFront (39 ∷ rest)) (sym is)
    (bad_character rest refl escapes (λ piece more e. none_some (spelled 39 piece) (λ some.
    let x = some_from (spelled 39 piece) some in
    ok_err (Spelled (CharLit x.0) (length piece + 2)) 6 (character_at rest) (character_good rest piece more x.0 e x.1) is)))

begins_some : (text e more : List ℕ) (b : ℕ) → text ≡ e ++ more → escaped e ≡ Some b → escape_at text ≡ Some (b, length e)
begins_some text e more b is h = ap escape_at is ∙ escape_only e more b h

escape_front : (rest : List ℕ) (o : Option (ℕ × ℕ)) → escape_at rest ≡ o → IsFront (39 ∷ 92 ∷ rest) (character_at (92 ∷ rest))
unfolding character_at
escape_front rest None e =
    let is : character_at (92 ∷ rest) ≡ Err 5 = ap (λ (o : Option (ℕ × ℕ)). closed_character o rest) e in
    subst (IsFront (39 ∷ 92 ∷ rest)) (sym is) (bad_character_escape rest refl (λ b.
    let x = some_from (escaped b.0) b.3 in
    let bad : None ≡ Some (x.0, length b.0) = sym e ∙ begins_some rest b.0 b.1 x.0 b.2 x.1 in
    absurd cc))
escape_front rest (Some x) e =
    let found = escape_found rest x e in
    let parts : rest ≡ take x.1 rest ++ drop x.1 rest = sym (take-append-drop x.1 rest) in
    elim (cases_Bool (begins 39 (drop x.1 rest))) [
      | inl closed ↦
          let ends = begins_is 39 (drop x.1 rest) closed in
          character_stands (92 ∷ rest) (92 ∷ take x.1 rest) ends.0 x.0 (ap (λ (l : List ℕ). 92 ∷ l) (parts ∙ ap (λ (l : List ℕ). take x.1 rest ++ l) ends.1)) found.0
      | inr unclosed ↦
          let is : character_at (92 ∷ rest) ≡ Err 6 = ap (λ (o : Option (ℕ × ℕ)). closed_character o rest) e ∙ cond-false (begins 39 (drop x.1 rest)) _ _ unclosed in
          character_bad (92 ∷ rest) is (λ after same. subst BeginsEscape (tails 92 rest after same) (take x.1 rest, drop x.1 rest, parts, ap (λ (o : Option ℕ). is_some o) found.0))
    ]

plain_front : (c : ℕ) (rest : List ℕ) → (c == 92) ≡ false → IsFront (39 ∷ c ∷ rest) (character_at (c ∷ rest))
unfolding character_at
plain_front c rest other =
    elim (cases_Bool (is_plain 39 c && begins 39 rest)) [
      | inl good ↦
          let parts = and_parts (is_plain 39 c) (begins 39 rest) good in
          let ends = begins_is 39 rest parts.1 in
          let is : spelled 39 (c ∷ []) ≡ Some c = cond-false (c == 92) _ _ other ∙ cond-true (is_plain 39 c && true) _ _ (and_from (is_plain 39 c) true parts.0 refl) in
          character_stands (c ∷ rest) (c ∷ []) ends.0 c (ap (λ (l : List ℕ). c ∷ l) ends.1) is
      | inr bad ↦
          let is : character_at (c ∷ rest) ≡ Err 6 = cond-false (c == 92) _ _ other ∙ cond-false (is_plain 39 c && begins 39 rest) _ _ bad in
          character_bad (c ∷ rest) is (λ after same. let k : c ≡ 92 = cc in absurd (eqb-false c 92 other k))
    ]

pub character_front : (rest : List ℕ) → IsFront (39 ∷ rest) (character_at rest)
unfolding character_at
character_front [] = character_bad [] refl (λ after same. absurd cc)
character_front (c ∷ rest) =
    elim (cases_Bool (c == 92)) [
      | inl back ↦ subst (λ (k : ℕ). IsFront (39 ∷ k ∷ rest) (character_at (k ∷ rest))) (sym (eqb-true c 92 back)) (escape_front rest (escape_at rest) refl)
      | inr other ↦ plain_front c rest other
    ]

-- ---- text literals

text_good_at : (rest body more : List ℕ) → rest ≡ body ++ 34 ∷ more → IsTextBody body → text_at rest ≡ Ok (Spelled TextLit (length body + 2))
text_good_at rest body more e t = ap text_at e ∙ text_only body more t

text_longest : (rest body more : List ℕ) → rest ≡ body ++ 34 ∷ more → IsTextBody body → Longest 34 rest (length body + 2)
text_longest rest body more e h f more' Ident e' t same = absurd (omega arith)
text_longest rest body more e h f more' (Keyword w) e' t same = absurd (omega arith)
text_longest rest body more e h f more' (Number v) e' t same = absurd (omega arith)
text_longest rest body more e h f more' (CharLit b') e' t same = absurd (omega arith)
text_longest rest body more e h f more' TextLit e' t same =
    let is = inner_is 34 rest f t.0 more' e' t.1 in
    let size : length t.0 + 2 ≡ length body + 2 = spelled_len TextLit TextLit (length t.0 + 2) (length body + 2) (text_at rest) (text_good_at rest t.0 more' is t.2) (text_good_at rest body more e h) in
    let len : length (34 ∷ f) ≡ length (34 ∷ t.0) + 1 = ap length t.1 ∙ length-append (34 ∷ t.0) (34 ∷ []) in
    omega (arith, size, len)
text_longest rest body more e h f more' (Symbol s) e' t same = absurd (omega arith)

text_stands : (rest body more : List ℕ) → rest ≡ body ++ 34 ∷ more → IsTextBody body → IsFront (34 ∷ rest) (text_at rest)
text_stands rest body more e h =
    let is = text_good_at rest body more e h in
    subst (IsFront (34 ∷ rest)) (sym is)
    (stands 34 rest (34 ∷ body ++ 34 ∷ []) more TextLit (length body + 2) (ap (λ (l : List ℕ). 34 ∷ l) e ∙ sym (append_assoc (34 ∷ body) (34 ∷ []) more))
    (omega (arith, length-append (34 ∷ body) (34 ∷ []))) (body, refl, h) (record { ink = refl; uncommented = refl; unpragmaed = refl })
    (record { text = λ _ rule bad. ok_err (Spelled TextLit (length body + 2)) rule (text_at rest) is bad; character = λ q rule _. absurd (omega arith); number = λ d rule _. false≢true d })
    (text_longest rest body more e h))

bodied_front : (rest : List ℕ) (n : ℕ) → body_len rest ≡ Some n → Bodied rest n → IsFront (34 ∷ rest) (text_at rest)
unfolding text_at
bodied_front rest n e b =
    let front : take n rest ≡ b.body = ap (λ (l : List ℕ). take n l) b.parts ∙ take_at b.body (34 ∷ b.more) n (sym b.size) in
    elim (cases_Bool (is_well_escaped b.body)) [
      | inl good ↦ text_stands rest b.body b.more b.parts (text_found b.body b.more b.rough good)
      | inr bad ↦
          let is : text_at rest ≡ Err 5 = ap (λ (o : Option ℕ). closed_text o rest) e ∙ cond-false (is_well_escaped (take n rest)) _ _ (ap is_well_escaped front ∙ bad) in
          subst (IsFront (34 ∷ rest)) (sym is) (bad_escape b.body b.more (ap (λ (l : List ℕ). 34 ∷ l) b.parts) b.rough (λ t. both_ways (is_well_escaped b.body) bad (text_good b.body t)))
    ]

text_found_front : (rest : List ℕ) (o : Option ℕ) → body_len rest ≡ o → IsFront (34 ∷ rest) (text_at rest)
unfolding text_at
text_found_front rest None e =
    let is : text_at rest ≡ Err 4 = ap (λ (o : Option ℕ). closed_text o rest) e in
    subst (IsFront (34 ∷ rest)) (sym is) (open_text rest refl (λ body more parts rough.
    let bad : None ≡ Some (length body) = sym e ∙ ap body_len parts ∙ body_only body more rough in
    absurd cc))
text_found_front rest (Some n) e = bodied_front rest n e (body_found rest n e)

pub text_front : (rest : List ℕ) → IsFront (34 ∷ rest) (text_at rest)
text_front rest = text_found_front rest (body_len rest) refl

-- ---- signs

-- a byte that is neither white space nor begins a name, a literal, a comment or a pragma
pub record Plain (c : ℕ) (rest : List ℕ) : Type 0 where
  pub clear : Clear c rest
  pub letter : is_ascii_alphabetic c ≡ false
  pub digit : is_ascii_digit c ≡ false
  pub mark : eqb c 39 ≡ false
  pub quote : eqb c 34 ≡ false

plain_class : (c : ℕ) (rest : List ℕ) → Plain c rest → class_of c ≡ 5
plain_class c rest p = rw (p.clear.ink, p.letter, p.digit, p.mark, p.quote) refl

sign_longest : (c : ℕ) (rest : List ℕ) (x : Sign × ℕ) → class_of c ≡ 5 → sign_at c rest ≡ Some x → Longest c rest x.1
sign_longest c rest x five found f more Ident e t same = absurd (omega (arith, five, same))
sign_longest c rest x five found f more (Keyword w) e t same = absurd (omega (arith, five, same))
sign_longest c rest x five found f more (Number v) e t same = absurd (omega (arith, five, same))
sign_longest c rest x five found f more (CharLit b) e t same = absurd (omega (arith, five, same))
sign_longest c rest x five found f more TextLit e t same = absurd (omega (arith, five, same))
sign_longest c rest x five found f more (Symbol s) e t same = sign_bound s c rest f more x t e found

pub sign_front : (c : ℕ) (rest : List ℕ) (s : Sign) (n : ℕ) → Plain c rest → sign_at c rest ≡ Some (s, n) → IsFront (c ∷ rest) (Ok (Spelled (Symbol s) n))
sign_front c rest s n p found =
    let is = sign_found c rest (s, n) found in
    stands c rest (text_of_sign s) is.more (Symbol s) n is.parts is.size refl p.clear
    (record { text = λ q rule _. eqb-false c 34 p.quote q; character = λ q rule _. eqb-false c 39 p.mark q; number = λ d rule _. both_ways (is_ascii_digit c) p.digit d })
    (sign_longest c rest (s, n) (plain_class c rest p) found)

no_token : (c : ℕ) (rest front : List ℕ) (kind : TokenKind) → class_of c ≡ 5 → sign_at c rest ≡ None → IsToken (c ∷ front) kind → class_of c ≡ class_of_kind kind → ⊥
no_token c rest front Ident five none t same = absurd (omega (arith, five, same))
no_token c rest front (Keyword w) five none t same = absurd (omega (arith, five, same))
no_token c rest front (Number v) five none t same = absurd (omega (arith, five, same))
no_token c rest front (CharLit b) five none t same = absurd (omega (arith, five, same))
no_token c rest front TextLit five none t same = absurd (omega (arith, five, same))
no_token c rest front (Symbol s) five none t same =
    let some = (sign_head s c front t).1 rest in
    false≢true (sym (ap (λ (o : Option (Sign × ℕ)). is_some o) none) ∙ some)

pub bad_front : (c : ℕ) (rest : List ℕ) → Plain c rest → sign_at c rest ≡ None → IsFront (c ∷ rest) (Err 1)
bad_front c rest p none = bad_byte c rest refl p.clear.ink (λ front kind t. no_token c rest front kind (plain_class c rest p) none t (token_class c front kind t))
