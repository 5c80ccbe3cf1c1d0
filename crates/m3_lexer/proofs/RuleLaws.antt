-- At a place one rule at most is broken, and none where something is skipped.
use Rattle.std.proofs.Common.{◌≡◌, ℕ, pos, ◌+◌, ◌<◌, true, false, ◌&&◌, eqb, cond, List, [], ◌∷◌, ◌++◌, length, take, drop, None, Result, Ok, Err, refl, sym, ap, subst, ◌∙◌, inl, arith}
use Rattle.std.specs.Prelude.{nat_lt}
use Rattle.std.specs.Char.{digit_value, is_ascii_digit}
use Rattle.std.proofs.lemmas.Bool.{agree_below_at, both_ways, false_from_ne_true, eqb-true, ne_eqb, cond-true, cond-false, and_parts, and_from, ltb-true}
use Rattle.m3_syntax.specs.declared.tokens.Sign.TheVariants.{OpenParen, Less}
use Rattle.m3_syntax.specs.declared.tokens.TokenKind.{TokenKind}
use Rattle.m3_syntax.specs.declared.tokens.TokenKind.TheVariants.{Number, CharLit, TextLit, Symbol}
use Rattle.m3_syntax.specs.Lexis.{is_blank, value, IsToken, IsSkip, blank, comment, pragma, Breaks, bad_byte, open_comment, open_pragma, open_text, bad_escape, bad_character_escape, bad_character, large_decimal, large_based, bad_base, real_literal, Closes}
use Rattle.m3_lexer.specs.declared.fronts.Front.{Front}
use Rattle.m3_lexer.specs.declared.fronts.Front.TheVariants.{Skipped}
use Rattle.m3_lexer.specs.Reading.{begins, closed_len, skipped_at, character_at, text_at, number_at}
use Rattle.m3_lexer.proofs.Heads.{digit_small, digit_not_blank}
use Rattle.m3_lexer.proofs.MarkLaws.{closed_found, closed_only}
use Rattle.m3_lexer.proofs.CharacterLaws.{character_escape, character_other, none_some, some_from}
use Rattle.m3_lexer.proofs.TextLaws.{text_open, text_bad}
use Rattle.m3_lexer.proofs.NumberLaws.{number_large, number_large_based, number_bad_base, number_real}
use Rattle.m3_lexer.proofs.StandsLaws.{heads, first_digit}
use Rattle.std.proofs.lemmas.List.{take-append-drop}

-- what is read where a rule may be broken
reading : ℕ → List ℕ → Result Front ℕ
reading c rest =
    cond (eqb c 34) (text_at rest) (cond (eqb c 39) (character_at rest) (cond (is_ascii_digit c) (number_at (c ∷ rest))
    (cond (eqb c 40 && begins 42 rest) (skipped_at 2 (closed_len 40 41 1 (drop 1 rest)))
    (cond (eqb c 60 && begins 42 rest) (skipped_at 3 (closed_len 60 62 1 (drop 1 rest))) (Err 1)))))

digit_token : (c : ℕ) → is_ascii_digit c ≡ true → IsToken (c ∷ []) (Number (pos (value 10 (c ∷ []))))
digit_token c h =
    let agree = agree_below_at (λ b. cond (is_ascii_digit b) (nat_lt (digit_value b) 10) true) (λ _. true) 256 c refl (digit_small c h) in
    let below : digit_value c < 10 = ltb-true (digit_value c) 10 (sym (cond-true (is_ascii_digit c) (nat_lt (digit_value c) 10) true h) ∙ agree) in
    inl (record { some = λ e. absurd cc; digits = and_from (is_ascii_digit c) true h refl; small = omega arith; is = refl })

NoToken : ℕ → Type 0
NoToken c = (front : List ℕ) (kind : TokenKind) → IsToken (c ∷ front) kind → ⊥

-- a byte that begins no token
bad_reads : (c : ℕ) (rest : List ℕ) → NoToken c → reading c rest ≡ Err 1
unfolding reading NoToken
bad_reads c rest none =
    let quote : eqb c 34 ≡ false = ne_eqb c 34 (λ e. subst NoToken e none (34 ∷ []) TextLit ([], refl, ([], refl, refl))) in
    let mark : eqb c 39 ≡ false = ne_eqb c 39 (λ e. subst NoToken e none (97 ∷ 39 ∷ []) (CharLit 97) (97 ∷ [], refl, refl)) in
    let digit : is_ascii_digit c ≡ false = false_from_ne_true (is_ascii_digit c) (λ h. none [] (Number (pos (value 10 (c ∷ [])))) (digit_token c h)) in
    let paren : (eqb c 40 && begins 42 rest) ≡ false = false_from_ne_true (eqb c 40 && begins 42 rest) (λ h. subst NoToken (eqb-true c 40 (and_parts (eqb c 40) (begins 42 rest) h).0) none [] (Symbol OpenParen) refl) in
    let angle : (eqb c 60 && begins 42 rest) ≡ false = false_from_ne_true (eqb c 60 && begins 42 rest) (λ h. subst NoToken (eqb-true c 60 (and_parts (eqb c 60) (begins 42 rest) h).0) none [] (Symbol Less) refl) in
    cond-false (eqb c 34) _ _ quote ∙ cond-false (eqb c 39) _ _ mark ∙ cond-false (is_ascii_digit c) _ _ digit
    ∙ cond-false (eqb c 40 && begins 42 rest) _ _ paren ∙ cond-false (eqb c 60 && begins 42 rest) _ _ angle

-- an opening mark that nothing closes
unclosed : (left right : ℕ) (inner : List ℕ) → ((front more : List ℕ) → inner ≡ front ++ more → Closes left right 1 front → ⊥) → closed_len left right 1 inner ≡ None
unclosed left right inner none =
    none_some (closed_len left right 1 inner) (λ some.
    let x = some_from (closed_len left right 1 inner) some in
    none (take x.0 inner) (drop x.0 inner) (sym (take-append-drop x.0 inner)) (closed_found left right 1 inner x.0 x.1).0)

number_reads : (c : ℕ) (rest : List ℕ) (r : Result Front ℕ) → is_ascii_digit c ≡ true → number_at (c ∷ rest) ≡ r → reading c rest ≡ r
unfolding reading
number_reads c rest r h e =
    let quote : eqb c 34 ≡ false = ne_eqb c 34 (λ same. both_ways (is_ascii_digit 34) refl (ap is_ascii_digit (sym same) ∙ h)) in
    let mark : eqb c 39 ≡ false = ne_eqb c 39 (λ same. both_ways (is_ascii_digit 39) refl (ap is_ascii_digit (sym same) ∙ h)) in
    cond-false (eqb c 34) _ _ quote ∙ cond-false (eqb c 39) _ _ mark ∙ cond-true (is_ascii_digit c) _ _ h ∙ e

at_byte : (c k : ℕ) (rest after : List ℕ) (r : Result Front ℕ) → c ∷ rest ≡ k ∷ after → reading k after ≡ r → reading c rest ≡ r
at_byte c k rest after r e h =
    let parts = heads c k rest after e in
    ap (λ (b : ℕ). reading b rest) parts.0 ∙ ap (reading k) parts.1 ∙ h

broken_reads : (c : ℕ) (rest : List ℕ) (rule : ℕ) → Breaks (c ∷ rest) rule → reading c rest ≡ Err rule
unfolding reading NoToken
broken_reads c rest rule (bad_byte d after e h none) = at_byte c d rest after (Err 1) e (bad_reads d after none)
broken_reads c rest rule (open_comment after e none) = at_byte c 40 rest (42 ∷ after) (Err 2) e (ap (skipped_at 2) (unclosed 40 41 after none))
broken_reads c rest rule (open_pragma after e none) = at_byte c 60 rest (42 ∷ after) (Err 3) e (ap (skipped_at 3) (unclosed 60 62 after none))
broken_reads c rest rule (open_text after e none) = at_byte c 34 rest after (Err 4) e (text_open after none)
broken_reads c rest rule (bad_escape body more e rough none) = at_byte c 34 rest (body ++ 34 ∷ more) (Err 5) e (text_bad (body ++ 34 ∷ more) body more refl rough none)
broken_reads c rest rule (bad_character_escape after e none) = at_byte c 39 rest (92 ∷ after) (Err 5) e (character_escape (92 ∷ after) after refl none)
broken_reads c rest rule (bad_character after e escapes none) = at_byte c 39 rest after (Err 6) e (character_other after escapes none)
broken_reads c rest rule (large_decimal some b h large) = number_reads c rest (Err 7) (first_digit c rest some) (number_large (c ∷ rest) b h large)
broken_reads c rest rule (large_based after some e well large) = number_reads c rest (Err 7) (first_digit c rest some) (number_large_based (c ∷ rest) after e well large)
broken_reads c rest rule (bad_base after some e bad) = number_reads c rest (Err 8) (first_digit c rest some) (number_bad_base (c ∷ rest) after e bad)
broken_reads c rest rule (real_literal some h) = number_reads c rest (Err 9) (first_digit c rest some) (number_real (c ∷ rest) h)

pub breaks_some : (rule : ℕ) → Breaks [] rule → ⊥
breaks_some rule (bad_byte d after e h none) = absurd cc
breaks_some rule (open_comment after e none) = absurd cc
breaks_some rule (open_pragma after e none) = absurd cc
breaks_some rule (open_text after e none) = absurd cc
breaks_some rule (bad_escape body more e rough none) = absurd cc
breaks_some rule (bad_character_escape after e none) = absurd cc
breaks_some rule (bad_character after e escapes none) = absurd cc
breaks_some rule (large_decimal some b h large) = some refl
breaks_some rule (large_based after some e well large) = some refl
breaks_some rule (bad_base after some e bad) = some refl
breaks_some rule (real_literal some h) = some refl

same_rule : (r s : ℕ) (x : Result Front ℕ) → x ≡ Err r → x ≡ Err s → r ≡ s
same_rule r s x a b = cc

pub one_rule : (text : List ℕ) (r s : ℕ) → Breaks text r → Breaks text s → r ≡ s
one_rule [] r s a b = absurd (breaks_some r a)
one_rule (c ∷ rest) r s a b = same_rule r s (reading c rest) (broken_reads c rest r a) (broken_reads c rest s b)

-- ---- nothing is broken where something is skipped

skipped_err : (n rule : ℕ) (x : Result Front ℕ) → x ≡ Ok (Skipped n) → x ≡ Err rule → ⊥
skipped_err n rule x a b = absurd cc

not_blank : (c k : ℕ) (rest after : List ℕ) → is_blank c ≡ true → is_blank k ≡ false → c ∷ rest ≡ k ∷ after → ⊥
not_blank c k rest after h no' e = both_ways (is_blank c) (ap is_blank (heads c k rest after e).0 ∙ no') h

blank_sound : (c : ℕ) (rest : List ℕ) (rule : ℕ) → is_blank c ≡ true → Breaks (c ∷ rest) rule → ⊥
blank_sound c rest rule h (bad_byte d after e ink none) = not_blank c d rest after h ink e
blank_sound c rest rule h (open_comment after e none) = not_blank c 40 rest (42 ∷ after) h refl e
blank_sound c rest rule h (open_pragma after e none) = not_blank c 60 rest (42 ∷ after) h refl e
blank_sound c rest rule h (open_text after e none) = not_blank c 34 rest after h refl e
blank_sound c rest rule h (bad_escape body more e rough none) = not_blank c 34 rest (body ++ 34 ∷ more) h refl e
blank_sound c rest rule h (bad_character_escape after e none) = not_blank c 39 rest (92 ∷ after) h refl e
blank_sound c rest rule h (bad_character after e escapes none) = not_blank c 39 rest after h refl e
blank_sound c rest rule h (large_decimal some b f large) = both_ways (is_blank c) (digit_not_blank c (first_digit c rest some)) h
blank_sound c rest rule h (large_based after some e well large) = both_ways (is_blank c) (digit_not_blank c (first_digit c rest some)) h
blank_sound c rest rule h (bad_base after some e bad) = both_ways (is_blank c) (digit_not_blank c (first_digit c rest some)) h
blank_sound c rest rule h (real_literal some f) = both_ways (is_blank c) (digit_not_blank c (first_digit c rest some)) h

pub skip_sound : (text front more : List ℕ) (rule : ℕ) → text ≡ front ++ more → IsSkip front → Breaks text rule → ⊥
unfolding reading
skip_sound text front more rule e (blank c is h) b =
    blank_sound c more rule h (subst (λ (l : List ℕ). Breaks l rule) (e ∙ ap (λ (l : List ℕ). l ++ more) is) b)
skip_sound text front more rule e (comment inner is closes) b =
    let broken : Breaks (40 ∷ 42 ∷ inner ++ more) rule = subst (λ (l : List ℕ). Breaks l rule) (e ∙ ap (λ (l : List ℕ). l ++ more) is) b in
    let read : reading 40 (42 ∷ inner ++ more) ≡ Ok (Skipped (length inner + 2)) = ap (skipped_at 2) (closed_only 40 41 1 inner more closes) in
    skipped_err (length inner + 2) rule (reading 40 (42 ∷ inner ++ more)) read (broken_reads 40 (42 ∷ inner ++ more) rule broken)
skip_sound text front more rule e (pragma inner is closes) b =
    let broken : Breaks (60 ∷ 42 ∷ inner ++ more) rule = subst (λ (l : List ℕ). Breaks l rule) (e ∙ ap (λ (l : List ℕ). l ++ more) is) b in
    let read : reading 60 (42 ∷ inner ++ more) ≡ Ok (Skipped (length inner + 2)) = ap (skipped_at 3) (closed_only 60 62 1 inner more closes) in
    skipped_err (length inner + 2) rule (reading 60 (42 ∷ inner ++ more)) read (broken_reads 60 (42 ∷ inner ++ more) rule broken)
