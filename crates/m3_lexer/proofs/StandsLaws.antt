-- What stands at the beginning of a text, from what is read there.
use Rattle.std.proofs.Common.{◌≡◌, ℕ, ◌+◌, ◌≤◌, true, false, ◌&&◌, List, [], ◌∷◌, ◌++◌, length, take, Ok, Err, refl, sym, ap, subst, ◌∙◌, inl, inr, arith}
use Rattle.std.specs.Prelude.{◌==◌, ◌≢◌}
use Rattle.std.specs.Char.{is_ascii_digit}
use Rattle.std.proofs.lemmas.Bool.{cases_Bool, eq-eqb, both_ways}
use Rattle.std.proofs.lemmas.List.{take_at, length-append}
use Rattle.std.proofs.lemmas.List.Sums.{take_while-cons}
use Rattle.m3_syntax.specs.declared.tokens.TokenKind.{TokenKind}
use Rattle.m3_syntax.specs.Lexis.{is_blank, digits_of, IsSkip, blank, comment, pragma, IsToken, Breaks, bad_byte, open_comment, open_pragma, open_text, bad_escape, bad_character_escape, bad_character, large_decimal, large_based, bad_base, real_literal}
use Rattle.m3_lexer.specs.declared.fronts.Front.TheVariants.{Spelled}
use Rattle.m3_lexer.specs.Reading.{begins, character_at, text_at, number_at}
use Rattle.m3_lexer.specs.Fronts.{IsFront}
use Rattle.m3_lexer.proofs.Heads.{class_of, class_of_kind, token_class, token_some}
use Rattle.m3_lexer.proofs.CharacterLaws.{character_escape, character_other}
use Rattle.m3_lexer.proofs.TextLaws.{text_open, text_bad}
use Rattle.m3_lexer.proofs.NumberLaws.{number_large, number_large_based, number_bad_base, number_real}

-- neither white space nor an opening mark of what is skipped
pub record Clear (c : ℕ) (rest : List ℕ) : Type 0 where
  pub ink : is_blank c ≡ false
  pub uncommented : ((c == 40) && begins 42 rest) ≡ false
  pub unpragmaed : ((c == 60) && begins 42 rest) ≡ false

-- no rule of literals is broken
pub record Sound (c : ℕ) (rest : List ℕ) : Type 0 where
  pub text : c ≡ 34 → (rule : ℕ) → text_at rest ≡ Err rule → ⊥
  pub character : c ≡ 39 → (rule : ℕ) → character_at rest ≡ Err rule → ⊥
  pub number : is_ascii_digit c ≡ true → (rule : ℕ) → number_at (c ∷ rest) ≡ Err rule → ⊥

pub heads : (a b : ℕ) (xs ys : List ℕ) → a ∷ xs ≡ b ∷ ys → (a ≡ b) × (xs ≡ ys)
heads a b xs ys e = (cc, cc)

no_mark : (c k : ℕ) (rest after : List ℕ) → ((c == k) && begins 42 rest) ≡ false → c ∷ rest ≡ k ∷ 42 ∷ after → ⊥
no_mark c k rest after h e =
    let parts = heads c k rest (42 ∷ after) e in
    let yes' : ((c == k) && begins 42 rest) ≡ true = rw (eq-eqb c k parts.0, parts.1) refl in
    both_ways ((c == k) && begins 42 rest) h yes'

-- nothing is skipped there
pub unskipped : (c : ℕ) (rest other more : List ℕ) → Clear c rest → c ∷ rest ≡ other ++ more → IsSkip other → ⊥
unskipped c rest other more clear e (blank d is h) =
    let parts = heads c d rest more (e ∙ ap (λ (l : List ℕ). l ++ more) is) in
    both_ways (is_blank c) clear.ink (ap is_blank parts.0 ∙ h)
unskipped c rest other more clear e (comment inner is h) = no_mark c 40 rest (inner ++ more) clear.uncommented (e ∙ ap (λ (l : List ℕ). l ++ more) is)
unskipped c rest other more clear e (pragma inner is h) = no_mark c 60 rest (inner ++ more) clear.unpragmaed (e ∙ ap (λ (l : List ℕ). l ++ more) is)

-- a text that begins with digits begins with one
pub first_digit : (c : ℕ) (rest : List ℕ) → digits_of (c ∷ rest) ≢ [] → is_ascii_digit c ≡ true
first_digit c rest some =
    elim (cases_Bool (is_ascii_digit c)) [
      | inl yes' ↦ yes'
      | inr nope ↦ let none : digits_of (c ∷ rest) ≡ [] = rw (take_while-cons is_ascii_digit c rest, nope) refl in absurd (some none)
    ]

-- no rule is broken where a token begins
pub unbroken : (c : ℕ) (rest f : List ℕ) (kind : TokenKind) (rule : ℕ) → Clear c rest → Sound c rest → IsToken (c ∷ f) kind → Breaks (c ∷ rest) rule → ⊥
unbroken c rest f kind rule clear sound token (bad_byte d after e h none) =
    none f kind (subst (λ (k : ℕ). IsToken (k ∷ f) kind) (heads c d rest after e).0 token)
unbroken c rest f kind rule clear sound token (open_comment after e none) = no_mark c 40 rest after clear.uncommented e
unbroken c rest f kind rule clear sound token (open_pragma after e none) = no_mark c 60 rest after clear.unpragmaed e
unbroken c rest f kind rule clear sound token (open_text after e none) =
    let parts = heads c 34 rest after e in
    sound.text parts.0 4 (text_open rest (λ body more is. none body more (sym parts.1 ∙ is)))
unbroken c rest f kind rule clear sound token (bad_escape body more e rough none) =
    let parts = heads c 34 rest (body ++ 34 ∷ more) e in
    sound.text parts.0 5 (text_bad rest body more parts.1 rough none)
unbroken c rest f kind rule clear sound token (bad_character_escape after e none) =
    let parts = heads c 39 rest (92 ∷ after) e in
    sound.character parts.0 5 (character_escape rest after parts.1 none)
unbroken c rest f kind rule clear sound token (bad_character after e escapes none) =
    let parts = heads c 39 rest after e in
    sound.character parts.0 6 (character_other rest (λ l is. escapes l (sym parts.1 ∙ is)) (λ piece more is. none piece more (sym parts.1 ∙ is)))
unbroken c rest f kind rule clear sound token (large_decimal some b h large) = sound.number (first_digit c rest some) 7 (number_large (c ∷ rest) b h large)
unbroken c rest f kind rule clear sound token (large_based after some e well large) = sound.number (first_digit c rest some) 7 (number_large_based (c ∷ rest) after e well large)
unbroken c rest f kind rule clear sound token (bad_base after some e bad) = sound.number (first_digit c rest some) 8 (number_bad_base (c ∷ rest) after e bad)
unbroken c rest f kind rule clear sound token (real_literal some h) = sound.number (first_digit c rest some) 9 (number_real (c ∷ rest) h)

-- no token of the same class is longer
abbrev pub Longest : ℕ → List ℕ → ℕ → Type 0
Longest c rest n = (f more : List ℕ) (kind : TokenKind) → c ∷ rest ≡ (c ∷ f) ++ more → IsToken (c ∷ f) kind → class_of c ≡ class_of_kind kind → length (c ∷ f) ≤ n

longest_of : (c : ℕ) (rest other more : List ℕ) (kind : TokenKind) (n : ℕ) → Longest c rest n → c ∷ rest ≡ other ++ more → IsToken other kind → length other ≤ n
longest_of c rest [] more kind n longest e t = omega arith
longest_of c rest (d ∷ f) more kind n longest e t =
    let parts = heads c d rest (f ++ more) e in
    let t' : IsToken (c ∷ f) kind = subst (λ (k : ℕ). IsToken (k ∷ f) kind) (sym parts.0) t in
    longest f more kind (ap (λ (l : List ℕ). c ∷ l) parts.1) t' (token_class c f kind t')

pub stands : (c : ℕ) (rest front more : List ℕ) (kind : TokenKind) (n : ℕ) → c ∷ rest ≡ front ++ more → n ≡ length front → IsToken front kind → Clear c rest → Sound c rest → Longest c rest n
    → IsFront (c ∷ rest) (Ok (Spelled kind n))
stands c rest [] more kind n e size token clear sound longest = absurd (token_some kind token)
stands c rest (d ∷ f) more kind n e size token clear sound longest =
    let parts = heads c d rest (f ++ more) e in
    let token' : IsToken (c ∷ f) kind = subst (λ (k : ℕ). IsToken (k ∷ f) kind) (sym parts.0) token in
    let is : take n (c ∷ rest) ≡ d ∷ f = ap (λ (l : List ℕ). take n l) e ∙ take_at (d ∷ f) more n (sym size) in
    let len : length (c ∷ rest) ≡ length (d ∷ f) + length more = ap length e ∙ length-append (d ∷ f) more in
    let same : length (take n (c ∷ rest)) ≡ n = ap length is ∙ sym size in (
      omega (arith, len, size),
      omega (arith, size),
      record {
        token = subst (λ (l : List ℕ). IsToken l kind) (sym is) token;
        longest = λ other more' k e' t. subst (λ (m : ℕ). length other ≤ m) (sym same) (longest_of c rest other more' k n longest e' t);
        unskipped = λ other more' e' s. unskipped c rest other more' clear e' s;
        unbroken = λ rule b. unbroken c rest f kind rule clear sound token' b;
      },
    )
