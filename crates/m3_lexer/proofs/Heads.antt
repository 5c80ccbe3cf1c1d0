-- What tokens begin with: the first byte tells what kind of token it can be.
use Rattle.std.proofs.Common.{◌≡◌, ℕ, ◌<◌, ◌≤◌, Bool, true, false, cond, ◌&&◌, eqb, leb, List, [], ◌∷◌, ◌++◌, length, Some, refl, sym, ap, subst, inl, inr, arith, lit<}
use Rattle.std.specs.Prelude.{is_some}
use Rattle.std.specs.Int.{is_in_range}
use Rattle.std.specs.List.{list_all}
use Rattle.std.specs.Char.{is_ascii_digit, is_ascii_alphabetic}
use Rattle.std.proofs.lemmas.Bool.{agree_below_at, leb-true, and_parts, or_cases, cases_Bool, false≢true}
use Rattle.std.proofs.lemmas.List.Sums.{take_while-cons}
use Rattle.m3_syntax.specs.declared.tokens.Word.{Word}
use Rattle.m3_syntax.specs.declared.tokens.Word.TheVariants as words
use Rattle.m3_syntax.specs.declared.tokens.Sign.{Sign}
use Rattle.m3_syntax.specs.declared.tokens.Sign.TheVariants as signs
use Rattle.m3_syntax.specs.declared.tokens.TokenKind.{TokenKind}
use Rattle.m3_syntax.specs.declared.tokens.TokenKind.TheVariants.{Ident, Keyword, Number, CharLit, TextLit, Symbol}
use Rattle.m3_syntax.specs.Spellings.{text_of_word, text_of_sign}
use Rattle.m3_syntax.specs.Lexis.{is_blank, is_name, is_name_byte, value, digits_of, past_digits, is_well_based, IsToken}
use Rattle.m3_lexer.specs.Reading.{begins, sign_at}

-- ---- bytes by their classes

in_range : (low high c : ℕ) → is_in_range low high c ≡ true → (low ≤ c) × (c ≤ high)
in_range low high c h =
    let parts = and_parts (leb low c) (leb c high) h in
    (leb-true low c parts.0, leb-true c high parts.1)

-- two tests that share no byte below 256
pub apart : (f g : ℕ → Bool) (c : ℕ) → (λ (b : ℕ). f b && g b) c ≡ false → f c ≡ true → g c ≡ false
apart f g c h e = rw e at h

pub letter_small : (c : ℕ) → is_ascii_alphabetic c ≡ true → c < 256
letter_small c h =
    elim (or_cases (is_in_range 65 90 c) (is_in_range 97 122 c) h) [
      | inl e ↦ omega (arith, in_range 65 90 c e)
      | inr e ↦ omega (arith, in_range 97 122 c e)
    ]

pub digit_small : (c : ℕ) → is_ascii_digit c ≡ true → c < 256
digit_small c h = omega (arith, in_range 48 57 c h)

pub letter_not_blank : (c : ℕ) → is_ascii_alphabetic c ≡ true → is_blank c ≡ false
letter_not_blank c h = apart is_ascii_alphabetic is_blank c (agree_below_at (λ b. is_ascii_alphabetic b && is_blank b) (λ _. false) 256 c refl (letter_small c h)) h

pub digit_not_blank : (c : ℕ) → is_ascii_digit c ≡ true → is_blank c ≡ false
digit_not_blank c h = apart is_ascii_digit is_blank c (agree_below_at (λ b. is_ascii_digit b && is_blank b) (λ _. false) 256 c refl (digit_small c h)) h

pub digit_not_letter : (c : ℕ) → is_ascii_digit c ≡ true → is_ascii_alphabetic c ≡ false
digit_not_letter c h = apart is_ascii_digit is_ascii_alphabetic c (agree_below_at (λ b. is_ascii_digit b && is_ascii_alphabetic b) (λ _. false) 256 c refl (digit_small c h)) h

-- a byte's class: white space, letters, digits, the two marks of literals, and all others
abbrev pub class_of : ℕ → ℕ
class_of c =
    cond (is_blank c) 0 (cond (is_ascii_alphabetic c) 1 (cond (is_ascii_digit c) 2 (cond (eqb c 39) 3 (cond (eqb c 34) 4 5))))

pub letter_class : (c : ℕ) → is_ascii_alphabetic c ≡ true → class_of c ≡ 1
letter_class c h = rw (letter_not_blank c h, h) refl

pub digit_class : (c : ℕ) → is_ascii_digit c ≡ true → class_of c ≡ 2
digit_class c h = rw (digit_not_blank c h, digit_not_letter c h, h) refl

-- ---- tokens

abbrev pub class_of_kind : TokenKind → ℕ
class_of_kind Ident = 1
class_of_kind (Keyword w) = 1
class_of_kind (Number n) = 2
class_of_kind (CharLit b) = 3
class_of_kind TextLit = 4
class_of_kind (Symbol s) = 5

pub word_is_name : (w : Word) → is_name (text_of_word w) ≡ true
word_is_name words.And = refl
word_is_name words.Any = refl
word_is_name words.Array = refl
word_is_name words.As = refl
word_is_name words.Begin = refl
word_is_name words.Bits = refl
word_is_name words.Branded = refl
word_is_name words.By = refl
word_is_name words.Case = refl
word_is_name words.Const = refl
word_is_name words.Div = refl
word_is_name words.Do = refl
word_is_name words.Else = refl
word_is_name words.Elsif = refl
word_is_name words.End = refl
word_is_name words.Eval = refl
word_is_name words.Except = refl
word_is_name words.Exception = refl
word_is_name words.Exit = refl
word_is_name words.Exports = refl
word_is_name words.Finally = refl
word_is_name words.For = refl
word_is_name words.From = refl
word_is_name words.Generic = refl
word_is_name words.If = refl
word_is_name words.Import = refl
word_is_name words.In = refl
word_is_name words.Interface = refl
word_is_name words.Lock = refl
word_is_name words.Loop = refl
word_is_name words.Methods = refl
word_is_name words.Mod = refl
word_is_name words.Module = refl
word_is_name words.Not = refl
word_is_name words.Object = refl
word_is_name words.Of = refl
word_is_name words.Or = refl
word_is_name words.Overrides = refl
word_is_name words.Procedure = refl
word_is_name words.Raise = refl
word_is_name words.Raises = refl
word_is_name words.Readonly = refl
word_is_name words.Record = refl
word_is_name words.Ref = refl
word_is_name words.Repeat = refl
word_is_name words.Return = refl
word_is_name words.Reveal = refl
word_is_name words.Root = refl
word_is_name words.Set = refl
word_is_name words.Then = refl
word_is_name words.To = refl
word_is_name words.Try = refl
word_is_name words.Type = refl
word_is_name words.Typecase = refl
word_is_name words.Unsafe = refl
word_is_name words.Until = refl
word_is_name words.Untraced = refl
word_is_name words.Value = refl
word_is_name words.Var = refl
word_is_name words.While = refl
word_is_name words.With = refl

-- what holds of the first byte of a list
at_head : (P : ℕ → Type 0) (k c : ℕ) (rest front : List ℕ) → c ∷ front ≡ k ∷ rest → P k → P c
at_head P k c rest front e h = let head : k ≡ c = cc in subst P head h

either : (b : Bool) (x y : Sign × ℕ) → is_some (cond b (Some x) (Some y)) ≡ true
either true x y = refl
either false x y = refl

one_of_three : (a b : Bool) (x y z : Sign × ℕ) → is_some (cond a (Some x) (cond b (Some y) (Some z))) ≡ true
one_of_three true b x y z = refl
one_of_three false b x y z = either b y z

-- the first byte of a sign is of no other class, and a sign is found there
abbrev HeadsSign : ℕ → Type 0
HeadsSign c = (class_of c ≡ 5) × ((rest : List ℕ) → is_some (sign_at c rest) ≡ true)

pub sign_head : (s : Sign) (c : ℕ) (front : List ℕ) → c ∷ front ≡ text_of_sign s → HeadsSign c
sign_head signs.Plus c front e = at_head HeadsSign 43 c ([]) front e (refl, λ rest. refl)
sign_head signs.Minus c front e = at_head HeadsSign 45 c ([]) front e (refl, λ rest. refl)
sign_head signs.Star c front e = at_head HeadsSign 42 c ([]) front e (refl, λ rest. refl)
sign_head signs.Slash c front e = at_head HeadsSign 47 c ([]) front e (refl, λ rest. refl)
sign_head signs.Assign c front e = at_head HeadsSign 58 c (61 ∷ []) front e (refl, λ rest. either (begins 61 rest) (signs.Assign, 2) (signs.Colon, 1))
sign_head signs.Equal c front e = at_head HeadsSign 61 c ([]) front e (refl, λ rest. either (begins 62 rest) (signs.Arrow, 2) (signs.Equal, 1))
sign_head signs.Hash c front e = at_head HeadsSign 35 c ([]) front e (refl, λ rest. refl)
sign_head signs.Less c front e = at_head HeadsSign 60 c ([]) front e (refl, λ rest. one_of_three (begins 61 rest) (begins 58 rest) (signs.LessEqual, 2) (signs.Subtype, 2) (signs.Less, 1))
sign_head signs.LessEqual c front e = at_head HeadsSign 60 c (61 ∷ []) front e (refl, λ rest. one_of_three (begins 61 rest) (begins 58 rest) (signs.LessEqual, 2) (signs.Subtype, 2) (signs.Less, 1))
sign_head signs.Greater c front e = at_head HeadsSign 62 c ([]) front e (refl, λ rest. either (begins 61 rest) (signs.GreaterEqual, 2) (signs.Greater, 1))
sign_head signs.GreaterEqual c front e = at_head HeadsSign 62 c (61 ∷ []) front e (refl, λ rest. either (begins 61 rest) (signs.GreaterEqual, 2) (signs.Greater, 1))
sign_head signs.Ampersand c front e = at_head HeadsSign 38 c ([]) front e (refl, λ rest. refl)
sign_head signs.Caret c front e = at_head HeadsSign 94 c ([]) front e (refl, λ rest. refl)
sign_head signs.Dot c front e = at_head HeadsSign 46 c ([]) front e (refl, λ rest. either (begins 46 rest) (signs.DotDot, 2) (signs.Dot, 1))
sign_head signs.DotDot c front e = at_head HeadsSign 46 c (46 ∷ []) front e (refl, λ rest. either (begins 46 rest) (signs.DotDot, 2) (signs.Dot, 1))
sign_head signs.Comma c front e = at_head HeadsSign 44 c ([]) front e (refl, λ rest. refl)
sign_head signs.Semicolon c front e = at_head HeadsSign 59 c ([]) front e (refl, λ rest. refl)
sign_head signs.Colon c front e = at_head HeadsSign 58 c ([]) front e (refl, λ rest. either (begins 61 rest) (signs.Assign, 2) (signs.Colon, 1))
sign_head signs.Bar c front e = at_head HeadsSign 124 c ([]) front e (refl, λ rest. refl)
sign_head signs.Arrow c front e = at_head HeadsSign 61 c (62 ∷ []) front e (refl, λ rest. either (begins 62 rest) (signs.Arrow, 2) (signs.Equal, 1))
sign_head signs.Subtype c front e = at_head HeadsSign 60 c (58 ∷ []) front e (refl, λ rest. one_of_three (begins 61 rest) (begins 58 rest) (signs.LessEqual, 2) (signs.Subtype, 2) (signs.Less, 1))
sign_head signs.OpenParen c front e = at_head HeadsSign 40 c ([]) front e (refl, λ rest. refl)
sign_head signs.CloseParen c front e = at_head HeadsSign 41 c ([]) front e (refl, λ rest. refl)
sign_head signs.OpenBracket c front e = at_head HeadsSign 91 c ([]) front e (refl, λ rest. refl)
sign_head signs.CloseBracket c front e = at_head HeadsSign 93 c ([]) front e (refl, λ rest. refl)
sign_head signs.OpenBrace c front e = at_head HeadsSign 123 c ([]) front e (refl, λ rest. refl)
sign_head signs.CloseBrace c front e = at_head HeadsSign 125 c ([]) front e (refl, λ rest. refl)

name_head : (c : ℕ) (front : List ℕ) → is_name (c ∷ front) ≡ true → class_of c ≡ 1
name_head c front h = letter_class c (and_parts (is_ascii_alphabetic c) (list_all is_name_byte front) h).0

number_head : (c : ℕ) (front digits : List ℕ) → past_digits (c ∷ front) ≡ 95 ∷ digits → is_well_based (value 10 (digits_of (c ∷ front))) digits ≡ true → class_of c ≡ 2
number_head c front digits parts well =
    elim (cases_Bool (is_ascii_digit c)) [
      | inl yes' ↦ digit_class c yes'
      | inr nope ↦
          let none : digits_of (c ∷ front) ≡ [] = rw (take_while-cons is_ascii_digit c front, nope) refl in
          let bad : is_well_based (value 10 []) digits ≡ true = rw none at well in
          absurd (false≢true bad)
    ]

-- the first byte of a token tells its kind
pub token_class : (c : ℕ) (front : List ℕ) (kind : TokenKind) → IsToken (c ∷ front) kind → class_of c ≡ class_of_kind kind
token_class c front Ident t = name_head c front t.0
token_class c front (Keyword w) t = name_head c front (subst (λ (f : List ℕ). is_name f ≡ true) (sym t) (word_is_name w))
token_class c front (Number n) (inl d) = digit_class c (and_parts (is_ascii_digit c) (list_all is_ascii_digit front) d.digits).0
token_class c front (Number n) (inr b) = number_head c front b.digits b.parts b.well
token_class c front (CharLit b) t = at_head (λ (k : ℕ). class_of k ≡ 3) 39 c (t.0 ++ 39 ∷ []) front t.1 refl
token_class c front TextLit t = at_head (λ (k : ℕ). class_of k ≡ 4) 34 c (t.0 ++ 34 ∷ []) front t.1 refl
token_class c front (Symbol s) t = (sign_head s c front t).0

sign_length : (s : Sign) → 0 < length (text_of_sign s)
sign_length signs.Plus = lit< tt
sign_length signs.Minus = lit< tt
sign_length signs.Star = lit< tt
sign_length signs.Slash = lit< tt
sign_length signs.Assign = lit< tt
sign_length signs.Equal = lit< tt
sign_length signs.Hash = lit< tt
sign_length signs.Less = lit< tt
sign_length signs.LessEqual = lit< tt
sign_length signs.Greater = lit< tt
sign_length signs.GreaterEqual = lit< tt
sign_length signs.Ampersand = lit< tt
sign_length signs.Caret = lit< tt
sign_length signs.Dot = lit< tt
sign_length signs.DotDot = lit< tt
sign_length signs.Comma = lit< tt
sign_length signs.Semicolon = lit< tt
sign_length signs.Colon = lit< tt
sign_length signs.Bar = lit< tt
sign_length signs.Arrow = lit< tt
sign_length signs.Subtype = lit< tt
sign_length signs.OpenParen = lit< tt
sign_length signs.CloseParen = lit< tt
sign_length signs.OpenBracket = lit< tt
sign_length signs.CloseBracket = lit< tt
sign_length signs.OpenBrace = lit< tt
sign_length signs.CloseBrace = lit< tt

-- no token is empty
pub token_some : (kind : TokenKind) → IsToken [] kind → ⊥
token_some Ident t = false≢true t.0
token_some (Keyword w) t = false≢true (subst (λ (f : List ℕ). is_name f ≡ true) (sym t) (word_is_name w))
token_some (Number n) (inl d) = d.some refl
token_some (Number n) (inr b) = let e : past_digits [] ≡ 95 ∷ b.digits = b.parts in absurd cc
token_some (CharLit b) t = absurd cc
token_some TextLit t = absurd cc
token_some (Symbol s) t = let some = sign_length s in let none : length (text_of_sign s) ≡ 0 = ap length (sym t) in absurd (omega arith)
