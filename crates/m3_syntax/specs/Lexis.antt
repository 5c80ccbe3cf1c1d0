-- The lexis of Modula-3 (the report, section 2.9): what is skipped, what a token is, which rule is
-- broken at a place, and the tokens of a whole text. A front is what stands at the beginning of a text.
use Rattle.std.specs.Prelude.{◌≡◌, ◌≢◌, ◌⊎◌, ◌+◌, ◌*◌, ◌^◌, ◌<◌, ◌≤◌, ℕ, zero, suc, ℤ, pos, Bool, true, false, ◌&&◌, ◌||◌, not, ◌==◌, nat_le, nat_lt, if◌then◌else◌, List, [], ◌∷◌, ◌++◌, length, drop, Option, Some, None, is_some}
use Rattle.std.specs.Bool.{MatchBool}
use Rattle.std.specs.List.{list_all, concat, take_while}
use Rattle.std.specs.Char.{digit_value, is_digit, is_ascii_digit, is_ascii_alphabetic, is_ascii_alphanumeric, is_ascii_hexdigit}
use Rattle.m3_base.specs.declared.places.Pos.{Pos}
use Rattle.m3_base.specs.declared.refusals.Refusal.{Refusal}
use Rattle.m3_base.specs.Words.{signed_of}
use Rattle.m3_syntax.specs.declared.tokens.Word.{Word}
use Rattle.m3_syntax.specs.declared.tokens.Token.{Token}
use Rattle.m3_syntax.specs.declared.tokens.TokenKind.{TokenKind}
use Rattle.m3_syntax.specs.declared.tokens.TokenKind.TheVariants.{Ident, Keyword, Number, CharLit, TextLit, Symbol}
use Rattle.m3_syntax.specs.Spellings.{text_of_word, text_of_sign}

-- ---- places

-- where a file begins
abbrev pub first_place : ℕ → Pos
first_place file = record { file = file; line = 1; col = 1 }

-- the place behind a byte: a line feed, and nothing else, ends a line
abbrev pub place_past : Pos → ℕ → Pos
place_past p c =
    if c == 10 then record { file = p.file; line = p.line + 1; col = 1 }
    else record { file = p.file; line = p.line; col = p.col + 1 }

-- the place behind a front
abbrev pub place_after : Pos → List ℕ → Pos
place_after p [] = p
place_after p (c ∷ front) = place_after (place_past p c) front

-- ---- bytes and numbers

-- white space
abbrev pub is_blank : ℕ → Bool
is_blank c = (nat_le 9 c && nat_le c 13) || (c == 32)

-- what may stand in an identifier, behind its first letter
abbrev pub is_name_byte : ℕ → Bool
is_name_byte c = is_ascii_alphanumeric c || (c == 95)

-- the number that digits write in a base, behind digits that write n
abbrev pub value_behind : ℕ → ℕ → List ℕ → ℕ
value_behind base n [] = n
value_behind base n (d ∷ digits) = value_behind base (n * base + digit_value d) digits

-- the number that digits write in a base
abbrev pub value : ℕ → List ℕ → ℕ
value base digits = value_behind base 0 digits

-- the decimal digits that a text begins with, as many as there are; and what stands behind them
abbrev pub digits_of : List ℕ → List ℕ
digits_of text = take_while is_ascii_digit text

abbrev pub past_digits : List ℕ → List ℕ
past_digits text = drop (length (digits_of text)) text

-- ---- what is skipped

-- What stands behind opening marks, n of which are open still, up to and with the mark that closes the
-- outermost. Nothing but the two marks counts. The opening one is the byte `left` and a star, the
-- closing one a star and the byte `right`.
abbrev pub Closes : ℕ → ℕ → ℕ → List ℕ → Type 0
Closes left right zero front = front ≡ []
Closes left right (suc n) [] = ⊥
Closes left right (suc n) (a ∷ []) = ⊥
Closes left right (suc n) (a ∷ b ∷ front) =
    MatchBool ((a == left) && (b == 42)) (Closes left right (suc (suc n)) front)
    (MatchBool ((a == 42) && (b == right)) (Closes left right n front)
    (Closes left right (suc n) (b ∷ front)))

-- a byte of white space, a comment or a pragma
pub data IsSkip (front : List ℕ) : Type 0 where
  blank : (c : ℕ) → front ≡ c ∷ [] → is_blank c ≡ true → IsSkip front
  comment : (inner : List ℕ) → front ≡ 40 ∷ 42 ∷ inner → Closes 40 41 1 inner → IsSkip front
  pragma : (inner : List ℕ) → front ≡ 60 ∷ 42 ∷ inner → Closes 60 62 1 inner → IsSkip front

-- ---- characters

-- the byte that a letter or a mark behind a backslash stands for
abbrev pub lettered : ℕ → Option ℕ
lettered c =
    if c == 110 then Some 10 else (if c == 116 then Some 9 else (if c == 114 then Some 13 else (if c == 102 then Some 12
    else (if (c == 92) || ((c == 39) || (c == 34)) then Some c else None))))

-- the byte that three octal digits behind a backslash stand for, up to 377
abbrev pub octal : ℕ → ℕ → ℕ → Option ℕ
octal x y z =
    if (is_digit x 8 && (is_digit y 8 && is_digit z 8)) && nat_lt (value 8 (x ∷ y ∷ z ∷ [])) 256
    then Some (value 8 (x ∷ y ∷ z ∷ [])) else None

-- the byte that an escape stands for, by what stands behind its backslash
abbrev pub escaped : List ℕ → Option ℕ
escaped [] = None
escaped (c ∷ []) = lettered c
escaped (x ∷ y ∷ []) = None
escaped (x ∷ y ∷ z ∷ []) = octal x y z
escaped (x ∷ y ∷ z ∷ w ∷ rest) = None

-- what stands for itself between two marks of a literal
abbrev pub is_plain : ℕ → ℕ → Bool
is_plain mark c = not ((c == mark) || ((c == 92) || (c == 10)))

-- the byte that a piece between two marks stands for: itself, or what its escape says
abbrev pub spelled : ℕ → List ℕ → Option ℕ
spelled mark [] = None
spelled mark (c ∷ rest) =
    if c == 92 then escaped rest else (if is_plain mark c && (length rest == 0) then Some c else None)

-- pieces of one sort, end to end
abbrev pub IsRow : (List ℕ → Bool) → List ℕ → Type 0
IsRow is_piece body = (pieces : List (List ℕ)) × (concat pieces ≡ body) × (list_all is_piece pieces ≡ true)

-- what stands between the marks of a text literal: bytes for themselves, and escapes
abbrev pub IsTextBody : List ℕ → Type 0
IsTextBody body = IsRow (λ piece. is_some (spelled 34 piece)) body

-- the same before its escapes are judged: a backslash and any byte but a line feed
abbrev pub is_rough_piece : List ℕ → Bool
is_rough_piece [] = false
is_rough_piece (c ∷ []) = is_plain 34 c
is_rough_piece (c ∷ d ∷ []) = (c == 92) && not (d == 10)
is_rough_piece (c ∷ d ∷ e ∷ rest) = false

abbrev pub IsRoughBody : List ℕ → Type 0
IsRoughBody body = IsRow is_rough_piece body

-- ---- tokens

-- a letter, and then letters, digits and underscores
abbrev pub is_name : List ℕ → Bool
is_name [] = false
is_name (c ∷ rest) = is_ascii_alphabetic c && list_all is_name_byte rest

-- at least one digit, none but digits, and no more than the last integer
pub record IsDecimal (front : List ℕ) (n : ℤ) : Type 0 where
  pub some : front ≢ []
  pub digits : list_all is_ascii_digit front ≡ true
  pub small : value 10 front < 2 ^ 63
  pub is : n ≡ pos (value 10 front)

-- a base from 2 to 16, and at least one digit, each below the base
abbrev pub is_well_based : ℕ → List ℕ → Bool
is_well_based base digits =
    (nat_le 2 base && nat_le base 16) && (nat_lt 0 (length digits) && list_all (λ d. is_digit d base) digits)

-- a base in decimal digits, an underscore, and digits of that base, of which 64 bits are read in two's
-- complement
pub record IsBased (front : List ℕ) (n : ℤ) : Type 0 where
  pub digits : List ℕ
  pub parts : past_digits front ≡ 95 ∷ digits
  pub well : is_well_based (value 10 (digits_of front)) digits ≡ true
  pub small : value (value 10 (digits_of front)) digits < 2 ^ 64
  pub is : n ≡ signed_of (value (value 10 (digits_of front)) digits)

-- The front is a token of this kind.
abbrev pub IsToken : List ℕ → TokenKind → Type 0
IsToken front Ident = (is_name front ≡ true) × ((w : Word) → front ≢ text_of_word w)
IsToken front (Keyword w) = front ≡ text_of_word w
IsToken front (Number n) = IsDecimal front n ⊎ IsBased front n
IsToken front (CharLit b) = (piece : List ℕ) × (front ≡ 39 ∷ piece ++ 39 ∷ []) × (spelled 39 piece ≡ Some b)
IsToken front TextLit = (body : List ℕ) × (front ≡ 34 ∷ body ++ 34 ∷ []) × IsTextBody body
IsToken front (Symbol s) = front ≡ text_of_sign s

-- ---- broken rules

abbrev pub begins_base : List ℕ → Bool
begins_base [] = false
begins_base (c ∷ rest) = c == 95

-- a dot and a digit
abbrev pub begins_fraction : List ℕ → Bool
begins_fraction [] = false
begins_fraction (c ∷ []) = false
begins_fraction (c ∷ d ∷ rest) = (c == 46) && is_ascii_digit d

-- some front is what stands behind the backslash of an escape
abbrev pub BeginsEscape : List ℕ → Type 0
BeginsEscape text = (e more : List ℕ) × (text ≡ e ++ more) × (is_some (escaped e) ≡ true)

-- The text breaks the rule of this number at its beginning.
pub data Breaks (text : List ℕ) : ℕ → Type 0 where
  -- a byte that is no white space and begins no token
  bad_byte : (c : ℕ) (rest : List ℕ) → text ≡ c ∷ rest → is_blank c ≡ false → ((front : List ℕ) (kind : TokenKind) → IsToken (c ∷ front) kind → ⊥) → Breaks text 1
  -- an opening mark that no closing mark belongs to
  open_comment : (rest : List ℕ) → text ≡ 40 ∷ 42 ∷ rest → ((front more : List ℕ) → rest ≡ front ++ more → Closes 40 41 1 front → ⊥) → Breaks text 2
  open_pragma : (rest : List ℕ) → text ≡ 60 ∷ 42 ∷ rest → ((front more : List ℕ) → rest ≡ front ++ more → Closes 60 62 1 front → ⊥) → Breaks text 3
  -- no closing mark in the line of the opening one
  open_text : (rest : List ℕ) → text ≡ 34 ∷ rest → ((body more : List ℕ) → rest ≡ body ++ 34 ∷ more → IsRoughBody body → ⊥) → Breaks text 4
  -- a backslash that begins no escape
  bad_escape : (body more : List ℕ) → text ≡ 34 ∷ body ++ 34 ∷ more → IsRoughBody body → (IsTextBody body → ⊥) → Breaks text 5
  bad_character_escape : (rest : List ℕ) → text ≡ 39 ∷ 92 ∷ rest → (BeginsEscape rest → ⊥) → Breaks text 5
  -- what is no character literal for another reason
  bad_character : (rest : List ℕ) → text ≡ 39 ∷ rest → ((after : List ℕ) → rest ≡ 92 ∷ after → BeginsEscape after)
      → ((piece more : List ℕ) → rest ≡ piece ++ 39 ∷ more → spelled 39 piece ≡ None) → Breaks text 6
  -- a number above the last integer; with a base, one that takes more than 64 bits
  large_decimal : digits_of text ≢ [] → begins_base (past_digits text) ≡ false → begins_fraction (past_digits text) ≡ false
      → 2 ^ 63 ≤ value 10 (digits_of text) → Breaks text 7
  large_based : (rest : List ℕ) → digits_of text ≢ [] → past_digits text ≡ 95 ∷ rest
      → is_well_based (value 10 (digits_of text)) (take_while is_ascii_hexdigit rest) ≡ true
      → 2 ^ 64 ≤ value (value 10 (digits_of text)) (take_while is_ascii_hexdigit rest) → Breaks text 7
  bad_base : (rest : List ℕ) → digits_of text ≢ [] → past_digits text ≡ 95 ∷ rest
      → is_well_based (value 10 (digits_of text)) (take_while is_ascii_hexdigit rest) ≡ false → Breaks text 8
  real_literal : digits_of text ≢ [] → begins_fraction (past_digits text) ≡ true → Breaks text 9

-- ---- the tokens of a text

-- At the beginning of the text stands this token, the longest that begins there. Nothing there is
-- skipped, and no rule is broken there.
pub record Stands (text front : List ℕ) (kind : TokenKind) : Type 0 where
  pub token : IsToken front kind
  pub longest : (other more : List ℕ) (k : TokenKind) → text ≡ other ++ more → IsToken other k → length other ≤ length front
  pub unskipped : (other more : List ℕ) → text ≡ other ++ more → IsSkip other → ⊥
  pub unbroken : (rule : ℕ) → Breaks text rule → ⊥

-- From a place on, where the text stands, these tokens lead to another place, where a rest stands: what
-- is skipped between them gives none, and each token has its bytes, its kind and its place.
pub data Reads : Pos → List ℕ → List Token → Pos → List ℕ → Type 0 where
  stops : {p : Pos} {text : List ℕ} → Reads p text [] p text
  skips : {p q : Pos} {text rest : List ℕ} {tokens : List Token} (front more : List ℕ) → text ≡ front ++ more → IsSkip front
      → Reads (place_after p front) more tokens q rest → Reads p text tokens q rest
  takes : {p q : Pos} {text rest : List ℕ} {tokens : List Token} (t : Token) (more : List ℕ) → text ≡ t.text.now ++ more → t.pos ≡ p
      → Stands text t.text.now t.kind → Reads (place_after p t.text.now) more tokens q rest → Reads p text (t ∷ tokens) q rest

-- These are the tokens of a file, and this is the place behind its last byte.
abbrev pub AreTokens : ℕ → List ℕ → List Token → Pos → Type 0
AreTokens file text tokens end = Reads (first_place file) text tokens end []

-- This is the first broken rule of a file: up to its place there are tokens, and there it is broken.
pub record IsFirstBroken (file : ℕ) (text : List ℕ) (refusal : Refusal) : Type 0 where
  pub tokens : List Token
  pub rest : List ℕ
  pub before : Reads (first_place file) text tokens refusal.pos rest
  pub broken : Breaks rest refusal.rule
  pub phase : refusal.phase ≡ 1
  pub unit : refusal.unit ≡ file
