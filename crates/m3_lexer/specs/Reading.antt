-- What a text begins with, as it is read from its first byte on.
use Rattle.std.specs.Prelude.{◌+◌, ◌^◌, ℕ, zero, suc, ℤ, pos, Bool, true, false, ◌&&◌, not, ◌==◌, nat_lt, if◌then◌else◌, List, [], ◌∷◌, length, take, drop, Option, Some, None, is_some, Result, Ok, Err}
use Rattle.std.specs.List.{take_while}
use Rattle.std.specs.Option.{option_map}
use Rattle.std.specs.Char.{is_ascii_hexdigit}
use Rattle.m3_base.specs.Words.{signed_of}
use Rattle.m3_syntax.specs.declared.tokens.Sign.{Sign}
use Rattle.m3_syntax.specs.declared.tokens.Sign.TheVariants as signs
use Rattle.m3_syntax.specs.declared.tokens.TokenKind.TheVariants.{Number, CharLit, TextLit}
use Rattle.m3_syntax.specs.Lexis.{value, digits_of, past_digits, is_well_based, begins_fraction, lettered, octal, is_plain}
use Rattle.m3_lexer.specs.declared.fronts.Front.{Front}
use Rattle.m3_lexer.specs.declared.fronts.Front.TheVariants.{Skipped, Spelled}

-- a count after so many more
abbrev pub plus : ℕ → Option ℕ → Option ℕ
plus n None = None
plus n (Some k) = Some (n + k)

abbrev pub begins : ℕ → List ℕ → Bool
begins byte [] = false
begins byte (c ∷ text) = c == byte

-- how many bytes come up to the end of the mark that closes the outermost of n open ones
abbrev pub closed_len : ℕ → ℕ → ℕ → List ℕ → Option ℕ
closed_len left right zero text = Some 0
closed_len left right (suc n) [] = None
closed_len left right (suc n) (a ∷ []) = None
closed_len left right (suc n) (a ∷ b ∷ text) =
    if (a == left) && (b == 42) then plus 2 (closed_len left right (suc (suc n)) text)
    else (if (a == 42) && (b == right) then plus 2 (closed_len left right n text)
    else plus 1 (closed_len left right (suc n) (b ∷ text)))

abbrev pub skipped_at : ℕ → Option ℕ → Result Front ℕ
skipped_at rule None = Err rule
skipped_at rule (Some n) = Ok (Skipped (n + 2))

unfoldable pub decimal_of : List ℕ → Result ℤ ℕ
decimal_of digits = if nat_lt (value 10 digits) (2 ^ 63) then Ok (pos (value 10 digits)) else Err 7

unfoldable pub based_of : List ℕ → List ℕ → Result (ℤ × ℕ) ℕ
based_of base_digits text =
    let base = value 10 base_digits in
    let digits = take_while is_ascii_hexdigit text in
    if is_well_based base digits
    then (if nat_lt (value base digits) (2 ^ 64) then Ok (signed_of (value base digits), length digits) else Err 7)
    else Err 8

abbrev pub spelled_decimal : ℕ → Result ℤ ℕ → Result Front ℕ
spelled_decimal len (Ok n) = Ok (Spelled (Number n) len)
spelled_decimal len (Err rule) = Err rule

abbrev pub spelled_based : ℕ → Result (ℤ × ℕ) ℕ → Result Front ℕ
spelled_based len (Ok x) = Ok (Spelled (Number x.0) (len + 1 + x.1))
spelled_based len (Err rule) = Err rule

abbrev pub number_past : List ℕ → ℕ → List ℕ → Result Front ℕ
number_past digits len [] = spelled_decimal len (decimal_of digits)
number_past digits len (c ∷ rest) =
    if c == 95 then spelled_based len (based_of digits rest)
    else (if begins_fraction (c ∷ rest) then Err 9 else spelled_decimal len (decimal_of digits))

unfoldable pub number_at : List ℕ → Result Front ℕ
number_at text = number_past (digits_of text) (length (digits_of text)) (past_digits text)

abbrev pub escape_from : Option ℕ → ℕ → List ℕ → Option (ℕ × ℕ)
escape_from (Some byte) x rest = Some (byte, 1)
escape_from None x [] = None
escape_from None x (y ∷ []) = None
escape_from None x (y ∷ z ∷ rest) = option_map (λ byte. (byte, 3)) (octal x y z)

unfoldable pub escape_at : List ℕ → Option (ℕ × ℕ)
escape_at [] = None
escape_at (x ∷ rest) = escape_from (lettered x) x rest

abbrev pub closed_character : Option (ℕ × ℕ) → List ℕ → Result Front ℕ
closed_character None rest = Err 5
closed_character (Some x) rest = if begins 39 (drop x.1 rest) then Ok (Spelled (CharLit x.0) (x.1 + 3)) else Err 6

unfoldable pub character_at : List ℕ → Result Front ℕ
character_at [] = Err 6
character_at (c ∷ rest) =
    if c == 92 then closed_character (escape_at rest) rest
    else (if is_plain 39 c && begins 39 rest then Ok (Spelled (CharLit c) 3) else Err 6)

-- how many bytes come before the closing mark of a text literal
abbrev pub body_len : List ℕ → Option ℕ
body_len [] = None
body_len (c ∷ []) = if c == 34 then Some 0 else None
body_len (c ∷ d ∷ rest) =
    if c == 34 then Some 0
    else (if is_plain 34 c then plus 1 (body_len (d ∷ rest))
    else (if (c == 92) && not (d == 10) then plus 2 (body_len rest)
    else None))

-- each backslash begins an escape
abbrev pub is_well_escaped : List ℕ → Bool
is_well_escaped [] = true
is_well_escaped (c ∷ []) = not (c == 92)
is_well_escaped (c ∷ d ∷ rest) =
    if c == 92 then is_some (escape_at (d ∷ rest)) && is_well_escaped rest else is_well_escaped (d ∷ rest)

abbrev pub closed_text : Option ℕ → List ℕ → Result Front ℕ
closed_text None rest = Err 4
closed_text (Some n) rest = if is_well_escaped (take n rest) then Ok (Spelled TextLit (n + 2)) else Err 5

unfoldable pub text_at : List ℕ → Result Front ℕ
text_at rest = closed_text (body_len rest) rest

-- the sign of two bytes if the second one stands there, else the other one
abbrev pub one_or_two : ℕ → Sign → Sign → List ℕ → Option (Sign × ℕ)
one_or_two byte two one rest = if begins byte rest then Some (two, 2) else Some (one, 1)

abbrev pub sign_at : ℕ → List ℕ → Option (Sign × ℕ)
sign_at c rest =
    if c == 43 then Some (signs.Plus, 1)
    else (if c == 45 then Some (signs.Minus, 1)
    else (if c == 42 then Some (signs.Star, 1)
    else (if c == 47 then Some (signs.Slash, 1)
    else (if c == 61 then one_or_two 62 signs.Arrow signs.Equal rest
    else (if c == 35 then Some (signs.Hash, 1)
    else (if c == 60 then (if begins 61 rest then Some (signs.LessEqual, 2) else one_or_two 58 signs.Subtype signs.Less rest)
    else (if c == 62 then one_or_two 61 signs.GreaterEqual signs.Greater rest
    else (if c == 38 then Some (signs.Ampersand, 1)
    else (if c == 94 then Some (signs.Caret, 1)
    else (if c == 46 then one_or_two 46 signs.DotDot signs.Dot rest
    else (if c == 44 then Some (signs.Comma, 1)
    else (if c == 59 then Some (signs.Semicolon, 1)
    else (if c == 58 then one_or_two 61 signs.Assign signs.Colon rest
    else (if c == 124 then Some (signs.Bar, 1)
    else (if c == 40 then Some (signs.OpenParen, 1)
    else (if c == 41 then Some (signs.CloseParen, 1)
    else (if c == 91 then Some (signs.OpenBracket, 1)
    else (if c == 93 then Some (signs.CloseBracket, 1)
    else (if c == 123 then Some (signs.OpenBrace, 1)
    else (if c == 125 then Some (signs.CloseBrace, 1)
    else None))))))))))))))))))))
