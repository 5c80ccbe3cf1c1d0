-- How the reader takes a text apart, byte by byte: the tokens so far, the line, the word or number
-- that is still open, and the bytes that are left.
use Rattle.std.specs.Prelude.{ℕ, pos, ◌+◌, ◌==◌, ◌^◌, nat_lt, if◌then◌else◌, Option, None, Some, List, [], ◌∷◌, ◌++◌, length, codes}
use Rattle.std.specs.List.{list_all}
use Rattle.std.specs.Str.{bytes_eq}
use Rattle.std.specs.Char.{is_ascii_digit, is_ascii_alphanumeric}
use Rattle.m3_plain.specs.declared.plain.Arith.TheVariants.{Add, Sub, Mul}
use Rattle.m3_plain.specs.declared.tokens.Kind.{Kind}
use Rattle.m3_plain.specs.declared.tokens.Kind.TheVariants.{Module, Main, Import, Io, Begin, End, PutInt, Semicolon, Dot, Open, Close, Operator, Literal}
use Rattle.m3_plain.specs.declared.tokens.Token.{Token}
use Rattle.m3_plain.specs.PlainForm.{is_space, is_line_feed, number_of}

abbrev pub keyword : List ℕ → Option Kind
keyword word =
    if bytes_eq word (codes "MODULE") then Some Module
    else if bytes_eq word (codes "Main") then Some Main
    else if bytes_eq word (codes "IMPORT") then Some Import
    else if bytes_eq word (codes "IO") then Some Io
    else if bytes_eq word (codes "BEGIN") then Some Begin
    else if bytes_eq word (codes "END") then Some End
    else if bytes_eq word (codes "PutInt") then Some PutInt
    else None

abbrev pub literal : List ℕ → Option Kind
literal word =
    if list_all is_ascii_digit word then (if nat_lt (number_of word) (2 ^ 63) then Some (Literal (pos (number_of word))) else None)
    else None

-- the kind of a word or a number
abbrev pub word_kind : List ℕ → Option Kind
word_kind [] = None
word_kind (b ∷ bytes) = if is_ascii_digit b then literal (b ∷ bytes) else keyword (b ∷ bytes)

-- the kind of a sign
abbrev pub sign_kind : ℕ → Option Kind
sign_kind b =
    if b == 59 then Some Semicolon
    else if b == 46 then Some Dot
    else if b == 40 then Some Open
    else if b == 41 then Some Close
    else if b == 43 then Some (Operator Add)
    else if b == 45 then Some (Operator Sub)
    else if b == 42 then Some (Operator Mul)
    else None

-- one more token, of which there are at most 2,000
abbrev pub with_token : List Token → ℕ → Option Kind → Option (List Token)
with_token tokens line None = None
with_token tokens line (Some kind) =
    if nat_lt (length tokens) 2000 then Some (tokens ++ record { kind = kind; line = line } ∷ []) else None

-- the word that was open ends
abbrev pub with_open_word : List Token → ℕ → List ℕ → Option (List Token)
with_open_word tokens line [] = Some tokens
with_open_word tokens line (b ∷ bytes) = with_token tokens line (word_kind (b ∷ bytes))

-- white space or a sign
abbrev pub with_byte : List Token → ℕ → ℕ → Option (List Token)
with_byte tokens line b = if is_space b then Some tokens else with_token tokens line (sign_kind b)

abbrev pub line_after : ℕ → ℕ → ℕ
line_after line b = if is_line_feed b then line + 1 else line

abbrev pub then_lexed : Option (List Token) → (List Token → Option (List Token)) → Option (List Token)
then_lexed None next = None
then_lexed (Some tokens) next = next tokens

abbrev pub lexed : List Token → ℕ → List ℕ → List ℕ → Option (List Token)
lexed tokens line word [] = with_open_word tokens line word
lexed tokens line word (b ∷ bytes) =
    if is_ascii_alphanumeric b then lexed tokens line (word ++ b ∷ []) bytes
    else then_lexed (with_open_word tokens line word) (λ ended. then_lexed (with_byte ended line b) (λ more. lexed more (line_after line b) [] bytes))
