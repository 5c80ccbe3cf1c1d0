-- The same, of the bytes that are not empty.
use Rattle.std.proofs.Common.{◌≡◌, ℕ, ◌-◌, ◌<◌, true, List, [], ◌∷◌, length, get_or, take, drop, Some, None, Ok, Err, sym, ap, subst, ◌∙◌, arith}
use Rattle.std.specs.List.{take_while}
use Rattle.std.specs.Char.{is_ascii_digit, is_ascii_alphabetic}
use Rattle.std.proofs.lemmas.List.{take_rest}
use Rattle.m3_syntax.specs.declared.tokens.Sign.{Sign}
use Rattle.m3_syntax.specs.declared.tokens.TokenKind.{TokenKind}
use Rattle.m3_syntax.specs.declared.tokens.TokenKind.TheVariants.{Symbol}
use Rattle.m3_syntax.specs.Lexis.{is_blank, is_name, is_name_byte, IsToken}
use Rattle.m3_lexer.specs.declared.fronts.Front.TheVariants.{Skipped, Spelled}
use Rattle.m3_lexer.specs.Reading.{begins, closed_len, skipped_at, sign_at, character_at, text_at, number_at}
use Rattle.m3_lexer.specs.Fronts.{IsFront}
use Rattle.m3_lexer.proofs.CharacterLaws.{begins_is}
use Rattle.m3_lexer.proofs.TakeLaws.{taken}
use Rattle.m3_lexer.proofs.FrontLaws.{blank_front, comment_front, pragma_front, name_is, name_front, number_front, character_front, text_front, Plain, sign_front, bad_front}

-- all bytes but the first
abbrev pub rest_of : List ℕ → List ℕ
rest_of bytes = take (length bytes - 1) (drop 1 bytes)

pub whole : (bytes : List ℕ) → 0 < length bytes → get_or bytes 0 0 ∷ rest_of bytes ≡ bytes
whole [] h = absurd (omega arith)
whole (c ∷ rest) h = ap (λ (l : List ℕ). c ∷ l) (take_rest (c ∷ rest) 1)

rest_is : (c : ℕ) (rest : List ℕ) → rest_of (c ∷ rest) ≡ rest
rest_is c rest = take_rest (c ∷ rest) 1

pub blank_bytes : (bytes : List ℕ) → 0 < length bytes → is_blank (get_or bytes 0 0) ≡ true → IsFront bytes (Ok (Skipped 1))
blank_bytes bytes some h = subst (λ (l : List ℕ). IsFront l (Ok (Skipped 1))) (whole bytes some) (blank_front (get_or bytes 0 0) (rest_of bytes) h)

pub name_is_bytes : (bytes : List ℕ) (n : ℕ) → 0 < length bytes → is_ascii_alphabetic (get_or bytes 0 0) ≡ true → n ≡ length (take_while is_name_byte bytes) → is_name (take n bytes) ≡ true
name_is_bytes bytes n some h size =
    let is : take n bytes ≡ take_while is_name_byte bytes = ap (λ (m : ℕ). take m bytes) size ∙ taken is_name_byte bytes in
    ap is_name is ∙ subst (λ (l : List ℕ). is_name (take_while is_name_byte l) ≡ true) (whole bytes some) (name_is (get_or bytes 0 0) (rest_of bytes) h)

pub name_bytes : (bytes : List ℕ) (n : ℕ) (kind : TokenKind) → 0 < length bytes → is_ascii_alphabetic (get_or bytes 0 0) ≡ true → n ≡ length (take_while is_name_byte bytes)
    → IsToken (take n bytes) kind → IsFront bytes (Ok (Spelled kind n))
name_bytes bytes n kind some h size token =
    let is : take n bytes ≡ take_while is_name_byte bytes = ap (λ (m : ℕ). take m bytes) size ∙ taken is_name_byte bytes in
    let front : IsFront bytes (Ok (Spelled kind (length (take_while is_name_byte bytes))))
    = subst (λ (l : List ℕ). IsToken (take_while is_name_byte l) kind → IsFront l (Ok (Spelled kind (length (take_while is_name_byte l))))) (whole bytes some)
    (λ t. name_front (get_or bytes 0 0) (rest_of bytes) kind h t) (subst (λ (l : List ℕ). IsToken l kind) is token) in
    subst (λ (m : ℕ). IsFront bytes (Ok (Spelled kind m))) (sym size) front

pub number_bytes : (bytes : List ℕ) → 0 < length bytes → is_ascii_digit (get_or bytes 0 0) ≡ true → IsFront bytes (number_at bytes)
number_bytes bytes some h = subst (λ (l : List ℕ). IsFront l (number_at l)) (whole bytes some) (number_front (get_or bytes 0 0) (rest_of bytes) h)

pub character_bytes : (bytes : List ℕ) → 0 < length bytes → get_or bytes 0 0 ≡ 39 → IsFront bytes (character_at (rest_of bytes))
character_bytes bytes some h =
    subst (λ (l : List ℕ). IsFront l (character_at (rest_of bytes))) (ap (λ (k : ℕ). k ∷ rest_of bytes) (sym h) ∙ whole bytes some) (character_front (rest_of bytes))

pub text_bytes : (bytes : List ℕ) → 0 < length bytes → get_or bytes 0 0 ≡ 34 → IsFront bytes (text_at (rest_of bytes))
text_bytes bytes some h =
    subst (λ (l : List ℕ). IsFront l (text_at (rest_of bytes))) (ap (λ (k : ℕ). k ∷ rest_of bytes) (sym h) ∙ whole bytes some) (text_front (rest_of bytes))

-- an opening mark, and what stands behind it
marked : (bytes : List ℕ) (k : ℕ) → 0 < length bytes → get_or bytes 0 0 ≡ k → begins 42 (rest_of bytes) ≡ true → k ∷ 42 ∷ rest_of (rest_of bytes) ≡ bytes
marked bytes k some h star =
    let after = begins_is 42 (rest_of bytes) star in
    let inner : rest_of (rest_of bytes) ≡ after.0 = ap rest_of after.1 ∙ rest_is 42 after.0 in
    ap (λ (l : List ℕ). k ∷ 42 ∷ l) inner ∙ ap (λ (l : List ℕ). k ∷ l) (sym after.1) ∙ ap (λ (b : ℕ). b ∷ rest_of bytes) (sym h) ∙ whole bytes some

pub comment_bytes : (bytes : List ℕ) → 0 < length bytes → get_or bytes 0 0 ≡ 40 → begins 42 (rest_of bytes) ≡ true → IsFront bytes (skipped_at 2 (closed_len 40 41 1 (rest_of (rest_of bytes))))
comment_bytes bytes some h star =
    subst (λ (l : List ℕ). IsFront l (skipped_at 2 (closed_len 40 41 1 (rest_of (rest_of bytes))))) (marked bytes 40 some h star) (comment_front (rest_of (rest_of bytes)))

pub pragma_bytes : (bytes : List ℕ) → 0 < length bytes → get_or bytes 0 0 ≡ 60 → begins 42 (rest_of bytes) ≡ true → IsFront bytes (skipped_at 3 (closed_len 60 62 1 (rest_of (rest_of bytes))))
pragma_bytes bytes some h star =
    subst (λ (l : List ℕ). IsFront l (skipped_at 3 (closed_len 60 62 1 (rest_of (rest_of bytes))))) (marked bytes 60 some h star) (pragma_front (rest_of (rest_of bytes)))

pub sign_bytes : (bytes : List ℕ) (s : Sign) (n : ℕ) → 0 < length bytes → Plain (get_or bytes 0 0) (rest_of bytes) → sign_at (get_or bytes 0 0) (rest_of bytes) ≡ Some (s, n) → IsFront bytes (Ok (Spelled (Symbol s) n))
sign_bytes bytes s n some p h = subst (λ (l : List ℕ). IsFront l (Ok (Spelled (Symbol s) n))) (whole bytes some) (sign_front (get_or bytes 0 0) (rest_of bytes) s n p h)

pub bad_bytes : (bytes : List ℕ) → 0 < length bytes → Plain (get_or bytes 0 0) (rest_of bytes) → sign_at (get_or bytes 0 0) (rest_of bytes) ≡ None → IsFront bytes (Err 1)
bad_bytes bytes some p h = subst (λ (l : List ℕ). IsFront l (Err 1)) (whole bytes some) (bad_front (get_or bytes 0 0) (rest_of bytes) p h)
