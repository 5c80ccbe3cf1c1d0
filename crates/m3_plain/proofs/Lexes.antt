-- The reader of tokens goes on by one byte.
use Rattle.std.proofs.Common.{◌≡◌, ℕ, ◌+◌, ◌-◌, ◌<◌, ◌≤◌, ◌==◌, true, false, cond, List, [], ◌∷◌, ◌++◌, length, get_or, take, drop, Option, None, Some, sym, ap, ◌∙◌, arith, length-drop, get_or-drop}
use Rattle.std.proofs.lemmas.List.{drop_more, take_more}
use Rattle.std.specs.Char.{is_ascii_alphanumeric}
use Rattle.std.proofs.lemmas.Bool.Decides.{nat_tests}
use Rattle.m3_plain.specs.declared.tokens.Token.{Token}
use Rattle.m3_plain.specs.Lexing.{with_open_word, with_byte, line_after, then_lexed, lexed}

-- a letter or a digit is one more of the word that is open
pub lexes_letter : (tokens : List Token) (line start i : ℕ) (text : List ℕ) → start ≤ i → i < length text → is_ascii_alphanumeric (get_or text i 0) ≡ true
    → lexed tokens line (take (i - start) (drop start text)) (drop i text) ≡ lexed tokens line (take (i + 1 - start) (drop start text)) (drop (i + 1) text)
lexes_letter tokens line start i text opened within letter =
    let b = get_or text i 0 in
    let word = take (i - start) (drop start text) in
    let n : i + 1 - start ≡ (i - start) + 1 = omega arith in
    let inside : i - start < length (drop start text) = omega (arith, length-drop start text) in
    let at : start + (i - start) ≡ i = omega arith in
    let more : take (i + 1 - start) (drop start text) ≡ word ++ b ∷ [] =
    ap (λ k. take k (drop start text)) n ∙ take_more (drop start text) (i - start) 0 inside
    ∙ ap (λ x. word ++ x ∷ []) (get_or-drop start text (i - start) 0 ∙ ap (λ k. get_or text k 0) at) in
    ap (λ bs. lexed tokens line word bs) (drop_more text i 0 within)
    ∙ ap (λ t. cond t (lexed tokens line (word ++ b ∷ []) (drop (i + 1) text)) (then_lexed (with_open_word tokens line word) (λ ended. then_lexed (with_byte ended line b) (λ more. lexed more (line_after line b) [] (drop (i + 1) text))))) letter
    ∙ ap (λ w. lexed tokens line w (drop (i + 1) text)) (sym more)

-- another byte ends it
pub lexes_byte : (tokens ended more : List Token) (line line2 i : ℕ) (word text : List ℕ) → i < length text → is_ascii_alphanumeric (get_or text i 0) ≡ false
    → with_open_word tokens line word ≡ Some ended → with_byte ended line (get_or text i 0) ≡ Some more → line2 ≡ line_after line (get_or text i 0)
    → lexed tokens line word (drop i text) ≡ lexed more line2 [] (drop (i + 1) text)
lexes_byte tokens ended more line line2 i word text within other e1 e2 e3 =
    let b = get_or text i 0 in
    let rest = drop (i + 1) text in
    ap (λ bs. lexed tokens line word bs) (drop_more text i 0 within)
    ∙ ap (λ t. cond t (lexed tokens line (word ++ b ∷ []) rest) (then_lexed (with_open_word tokens line word) (λ ended. then_lexed (with_byte ended line b) (λ more. lexed more (line_after line b) [] rest)))) other
    ∙ ap (λ o. then_lexed o (λ ended. then_lexed (with_byte ended line b) (λ more. lexed more (line_after line b) [] rest))) e1
    ∙ ap (λ o. then_lexed o (λ more. lexed more (line_after line b) [] rest)) e2
    ∙ ap (λ n. lexed more n [] rest) (sym e3)

-- no tokens, where the word or the byte is none
pub lexes_no_word : (tokens : List Token) (line i : ℕ) (word text : List ℕ) → i < length text → is_ascii_alphanumeric (get_or text i 0) ≡ false
    → with_open_word tokens line word ≡ None → lexed tokens line word (drop i text) ≡ None
lexes_no_word tokens line i word text within other e1 =
    let b = get_or text i 0 in
    let rest = drop (i + 1) text in
    ap (λ bs. lexed tokens line word bs) (drop_more text i 0 within)
    ∙ ap (λ t. cond t (lexed tokens line (word ++ b ∷ []) rest) (then_lexed (with_open_word tokens line word) (λ ended. then_lexed (with_byte ended line b) (λ more. lexed more (line_after line b) [] rest)))) other
    ∙ ap (λ o. then_lexed o (λ ended. then_lexed (with_byte ended line b) (λ more. lexed more (line_after line b) [] rest))) e1

pub lexes_no_byte : (tokens ended : List Token) (line i : ℕ) (word text : List ℕ) → i < length text → is_ascii_alphanumeric (get_or text i 0) ≡ false
    → with_open_word tokens line word ≡ Some ended → with_byte ended line (get_or text i 0) ≡ None → lexed tokens line word (drop i text) ≡ None
lexes_no_byte tokens ended line i word text within other e1 e2 =
    let b = get_or text i 0 in
    let rest = drop (i + 1) text in
    ap (λ bs. lexed tokens line word bs) (drop_more text i 0 within)
    ∙ ap (λ t. cond t (lexed tokens line (word ++ b ∷ []) rest) (then_lexed (with_open_word tokens line word) (λ ended. then_lexed (with_byte ended line b) (λ more. lexed more (line_after line b) [] rest)))) other
    ∙ ap (λ o. then_lexed o (λ ended. then_lexed (with_byte ended line b) (λ more. lexed more (line_after line b) [] rest))) e1
    ∙ ap (λ o. then_lexed o (λ more. lexed more (line_after line b) [] rest)) e2

pub line_feed : (line b : ℕ) → b ≡ 10 → line_after line b ≡ line + 1
line_feed line b e = let t : (b == 10) ≡ true = grind (arith, nat_tests) in ap (λ t. cond t (line + 1) line) t

pub no_line_feed : (line b : ℕ) → (b ≡ 10 → ⊥) → line_after line b ≡ line
no_line_feed line b e = let t : (b == 10) ≡ false = grind (arith, nat_tests) in ap (λ t. cond t (line + 1) line) t

-- no word is open right after a byte
pub from_here : (tokens : List Token) (line i : ℕ) (all : Option (List Token)) (text : List ℕ) → lexed tokens line [] (drop (i + 1) text) ≡ all → lexed tokens line (take ((i + 1) - (i + 1)) (drop (i + 1) text)) (drop (i + 1) text) ≡ all
from_here tokens line i all text e = let z : (i + 1) - (i + 1) ≡ 0 = omega arith in ap (λ n. lexed tokens line (take n (drop (i + 1) text)) (drop (i + 1) text)) z ∙ e
