-- What the reader of tokens finds is what spells the text.
use Rattle.std.proofs.Common.{◌≡◌, ℕ, ◌+◌, ◌^◌, ◌==◌, ◌&&◌, ◌||◌, ◌<◌, ◌≤◌, ℤ, pos, Bool, true, false, cond, List, [], ◌∷◌, ◌++◌, length, Option, None, Some, refl, sym, ap, ◌∙◌, subst, inl, inr, ◌⊎◌, arith, append_assoc, append-nil, length-append}
use Rattle.std.specs.Prelude.{nat_lt, codes, count_by}
use Rattle.std.specs.List.{list_all}
use Rattle.std.specs.Str.{bytes_eq}
use Rattle.std.specs.Char.{is_ascii_digit, is_ascii_alphanumeric}
use Rattle.std.specs.Int.{is_in_range}
use Rattle.std.proofs.lemmas.Bool.{false≢true}
use Rattle.std.proofs.lemmas.Bool.Decides.{nat_tests}
use Rattle.std.proofs.lemmas.Slice.Eq.{bytes_eq-Decides}
use Rattle.std.proofs.lemmas.List.Sums.{sum_by-cons}
use Rattle.m3_plain.specs.declared.plain.Arith.TheVariants.{Add, Sub, Mul}
use Rattle.m3_plain.specs.declared.tokens.Kind.{Kind}
use Rattle.m3_plain.specs.declared.tokens.Kind.TheVariants.{Module, Main, Import, Io, Begin, End, PutInt, Semicolon, Dot, Open, Close, Operator, Literal}
use Rattle.m3_plain.specs.declared.tokens.Token.{Token}
use Rattle.m3_plain.specs.PlainForm.{is_space, is_line_feed, number_of, IsLiteral, IsSpelled, begins_word, Begins, Spells}
use Rattle.m3_plain.specs.Lexing.{keyword, literal, word_kind, sign_kind, with_token, with_open_word, with_byte, line_after, then_lexed, lexed}
use Rattle.m3_plain.proofs.Numbers.{below}
use Rattle.m3_plain.proofs.Parsings.{found_nothing, found_same}

-- ---- tests

pick : {A P : Type 0} (b : Bool) (x y : Option A) (k : A) → (b ≡ true → x ≡ Some k → P) → (b ≡ false → y ≡ Some k → P) → cond b x y ≡ Some k → P
pick true x y k f g e = f refl e
pick false x y k f g e = g refl e

same_number : (a b : ℕ) → (a == b) ≡ true → a ≡ b
same_number a b e = grind (arith, nat_tests)

and_parts : (a b : Bool) → (a && b) ≡ true → (a ≡ true) × (b ≡ true)
and_parts true true e = (refl, refl)
and_parts true false e = absurd (false≢true e)
and_parts false b e = absurd (false≢true e)

and_false : (a : Bool) → (a && false) ≡ false
and_false true = refl
and_false false = refl

above : (m n : ℕ) → m < n → nat_lt m n ≡ true
above m n h = grind (arith, nat_tests)

-- ---- kinds and their spelling

spelled_as : (w : List ℕ) (k' k : Kind) → IsSpelled k' w → ◌≡◌ {A = Option Kind} (Some k') (Some k) → IsSpelled k w
spelled_as w k' k h e = subst (λ x. IsSpelled x w) (found_same k' k e) h

name : (w text : List ℕ) → bytes_eq w text ≡ true → w ≡ text
name w text e = (bytes_eq-Decides w text).0 e

keyword_spelled : (w : List ℕ) (k : Kind) → keyword w ≡ Some k → IsSpelled k w
keyword_spelled w k e =
    pick (bytes_eq w (codes "MODULE")) _ _ k (λ t e. spelled_as w Module k (name w (codes "MODULE") t) e) (λ f e.
    pick (bytes_eq w (codes "Main")) _ _ k (λ t e. spelled_as w Main k (name w (codes "Main") t) e) (λ f e.
    pick (bytes_eq w (codes "IMPORT")) _ _ k (λ t e. spelled_as w Import k (name w (codes "IMPORT") t) e) (λ f e.
    pick (bytes_eq w (codes "IO")) _ _ k (λ t e. spelled_as w Io k (name w (codes "IO") t) e) (λ f e.
    pick (bytes_eq w (codes "BEGIN")) _ _ k (λ t e. spelled_as w Begin k (name w (codes "BEGIN") t) e) (λ f e.
    pick (bytes_eq w (codes "END")) _ _ k (λ t e. spelled_as w End k (name w (codes "END") t) e) (λ f e.
    pick (bytes_eq w (codes "PutInt")) _ _ k (λ t e. spelled_as w PutInt k (name w (codes "PutInt") t) e) (λ f e. absurd (found_nothing k e)) e) e) e) e) e) e) e

literal_spelled : (b : ℕ) (bytes : List ℕ) (k : Kind) → literal (b ∷ bytes) ≡ Some k → IsSpelled k (b ∷ bytes)
literal_spelled b bytes k e =
    let w = b ∷ bytes in
    pick (list_all is_ascii_digit w) _ _ k (λ t e.
    pick (nat_lt (number_of w) (2 ^ 63)) _ _ k (λ s e.
    spelled_as w (Literal (pos (number_of w))) k (record { some = omega arith; digits = t; value = refl; fits = below (number_of w) (2 ^ 63) s }) e)
    (λ s e. absurd (found_nothing k e)) e)
    (λ t e. absurd (found_nothing k e)) e

word_spelled : (w : List ℕ) (k : Kind) → word_kind w ≡ Some k → IsSpelled k w
word_spelled [] k e = absurd (found_nothing k e)
word_spelled (b ∷ bytes) k e = pick (is_ascii_digit b) _ _ k (λ t e. literal_spelled b bytes k e) (λ t e. keyword_spelled (b ∷ bytes) k e) e

one_byte : (b c : ℕ) → (b == c) ≡ true → b ∷ [] ≡ c ∷ []
one_byte b c e = ap (λ x. x ∷ []) (same_number b c e)

sign_spelled : (b : ℕ) (k : Kind) → sign_kind b ≡ Some k → IsSpelled k (b ∷ [])
sign_spelled b k e =
    let w = b ∷ [] in
    pick (b == 59) _ _ k (λ t e. spelled_as w Semicolon k (one_byte b 59 t) e) (λ f e.
    pick (b == 46) _ _ k (λ t e. spelled_as w Dot k (one_byte b 46 t) e) (λ f e.
    pick (b == 40) _ _ k (λ t e. spelled_as w Open k (one_byte b 40 t) e) (λ f e.
    pick (b == 41) _ _ k (λ t e. spelled_as w Close k (one_byte b 41 t) e) (λ f e.
    pick (b == 43) _ _ k (λ t e. spelled_as w (Operator Add) k (one_byte b 43 t) e) (λ f e.
    pick (b == 45) _ _ k (λ t e. spelled_as w (Operator Sub) k (one_byte b 45 t) e) (λ f e.
    pick (b == 42) _ _ k (λ t e. spelled_as w (Operator Mul) k (one_byte b 42 t) e) (λ f e. absurd (found_nothing k e)) e) e) e) e) e) e) e

-- a token is a word or a number, or a sign
record IsWord (k : Kind) (bytes : List ℕ) : Type 0 where
  begins : begins_word bytes ≡ true
  letters : list_all is_ascii_alphanumeric bytes ≡ true
  kind : word_kind bytes ≡ Some k

record IsSign (k : Kind) (bytes : List ℕ) : Type 0 where
  byte : ℕ
  one : bytes ≡ byte ∷ []
  other : is_ascii_alphanumeric byte ≡ false
  dark : is_space byte ≡ false
  kind : sign_kind byte ≡ Some k

a_word : (k : Kind) (bytes text : List ℕ) → bytes ≡ text → IsWord k text → IsWord k bytes ⊎ IsSign k bytes
a_word k bytes text e w = inl (subst (λ b. IsWord k b) (sym e) w)

a_sign : (k : Kind) (bytes : List ℕ) (b : ℕ) → bytes ≡ b ∷ [] → is_ascii_alphanumeric b ≡ false → is_space b ≡ false → sign_kind b ≡ Some k → IsWord k bytes ⊎ IsSign k bytes
a_sign k bytes b e o d s = inr (record { byte = b; one = e; other = o; dark = d; kind = s })

digit_letter : (b : ℕ) → is_ascii_digit b ≡ true → is_ascii_alphanumeric b ≡ true
digit_letter b e = ap (λ x. (x || is_in_range 65 90 b) || is_in_range 97 122 b) e

digits_letters : (bytes : List ℕ) → list_all is_ascii_digit bytes ≡ true → list_all is_ascii_alphanumeric bytes ≡ true
digits_letters [] e = refl
digits_letters (b ∷ bytes) e =
    let p = and_parts (is_ascii_digit b) (list_all is_ascii_digit bytes) e in
    ap (λ x. x && list_all is_ascii_alphanumeric bytes) (digit_letter b p.0) ∙ digits_letters bytes p.1

literal_word : (n : ℤ) (bytes : List ℕ) → IsLiteral bytes n → IsWord (Literal n) bytes
literal_word n [] l = let s = l.some in absurd (omega arith)
literal_word n (b ∷ bytes) l =
    let w = b ∷ bytes in
    let p = and_parts (is_ascii_digit b) (list_all is_ascii_digit bytes) l.digits in
    record {
      begins = digit_letter b p.0;
      letters = digits_letters w l.digits;
      kind = ap (λ x. cond x (literal w) (keyword w)) p.0
          ∙ ap (λ x. cond x (cond (nat_lt (number_of w) (2 ^ 63)) (Some (Literal (pos (number_of w)))) None) None) l.digits
          ∙ ap (λ x. cond x (Some (Literal (pos (number_of w)))) None) (above (number_of w) (2 ^ 63) l.fits)
          ∙ ap (λ z. Some (Literal z)) (sym l.value);
    }

word_or_sign : (k : Kind) (bytes : List ℕ) → IsSpelled k bytes → IsWord k bytes ⊎ IsSign k bytes
word_or_sign Module bytes e = a_word Module bytes (codes "MODULE") e (record { begins = refl; letters = refl; kind = refl })
word_or_sign Main bytes e = a_word Main bytes (codes "Main") e (record { begins = refl; letters = refl; kind = refl })
word_or_sign Import bytes e = a_word Import bytes (codes "IMPORT") e (record { begins = refl; letters = refl; kind = refl })
word_or_sign Io bytes e = a_word Io bytes (codes "IO") e (record { begins = refl; letters = refl; kind = refl })
word_or_sign Begin bytes e = a_word Begin bytes (codes "BEGIN") e (record { begins = refl; letters = refl; kind = refl })
word_or_sign End bytes e = a_word End bytes (codes "END") e (record { begins = refl; letters = refl; kind = refl })
word_or_sign PutInt bytes e = a_word PutInt bytes (codes "PutInt") e (record { begins = refl; letters = refl; kind = refl })
word_or_sign Semicolon bytes e = a_sign Semicolon bytes 59 e refl refl refl
word_or_sign Dot bytes e = a_sign Dot bytes 46 e refl refl refl
word_or_sign Open bytes e = a_sign Open bytes 40 e refl refl refl
word_or_sign Close bytes e = a_sign Close bytes 41 e refl refl refl
word_or_sign (Operator Add) bytes e = a_sign (Operator Add) bytes 43 e refl refl refl
word_or_sign (Operator Sub) bytes e = a_sign (Operator Sub) bytes 45 e refl refl refl
word_or_sign (Operator Mul) bytes e = a_sign (Operator Mul) bytes 42 e refl refl refl
word_or_sign (Literal n) bytes e = inl (literal_word n bytes e)

-- ---- what spells is read

abbrev token_at : Kind → ℕ → Token
token_at k line = record { kind = k; line = line }

-- no byte that is dark ends a line
dark_line : (line b : ℕ) → is_space b ≡ false → line_after line b ≡ line
dark_line line b e = ap (λ t. cond t (line + 1) line) (no_feed b e)
  where
    no_feed : (b : ℕ) → is_space b ≡ false → is_line_feed b ≡ false
    no_feed b e = grind (arith, nat_tests)

-- white space is no letter
space_other : (b : ℕ) → is_space b ≡ true → is_ascii_alphanumeric b ≡ false
space_other b e = grind (arith, nat_tests)

read_byte : (tokens : List Token) (line b : ℕ) (text : List ℕ) → is_ascii_alphanumeric b ≡ false → lexed tokens line [] (b ∷ text) ≡ then_lexed (with_byte tokens line b) (λ more. lexed more (line_after line b) [] text)
read_byte tokens line b text e = ap (λ t. cond t (lexed tokens line (b ∷ []) text) (then_lexed (with_byte tokens line b) (λ more. lexed more (line_after line b) [] text))) e

lines_of : (b : ℕ) (space : List ℕ) (line : ℕ) → line + count_by is_line_feed (b ∷ space) ≡ line_after line b + count_by is_line_feed space
lines_of b space line =
    let f : ℕ → ℕ = λ x. cond (is_line_feed x) 1 0 in
    let e : count_by is_line_feed (b ∷ space) ≡ cond (is_line_feed b) 1 0 + count_by is_line_feed space = sum_by-cons f b space in
    one_line (is_line_feed b) line (count_by is_line_feed (b ∷ space)) (count_by is_line_feed space) e
  where
    one_line : (t : Bool) (line m n : ℕ) → m ≡ cond t 1 0 + n → line + m ≡ cond t (line + 1) line + n
    one_line true line m n e = omega arith
    one_line false line m n e = omega arith

read_space : (space : List ℕ) (tokens : List Token) (line : ℕ) (rest : List ℕ) → list_all is_space space ≡ true → lexed tokens line [] (space ++ rest) ≡ lexed tokens (line + count_by is_line_feed space) [] rest
read_space [] tokens line rest e = let z : line ≡ line + 0 = omega arith in ap (λ l. lexed tokens l [] rest) z
read_space (b ∷ space) tokens line rest e =
    let p = and_parts (is_space b) (list_all is_space space) e in
    read_byte tokens line b (space ++ rest) (space_other b p.0)
    ∙ ap (λ t. then_lexed (cond t (Some tokens) (with_token tokens line (sign_kind b))) (λ more. lexed more (line_after line b) [] (space ++ rest))) p.0
    ∙ read_space space tokens (line_after line b) rest p.1
    ∙ ap (λ l. lexed tokens l [] rest) (sym (lines_of b space line))

read_letters : (bytes : List ℕ) (tokens : List Token) (line : ℕ) (word rest : List ℕ) → list_all is_ascii_alphanumeric bytes ≡ true → lexed tokens line word (bytes ++ rest) ≡ lexed tokens line (word ++ bytes) rest
read_letters [] tokens line word rest e = ap (λ w. lexed tokens line w rest) (sym (append-nil word))
read_letters (b ∷ bytes) tokens line word rest e =
    let p = and_parts (is_ascii_alphanumeric b) (list_all is_ascii_alphanumeric bytes) e in
    ap (λ t. cond t (lexed tokens line (word ++ b ∷ []) (bytes ++ rest)) (then_lexed (with_open_word tokens line word) (λ ended. then_lexed (with_byte ended line b) (λ more. lexed more (line_after line b) [] (bytes ++ rest))))) p.0
    ∙ read_letters bytes tokens line (word ++ b ∷ []) rest p.1
    ∙ ap (λ w. lexed tokens line w rest) (append_assoc word (b ∷ []) bytes)

then_some : (o : Option (List Token)) → then_lexed o (λ t. Some t) ≡ o
then_some None = refl
then_some (Some x) = refl

read_end : (tokens : List Token) (line : ℕ) (word rest : List ℕ) → begins_word rest ≡ false → lexed tokens line word rest ≡ then_lexed (with_open_word tokens line word) (λ ended. lexed ended line [] rest)
read_end tokens line word [] e = sym (then_some (with_open_word tokens line word))
read_end tokens line word (b ∷ rest) e =
    ap (λ t. cond t (lexed tokens line (word ++ b ∷ []) rest) (then_lexed (with_open_word tokens line word) (λ ended. then_lexed (with_byte ended line b) (λ more. lexed more (line_after line b) [] rest)))) e
    ∙ sym (same_then (with_open_word tokens line word) _ _ (λ ended. read_byte ended line b rest e))
  where
    same_then : (o : Option (List Token)) (f g : List Token → Option (List Token)) → ((t : List Token) → f t ≡ g t) → then_lexed o f ≡ then_lexed o g
    same_then None f g h = refl
    same_then (Some t) f g h = h t

with_word_kind : (tokens : List Token) (line : ℕ) (k : Kind) (bytes : List ℕ) → word_kind bytes ≡ Some k → length tokens < 2000 → with_open_word tokens line bytes ≡ Some (tokens ++ token_at k line ∷ [])
with_word_kind tokens line k [] e h = absurd (found_nothing k e)
with_word_kind tokens line k (b ∷ bytes) e h =
    ap (λ o. with_token tokens line o) e ∙ ap (λ t. cond t (Some (tokens ++ token_at k line ∷ [])) None) (above (length tokens) 2000 h)

no_letter : (a b : Bool) → (a && b) ≡ false → a ≡ true → b ≡ false
no_letter true b e t = e
no_letter false b e t = absurd (false≢true t)

read_token : (tokens : List Token) (line : ℕ) (k : Kind) (bytes rest : List ℕ) → IsWord k bytes ⊎ IsSign k bytes → begins_word bytes && begins_word rest ≡ false → length tokens < 2000 → lexed tokens line [] (bytes ++ rest) ≡ lexed (tokens ++ token_at k line ∷ []) line [] rest
read_token tokens line k bytes rest (inl w) apart h =
    read_letters bytes tokens line [] rest w.letters
    ∙ read_end tokens line bytes rest (no_letter (begins_word bytes) (begins_word rest) apart w.begins)
    ∙ ap (λ o. then_lexed o (λ ended. lexed ended line [] rest)) (with_word_kind tokens line k bytes w.kind h)
read_token tokens line k bytes rest (inr s) apart h =
    let b = s.byte in
    ap (λ x. lexed tokens line [] (x ++ rest)) s.one
    ∙ read_byte tokens line b rest s.other
    ∙ ap (λ t. then_lexed (cond t (Some tokens) (with_token tokens line (sign_kind b))) (λ more. lexed more (line_after line b) [] rest)) s.dark
    ∙ ap (λ o. then_lexed (with_token tokens line o) (λ more. lexed more (line_after line b) [] rest)) s.kind
    ∙ ap (λ t. then_lexed (cond t (Some (tokens ++ token_at k line ∷ [])) None) (λ more. lexed more (line_after line b) [] rest)) (above (length tokens) 2000 h)
    ∙ ap (λ l. lexed (tokens ++ token_at k line ∷ []) l [] rest) (dark_line line b s.dark)

pub spelled_read : (more tokens : List Token) (line : ℕ) (text : List ℕ) → Spells line more text → length tokens + length more ≤ 2000 → lexed tokens line [] text ≡ Some (tokens ++ more)
spelled_read [] tokens line text s h =
    ap (λ t. lexed tokens line [] t) (sym (append-nil text)) ∙ read_space text tokens line [] s ∙ ap Some (sym (append-nil tokens))
spelled_read (t ∷ more) tokens line text s h =
    let rest = s.0 in
    let b = s.1 in
    let long = length-append tokens (t ∷ []) in
    ap (λ x. lexed tokens line [] x) b.parts
    ∙ read_space b.space tokens line (b.bytes ++ rest) b.white
    ∙ ap (λ l. lexed tokens l [] (b.bytes ++ rest)) (sym b.place)
    ∙ read_token tokens t.line t.kind b.bytes rest (word_or_sign t.kind b.bytes b.spelled) b.apart (omega arith)
    ∙ spelled_read more (tokens ++ t ∷ []) t.line rest s.2 (omega arith)
    ∙ ap Some (append_assoc tokens (t ∷ []) more)

-- ---- what is read spells

-- what was read after some tokens
record Reads (tokens : List Token) (line : ℕ) (text : List ℕ) (all : List Token) : Type 0 where
  more : List Token
  parts : all ≡ tokens ++ more
  spelled : Spells line more text
  few : length all ≤ 2000

-- white space before what spells
spells_space : (b line : ℕ) (more : List Token) (text : List ℕ) → is_space b ≡ true → Spells (line_after line b) more text → Spells line more (b ∷ text)
spells_space b line [] text e s = ap (λ x. x && list_all is_space text) e ∙ s
spells_space b line (t ∷ more) text e s =
    let g = s.1 in (
      s.0,
      record {
        space = b ∷ g.space;
        bytes = g.bytes;
        parts = ap (λ x. b ∷ x) g.parts;
        white = ap (λ x. x && list_all is_space g.space) e ∙ g.white;
        place = g.place ∙ sym (lines_of b g.space line);
        spelled = g.spelled;
        apart = g.apart;
      },
      s.2,
    )

begins_here : (k : Kind) (line : ℕ) (bytes rest : List ℕ) → IsSpelled k bytes → begins_word bytes && begins_word rest ≡ false → Begins line (token_at k line) (bytes ++ rest) rest
begins_here k line bytes rest h apart = record {
  space = [];
  bytes = bytes;
  parts = refl;
  white = refl;
  place = (omega arith);
  spelled = h;
  apart = apart;
}

token_added : (tokens all : List Token) (line : ℕ) (o : Option Kind) → with_token tokens line o ≡ Some all → (k : Kind) × (o ≡ Some k) × (all ≡ tokens ++ token_at k line ∷ []) × (length tokens < 2000)
token_added tokens all line None e = absurd (found_nothing all e)
token_added tokens all line (Some k) e =
    pick (nat_lt (length tokens) 2000) _ _ all
    (λ t e. (k, refl, sym (found_same (tokens ++ token_at k line ∷ []) all e), below (length tokens) 2000 t))
    (λ t e. absurd (found_nothing all e)) e

then_parts : {P : Type 0} (o : Option (List Token)) (next : List Token → Option (List Token)) (all : List Token) → ((t : List Token) → o ≡ Some t → next t ≡ Some all → P) → then_lexed o next ≡ Some all → P
then_parts None next all f e = absurd (found_nothing all e)
then_parts (Some t) next all f e = f t refl e

-- a byte that is no letter
reads_byte : (tokens more all : List Token) (line b : ℕ) (text : List ℕ) → is_ascii_alphanumeric b ≡ false → with_byte tokens line b ≡ Some more → Reads more (line_after line b) text all → Reads tokens line (b ∷ text) all
reads_byte tokens more all line b text other e r =
    pick (is_space b) _ _ more
    (λ t e. let same = found_same tokens more e in
    record { more = r.more; parts = r.parts ∙ ap (λ x. x ++ r.more) (sym same); spelled = spells_space b line r.more text t r.spelled; few = r.few })
    (λ t e. let a = token_added tokens more line (sign_kind b) e in
    record {
      more = token_at a.0 line ∷ r.more;
      parts = r.parts ∙ ap (λ x. x ++ r.more) a.2 ∙ append_assoc tokens (token_at a.0 line ∷ []) r.more;
      spelled = (text, begins_here a.0 line (b ∷ []) text (sign_spelled b a.0 a.1) (ap (λ x. x && begins_word text) other), subst (λ l. Spells l r.more text) (dark_line line b t) r.spelled);
      few = r.few;
    })
    e

-- a word that has ended
reads_word : (tokens ended all : List Token) (line : ℕ) (word text : List ℕ) → begins_word text ≡ false → with_open_word tokens line word ≡ Some ended → Reads ended line text all → Reads tokens line (word ++ text) all
reads_word tokens ended all line [] text apart e r =
    let same = found_same tokens ended e in record { more = r.more; parts = r.parts ∙ ap (λ x. x ++ r.more) (sym same); spelled = r.spelled; few = r.few }
reads_word tokens ended all line (b ∷ bytes) text apart e r =
    let a = token_added tokens ended line (word_kind (b ∷ bytes)) e in
    record {
      more = token_at a.0 line ∷ r.more;
      parts = r.parts ∙ ap (λ x. x ++ r.more) a.2 ∙ append_assoc tokens (token_at a.0 line ∷ []) r.more;
      spelled = (text, begins_here a.0 line (b ∷ bytes) text (word_spelled (b ∷ bytes) a.0 a.1) (ap (λ x. begins_word (b ∷ bytes) && x) apart ∙ and_false (begins_word (b ∷ bytes))), r.spelled);
      few = r.few;
    }

few_word : (tokens all : List Token) (line : ℕ) (word : List ℕ) → length tokens ≤ 2000 → with_open_word tokens line word ≡ Some all → length all ≤ 2000
few_word tokens all line [] h e = let l = ap length (found_same tokens all e) in omega arith
few_word tokens all line (b ∷ bytes) h e =
    let a = token_added tokens all line (word_kind (b ∷ bytes)) e in
    let l = ap length a.2 in let m = length-append tokens (token_at a.0 line ∷ []) in let s = a.3 in omega arith

few_byte : (tokens all : List Token) (line b : ℕ) → length tokens ≤ 2000 → with_byte tokens line b ≡ Some all → length all ≤ 2000
few_byte tokens all line b h e =
    pick (is_space b) _ _ all (λ t e. let l = ap length (found_same tokens all e) in omega arith)
    (λ t e. let a = token_added tokens all line (sign_kind b) e in
    let l = ap length a.2 in let m = length-append tokens (token_at a.0 line ∷ []) in let s = a.3 in omega arith) e

reads : (text word : List ℕ) (tokens all : List Token) (line : ℕ) → length tokens ≤ 2000 → lexed tokens line word text ≡ Some all → Reads tokens line (word ++ text) all
reads [] word tokens all line h e =
    reads_word tokens all all line word [] refl e (record { more = []; parts = sym (append-nil all); spelled = refl; few = few_word tokens all line word h e })
reads (b ∷ text) word tokens all line h e =
    pick (is_ascii_alphanumeric b) _ _ all
    (λ t e. subst (λ x. Reads tokens line x all) (append_assoc word (b ∷ []) text) (reads text (word ++ b ∷ []) tokens all line h e))
    (λ t e. then_parts (with_open_word tokens line word) _ all (λ ended w e. then_parts (with_byte ended line b) _ all (λ more y e.
    let few = few_word tokens ended line word h w in
    reads_word tokens ended all line word (b ∷ text) t w
    (reads_byte ended more all line b text t y (reads text [] more all (line_after line b) (few_byte ended more line b few y) e))) e) e)
    e

pub read_spelled : (text : List ℕ) (all : List Token) → lexed [] 1 [] text ≡ Some all → Spells 1 all text × (length all ≤ 2000)
read_spelled text all e =
    let r = reads text [] [] all 1 (omega arith) e in
    (subst (λ t. Spells 1 t text) (sym r.parts) r.spelled, r.few)
