-- Text literals, as they are read and as they are spelled.
use Rattle.std.proofs.Common.{◌≡◌, ℕ, zero, suc, ◌+◌, ◌≤◌, Bool, true, false, ◌&&◌, eqb, cond, List, [], ◌∷◌, ◌++◌, length, take, Option, Some, None, Ok, Err, refl, sym, ap, subst, ◌∙◌, inl, inr, arith}
use Rattle.std.specs.Prelude.{◌==◌, is_some, not}
use Rattle.std.specs.List.{concat, list_all}
use Rattle.std.proofs.lemmas.Bool.{and_parts, and_from, and_left, cases_Bool, false≢true, eqb-true, ne_eqb, cond-true, cond-false, not-true, not_from_false}
use Rattle.std.proofs.lemmas.List.{take_at, nil_from_length}
use Rattle.m3_syntax.specs.declared.tokens.TokenKind.TheVariants.{TextLit}
use Rattle.m3_syntax.specs.Lexis.{lettered, octal, escaped, spelled, is_plain, is_rough_piece, IsRow, IsTextBody, IsRoughBody}
use Rattle.m3_lexer.specs.declared.fronts.Front.TheVariants.{Spelled}
use Rattle.m3_lexer.specs.Reading.{plus, escape_at, escape_from, body_len, is_well_escaped, text_at}
use Rattle.m3_lexer.proofs.Counts.{plain_is}
use Rattle.m3_lexer.proofs.CharacterLaws.{some_is, some_from, none_some, octal_digits, octal_plain, escape_only}
use Rattle.m3_lexer.proofs.MarkLaws.{plus_some}

-- ---- how far a body goes

body_plain : (c : ℕ) (xs : List ℕ) → is_plain 34 c ≡ true → body_len (c ∷ xs) ≡ plus 1 (body_len xs)
body_plain c [] h = let tests = plain_is 34 c h in rw tests.0 refl
body_plain c (d ∷ xs) h = let tests = plain_is 34 c h in rw (tests.0, tests.1, tests.2) refl

body_pair : (d : ℕ) (xs : List ℕ) → eqb d 10 ≡ false → body_len (92 ∷ d ∷ xs) ≡ plus 2 (body_len xs)
body_pair d xs h = rw h refl

body_end : (more : List ℕ) → body_len (34 ∷ more) ≡ Some 0
body_end [] = refl
body_end (d ∷ more) = refl

-- a rough body is read up to its end
pieces_only : (pieces : List (List ℕ)) (more : List ℕ) → list_all is_rough_piece pieces ≡ true → body_len (concat pieces ++ 34 ∷ more) ≡ Some (length (concat pieces))
pieces_only [] more h = body_end more
pieces_only ([] ∷ pieces) more h = absurd (false≢true h)
pieces_only ((c ∷ []) ∷ pieces) more h =
    let parts = and_parts (is_rough_piece (c ∷ [])) (list_all is_rough_piece pieces) h in
    body_plain c (concat pieces ++ 34 ∷ more) parts.0 ∙ ap (plus 1) (pieces_only pieces more parts.1) ∙ ap (λ (n : ℕ). Some n) (omega arith)
pieces_only ((c ∷ d ∷ []) ∷ pieces) more h =
    let parts = and_parts (is_rough_piece (c ∷ d ∷ [])) (list_all is_rough_piece pieces) h in
    let both = and_parts (c == 92) (not (d == 10)) parts.0 in
    ap (λ (k : ℕ). body_len (k ∷ d ∷ (concat pieces ++ 34 ∷ more))) (eqb-true c 92 both.0)
    ∙ body_pair d (concat pieces ++ 34 ∷ more) (not-true (d == 10) both.1) ∙ ap (plus 2) (pieces_only pieces more parts.1) ∙ ap (λ (n : ℕ). Some n) (omega arith)
pieces_only ((c ∷ d ∷ e ∷ rest) ∷ pieces) more h = absurd (false≢true h)

pub body_only : (body more : List ℕ) → IsRoughBody body → body_len (body ++ 34 ∷ more) ≡ Some (length body)
body_only body more h = subst (λ (b : List ℕ). body_len (b ++ 34 ∷ more) ≡ Some (length b)) h.1 (pieces_only h.0 more h.2)

-- what is read is a rough body, and a mark closes it
pub record Bodied (text : List ℕ) (n : ℕ) : Type 0 where
  pub body : List ℕ
  pub more : List ℕ
  pub parts : text ≡ body ++ 34 ∷ more
  pub size : n ≡ length body
  pub rough : IsRoughBody body

row_more : (is_piece : List ℕ → Bool) (piece body : List ℕ) → is_piece piece ≡ true → IsRow is_piece body → IsRow is_piece (piece ++ body)
row_more is_piece piece body h r = (piece ∷ r.0, ap (λ (b : List ℕ). piece ++ b) r.1, and_from (is_piece piece) (list_all is_piece r.0) h r.2)

bodied_plain : (c : ℕ) (xs : List ℕ) (n m : ℕ) → is_plain 34 c ≡ true → n ≡ 1 + m → Bodied xs m → Bodied (c ∷ xs) n
bodied_plain c xs n m h e b = record {
  body = c ∷ b.body;
  more = b.more;
  parts = ap (λ (l : List ℕ). c ∷ l) b.parts;
  size = omega (arith, b.size);
  rough = row_more is_rough_piece (c ∷ []) b.body h b.rough;
}

bodied_pair : (d : ℕ) (xs : List ℕ) (n m : ℕ) → eqb d 10 ≡ false → n ≡ 2 + m → Bodied xs m → Bodied (92 ∷ d ∷ xs) n
bodied_pair d xs n m h e b = record {
  body = 92 ∷ d ∷ b.body;
  more = b.more;
  parts = ap (λ (l : List ℕ). 92 ∷ d ∷ l) b.parts;
  size = omega (arith, b.size);
  rough = row_more is_rough_piece (92 ∷ d ∷ []) b.body (not_from_false (eqb d 10) h) b.rough;
}

bodied_end : (more : List ℕ) (n : ℕ) → n ≡ 0 → Bodied (34 ∷ more) n
bodied_end more n e = record { body = []; more = more; parts = refl; size = e; rough = ([], refl, refl) }

pub body_found : (text : List ℕ) (n : ℕ) → body_len text ≡ Some n → Bodied text n
body_found [] n e = absurd cc
body_found (c ∷ []) n e =
    elim (cases_Bool (c == 34)) [
      | inl ends ↦
          let none : n ≡ 0 = sym (some_is 0 n (sym (cond-true (c == 34) (Some 0) None ends) ∙ e)) in
          subst (λ (k : ℕ). Bodied (k ∷ []) n) (sym (eqb-true c 34 ends)) (bodied_end [] n none)
      | inr other ↦ let bad : None ≡ Some n = sym (cond-false (c == 34) (Some 0) None other) ∙ e in absurd cc
    ]
body_found (c ∷ d ∷ rest) n e =
    elim (cases_Bool (c == 34)) [
      | inl ends ↦
          let none : n ≡ 0 = sym (some_is 0 n (sym (cond-true (c == 34) (Some 0) _ ends) ∙ e)) in
          subst (λ (k : ℕ). Bodied (k ∷ d ∷ rest) n) (sym (eqb-true c 34 ends)) (bodied_end (d ∷ rest) n none)
      | inr other ↦
          let e1 : cond (is_plain 34 c) (plus 1 (body_len (d ∷ rest))) (cond ((c == 92) && not (d == 10)) (plus 2 (body_len rest)) None) ≡ Some n = sym (cond-false (c == 34) (Some 0) _ other) ∙ e in
          elim (cases_Bool (is_plain 34 c)) [
            | inl plain ↦
                let inner = plus_some 1 n (body_len (d ∷ rest)) (sym (cond-true (is_plain 34 c) _ _ plain) ∙ e1) in
                bodied_plain c (d ∷ rest) n inner.0 plain inner.2 (body_found (d ∷ rest) inner.0 inner.1)
            | inr special ↦
                let e2 : cond ((c == 92) && not (d == 10)) (plus 2 (body_len rest)) None ≡ Some n = sym (cond-false (is_plain 34 c) _ _ special) ∙ e1 in
                elim (cases_Bool ((c == 92) && not (d == 10))) [
                  | inl pair ↦
                      let parts = and_parts (c == 92) (not (d == 10)) pair in
                      let inner = plus_some 2 n (body_len rest) (sym (cond-true ((c == 92) && not (d == 10)) _ _ pair) ∙ e2) in
                      subst (λ (k : ℕ). Bodied (k ∷ d ∷ rest) n) (sym (eqb-true c 92 parts.0)) (bodied_pair d rest n inner.0 (not-true (d == 10) parts.1) inner.2 (body_found rest inner.0 inner.1))
                  | inr nothing ↦ let bad : None ≡ Some n = sym (cond-false ((c == 92) && not (d == 10)) _ _ nothing) ∙ e2 in absurd cc
                ]
          ]
    ]

-- ---- escapes in a body

escaped_plain : (c : ℕ) (xs : List ℕ) → eqb c 92 ≡ false → is_well_escaped (c ∷ xs) ≡ is_well_escaped xs
escaped_plain c [] h = rw h refl
escaped_plain c (d ∷ xs) h = rw h refl

-- a piece is a byte, a letter behind a backslash, or three digits behind one
data PieceIs (piece : List ℕ) : Type 0 where
  byte : (c : ℕ) → piece ≡ c ∷ [] → is_plain 34 c ≡ true → PieceIs piece
  letter : (d b : ℕ) → piece ≡ 92 ∷ d ∷ [] → lettered d ≡ Some b → PieceIs piece
  digits : (x y z b : ℕ) → piece ≡ 92 ∷ x ∷ y ∷ z ∷ [] → octal x y z ≡ Some b → PieceIs piece

escape_is : (rest : List ℕ) (b : ℕ) → escaped rest ≡ Some b → PieceIs (92 ∷ rest)
escape_is [] b h = absurd cc
escape_is (c ∷ []) b h = letter c b refl h
escape_is (x ∷ y ∷ []) b h = absurd cc
escape_is (x ∷ y ∷ z ∷ []) b h = digits x y z b refl h
escape_is (x ∷ y ∷ z ∷ w ∷ rest) b h = absurd cc

byte_is : (c : ℕ) (rest : List ℕ) → is_some (cond (is_plain 34 c && (length rest == 0)) (Some c) None) ≡ true → PieceIs (c ∷ rest)
byte_is c rest h =
    elim (cases_Bool (is_plain 34 c && (length rest == 0))) [
      | inl good ↦
          let parts = and_parts (is_plain 34 c) (length rest == 0) good in
          byte c (ap (λ (l : List ℕ). c ∷ l) (nil_from_length rest (eqb-true (length rest) 0 parts.1))) parts.0
      | inr bad ↦ absurd (false≢true (sym (ap (λ (o : Option ℕ). is_some o) (cond-false (is_plain 34 c && (length rest == 0)) (Some c) None bad)) ∙ h))
    ]

piece_is : (piece : List ℕ) → is_some (spelled 34 piece) ≡ true → PieceIs piece
piece_is [] h = absurd (false≢true h)
piece_is (c ∷ rest) h =
    elim (cases_Bool (c == 92)) [
      | inl back ↦
          let some : is_some (escaped rest) ≡ true = sym (ap (λ (o : Option ℕ). is_some o) (cond-true (c == 92) (escaped rest) _ back)) ∙ h in
          let x = some_from (escaped rest) some in
          subst (λ (k : ℕ). PieceIs (k ∷ rest)) (sym (eqb-true c 92 back)) (escape_is rest x.0 x.1)
      | inr other ↦ byte_is c rest (sym (ap (λ (o : Option ℕ). is_some o) (cond-false (c == 92) (escaped rest) _ other)) ∙ h)
    ]

letter_line : (d b : ℕ) → lettered d ≡ Some b → eqb d 10 ≡ false
letter_line d b h = ne_eqb d 10 (λ e. let bad : lettered 10 ≡ Some b = subst (λ (k : ℕ). lettered k ≡ Some b) e h in absurd cc)

is_text_piece : List ℕ → Bool
is_text_piece piece = is_some (spelled 34 piece)

-- a body with good escapes is a rough one
rough_piece : (piece rest : List ℕ) → PieceIs piece → IsRoughBody rest → IsRoughBody (piece ++ rest)
rough_piece piece rest (byte c e h) r = subst (λ (p : List ℕ). IsRoughBody (p ++ rest)) (sym e) (row_more is_rough_piece (c ∷ []) rest h r)
rough_piece piece rest (letter d b e h) r = subst (λ (p : List ℕ). IsRoughBody (p ++ rest)) (sym e) (row_more is_rough_piece (92 ∷ d ∷ []) rest (not_from_false (eqb d 10) (letter_line d b h)) r)
rough_piece piece rest (digits x y z b e h) r =
    let ds = octal_digits x y z b h in
    subst (λ (p : List ℕ). IsRoughBody (p ++ rest)) (sym e)
    (row_more is_rough_piece (92 ∷ x ∷ []) (y ∷ z ∷ rest) (not_from_false (eqb x 10) (plain_is 34 x (octal_plain x ds.0)).2)
    (row_more is_rough_piece (y ∷ []) (z ∷ rest) (octal_plain y ds.1) (row_more is_rough_piece (z ∷ []) rest (octal_plain z ds.2) r)))

pieces_rough : (pieces : List (List ℕ)) → list_all (λ piece. is_some (spelled 34 piece)) pieces ≡ true → IsRoughBody (concat pieces)
pieces_rough [] h = ([], refl, refl)
pieces_rough (piece ∷ pieces) h =
    let parts = and_parts (is_some (spelled 34 piece)) (list_all (λ p. is_some (spelled 34 p)) pieces) h in
    rough_piece piece (concat pieces) (piece_is piece parts.0) (pieces_rough pieces parts.1)

pub text_rough : (body : List ℕ) → IsTextBody body → IsRoughBody body
text_rough body t = subst IsRoughBody t.1 (pieces_rough t.0 t.2)

-- its backslashes begin escapes
good_piece : (piece rest : List ℕ) → PieceIs piece → is_well_escaped rest ≡ true → is_well_escaped (piece ++ rest) ≡ true
good_piece piece rest (byte c e h) r = subst (λ (p : List ℕ). is_well_escaped (p ++ rest) ≡ true) (sym e) (escaped_plain c rest (plain_is 34 c h).1 ∙ r)
good_piece piece rest (letter d b e h) r =
    subst (λ (p : List ℕ). is_well_escaped (p ++ rest) ≡ true) (sym e)
    (and_from (is_some (escape_at (d ∷ rest))) (is_well_escaped rest) (ap (λ (o : Option (ℕ × ℕ)). is_some o) (escape_only (d ∷ []) rest b h)) r)
good_piece piece rest (digits x y z b e h) r =
    let ds = octal_digits x y z b h in
    let after : is_well_escaped (y ∷ z ∷ rest) ≡ true = escaped_plain y (z ∷ rest) (plain_is 34 y (octal_plain y ds.1)).1 ∙ escaped_plain z rest (plain_is 34 z (octal_plain z ds.2)).1 ∙ r in
    subst (λ (p : List ℕ). is_well_escaped (p ++ rest) ≡ true) (sym e)
    (and_from (is_some (escape_at (x ∷ y ∷ z ∷ rest))) (is_well_escaped (y ∷ z ∷ rest)) (ap (λ (o : Option (ℕ × ℕ)). is_some o) (escape_only (x ∷ y ∷ z ∷ []) rest b h)) after)

pieces_good : (pieces : List (List ℕ)) → list_all (λ piece. is_some (spelled 34 piece)) pieces ≡ true → is_well_escaped (concat pieces) ≡ true
pieces_good [] h = refl
pieces_good (piece ∷ pieces) h =
    let parts = and_parts (is_some (spelled 34 piece)) (list_all (λ p. is_some (spelled 34 p)) pieces) h in
    good_piece piece (concat pieces) (piece_is piece parts.0) (pieces_good pieces parts.1)

pub text_good : (body : List ℕ) → IsTextBody body → is_well_escaped body ≡ true
text_good body t = subst (λ (b : List ℕ). is_well_escaped b ≡ true) t.1 (pieces_good t.0 t.2)

-- ---- a rough body whose backslashes begin escapes is a text's

plus_is : (a n k : ℕ) (o : Option ℕ) → plus a o ≡ Some k → k ≡ a + n → o ≡ Some n
plus_is a n k o e size = let inner = plus_some a k o e in inner.1 ∙ ap (λ (m : ℕ). Some m) (omega (arith, inner.2))

text_row : (piece body : List ℕ) (b : ℕ) → spelled 34 piece ≡ Some b → IsTextBody body → IsTextBody (piece ++ body)
text_row piece body b h r = row_more (λ p. is_some (spelled 34 p)) piece body (ap (λ (o : Option ℕ). is_some o) h) r

plain_spelled : (c : ℕ) → is_plain 34 c ≡ true → spelled 34 (c ∷ []) ≡ Some c
plain_spelled c h = cond-false (c == 92) _ _ (plain_is 34 c h).1 ∙ cond-true (is_plain 34 c && true) _ _ (and_from (is_plain 34 c) true h refl)

-- bytes that stand for themselves, passed at the front
pass : (c n : ℕ) (rest more : List ℕ) → is_plain 34 c ≡ true → body_len (c ∷ rest ++ 34 ∷ more) ≡ Some (suc n) → body_len (rest ++ 34 ∷ more) ≡ Some n
pass c n rest more h e = plus_is 1 n (suc n) (body_len (rest ++ 34 ∷ more)) (sym (body_plain c (rest ++ 34 ∷ more) h) ∙ e) (omega arith)

abbrev Texts : ℕ → Type 0
Texts n = (body more : List ℕ) → length body ≤ n → body_len (body ++ 34 ∷ more) ≡ Some (length body) → is_well_escaped body ≡ true → IsTextBody body

-- three digits, where no letter stands behind the backslash
digits_found : (n d y z : ℕ) (xs more : List ℕ) (b : ℕ) → Texts n → octal d y z ≡ Some b → length xs ≤ n
    → body_len (y ∷ z ∷ xs ++ 34 ∷ more) ≡ Some (suc (suc (length xs))) → is_well_escaped (y ∷ z ∷ xs) ≡ true → IsTextBody (92 ∷ d ∷ y ∷ z ∷ xs)
digits_found n d y z xs more b ih is fits len good =
    let ds = octal_digits d y z b is in
    let plain_y = octal_plain y ds.1 in
    let plain_z = octal_plain z ds.2 in
    let after = pass z (length xs) xs more plain_z (pass y (suc (length xs)) (z ∷ xs) more plain_y len) in
    let good' : is_well_escaped xs ≡ true = sym (escaped_plain z xs (plain_is 34 z plain_z).1) ∙ sym (escaped_plain y (z ∷ xs) (plain_is 34 y plain_y).1) ∙ good in
    text_row (92 ∷ d ∷ y ∷ z ∷ []) xs b is (ih xs more fits after good')

octal_found : (n d : ℕ) (xs more : List ℕ) → Texts n → is_some (escape_from None d xs) ≡ true → length xs ≤ n
    → body_len (xs ++ 34 ∷ more) ≡ Some (length xs) → is_well_escaped xs ≡ true → IsTextBody (92 ∷ d ∷ xs)
octal_found n d [] more ih some fits len good = absurd (false≢true some)
octal_found n d (y ∷ []) more ih some fits len good = absurd (false≢true some)
octal_found n d (y ∷ z ∷ xs) more ih some fits len good =
    elim (cases_Bool (is_some (octal d y z))) [
      | inl yes' ↦ let x = some_from (octal d y z) yes' in digits_found n d y z xs more x.0 ih x.1 (omega arith) len good
      | inr nope ↦
          let none : octal d y z ≡ None = none_some (octal d y z) (λ e. false≢true (sym nope ∙ e)) in
          let bad : is_some {T = ℕ × ℕ} None ≡ true = rw none at some in
          absurd (false≢true bad)
    ]

pair_found : (n d : ℕ) (xs more : List ℕ) → Texts n → length xs ≤ n → body_len (xs ++ 34 ∷ more) ≡ Some (length xs) → is_some (escape_at (d ∷ xs)) ≡ true → is_well_escaped xs ≡ true
    → IsTextBody (92 ∷ d ∷ xs)
unfolding escape_at
pair_found n d xs more ih fits len some good =
    elim (cases_Bool (is_some (lettered d))) [
      | inl letter' ↦ let x = some_from (lettered d) letter' in text_row (92 ∷ d ∷ []) xs x.0 x.1 (ih xs more fits len good)
      | inr other ↦
          let none : lettered d ≡ None = none_some (lettered d) (λ e. false≢true (sym other ∙ e)) in
          let some' : is_some (escape_from None d xs) ≡ true = rw none at some in
          octal_found n d xs more ih some' fits len good
    ]

nothing_some : (n : ℕ) → None ≡ Some n → ⊥
nothing_some n e = absurd cc

special_found : (n c : ℕ) (rest more : List ℕ) → Texts n → length rest ≤ n → eqb c 34 ≡ false → is_plain 34 c ≡ false
    → body_len (c ∷ rest ++ 34 ∷ more) ≡ Some (suc (length rest)) → is_well_escaped (c ∷ rest) ≡ true → IsTextBody (c ∷ rest)
special_found n c [] more ih fits other special e good =
    let e1 : cond (is_plain 34 c) (plus 1 (body_len (34 ∷ more))) (cond ((c == 92) && true) (plus 2 (body_len more)) None) ≡ Some 1 = sym (cond-false (c == 34) (Some 0) _ other) ∙ e in
    let e2 : cond ((c == 92) && true) (plus 2 (body_len more)) None ≡ Some 1 = sym (cond-false (is_plain 34 c) _ _ special) ∙ e1 in
    let none : ((c == 92) && true) ≡ false = and_left (c == 92) true (not-true (c == 92) good) in
    absurd (nothing_some 1 (sym (cond-false ((c == 92) && true) _ _ none) ∙ e2))
special_found n c (d ∷ rest) more ih fits other special e good =
    let e1 : cond (is_plain 34 c) (plus 1 (body_len (d ∷ rest ++ 34 ∷ more))) (cond ((c == 92) && not (d == 10)) (plus 2 (body_len (rest ++ 34 ∷ more))) None) ≡ Some (suc (suc (length rest)))
    = sym (cond-false (c == 34) (Some 0) _ other) ∙ e in
    let e2 : cond ((c == 92) && not (d == 10)) (plus 2 (body_len (rest ++ 34 ∷ more))) None ≡ Some (suc (suc (length rest))) = sym (cond-false (is_plain 34 c) _ _ special) ∙ e1 in
    elim (cases_Bool ((c == 92) && not (d == 10))) [
      | inl pair ↦
          let parts = and_parts (c == 92) (not (d == 10)) pair in
          let same : c ≡ 92 = eqb-true c 92 parts.0 in
          let len : body_len (rest ++ 34 ∷ more) ≡ Some (length rest) = plus_is 2 (length rest) (suc (suc (length rest))) (body_len (rest ++ 34 ∷ more)) (sym (cond-true ((c == 92) && not (d == 10)) _ _ pair) ∙ e2) (omega arith) in
          let good' : is_well_escaped (92 ∷ d ∷ rest) ≡ true = subst (λ (k : ℕ). is_well_escaped (k ∷ d ∷ rest) ≡ true) same good in
          let both = and_parts (is_some (escape_at (d ∷ rest))) (is_well_escaped rest) good' in
          subst (λ (k : ℕ). IsTextBody (k ∷ d ∷ rest)) (sym same) (pair_found n d rest more ih (omega arith) len both.0 both.1)
      | inr nothing ↦ let bad : None ≡ Some (suc (suc (length rest))) = sym (cond-false ((c == 92) && not (d == 10)) _ _ nothing) ∙ e2 in absurd cc
    ]

text_upto : (n : ℕ) → Texts n
text_upto n [] more fits len good = ([], refl, refl)
text_upto zero (c ∷ rest) more fits len good = absurd (omega arith)
text_upto (suc n) (c ∷ rest) more fits len good =
    elim (cases_Bool (c == 34)) [
      | inl mark ↦
          let short : body_len (34 ∷ rest ++ 34 ∷ more) ≡ Some (suc (length rest)) = subst (λ (k : ℕ). body_len (k ∷ rest ++ 34 ∷ more) ≡ Some (suc (length rest))) (eqb-true c 34 mark) len in
          let bad : 0 ≡ suc (length rest) = some_is 0 (suc (length rest)) (sym (body_end (rest ++ 34 ∷ more)) ∙ short) in
          absurd (omega arith)
      | inr other ↦ elim (cases_Bool (is_plain 34 c)) [
        | inl plain ↦
            let after = pass c (length rest) rest more plain len in
            let good' : is_well_escaped rest ≡ true = sym (escaped_plain c rest (plain_is 34 c plain).1) ∙ good in
            text_row (c ∷ []) rest c (plain_spelled c plain) (text_upto n rest more (omega arith) after good')
        | inr special ↦ special_found n c rest more (text_upto n) (omega arith) other special len good
      ]
    ]

pub text_found : (body more : List ℕ) → IsRoughBody body → is_well_escaped body ≡ true → IsTextBody body
text_found body more rough good = text_upto (length body) body more (omega arith) (body_only body more rough) good

-- ---- text literals

pub text_only : (body more : List ℕ) → IsTextBody body → text_at (body ++ 34 ∷ more) ≡ Ok (Spelled TextLit (length body + 2))
unfolding text_at
text_only body more t =
    let front : take (length body) (body ++ 34 ∷ more) ≡ body = take_at body (34 ∷ more) (length body) refl in
    rw (body_only body more (text_rough body t), front, text_good body t) refl

pub text_open : (rest : List ℕ) → ((body more : List ℕ) → rest ≡ body ++ 34 ∷ more → IsRoughBody body → ⊥) → text_at rest ≡ Err 4
unfolding text_at
text_open rest none =
    let nothing : body_len rest ≡ None = none_some (body_len rest) (λ some. let x = some_from (body_len rest) some in let b = body_found rest x.0 x.1 in none b.body b.more b.parts b.rough) in
    rw nothing refl

pub text_bad : (rest body more : List ℕ) → rest ≡ body ++ 34 ∷ more → IsRoughBody body → (IsTextBody body → ⊥) → text_at rest ≡ Err 5
unfolding text_at
text_bad rest body more parts rough none =
    let read : body_len rest ≡ Some (length body) = rw parts (body_only body more rough) in
    let front : take (length body) rest ≡ body = rw parts (take_at body (34 ∷ more) (length body) refl) in
    elim (cases_Bool (is_well_escaped body)) [
      | inl good ↦ absurd (none (text_found body more rough good))
      | inr bad ↦ rw (read, front, bad) refl
    ]
