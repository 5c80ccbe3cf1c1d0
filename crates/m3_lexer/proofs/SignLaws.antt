-- The sign that a text begins with, the longest.
use Rattle.std.proofs.Common.{◌≡◌, ℕ, ◌≤◌, true, cond, List, [], ◌∷◌, ◌++◌, length, Option, Some, None, refl, sym, ap, subst, ◌∙◌, arith}
use Rattle.std.specs.Prelude.{◌==◌}
use Rattle.std.proofs.lemmas.Bool.{cond_both, eqb-true}
use Rattle.m3_syntax.specs.declared.tokens.Sign.{Sign}
use Rattle.m3_syntax.specs.declared.tokens.Sign.TheVariants as signs
use Rattle.m3_syntax.specs.Spellings.{text_of_sign}
use Rattle.m3_lexer.specs.Reading.{begins, one_or_two, sign_at}
use Rattle.m3_lexer.proofs.CharacterLaws.{some_is, begins_is}

-- the sign stands there, with its length
pub record SignIn (c : ℕ) (rest : List ℕ) (x : Sign × ℕ) : Type 0 where
  pub more : List ℕ
  pub parts : c ∷ rest ≡ text_of_sign x.0 ++ more
  pub size : x.1 ≡ length (text_of_sign x.0)

Right : ℕ → List ℕ → Option (Sign × ℕ) → Type 0
Right c rest o = (x : Sign × ℕ) → o ≡ Some x → SignIn c rest x

one : (c k : ℕ) (rest : List ℕ) (s : Sign) → (c == k) ≡ true → text_of_sign s ≡ k ∷ [] → Right c rest (Some (s, 1))
unfolding Right
one c k rest s e is x found =
    subst (SignIn c rest) (some_is (s, 1) x found)
    (record { more = rest; parts = ap (λ (b : ℕ). b ∷ rest) (eqb-true c k e) ∙ ap (λ (l : List ℕ). l ++ rest) (sym is); size = sym (ap length is) })

two : (c k b : ℕ) (rest : List ℕ) (s : Sign) → (c == k) ≡ true → begins b rest ≡ true → text_of_sign s ≡ k ∷ b ∷ [] → Right c rest (Some (s, 2))
unfolding Right
two c k b rest s e h is x found =
    let after = begins_is b rest h in
    subst (SignIn c rest) (some_is (s, 2) x found)
    (record { more = after.0; parts = ap (λ (a : ℕ). a ∷ rest) (eqb-true c k e) ∙ ap (λ (l : List ℕ). k ∷ l) after.1 ∙ ap (λ (l : List ℕ). l ++ after.0) (sym is); size = sym (ap length is) })

nothing : (c : ℕ) (rest : List ℕ) → Right c rest None
unfolding Right
nothing c rest x found = absurd cc

either : (c k b : ℕ) (rest : List ℕ) (s t : Sign) → (c == k) ≡ true → text_of_sign s ≡ k ∷ b ∷ [] → text_of_sign t ≡ k ∷ [] → Right c rest (one_or_two b s t rest)
either c k b rest s t e is-s is-t =
    cond_both (begins b rest) (Some (s, 2)) (Some (t, 1)) (Right c rest) (λ h. two c k b rest s e h is-s) (λ h. one c k rest t e is-t)

sign_right : (c : ℕ) (rest : List ℕ) → Right c rest (sign_at c rest)
sign_right c rest =
    cond_both (c == 43) (Some (signs.Plus, 1)) _ (Right c rest) (λ e. one c 43 rest signs.Plus e refl) (λ _.
    cond_both (c == 45) (Some (signs.Minus, 1)) _ (Right c rest) (λ e. one c 45 rest signs.Minus e refl) (λ _.
    cond_both (c == 42) (Some (signs.Star, 1)) _ (Right c rest) (λ e. one c 42 rest signs.Star e refl) (λ _.
    cond_both (c == 47) (Some (signs.Slash, 1)) _ (Right c rest) (λ e. one c 47 rest signs.Slash e refl) (λ _.
    cond_both (c == 61) (one_or_two 62 signs.Arrow signs.Equal rest) _ (Right c rest) (λ e. either c 61 62 rest signs.Arrow signs.Equal e refl refl) (λ _.
    cond_both (c == 35) (Some (signs.Hash, 1)) _ (Right c rest) (λ e. one c 35 rest signs.Hash e refl) (λ _.
    cond_both (c == 60) (cond (begins 61 rest) (Some (signs.LessEqual, 2)) (one_or_two 58 signs.Subtype signs.Less rest)) _ (Right c rest) (λ e. cond_both (begins 61 rest) (Some (signs.LessEqual, 2)) (one_or_two 58 signs.Subtype signs.Less rest) (Right c rest) (λ h. two c 60 61 rest signs.LessEqual e h refl) (λ h. either c 60 58 rest signs.Subtype signs.Less e refl refl)) (λ _.
    cond_both (c == 62) (one_or_two 61 signs.GreaterEqual signs.Greater rest) _ (Right c rest) (λ e. either c 62 61 rest signs.GreaterEqual signs.Greater e refl refl) (λ _.
    cond_both (c == 38) (Some (signs.Ampersand, 1)) _ (Right c rest) (λ e. one c 38 rest signs.Ampersand e refl) (λ _.
    cond_both (c == 94) (Some (signs.Caret, 1)) _ (Right c rest) (λ e. one c 94 rest signs.Caret e refl) (λ _.
    cond_both (c == 46) (one_or_two 46 signs.DotDot signs.Dot rest) _ (Right c rest) (λ e. either c 46 46 rest signs.DotDot signs.Dot e refl refl) (λ _.
    cond_both (c == 44) (Some (signs.Comma, 1)) _ (Right c rest) (λ e. one c 44 rest signs.Comma e refl) (λ _.
    cond_both (c == 59) (Some (signs.Semicolon, 1)) _ (Right c rest) (λ e. one c 59 rest signs.Semicolon e refl) (λ _.
    cond_both (c == 58) (one_or_two 61 signs.Assign signs.Colon rest) _ (Right c rest) (λ e. either c 58 61 rest signs.Assign signs.Colon e refl refl) (λ _.
    cond_both (c == 124) (Some (signs.Bar, 1)) _ (Right c rest) (λ e. one c 124 rest signs.Bar e refl) (λ _.
    cond_both (c == 40) (Some (signs.OpenParen, 1)) _ (Right c rest) (λ e. one c 40 rest signs.OpenParen e refl) (λ _.
    cond_both (c == 41) (Some (signs.CloseParen, 1)) _ (Right c rest) (λ e. one c 41 rest signs.CloseParen e refl) (λ _.
    cond_both (c == 91) (Some (signs.OpenBracket, 1)) _ (Right c rest) (λ e. one c 91 rest signs.OpenBracket e refl) (λ _.
    cond_both (c == 93) (Some (signs.CloseBracket, 1)) _ (Right c rest) (λ e. one c 93 rest signs.CloseBracket e refl) (λ _.
    cond_both (c == 123) (Some (signs.OpenBrace, 1)) _ (Right c rest) (λ e. one c 123 rest signs.OpenBrace e refl) (λ _.
    cond_both (c == 125) (Some (signs.CloseBrace, 1)) _ (Right c rest) (λ e. one c 125 rest signs.CloseBrace e refl) (λ _.
    nothing c rest)))))))))))))))))))))

pub sign_found : (c : ℕ) (rest : List ℕ) (x : Sign × ℕ) → sign_at c rest ≡ Some x → SignIn c rest x
unfolding Right
sign_found c rest x e = sign_right c rest x e

-- ---- no sign is longer

sign_whole : List ℕ → Option (Sign × ℕ)
sign_whole [] = None
sign_whole (c ∷ rest) = sign_at c rest

exactly : (s : Sign) (n : ℕ) (x : Sign × ℕ) → Some (s, n) ≡ Some x → n ≤ x.1
exactly s n x e = let same : n ≡ x.1 = ap (λ (p : Sign × ℕ). p.1) (some_is (s, n) x e) in omega arith

some_one : (b : ℕ) (rest : List ℕ) (s t : Sign) (x : Sign × ℕ) → one_or_two b s t rest ≡ Some x → 1 ≤ x.1
some_one b rest s t x =
    cond_both (begins b rest) (Some (s, 2)) (Some (t, 1)) (λ o. o ≡ Some x → 1 ≤ x.1) (λ _. λ e. omega (arith, exactly s 2 x e)) (λ _. λ e. exactly t 1 x e)

less_one : (rest : List ℕ) (x : Sign × ℕ) → cond (begins 61 rest) (Some (signs.LessEqual, 2)) (one_or_two 58 signs.Subtype signs.Less rest) ≡ Some x → 1 ≤ x.1
less_one rest x =
    cond_both (begins 61 rest) (Some (signs.LessEqual, 2)) (one_or_two 58 signs.Subtype signs.Less rest) (λ o. o ≡ Some x → 1 ≤ x.1)
    (λ _. λ e. omega (arith, exactly signs.LessEqual 2 x e)) (λ _. λ e. some_one 58 rest signs.Subtype signs.Less x e)

sign_bound_whole : (s : Sign) (more : List ℕ) (x : Sign × ℕ) → sign_whole (text_of_sign s ++ more) ≡ Some x → length (text_of_sign s) ≤ x.1
unfolding sign_whole
sign_bound_whole signs.Plus more x e = exactly signs.Plus 1 x e
sign_bound_whole signs.Minus more x e = exactly signs.Minus 1 x e
sign_bound_whole signs.Star more x e = exactly signs.Star 1 x e
sign_bound_whole signs.Slash more x e = exactly signs.Slash 1 x e
sign_bound_whole signs.Assign more x e = exactly signs.Assign 2 x e
sign_bound_whole signs.Equal more x e = some_one 62 more signs.Arrow signs.Equal x e
sign_bound_whole signs.Hash more x e = exactly signs.Hash 1 x e
sign_bound_whole signs.Less more x e = less_one more x e
sign_bound_whole signs.LessEqual more x e = exactly signs.LessEqual 2 x e
sign_bound_whole signs.Greater more x e = some_one 61 more signs.GreaterEqual signs.Greater x e
sign_bound_whole signs.GreaterEqual more x e = exactly signs.GreaterEqual 2 x e
sign_bound_whole signs.Ampersand more x e = exactly signs.Ampersand 1 x e
sign_bound_whole signs.Caret more x e = exactly signs.Caret 1 x e
sign_bound_whole signs.Dot more x e = some_one 46 more signs.DotDot signs.Dot x e
sign_bound_whole signs.DotDot more x e = exactly signs.DotDot 2 x e
sign_bound_whole signs.Comma more x e = exactly signs.Comma 1 x e
sign_bound_whole signs.Semicolon more x e = exactly signs.Semicolon 1 x e
sign_bound_whole signs.Colon more x e = some_one 61 more signs.Assign signs.Colon x e
sign_bound_whole signs.Bar more x e = exactly signs.Bar 1 x e
sign_bound_whole signs.Arrow more x e = exactly signs.Arrow 2 x e
sign_bound_whole signs.Subtype more x e = exactly signs.Subtype 2 x e
sign_bound_whole signs.OpenParen more x e = exactly signs.OpenParen 1 x e
sign_bound_whole signs.CloseParen more x e = exactly signs.CloseParen 1 x e
sign_bound_whole signs.OpenBracket more x e = exactly signs.OpenBracket 1 x e
sign_bound_whole signs.CloseBracket more x e = exactly signs.CloseBracket 1 x e
sign_bound_whole signs.OpenBrace more x e = exactly signs.OpenBrace 1 x e
sign_bound_whole signs.CloseBrace more x e = exactly signs.CloseBrace 1 x e

pub sign_bound : (s : Sign) (c : ℕ) (rest f more : List ℕ) (x : Sign × ℕ) → c ∷ f ≡ text_of_sign s → c ∷ rest ≡ (c ∷ f) ++ more → sign_at c rest ≡ Some x → length (c ∷ f) ≤ x.1
unfolding sign_whole
sign_bound s c rest f more x is e found =
    let whole : sign_whole (text_of_sign s ++ more) ≡ Some x = ap sign_whole (sym (e ∙ ap (λ (l : List ℕ). l ++ more) is)) ∙ found in
    let same : length (c ∷ f) ≡ length (text_of_sign s) = ap length is in
    omega (arith, sign_bound_whole s more x whole, same)
