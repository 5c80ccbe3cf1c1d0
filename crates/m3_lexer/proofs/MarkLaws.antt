-- Where the outermost of the open marks is closed.
use Rattle.std.proofs.Common.{◌≡◌, ℕ, zero, suc, ◌+◌, ◌≤◌, Bool, true, false, ◌&&◌, List, [], ◌∷◌, ◌++◌, length, take, Option, Some, None, refl, sym, ap, subst, arith}
use Rattle.std.specs.Prelude.{◌==◌}
use Rattle.std.specs.Bool.{MatchBool}
use Rattle.std.proofs.lemmas.Bool.{false≢true}
use Rattle.m3_syntax.specs.Lexis.{Closes}
use Rattle.m3_lexer.specs.Reading.{plus, closed_len}

pub plus_some : (a k : ℕ) (o : Option ℕ) → plus a o ≡ Some k → (m : ℕ) × (o ≡ Some m) × (k ≡ a + m)
plus_some a k None e = absurd cc
plus_some a k (Some m) e = (m, refl, cc)

match_true : (b : Bool) (P Q : Type 0) → b ≡ true → P → MatchBool b P Q
match_true true P Q e h = h
match_true false P Q e h = absurd (false≢true e)

match_false : (b : Bool) (P Q : Type 0) → b ≡ false → Q → MatchBool b P Q
match_false true P Q e h = absurd (false≢true (sym e))
match_false false P Q e h = h

module _ (left right : ℕ) where
  further : (n a b : ℕ) (text : List ℕ) (m : ℕ) → ((a == left) && (b == 42)) ≡ false → ((a == 42) && (b == right)) ≡ false
      → Closes left right (suc n) (take m (b ∷ text)) → Closes left right (suc n) (take (suc m) (a ∷ b ∷ text))
  further n a b text zero ex ey h = absurd h
  further n a b text (suc m) ex ey h = match_false _ _ _ ex (match_false _ _ _ ey h)

  -- the three cases by what the two bytes are
  step_found : (n a b : ℕ) (text : List ℕ) (k : ℕ) (x y : Bool) → ((a == left) && (b == 42)) ≡ x → ((a == 42) && (b == right)) ≡ y
      → ((j : ℕ) → closed_len left right (suc (suc n)) text ≡ Some j → Closes left right (suc (suc n)) (take j text) × (j ≤ length text))
      → ((j : ℕ) → closed_len left right n text ≡ Some j → Closes left right n (take j text) × (j ≤ length text))
      → ((j : ℕ) → closed_len left right (suc n) (b ∷ text) ≡ Some j → Closes left right (suc n) (take j (b ∷ text)) × (j ≤ length (b ∷ text)))
      → closed_len left right (suc n) (a ∷ b ∷ text) ≡ Some k → Closes left right (suc n) (take k (a ∷ b ∷ text)) × (k ≤ length (a ∷ b ∷ text))
  step_found n a b text k true y ex ey deeper out on e =
      let inner = plus_some 2 k (closed_len left right (suc (suc n)) text) (rw ex at e) in
      let rest = deeper inner.0 inner.1 in
      let more : k ≡ suc (suc inner.0) = omega (arith, inner.2) in
      (subst (λ (j : ℕ). Closes left right (suc n) (take j (a ∷ b ∷ text))) (sym more) (match_true _ _ _ ex rest.0), omega (arith, rest.1))
  step_found n a b text k false true ex ey deeper out on e =
      let inner = plus_some 2 k (closed_len left right n text) (rw (ex, ey) at e) in
      let rest = out inner.0 inner.1 in
      let more : k ≡ suc (suc inner.0) = omega (arith, inner.2) in
      (subst (λ (j : ℕ). Closes left right (suc n) (take j (a ∷ b ∷ text))) (sym more) (match_false _ _ _ ex (match_true _ _ _ ey rest.0)), omega (arith, rest.1))
  step_found n a b text k false false ex ey deeper out on e =
      let inner = plus_some 1 k (closed_len left right (suc n) (b ∷ text)) (rw (ex, ey) at e) in
      let rest = on inner.0 inner.1 in
      let more : k ≡ suc inner.0 = omega (arith, inner.2) in
      (subst (λ (j : ℕ). Closes left right (suc n) (take j (a ∷ b ∷ text))) (sym more) (further n a b text inner.0 ex ey rest.0), omega (arith, rest.1))

  pub closed_found : (n : ℕ) (text : List ℕ) (k : ℕ) → closed_len left right n text ≡ Some k → Closes left right n (take k text) × (k ≤ length text)
  closed_found zero text k e = let none : k ≡ 0 = cc in rw none (refl, omega arith)
  closed_found (suc n) [] k e = absurd cc
  closed_found (suc n) (a ∷ []) k e = absurd cc
  closed_found (suc n) (a ∷ b ∷ text) k e =
      step_found n a b text k ((a == left) && (b == 42)) ((a == 42) && (b == right)) refl refl
      (λ j. closed_found (suc (suc n)) text j) (λ j. closed_found n text j) (λ j. closed_found (suc n) (b ∷ text) j) e

  pub closed_only : (n : ℕ) (front more : List ℕ) → Closes left right n front → closed_len left right n (front ++ more) ≡ Some (length front)
  closed_only zero front more h = let none : length front ≡ 0 = ap length h in rw none refl
  closed_only (suc n) [] more h = absurd h
  closed_only (suc n) (a ∷ []) more h = absurd h
  closed_only (suc n) (a ∷ b ∷ front) more h =
      step_only n a b front more ((a == left) && (b == 42)) ((a == 42) && (b == right)) refl refl
      (λ d. closed_only (suc (suc n)) front more d) (λ d. closed_only n front more d) (λ d. closed_only (suc n) (b ∷ front) more d) h
    where
      step_only : (n a b : ℕ) (front more : List ℕ) (x y : Bool) → ((a == left) && (b == 42)) ≡ x → ((a == 42) && (b == right)) ≡ y
          → (Closes left right (suc (suc n)) front → closed_len left right (suc (suc n)) (front ++ more) ≡ Some (length front))
          → (Closes left right n front → closed_len left right n (front ++ more) ≡ Some (length front))
          → (Closes left right (suc n) (b ∷ front) → closed_len left right (suc n) (b ∷ front ++ more) ≡ Some (length (b ∷ front)))
          → Closes left right (suc n) (a ∷ b ∷ front) → closed_len left right (suc n) (a ∷ b ∷ front ++ more) ≡ Some (length (a ∷ b ∷ front))
      step_only n a b front more true y ex ey deeper out on h = let d = deeper (rw ex at h) in rw (ex, d) (ap (λ (k : ℕ). Some k) (omega arith))
      step_only n a b front more false true ex ey deeper out on h = let d = out (rw (ex, ey) at h) in rw (ex, ey, d) (ap (λ (k : ℕ). Some k) (omega arith))
      step_only n a b front more false false ex ey deeper out on h = let d = on (rw (ex, ey) at h) in rw (ex, ey, d) (ap (λ (k : ℕ). Some k) (omega arith))
