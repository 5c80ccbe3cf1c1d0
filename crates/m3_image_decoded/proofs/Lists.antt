-- Lists that grow at their end.
use Rattle.std.proofs.Common.{◌≡◌, ℕ, zero, suc, ◌+◌, ◌≤◌, List, [], ◌∷◌, ◌++◌, length, take, Some, None, refl, subst, ap, arith}
use Rattle.std.specs.List.{slice_get}

-- one element more
pub take_more : {A : Type 0} (xs : List A) (n : ℕ) (x : A) → slice_get xs n ≡ Some x → take (n + 1) xs ≡ take n xs ++ x ∷ []
take_more [] n x e = absurd cc
take_more (y ∷ xs) zero x e = let same : y ≡ x = cc in rw same refl
take_more (y ∷ xs) (suc n) x e = let more : suc n + 1 ≡ suc (n + 1) = omega arith in rw more (ap (λ l. y ∷ l) (take_more xs n x e))

-- all of a list
pub take_all : {A : Type 0} (xs : List A) (n : ℕ) → length xs ≤ n → take n xs ≡ xs
take_all [] zero e = refl
take_all [] (suc n) e = refl
take_all (y ∷ xs) zero e = absurd (omega arith)
take_all (y ∷ xs) (suc n) e = ap (λ l. y ∷ l) (take_all xs n (omega arith))

-- what holds of each element by its place, and of one more
pub all_more : {A : Type 0} (P : ℕ → A → Type 0) (xs : List A) (x : A) → ((k : ℕ) (y : A) → slice_get xs k ≡ Some y → P k y) → P (length xs) x → (k : ℕ) (y : A) → slice_get (xs ++ x ∷ []) k ≡ Some y → P k y
all_more P [] x each here zero y e = let same : x ≡ y = cc in subst (P 0) same here
all_more P [] x each here (suc k) y e = absurd cc
all_more P (z ∷ xs) x each here zero y e = each 0 y e
all_more P (z ∷ xs) x each here (suc k) y e = all_more (λ j. P (suc j)) xs x (λ j w f. each (suc j) w f) here k y e

-- nothing stands from the end on
pub none_past : {A : Type 0} (xs : List A) (n : ℕ) → slice_get xs n ≡ None → length xs ≤ n
none_past [] n e = omega arith
none_past (x ∷ xs) zero e = absurd cc
none_past (x ∷ xs) (suc n) e = let rest = none_past xs n e in omega arith
