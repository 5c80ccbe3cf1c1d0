-- The elements that pass a test at the front of a list, as many as there are.
use Rattle.std.proofs.Common.{◌≡◌, ℕ, ◌≤◌, Bool, true, false, List, [], ◌∷◌, ◌++◌, length, take, drop, refl, ap, arith}
use Rattle.std.specs.List.{list_all, take_while, prefix_len}
use Rattle.std.proofs.lemmas.Bool.{cond_both, and_parts, and_from}
use Rattle.std.proofs.lemmas.List.{take-append-drop}
use Rattle.std.proofs.lemmas.List.Folds.{length-prefix_len}
use Rattle.std.proofs.lemmas.List.Sums.{take_while-cons}

module _ (p : ℕ → Bool) where
  pub all_taken : (xs : List ℕ) → list_all p (take_while p xs) ≡ true
  all_taken [] = refl
  all_taken (x ∷ xs) =
      rw (take_while-cons p x xs)
      (cond_both (p x) (x ∷ take_while p xs) [] (λ l. list_all p l ≡ true) (λ e. and_from (p x) (list_all p (take_while p xs)) e (all_taken xs)) (λ e. refl))

  pub all_within : (front more : List ℕ) → list_all p front ≡ true → length front ≤ length (take_while p (front ++ more))
  all_within [] more h = omega arith
  all_within (x ∷ xs) more h =
      let parts = and_parts (p x) (list_all p xs) h in
      let within = all_within xs more parts.1 in
      rw (take_while-cons p x (xs ++ more), parts.0) (omega arith)

  pub taken_all : (front : List ℕ) (c : ℕ) (more : List ℕ) → list_all p front ≡ true → p c ≡ false → take_while p (front ++ c ∷ more) ≡ front
  taken_all [] c more h stop = rw (take_while-cons p c more, stop) refl
  taken_all (x ∷ xs) c more h stop =
      let parts = and_parts (p x) (list_all p xs) h in
      rw (take_while-cons p x (xs ++ c ∷ more), parts.0) (ap (λ (l : List ℕ). x ∷ l) (taken_all xs c more parts.1 stop))

  pub stopped : (xs : List ℕ) (c : ℕ) (rest : List ℕ) → drop (length (take_while p xs)) xs ≡ c ∷ rest → p c ≡ false
  stopped [] c rest h = absurd cc
  stopped (x ∷ xs) c rest h =
      cond_both (p x) (x ∷ take_while p xs) [] (λ l. drop (length l) (x ∷ xs) ≡ c ∷ rest → p c ≡ false)
      (λ e. λ h'. stopped xs c rest h') (λ e. λ h'. let same : x ≡ c = cc in rw (← same) e)
      (rw (take_while-cons p x xs) at h)

  pub cut : (xs : List ℕ) → take_while p xs ++ drop (length (take_while p xs)) xs ≡ xs
  cut xs = rw (length-prefix_len p xs) (take-append-drop (prefix_len p xs) xs)

  pub taken : (xs : List ℕ) → take (length (take_while p xs)) xs ≡ take_while p xs
  taken xs = ap (λ (n : ℕ). take n xs) (length-prefix_len p xs)
