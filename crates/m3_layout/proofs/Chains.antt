-- A number, the one that it leads to, and so on until one leads nowhere: none comes twice, and so numbers
-- below a bound lead on fewer times than the bound.
use Rattle.std.proofs.Common.{◌≡◌, ◌≢◌, ℕ, ◌<◌, Bool, true, false, List, [], ◌∷◌, length, Option, Some, None, refl, sym, ◌∙◌, ap, subst, arith, ⊎_elim}
use Rattle.std.specs.Prelude.{◌||◌, nat_eq}
use Rattle.std.specs.List.{AllByRecursion, IsDistinct, list_any}
use Rattle.std.proofs.lemmas.Bool.{cases_eq}
use Rattle.std.proofs.lemmas.Bool.Decides.{nat_tests}
use Rattle.std.proofs.lemmas.Map.Steps.{length-le_from_distinct_below}

pub some_is : {m n : ℕ} → Some m ≡ Some n → m ≡ n
some_is h = cc

differ : (i j : ℕ) → i ≢ j → nat_eq i j ≡ false
differ i j ne = grind (arith, nat_tests)

or_second : (a b : Bool) → a ≡ false → (a || b) ≡ true → b ≡ true
or_second true b e h = let z : ⊥ = cc in absurd z
or_second false b e h = h

below : (n q : ℕ) (xs : List ℕ) → AllByRecursion (λ x. x < n) xs → list_any (nat_eq q) xs ≡ true → q < n
below n q [] a h = let z : ⊥ = cc in absurd z
below n q (x ∷ xs) a h =
    ⊎_elim (λ e. subst (λ (k : ℕ). k < n) (sym e) a.0) (λ ne. below n q xs a.1 (or_second (nat_eq q x) (list_any (nat_eq q) xs) (differ q x ne) h)) (cases_eq q x)

module _ (next : ℕ → Option ℕ) where
  -- the numbers that one leads to, one after another
  abbrev pub IsChain : ℕ → List ℕ → Type 0
  IsChain i [] = next i ≡ None
  IsChain i (j ∷ js) = (next i ≡ Some j) × IsChain j js

  one_length : (i k : ℕ) (xs ys : List ℕ) → i ≡ k → IsChain i xs → IsChain k ys → length xs ≡ length ys
  one_length i k [] [] e c d = refl
  one_length i k [] (y ∷ ys) e c d = let h : None ≡ Some y = sym c ∙ ap next e ∙ d.0 in let z : ⊥ = cc in absurd z
  one_length i k (x ∷ xs) [] e c d = let h : Some x ≡ None = sym c.0 ∙ ap next e ∙ d in let z : ⊥ = cc in absurd z
  one_length i k (x ∷ xs) (y ∷ ys) e c d =
      let h : Some x ≡ Some y = sym c.0 ∙ ap next e ∙ d.0 in
      let l = one_length x y xs ys (some_is h) c.1 d.1 in
      omega (arith, l)

  shorter : (i j : ℕ) (full js : List ℕ) → IsChain i full → IsChain j js → length js < length full → nat_eq i j ≡ false
  shorter i j full js c d l = differ i j (λ e. (let h = one_length i j full js e c d in omega (arith, h)))

  apart : (i j : ℕ) (full js : List ℕ) → IsChain i full → IsChain j js → length js < length full → AllByRecursion (λ y. nat_eq i y ≡ false) (j ∷ js)
  apart i j full [] c d l = (shorter i j full [] c d l, tt)
  apart i j full (k ∷ js) c d l = (shorter i j full (k ∷ js) c d l, apart i k full js c d.1 (omega arith))

  distinct : (i : ℕ) (xs : List ℕ) → IsChain i xs → IsDistinct nat_eq (i ∷ xs)
  unfolding IsDistinct
  distinct i [] c = (tt, tt)
  distinct i (j ∷ js) c = (apart i j (j ∷ js) js c c.1 (omega arith), distinct j js c.1)

  pub chain_short : (n i : ℕ) (xs : List ℕ) → IsChain i xs → AllByRecursion (λ x. x < n) (i ∷ xs) → length xs < n
  chain_short n i xs c a =
      let l = length-le_from_distinct_below (i ∷ xs) n (distinct i xs c) (λ q h. below n q (i ∷ xs) a h) in
      omega (arith, l)
