-- Numbers in bytes, by their places, and lists that rise.
use Rattle.std.proofs.Common.{◌≡◌, ◌≢◌, ℕ, zero, suc, ◌+◌, ◌*◌, ◌<◌, ◌≤◌, Bool, true, false, ◌&&◌, ◌||◌, eqb, ltb, List, [], ◌∷◌, length, get_or, drop, refl, ap, subst, ◌-◌, ◌∙◌, arith, inl, inr}
use Rattle.std.proofs.lemmas.List.{drop-drop}
use Rattle.std.proofs.lemmas.Bool.{ltb-true, le-ltb, lt-ltb, cases_lt}
use Rattle.std.proofs.lemmas.Bool.Decides.{nat_tests}
use Rattle.m3_tables.specs.Numbers.{word_in, numbers, has, rises}

-- a number of a list, by its place
pub number_at : (n : ℕ) (bytes : List ℕ) (k : ℕ) → k < n → get_or (numbers n bytes) k 0 ≡ word_in (drop (4 * k) bytes)
number_at zero bytes k h = omega arith
number_at (suc n) bytes zero h = refl
number_at (suc n) bytes (suc k) h =
    let e : 4 + 4 * k ≡ 4 * suc k = omega arith in
    number_at n (drop 4 bytes) k (omega arith) ∙ ap word_in (drop-drop (4 * k) 4 bytes ∙ ap (λ (i : ℕ). drop i bytes) e)

pub length-numbers : (n : ℕ) (bytes : List ℕ) → length (numbers n bytes) ≡ n
length-numbers zero bytes = refl
length-numbers (suc n) bytes = ap suc (length-numbers n (drop 4 bytes))

-- ---- lists that rise

and_true : (a b : Bool) → (a && b) ≡ true → (a ≡ true) × (b ≡ true)
and_true true b e = (refl, e)
and_true false b e = absurd cc

and_false : (b : Bool) → (b && false) ≡ false
and_false true = refl
and_false false = refl

or_true : (b : Bool) → (b || true) ≡ true
or_true true = refl
or_true false = refl

-- each number is above the one before it
pub rises_from : (xs : List ℕ) → ((k : ℕ) → suc k < length xs → get_or xs k 0 < get_or xs (suc k) 0) → rises xs ≡ true
rises_from [] h = refl
rises_from (x ∷ []) h = refl
rises_from (x ∷ y ∷ xs) h =
    let first : ltb x y ≡ true = lt-ltb x y (h 0 (omega arith)) in
    rw first (rises_from (y ∷ xs) (λ k lt. h (suc k) (omega arith)))

pub rises_not : (xs : List ℕ) (k : ℕ) → suc k < length xs → get_or xs (suc k) 0 ≤ get_or xs k 0 → rises xs ≡ false
rises_not [] k lt h = absurd (omega arith)
rises_not (x ∷ []) k lt h = absurd (omega arith)
rises_not (x ∷ y ∷ xs) zero lt h = let first : ltb x y ≡ false = le-ltb x y h in rw first refl
rises_not (x ∷ y ∷ xs) (suc k) lt h = rw (rises_not (y ∷ xs) k (omega arith) h) (and_false (ltb x y))

rises_next : (xs : List ℕ) → rises xs ≡ true → (k : ℕ) → suc k < length xs → get_or xs k 0 < get_or xs (suc k) 0
rises_next [] r k lt = absurd (omega arith)
rises_next (x ∷ []) r k lt = absurd (omega arith)
rises_next (x ∷ y ∷ xs) r zero lt = ltb-true x y (and_true (ltb x y) (rises (y ∷ xs)) r).0
rises_next (x ∷ y ∷ xs) r (suc k) lt = rises_next (y ∷ xs) (and_true (ltb x y) (rises (y ∷ xs)) r).1 k (omega arith)

pub rises_apart : (xs : List ℕ) → rises xs ≡ true → (i d : ℕ) → i + suc d < length xs → get_or xs i 0 < get_or xs (i + suc d) 0
rises_apart xs r i zero lt = let e : suc i ≡ i + 1 = omega arith in rw (← e) (rises_next xs r i (omega arith))
rises_apart xs r i (suc d) lt =
    let near = rises_apart xs r i d (omega arith) in
    let next = rises_next xs r (i + suc d) (omega arith) in
    let e : suc (i + suc d) ≡ i + suc (suc d) = omega arith in
    rw (← e) (omega arith)

-- ---- what stands in a list

pub has_at : (xs : List ℕ) (n k : ℕ) → k < length xs → get_or xs k 0 ≡ n → has xs n ≡ true
has_at [] n k lt e = absurd (omega arith)
has_at (x ∷ xs) n zero lt e = let t : eqb x n ≡ true = grind (arith, nat_tests) in rw t refl
has_at (x ∷ xs) n (suc k) lt e = rw (has_at xs n k (omega arith) e) (or_true (eqb x n))

pub has_not : (xs : List ℕ) (n : ℕ) → ((k : ℕ) → k < length xs → get_or xs k 0 ≢ n) → has xs n ≡ false
has_not [] n h = refl
has_not (x ∷ xs) n h =
    let ne : x ≢ n = h 0 (omega arith) in
    let t : eqb x n ≡ false = grind (arith, nat_tests) in
    rw t (has_not xs n (λ k lt. h (suc k) (omega arith)))

-- ---- the steps of a search in a list that rises

-- in a list that rises, a number before another is below it
pub rises_before : (xs : List ℕ) → rises xs ≡ true → (i j : ℕ) → i < j → j < length xs → get_or xs i 0 < get_or xs j 0
rises_before xs r i j lt h =
    let e : i + suc (j - suc i) ≡ j = omega arith in
    let lt' : i + suc (j - suc i) < length xs = omega arith in
    subst (λ (m : ℕ). get_or xs i 0 < get_or xs m 0) e (rises_apart xs r i (j - suc i) lt')

pub below_to : (xs : List ℕ) (m n : ℕ) → rises xs ≡ true → m < length xs → get_or xs m 0 < n → (k : ℕ) → k < m + 1 → get_or xs k 0 < n
below_to xs m n r lt h k le =
    elim (cases_lt k m) [
      | inl less ↦ (let b = rises_before xs r k m less lt in omega arith)
      | inr more ↦ (let e : k ≡ m = omega arith in rw e h)
    ]

pub above_from : (xs : List ℕ) (m n : ℕ) → rises xs ≡ true → n < get_or xs m 0 → (k : ℕ) → m ≤ k → k < length xs → n < get_or xs k 0
above_from xs m n r h k le lt =
    elim (cases_lt m k) [
      | inl less ↦ (let b = rises_before xs r m k less lt in omega arith)
      | inr more ↦ (let e : k ≡ m = omega arith in rw e h)
    ]
