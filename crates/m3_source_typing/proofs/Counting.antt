-- How many numbers below one meet a test.
use Rattle.std.proofs.Common.{◌≡◌, ℕ, zero, suc, ◌+◌, ◌≤◌, ◌<◌, ◌⊎◌, inl, inr, ⊎_elim, Bool, true, false, refl, sym, ap, ◌∙◌, arith}
use Rattle.std.specs.Prelude.{◌||◌, nat_lt}
use Rattle.std.proofs.lemmas.Bool.Decides.{nat_tests}

-- some number below meets it
abbrev pub any_below : (ℕ → Bool) → ℕ → Bool
any_below test zero = false
any_below test (suc n) = test n || any_below test n

abbrev pub one_if : Bool → ℕ
one_if true = 1
one_if false = 0

abbrev pub count_below : (ℕ → Bool) → ℕ → ℕ
count_below test zero = 0
count_below test (suc n) = one_if (test n) + count_below test n

either : (a b : Bool) → (a || b) ≡ true → (a ≡ true) ⊎ (b ≡ true)
either true b h = inl refl
either false b h = inr h

pub true_or_false : (b : Bool) → (b ≡ true) ⊎ (b ≡ false)
true_or_false true = inl refl
true_or_false false = inr refl

pub found_below : (test : ℕ → Bool) (n : ℕ) → any_below test n ≡ true → (i : ℕ) × (i < n) × (test i ≡ true)
found_below test zero h = absurd (let bad : false ≡ true = h in cc)
found_below test (suc n) h = ⊎_elim
    (λ e. (n, omega arith, e))
    (λ e. let q = found_below test n e in let less : q.0 < n = q.1 in (q.0, omega arith, q.2))
    (either (test n) (any_below test n) h)

second : (a b : Bool) → b ≡ true → (a || b) ≡ true
second true b h = refl
second false b h = h

first : (a b : Bool) → a ≡ true → (a || b) ≡ true
first true b h = refl
first false b h = absurd (let bad : false ≡ true = h in cc)

-- the last number below, or one below that
last_or_less : (i n : ℕ) → i < suc n → (i ≡ n) ⊎ (i < n)
last_or_less i n less = split (nat_lt i n) refl
  where
    split : (b : Bool) → nat_lt i n ≡ b → (i ≡ n) ⊎ (i < n)
    split true e = inr (grind (arith, nat_tests))
    split false e = inl (grind (arith, nat_tests))

pub is_below : (test : ℕ → Bool) (n i : ℕ) → i < n → test i ≡ true → any_below test n ≡ true
is_below test zero i less h = absurd (omega arith)
is_below test (suc n) i less h = ⊎_elim
    (λ (e : i ≡ n). first (test n) (any_below test n) (sym (ap test e) ∙ h))
    (λ (l : i < n). second (test n) (any_below test n) (is_below test n i l h))
    (last_or_less i n less)

-- ---- counts

one_at_most : (b : Bool) → one_if b ≤ 1
one_at_most true = omega arith
one_at_most false = omega arith

pub count_at_most : (test : ℕ → Bool) (n : ℕ) → count_below test n ≤ n
count_at_most test zero = omega arith
count_at_most test (suc n) =
    let one : one_if (test n) ≤ 1 = one_at_most (test n) in
    let rest : count_below test n ≤ n = count_at_most test n in
    omega arith

pub count_at_least : (test : ℕ → Bool) (n : ℕ) → test 0 ≡ true → 1 ≤ count_below test (suc n)
count_at_least test zero h = let one : one_if (test 0) ≡ 1 = ap one_if h in omega arith
count_at_least test (suc n) h = let rest : 1 ≤ count_below test (suc n) = count_at_least test n h in omega arith

one_more : (a b : Bool) → (a ≡ true → b ≡ true) → one_if a ≤ one_if b
one_more true b h = let one : one_if b ≡ 1 = ap one_if (h refl) in omega arith
one_more false b h = omega arith

pub count_more : (test other : ℕ → Bool) (n : ℕ) → ((i : ℕ) → test i ≡ true → other i ≡ true) → count_below test n ≤ count_below other n
count_more test other zero h = omega arith
count_more test other (suc n) h =
    let one : one_if (test n) ≤ one_if (other n) = one_more (test n) (other n) (h n) in
    let rest : count_below test n ≤ count_below other n = count_more test other n h in
    omega arith

one_same : (a b : Bool) → one_if a ≡ one_if b → b ≡ true → a ≡ true
one_same true b e h = refl
one_same false b e h = absurd (let bad : 0 ≡ 1 = e ∙ ap one_if h in omega arith)

-- where there are no more of the others, each of them meets the test too
pub count_same : (test other : ℕ → Bool) (n : ℕ) → ((i : ℕ) → test i ≡ true → other i ≡ true) → count_below test n ≡ count_below other n → (i : ℕ) → i < n → other i ≡ true → test i ≡ true
count_same test other zero h e i less is = absurd (omega arith)
count_same test other (suc n) h e i less is =
    let one : one_if (test n) ≤ one_if (other n) = one_more (test n) (other n) (h n) in
    let rest : count_below test n ≤ count_below other n = count_more test other n h in
    let same : one_if (test n) ≡ one_if (other n) = omega arith in
    let below : count_below test n ≡ count_below other n = omega arith in
    ⊎_elim
    (λ (last : i ≡ n). ap test last ∙ one_same (test n) (other n) same (sym (ap other last) ∙ is))
    (λ (l : i < n). count_same test other n h below i l is)
    (last_or_less i n less)
