-- The first number that fails a test.
use Rattle.std.proofs.Common.{◌≡◌, ℕ, zero, suc, ◌+◌, ◌<◌, Bool, true, false, ◌&&◌, Option, Some, None, ◌⊎◌, inl, inr, refl, sym, subst, ◌∙◌, arith}
use Rattle.std.specs.Prelude.{List, unwrap_or}
use Rattle.std.specs.Option.{option_map_or}
use Rattle.std.proofs.lemmas.Bool.{cases_lt}
use Rattle.m3_tables.specs.Sections.{first_bad, is_good}
use Rattle.m3_image_sections.specs.Ranges.{first_failing, or_else}

pub first_zero : (test : ℕ → Bool) → first_failing test 0 ≡ None
unfolding first_failing
first_zero test = refl

pub first_more : (test : ℕ → Bool) (n : ℕ) → first_failing test n ≡ None → test n ≡ true → first_failing test (n + 1) ≡ None
unfolding first_failing
first_more test n e g = let one : n + 1 ≡ suc n = omega arith in rw (one, e, g) refl

first_here : (test : ℕ → Bool) (n : ℕ) → first_failing test n ≡ None → test n ≡ false → first_failing test (suc n) ≡ Some n
unfolding first_failing
first_here test n e g = rw (e, g) refl

first_kept : (test : ℕ → Bool) (n k : ℕ) → first_failing test n ≡ Some k → first_failing test (suc n) ≡ Some k
unfolding first_failing
first_kept test n k e = rw e refl

pub first_stop : (test : ℕ → Bool) (n k : ℕ) → k < n → first_failing test k ≡ None → test k ≡ false → first_failing test n ≡ Some k
first_stop test zero k lt e g = absurd (omega arith)
first_stop test (suc n) k lt e g =
    elim (cases_lt k n) [
      | inl less ↦ first_kept test n k (first_stop test n k less e g)
      | inr more ↦ (let same : k ≡ n = omega arith in
          rw same (first_here test n (subst (λ (m : ℕ). first_failing test m ≡ None) same e) (subst (λ (m : ℕ). test m ≡ false) same g)))
    ]

choice : (b : Bool) → (b ≡ true) ⊎ (b ≡ false)
choice true = inl refl
choice false = inr refl

cases_first : (test : ℕ → Bool) (n : ℕ) → (first_failing test n ≡ None) ⊎ ((k : ℕ) × (first_failing test n ≡ Some k))
cases_first test n = elim (first_failing test n) as (λ (o : Option ℕ). (o ≡ None) ⊎ ((k : ℕ) × (o ≡ Some k))) [ None ↦ inl refl | Some k ↦ inr (k, refl) ]

pub first_none : (test : ℕ → Bool) (n : ℕ) → first_failing test n ≡ None → (k : ℕ) → k < n → test k ≡ true
first_none test zero e k lt = absurd (omega arith)
first_none test (suc n) e k lt =
    elim (cases_first test n) [
      | inl none ↦ elim (choice (test n)) [
        | inl good ↦ elim (cases_lt k n) [
          | inl less ↦ first_none test n none k less
          | inr more ↦ (let same : k ≡ n = omega arith in rw same good)
        ]
        | inr bad ↦ (let found = first_here test n none bad in absurd cc)
      ]
      | inr some ↦ (let found = first_kept test n some.0 some.1 in absurd cc)
    ]

none_some : (test : ℕ → Bool) (k : ℕ) → first_failing test 0 ≡ Some k → ⊥
unfolding first_failing
none_some test k e = cc

-- the first that fails is below the count, and fails, and none before it does
pub first_some : (test : ℕ → Bool) (n k : ℕ) → first_failing test n ≡ Some k → (k < n) × (first_failing test k ≡ None) × (test k ≡ false)
first_some test zero k e = absurd (none_some test k e)
first_some test (suc n) k e =
    elim (cases_first test n) [
      | inl none ↦ elim (choice (test n)) [
        | inl good ↦ (let one : n + 1 ≡ suc n = omega arith in
            let found : first_failing test (suc n) ≡ None = rw (← one) (first_more test n none good) in absurd cc)
        | inr bad ↦ (let found = first_here test n none bad in
            let same : n ≡ k = cc in rw (← same) (omega arith, none, bad))
      ]
      | inr some ↦ (let found = first_kept test n some.0 some.1 in
          let same : some.0 ≡ k = cc in
          let before = first_some test n some.0 some.1 in
          rw (← same) (omega (arith, before.0), before.1, before.2))
    ]

-- where all pass
pub first_all : (test : ℕ → Bool) (n : ℕ) → ((k : ℕ) → k < n → test k ≡ true) → first_failing test n ≡ None
first_all test zero h = first_zero test
first_all test (suc n) h =
    let one : n + 1 ≡ suc n = omega arith in
    rw (← one) (first_more test n (first_all test n (λ k lt. h k (omega arith))) (h n (omega arith)))

-- ---- two tests one after the other

and_yes : (a b : Bool) → a ≡ true → b ≡ true → (a && b) ≡ true
and_yes true b e f = f
and_yes false b e f = absurd cc

and_first_no : (a b : Bool) → a ≡ false → (a && b) ≡ false
and_first_no false b e = refl
and_first_no true b e = absurd cc

and_second_no : (a b : Bool) → b ≡ false → (a && b) ≡ false
and_second_no true b e = e
and_second_no false b e = refl

first_bad-is : (section : List ℕ) (n : ℕ) → first_bad section n ≡ first_failing (is_good section) n
unfolding first_bad first_failing
first_bad-is section zero = refl
first_bad-is section (suc n) = rw (first_bad-is section n) (shape (first_failing (is_good section) n) _)
  where
    shape : (o second : Option ℕ) → option_map_or (λ row. Some row) o second ≡ or_else o second
    shape None second = refl
    shape (Some x) second = refl

-- the rows before the first bad one, and then a second test of them
abbrev pub before_bad : List ℕ → ℕ → ℕ
before_bad section n = unwrap_or (first_bad section n) n

pub both_stop : (section : List ℕ) (suits : ℕ → Bool) (n k : ℕ) → first_failing suits (before_bad section n) ≡ Some k → first_failing (λ row. is_good section row && suits row) n ≡ Some k
both_stop section suits n k e =
    elim (cases_first (is_good section) n) [
      | inl none ↦
          let count : before_bad section n ≡ n = rw (first_bad-is section n, none) refl in
          let found = first_some suits n k (rw (← count) e) in
          first_stop _ n k found.0
          (first_all _ k (λ j lt. and_yes _ _ (first_none (is_good section) n none j (omega (arith, found.0))) (first_none suits k found.1 j lt)))
          (and_second_no _ _ found.2)
      | inr some ↦
          let bad = first_some (is_good section) n some.0 some.1 in
          let count : before_bad section n ≡ some.0 = rw (first_bad-is section n, some.1) refl in
          let found = first_some suits some.0 k (rw (← count) e) in
          first_stop _ n k (omega (arith, found.0, bad.0))
          (first_all _ k (λ j lt. and_yes _ _ (first_none (is_good section) some.0 bad.1 j (omega (arith, found.0))) (first_none suits k found.1 j lt)))
          (and_second_no _ _ found.2)
    ]

pub both_bad : (section : List ℕ) (suits : ℕ → Bool) (n k : ℕ) → first_failing suits (before_bad section n) ≡ None → first_bad section n ≡ Some k → first_failing (λ row. is_good section row && suits row) n ≡ Some k
both_bad section suits n k e b =
    let count : before_bad section n ≡ k = rw b refl in
    let bad = first_some (is_good section) n k (sym (first_bad-is section n) ∙ b) in
    let suited : first_failing suits k ≡ None = rw (← count) e in
    first_stop _ n k bad.0 (first_all _ k (λ j lt. and_yes _ _ (first_none (is_good section) k bad.1 j lt) (first_none suits k suited j lt))) (and_first_no _ _ bad.2)

pub both_none : (section : List ℕ) (suits : ℕ → Bool) (n : ℕ) → first_failing suits (before_bad section n) ≡ None → first_bad section n ≡ None → first_failing (λ row. is_good section row && suits row) n ≡ None
both_none section suits n e b =
    let count : before_bad section n ≡ n = rw b refl in
    let suited : first_failing suits n ≡ None = rw (← count) e in
    let good : first_failing (is_good section) n ≡ None = sym (first_bad-is section n) ∙ b in
    first_all _ n (λ j lt. and_yes _ _ (first_none (is_good section) n good j lt) (first_none suits n suited j lt))
