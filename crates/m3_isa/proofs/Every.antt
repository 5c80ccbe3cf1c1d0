-- A test of each number below n.
use Rattle.std.proofs.Common.{◌≡◌, ℕ, zero, suc, ◌+◌, ◌<◌, Bool, true, false, ◌&&◌, refl, ap, ◌∙◌, inl, inr, arith, add-one}
use Rattle.std.proofs.lemmas.Bool.{cases_lt}
use Rattle.m3_isa.specs.Effects.{every}

pub every-more : (test : ℕ → Bool) (n : ℕ) → every test (n + 1) ≡ (every test n && test n)
every-more test n = rw add-one refl

pub and-false : (b : Bool) → (b && false) ≡ false
and-false true = refl
and-false false = refl

-- one number that fails it is enough
pub every-fails : (test : ℕ → Bool) (k n : ℕ) → k < n → test k ≡ false → every test n ≡ false
every-fails test k zero h e = absurd (omega arith)
every-fails test k (suc n) h e =
    elim (cases_lt k n) [
      | inl low ↦ ap (λ b. b && test n) (every-fails test k n low e)
      | inr high ↦
          let same : n ≡ k = omega arith in
          ap (λ b. every test n && b) (ap test same ∙ e) ∙ and-false (every test n)
    ]

-- it holds of all where it holds of each
pub every-holds : (test : ℕ → Bool) (n : ℕ) → ((k : ℕ) → k < n → test k ≡ true) → every test n ≡ true
every-holds test zero h = refl
every-holds test (suc n) h =
    ap (λ b. b && test n) (every-holds test n (λ k l. h k (omega arith))) ∙ h n (omega arith)

-- a test that is the same below n
pub every-same : (test other : ℕ → Bool) (n : ℕ) → ((k : ℕ) → k < n → test k ≡ other k) → every test n ≡ every other n
every-same test other zero h = refl
every-same test other (suc n) h =
    ap (λ b. b && test n) (every-same test other n (λ k l. h k (omega arith))) ∙ ap (λ b. every other n && b) (h n (omega arith))
