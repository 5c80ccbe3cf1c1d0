-- Two ways to say what a lender ends as.
use Rattle.std.proofs.Common.{◌≡◌, ◌⊎◌, inl, ap}

pub same_loan : {G A B C : Type 0} {g : G} {f h : A → B} → ((w : A) → f w ≡ h w) → ◌≡◌ {A = (G × (A → B)) ⊎ C} (inl (g, f)) (inl (g, h))
same_loan {g = g} e = ap (λ k. inl (g, k)) (λ j w. e w j)
