-- What joining the classes of a and b makes of the classes: p has the root of each number before, q after.
use Rattle.std.proofs.Common.{◌≡◌, ◌≢◌, ℕ, ◌⊎◌, inl, inr, sym, ◌∙◌, ⊎_elim}
use Rattle.m3_types_subtype.specs.Classes.{MovesRoot, Joins}

module _ (p q : ℕ → ℕ) (high low a b : ℕ) (apart : low ≢ high) (moves : (j : ℕ) → MovesRoot high low (p j) (q j)) (ends : ((p a ≡ high) × (p b ≡ low)) ⊎ ((p a ≡ low) × (p b ≡ high))) where
  of_high : (j : ℕ) → p j ≡ high → q j ≡ low
  of_high j e = ⊎_elim (λ m. m.1) (λ m. absurd (m.0 e)) (moves j)

  of_other : (j : ℕ) → p j ≢ high → q j ≡ p j
  of_other j ne = ⊎_elim (λ m. absurd (ne m.0)) (λ m. m.1) (moves j)

  of_low : (j : ℕ) → p j ≡ low → q j ≡ low
  of_low j e = of_other j (λ h. apart (sym e ∙ h)) ∙ e

  pub now_joined : q a ≡ q b
  now_joined = ⊎_elim (λ e. of_high a e.0 ∙ sym (of_low b e.1)) (λ e. of_low a e.0 ∙ sym (of_high b e.1)) ends

  pub still_joined : (i j : ℕ) → p i ≡ p j → q i ≡ q j
  still_joined i j e = ⊎_elim (λ m. m.1 ∙ sym (of_high j (sym e ∙ m.0))) (λ m. m.1 ∙ e ∙ sym (of_other j (λ h. m.0 (e ∙ h)))) (moves i)

  with_ends : (i j : ℕ) → p i ≡ high → p j ≡ low → Joins (λ x y. p x ≡ p y) a b i j
  with_ends i j h l = ⊎_elim (λ e. inr (inl (h ∙ sym e.0, l ∙ sym e.1))) (λ e. inr (inr (h ∙ sym e.1, l ∙ sym e.0))) ends

  with_ends_turned : (i j : ℕ) → p i ≡ low → p j ≡ high → Joins (λ x y. p x ≡ p y) a b i j
  with_ends_turned i j l h = ⊎_elim (λ e. inr (inr (l ∙ sym e.1, h ∙ sym e.0))) (λ e. inr (inl (l ∙ sym e.0, h ∙ sym e.1))) ends

  pub only_joined : (i j : ℕ) → q i ≡ q j → Joins (λ x y. p x ≡ p y) a b i j
  only_joined i j e =
      ⊎_elim
      (λ m. ⊎_elim (λ n. inl (m.0 ∙ sym n.0)) (λ n. with_ends i j m.0 (sym n.1 ∙ sym e ∙ m.1)) (moves j))
      (λ m. ⊎_elim (λ n. with_ends_turned i j (sym m.1 ∙ e ∙ n.1) n.0) (λ n. inl (sym m.1 ∙ e ∙ n.1)) (moves j))
      (moves i)
