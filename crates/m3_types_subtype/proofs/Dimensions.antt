-- Going down the dimensions of one or two arrays.
use Rattle.std.proofs.Common.{◌≡◌, ℕ, zero, suc, ◌<◌, List, length, Option, Some, None, true, sym, ◌∙◌, ap, subst, arith}
use Rattle.std.specs.Prelude.{is_some}
use Rattle.m3_types.specs.declared.nodes.TypeNode.{TypeNode}
use Rattle.m3_types_subtype.specs.Sameness.{Same}
use Rattle.m3_types_subtype.specs.Subtypes.{dimension_at, DimensionsFit, ElementsOf, FitsBelow, OpenFirst, ArrayBelow}
use Rattle.m3_types_subtype.proofs.Shapes.{same_dimension, size_is, element_is}

module _ (nodes : List TypeNode) where
  pub open_first_end : (n x : ℕ) → dimension_at nodes x ≡ None → OpenFirst nodes n x
  open_first_end zero x h = tt
  open_first_end (suc n) x h = λ s e d. absurd (let z : ⊥ = cc in z)

  pub open_first_down : (n x : ℕ) (s : Option ℕ) (e : ℕ) → dimension_at nodes x ≡ Some (s, e) → OpenFirst nodes (suc n) x → OpenFirst nodes n e
  open_first_down n x s e d h = (h s e d).1

  pub open_first_up : (n x : ℕ) (s : Option ℕ) (e : ℕ) → dimension_at nodes x ≡ Some (s, e) → ((f : ℕ) → is_some s ≡ true → dimension_at nodes e ≡ Some (None, f) → ⊥) → OpenFirst nodes n e → OpenFirst nodes (suc n) x
  open_first_up n x s e d apart h = λ t f q.
      let size : s ≡ t = size_is s t e f (sym d ∙ q) in
      let element : e ≡ f = element_is s t e f (sym d ∙ q) in
      (λ g some o. apart g (ap is_some size ∙ some) (ap (dimension_at nodes) element ∙ o), subst (OpenFirst nodes n) element h)

  pub open_first_not : (n x : ℕ) (s : Option ℕ) (e f : ℕ) → dimension_at nodes x ≡ Some (s, e) → is_some s ≡ true → dimension_at nodes e ≡ Some (None, f) → OpenFirst nodes (suc n) x → ⊥
  open_first_not n x s e f d some o h = (h s e d).0 f some o

  -- ---- two arrays

  -- where the dimension fits, it is as good to look below it
  pub fits_down : (n x y : ℕ) (p : ℕ × ℕ) → ElementsOf nodes x y p → FitsBelow nodes (suc (suc n)) x y → FitsBelow nodes (suc n) p.0 p.1
  fits_down n x y p e (zero, l, s) =
      let q = same_dimension nodes x y e.1 p.1 s e.3 in
      (zero, omega arith, subst (λ k. Same nodes k p.1) (element_is e.1 e.0 q.0 p.0 (sym q.1 ∙ e.2)) q.2)
  fits_down n x y p e (suc k, l, d) =
      let a : d.1 ≡ p.0 = element_is d.0 e.0 d.1 p.0 (sym d.4 ∙ e.2) in
      let b : d.3 ≡ p.1 = element_is d.2 e.1 d.3 p.1 (sym d.5 ∙ e.3) in
      (k, omega arith, subst (λ j. DimensionsFit nodes k j p.1) a (subst (DimensionsFit nodes k d.1) b d.7))

  pub fits_up : (n x y : ℕ) (p : ℕ × ℕ) → ElementsOf nodes x y p → FitsBelow nodes (suc n) p.0 p.1 → FitsBelow nodes (suc (suc n)) x y
  fits_up n x y p e f = (suc f.0, omega (arith, f.1), (e.0, p.0, e.1, p.1, e.2, e.3, e.4, f.2))

  -- where it doesn't, the types have to be the same
  pub fits_here : (n x y : ℕ) → ((p : ℕ × ℕ) → ElementsOf nodes x y p → ⊥) → FitsBelow nodes n x y → Same nodes x y
  fits_here n x y none (zero, l, s) = s
  fits_here n x y none (suc k, l, d) = absurd (none (d.1, d.3) (d.0, d.2, d.4, d.5, d.6))

  pub fits_last : (x y : ℕ) → FitsBelow nodes 1 x y → Same nodes x y
  fits_last x y (zero, l, s) = s
  fits_last x y (suc k, l, d) = absurd (omega arith)

  pub same_fits : (n x y : ℕ) → 0 < n → Same nodes x y → FitsBelow nodes n x y
  same_fits n x y l s = (zero, l, s)

  pub array_elements : (a b : ℕ) (p : ℕ × ℕ) → ElementsOf nodes a b p → ArrayBelow nodes a b → FitsBelow nodes (length nodes) p.0 p.1
  array_elements a b p e h =
      let d = h.2.2 in
      let x : d.1 ≡ p.0 = element_is d.0 e.0 d.1 p.0 (sym d.4 ∙ e.2) in
      let y : d.3 ≡ p.1 = element_is d.2 e.1 d.3 p.1 (sym d.5 ∙ e.3) in
      (h.2.0, h.2.1, subst (λ j. DimensionsFit nodes h.2.0 j p.1) x (subst (DimensionsFit nodes h.2.0 d.1) y d.7))

  pub elements_array : (a b : ℕ) (p : ℕ × ℕ) → ElementsOf nodes a b p → OpenFirst nodes (length nodes) a → OpenFirst nodes (length nodes) b → FitsBelow nodes (length nodes) p.0 p.1 → ArrayBelow nodes a b
  elements_array a b p e oa ob f = (oa, ob, (f.0, f.1, (e.0, p.0, e.1, p.1, e.2, e.3, e.4, f.2)))

  pub array_none : (a b : ℕ) → ((p : ℕ × ℕ) → ElementsOf nodes a b p → ⊥) → ArrayBelow nodes a b → ⊥
  array_none a b none h = let d = h.2.2 in none (d.1, d.3) (d.0, d.2, d.4, d.5, d.6)
