-- Same types have the same height.
use Rattle.std.proofs.Common.{◌≡◌, ℕ, zero, suc, List, Option, Some, None, refl, sym, ◌∙◌, ap, subst}
use Rattle.std.specs.Prelude.{IfSome}
use Rattle.m3_types.specs.declared.nodes.TypeNode.{TypeNode}
use Rattle.m3_types.specs.Definitions.{node_at}
use Rattle.m3_types.specs.Kinds.{named_above}
use Rattle.m3_types_subtype.specs.Sameness.{Same}
use Rattle.m3_types_subtype.proofs.Agreement.{same_turned}
use Rattle.m3_types_subtype.specs.Heights.{HasHeight, top, below}
use Rattle.m3_types_subtype.proofs.Shapes.{same_above}

some_is : {A : Type 0} {x y : A} → Some x ≡ Some y → x ≡ y
some_is h = cc

module _ (nodes : List TypeNode) where
  pub same_height : (a b h k : ℕ) → Same nodes a b → HasHeight nodes a h → HasHeight nodes b k → h ≡ k
  same_height a b zero zero s (top e) (top f) = refl
  same_height a b (suc h) zero s (below {above = p} e u) (top f) = let q = same_above nodes b a p (same_turned nodes a b s) e in absurd (let g : Some q.0 ≡ None = sym q.1 ∙ f in let z : ⊥ = cc in z)
  same_height a b zero (suc k) s (top e) (below {above = p} f u) = let q = same_above nodes a b p s f in absurd (let g : Some q.0 ≡ None = sym q.1 ∙ e in let z : ⊥ = cc in z)
  same_height a b (suc h) (suc k) s (below {above = p} e u) (below {above = q} f v) =
      let r = same_above nodes a b q s f in
      let at : p ≡ r.0 = some_is (sym e ∙ r.1) in
      ap suc (same_height p q h k (subst (λ m. Same nodes m q) (sym at) r.2) u v)

  -- the type above has the height before
  pub height_above : (place above height : ℕ) → named_above (node_at nodes place) ≡ Some above → HasHeight nodes place (suc height) → HasHeight nodes above height
  height_above place above height e (below {above = p} f u) = subst (λ m. HasHeight nodes m height) (some_is (sym f ∙ e)) u

pub height_of_sum : (nodes : List TypeNode) (place n : ℕ) (r : Option ℕ) → IfSome r (λ s. s ≡ n) → HasHeight nodes place n → IfSome r (λ h. HasHeight nodes place h)
height_of_sum nodes place n None e h = tt
height_of_sum nodes place n (Some s) e h = subst (HasHeight nodes place) (sym e) h
