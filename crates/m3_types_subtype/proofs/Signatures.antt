-- What fits in two procedure types.
use Rattle.std.proofs.Common.{◌≡◌, List, [], ◌∷◌, map, Bool, refl, sym, ◌∙◌, ap, subst}
use Rattle.m3_types.specs.declared.nodes.Formal.{Formal}
use Rattle.m3_types.specs.Definitions.{FormalHead, RaisesHead, Head, Missing, AProcedure, head_of_formal}
use Rattle.m3_types_subtype.specs.Subtypes.{RaisesWithin, modes_of, SignaturesFit}

pub modes_of_heads : (fs : List Formal) → modes_of (map head_of_formal fs) ≡ map (λ f. f.mode) fs
modes_of_heads [] = refl
modes_of_heads (f ∷ fs) = ap (λ ms. f.mode ∷ ms) (modes_of_heads fs)

formals_is : {fs gs : List FormalHead} {r s : Bool} {x y : RaisesHead} → AProcedure fs r x ≡ AProcedure gs s y → fs ≡ gs
formals_is h = cc

result_is : {fs gs : List FormalHead} {r s : Bool} {x y : RaisesHead} → AProcedure fs r x ≡ AProcedure gs s y → r ≡ s
result_is h = cc

raises_is : {fs gs : List FormalHead} {r s : Bool} {x y : RaisesHead} → AProcedure fs r x ≡ AProcedure gs s y → x ≡ y
raises_is h = cc

module _ (h k : Head) (fs gs : List FormalHead) (r s : Bool) (x y : RaisesHead) (eh : h ≡ AProcedure fs r x) (ek : k ≡ AProcedure gs s y) where
  pub fits : modes_of fs ≡ modes_of gs → r ≡ s → RaisesWithin x y → SignaturesFit h k
  fits m e w = (fs, r, x, gs, s, y, eh, ek, m, e, w)

  pub modes_fit : SignaturesFit h k → modes_of fs ≡ modes_of gs
  modes_fit q = ap modes_of (formals_is (sym eh ∙ q.6)) ∙ q.8 ∙ ap modes_of (formals_is (sym q.7 ∙ ek))

  pub results_fit : SignaturesFit h k → r ≡ s
  results_fit q = result_is (sym eh ∙ q.6) ∙ q.9 ∙ result_is (sym q.7 ∙ ek)

  pub raises_fit : SignaturesFit h k → RaisesWithin x y
  raises_fit q = subst (λ z. RaisesWithin z y) (raises_is (sym q.6 ∙ eh)) (subst (RaisesWithin q.2) (raises_is (sym q.7 ∙ ek)) q.10)

-- the opaque record of two signatures that fit, along equal heads
pub fits_along : (h k i j : Head) → h ≡ i → k ≡ j → SignaturesFit h k → SignaturesFit i j
fits_along h k i j p q s = subst (λ a. SignaturesFit a j) p (subst (λ b. SignaturesFit h b) q s)

-- no type is missing in two signatures that fit
pub missing_left : (h k : Head) → h ≡ Missing → SignaturesFit h k → ⊥
missing_left h k e s = let f : Missing ≡ AProcedure s.0 s.1 s.2 = sym e ∙ s.6 in let z : ⊥ = cc in z

pub missing_right : (h k : Head) → k ≡ Missing → SignaturesFit h k → ⊥
missing_right h k e s = let f : Missing ≡ AProcedure s.3 s.4 s.5 = sym e ∙ s.7 in let z : ⊥ = cc in z
