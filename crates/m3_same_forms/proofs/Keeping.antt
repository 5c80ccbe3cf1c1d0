-- What is kept of a list with one more.
use Rattle.std.proofs.Common.{◌≡◌, Bool, true, false, List, [], ◌∷◌, ◌++◌, ap}
use Rattle.std.specs.Prelude.{if◌then◌else◌}
use Rattle.m3_same_forms.specs.declared.forms.Tag.{Tag}
use Rattle.m3_same_forms.specs.Forms.{Known}
use Rattle.m3_same_forms.specs.Facts.{kept}

more : (y : Known) (b : Bool) (r r' t : List Known) → r ≡ r' ++ t → (if b then y ∷ r else r) ≡ (if b then y ∷ r' else r') ++ t
more y true r r' t e = ap (λ z. y ∷ z) e
more y false r r' t e = e

less : (y : Known) (b : Bool) (r r' : List Known) → r ≡ r' → (if b then y ∷ r else r) ≡ (if b then y ∷ r' else r')
less y true r r' e = ap (λ z. y ∷ z) e
less y false r r' e = e

pub kept_with : (f : Tag → Bool) (xs : List Known) (x : Known) → f x.query.tag ≡ true → kept f (xs ++ x ∷ []) ≡ kept f xs ++ x ∷ []
kept_with f [] x e = ap (λ b. if b then x ∷ [] else []) e
kept_with f (y ∷ ys) x e = more y (f y.query.tag) (kept f (ys ++ x ∷ [])) (kept f ys) (x ∷ []) (kept_with f ys x e)

pub kept_without : (f : Tag → Bool) (xs : List Known) (x : Known) → f x.query.tag ≡ false → kept f (xs ++ x ∷ []) ≡ kept f xs
kept_without f [] x e = ap (λ b. if b then x ∷ [] else []) e
kept_without f (y ∷ ys) x e = less y (f y.query.tag) (kept f (ys ++ x ∷ [])) (kept f ys) (kept_without f ys x e)
