-- A scan of a log from its newest entry: an entry decides where its name is the one sought.
use Rattle.std.proofs.Common.{◌≡◌, ℕ, List, ◌∷◌, Bool, true, false, Some, ap, sym, ◌∙◌, nat_eq, cond, subst, Contains}
use Rattle.std.specs.Ordering.{nat_cmp}
use Rattle.std.specs.Cmp.Lexicographic.{slice_cmp, texts_ties, pointwise}
use Rattle.std.specs.FinMap.{find}

module _ {V : Type 0} (name held : List ℕ) (bytes : V) (es : List (List ℕ × V)) where
  decides : (b : Bool) → pointwise nat_eq name held ≡ b
      → find (slice_cmp nat_cmp) name ((held, bytes) ∷ es) ≡ cond b (Some bytes) (find (slice_cmp nat_cmp) name es)
  decides b e = ap (λ t. cond t (Some bytes) (find (slice_cmp nat_cmp) name es)) (sym (texts_ties name held) ∙ e)

  pub find-here : pointwise nat_eq name held ≡ true → find (slice_cmp nat_cmp) name ((held, bytes) ∷ es) ≡ Some bytes
  find-here e = decides true e

  pub find-later : pointwise nat_eq name held ≡ false → find (slice_cmp nat_cmp) name ((held, bytes) ∷ es) ≡ find (slice_cmp nat_cmp) name es
  find-later e = decides false e

pub Contains-along : (xs ys : List ℕ) (x y : ℕ) → xs ≡ ys → x ≡ y → Contains xs x → Contains ys y
Contains-along xs ys x y p q held = subst (λ zs. Contains zs y) p (subst (λ z. Contains xs z) q held)
