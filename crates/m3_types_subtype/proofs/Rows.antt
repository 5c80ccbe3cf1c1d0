-- The exceptions of a row, in a set.
use Rattle.std.proofs.Common.{◌≡◌, ℕ, ◌+◌, ◌<◌, List, [], ◌∷◌, ◌++◌, length, get_or, take, true, sym, ◌∙◌, ap, subst, ⊎_elim}
use Rattle.std.specs.Prelude.{◌↔◌, Contains, IsTrue}
use Rattle.std.specs.Ordering.{nat_cmp}
use Rattle.std.specs.BTreeSet.{BTreeSet, contains, Updates}
use Rattle.std.proofs.lemmas.Bool.{cases_eq}
use Rattle.std.proofs.lemmas.List.{take_more}
use Rattle.std.proofs.lemmas.List.Elements.{Contains-append_left, Contains-push, Contains-push_cases}
use Rattle.m3_types_subtype.proofs.Parents.{elsewhere}

module _ (m n : BTreeSet ℕ) (row : List ℕ) (i : ℕ) (l : i < length row) (u : Updates nat_cmp m n (get_or row i 0) true) (was : (e : ℕ) → IsTrue (contains nat_cmp m e) ↔ Contains (take i row) e) where
  added : (e : ℕ) → e ≡ get_or row i 0 → IsTrue (contains nat_cmp n e)
  added e h = ap (contains nat_cmp n) h ∙ u.1

  has : (e : ℕ) → IsTrue (contains nat_cmp n e) → Contains (take i row ++ get_or row i 0 ∷ []) e
  has e t = ⊎_elim (λ h. subst (Contains (take i row ++ get_or row i 0 ∷ [])) (sym h) (Contains-push (take i row) (get_or row i 0))) (λ ne. Contains-append_left (take i row) (get_or row i 0 ∷ []) e ((was e).0 (sym (u.2 e (elsewhere (get_or row i 0) e ne)) ∙ t))) (cases_eq e (get_or row i 0))

  from : (e : ℕ) → Contains (take i row ++ get_or row i 0 ∷ []) e → IsTrue (contains nat_cmp n e)
  from e c = ⊎_elim (λ old. ⊎_elim (λ h. added e h) (λ ne. u.2 e (elsewhere (get_or row i 0) e ne) ∙ (was e).1 old) (cases_eq e (get_or row i 0))) (λ h. added e (sym h)) (Contains-push_cases (take i row) (get_or row i 0) e c)

  pub set_next : (e : ℕ) → IsTrue (contains nat_cmp n e) ↔ Contains (take (i + 1) row) e
  set_next e =
      (λ t. subst (λ xs. Contains xs e) (sym (take_more row i 0 l)) (has e t), λ c. from e (subst (λ xs. Contains xs e) (take_more row i 0 l) c))
