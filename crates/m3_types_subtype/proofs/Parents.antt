-- The forest that a map of parents keeps, after an entry was written.
use Rattle.std.proofs.Common.{◌≡◌, ◌≢◌, ℕ, ◌⊎◌, inl, inr, ◌∙◌, sym, ap, arith, ⊎_elim, ◌≤◌, ◌<◌, false}
use Rattle.std.specs.Prelude.{Some, Result, Ok, Err, OnOk, OnErr, unwrap_or}
use Rattle.std.specs.Ordering.{nat_cmp}
use Rattle.std.specs.BTreeMap.{BTreeMap, Updates, IsUnchanged, is_at}
use Rattle.std.proofs.lemmas.Bool.{cases_eq}
use Rattle.std.proofs.lemmas.Grind.{common_steps}
use Rattle.std.specs.Map.{lookup}
use Rattle.m3_types_subtype.specs.Classes.{parent_of}

pub elsewhere : (k q : ℕ) → q ≢ k → is_at (nat_cmp k) q ≡ false
elsewhere k q ne = grind (arith, common_steps)

pub parent_written : (m n : BTreeMap ℕ ℕ) (k v : ℕ) → Updates nat_cmp m n k (Some v) → parent_of n k ≡ v
parent_written m n k v u = ap (λ o. unwrap_or o k) u.1

pub parent_elsewhere : (m n : BTreeMap ℕ ℕ) (k v : ℕ) → Updates nat_cmp m n k (Some v) → (q : ℕ) → q ≢ k → parent_of n q ≡ parent_of m q
parent_elsewhere m n k v u q ne = ap (λ o. unwrap_or o q) (u.2 q (elsewhere k q ne))

-- whether or not the entry could be written, each parent is itself or the parent's parent
pub parents_lifted : {T E : Type 0} (r : Result T E) (m n : BTreeMap ℕ ℕ) (i top : ℕ) → top ≡ parent_of m (parent_of m i) → OnOk r (Updates nat_cmp m n i (Some top)) → OnErr r (IsUnchanged m n) → (j : ℕ) → (parent_of n j ≡ parent_of m j) ⊎ (parent_of n j ≡ parent_of m (parent_of m j))
parents_lifted (Ok x) m n i top e ok err j =
    ⊎_elim (λ p. inr (ap (parent_of n) p ∙ parent_written m n i top ok ∙ e ∙ ap (λ q. parent_of m (parent_of m q)) (sym p))) (λ ne. inl (parent_elsewhere m n i top ok j ne)) (cases_eq j i)
parents_lifted (Err x) m n i top e ok err j = inl (ap (λ es. unwrap_or (lookup (is_at (nat_cmp j)) es) j) err)

pub lifted_descends : {T E : Type 0} (r : Result T E) (m n : BTreeMap ℕ ℕ) (i top : ℕ) → ((j : ℕ) → parent_of m j ≤ j) → top ≡ parent_of m (parent_of m i) → OnOk r (Updates nat_cmp m n i (Some top)) → OnErr r (IsUnchanged m n) → (j : ℕ) → parent_of n j ≤ j
lifted_descends r m n i top d e ok err j =
    let one : parent_of m j ≤ j = d j in
    let two : parent_of m (parent_of m j) ≤ parent_of m j = d (parent_of m j) in
    ⊎_elim (λ p. omega arith) (λ p. omega arith) (parents_lifted r m n i top e ok err j)

pub linked_descends : (m n : BTreeMap ℕ ℕ) (high low : ℕ) → ((j : ℕ) → parent_of m j ≤ j) → low < high → Updates nat_cmp m n high (Some low) → (j : ℕ) → parent_of n j ≤ j
linked_descends m n high low d l u j =
    let old : parent_of m j ≤ j = d j in
    ⊎_elim (λ e. let is : parent_of n j ≡ low = ap (parent_of n) e ∙ parent_written m n high low u in omega arith)
    (λ ne. let is : parent_of n j ≡ parent_of m j = parent_elsewhere m n high low u j ne in omega arith) (cases_eq j high)
