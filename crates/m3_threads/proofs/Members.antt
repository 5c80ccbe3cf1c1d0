-- The members of a list of threads after it was changed at one place, or at all.
use Rattle.std.proofs.Common.{◌≡◌, ◌≢◌, ℕ, zero, suc, ◌+◌, ◌<◌, ◌≤◌, ◌==◌, List, [], ◌∷◌, length, Some, Bool, true, false, ◌||◌, map, ◌++◌, refl, sym, ap, subst, ◌∙◌, inl, inr, ◌⊎◌, arith}
use Rattle.std.specs.Prelude.{slice_get, slice_set, remove}
use Rattle.std.specs.List.{list_any}
use Rattle.std.proofs.lemmas.Bool.{eq-eqb}
use Rattle.m3_threads.specs.declared.status.Thread.{Thread}
use Rattle.m3_threads.specs.All.{AreOrderedBy}
use Rattle.m3_threads.specs.Actions.{uses}
use Rattle.m3_threads.proofs.Places.{some_same, get_within}

-- after a write each element is the written one, or another that stood there before
pub set-at : {A : Type 0} (xs : List A) (k : ℕ) (x : A) (j : ℕ) (y : A) → slice_get (slice_set xs k x) j ≡ Some y → ((j ≡ k) × (y ≡ x)) ⊎ ((j ≢ k) × (slice_get xs j ≡ Some y))
set-at [] k x j y e = cc
set-at (z ∷ zs) zero x zero y e = inl (refl, sym (some_same e))
set-at (z ∷ zs) zero x (suc j) y e = inr ((λ q. absurd (omega arith)), e)
set-at (z ∷ zs) (suc k) x zero y e = inr ((λ q. absurd (omega arith)), e)
set-at (z ∷ zs) (suc k) x (suc j) y e =
    elim (set-at zs k x j y e) [
      | inl w ↦ inl (ap suc w.0, w.1)
      | inr w ↦ inr ((λ q. w.0 (omega arith)), w.1)
    ]

pub length-set_of : {A : Type 0} (xs : List A) (k : ℕ) (x : A) → length (slice_set xs k x) ≡ length xs
length-set_of [] k x = refl
length-set_of (z ∷ zs) zero x = refl
length-set_of (z ∷ zs) (suc k) x = ap suc (length-set_of zs k x)

pub ordered-set : (R : Thread → Thread → Type 0) (ts : List Thread) (k : ℕ) (t u : Thread) → ((v : Thread) → R u v → R t v) → ((v : Thread) → R v u → R v t) → slice_get ts k ≡ Some u → AreOrderedBy R ts → AreOrderedBy R (slice_set ts k t)
ordered-set R ts k t u left right e h = λ i j v w l g m.
    elim (set-at ts k t i v g) [
      | inl a ↦ elim (set-at ts k t j w m) [
        | inl b ↦ let p : i ≡ k = a.0 in let q : j ≡ k = b.0 in absurd (omega arith)
        | inr b ↦
            let p : k < j = subst (λ x. x < j) a.0 l in
            subst (λ x. R x w) (sym a.1) (left w (h k j u w p e b.1))
      ]
      | inr a ↦ elim (set-at ts k t j w m) [
        | inl b ↦
            let p : i < k = subst (λ x. i < x) b.0 l in
            subst (λ x. R v x) (sym b.1) (right v (h i k v u p a.1 e))
        | inr b ↦ h i j v w l a.1 b.1
      ]
    ]

-- where an element stood before the one at k was removed
pub remove-member : (ts : List Thread) (k j : ℕ) (v : Thread) → slice_get (remove ts k) j ≡ Some v → (i : ℕ) × (slice_get ts i ≡ Some v) × (((i ≡ j) × (j < k)) ⊎ ((i ≡ j + 1) × (k ≤ j)))
remove-member [] zero j v e = cc
remove-member [] (suc k) j v e = cc
remove-member (x ∷ xs) zero j v e = (suc j, e, inr (omega arith, omega arith))
remove-member (x ∷ xs) (suc k) zero v e = (zero, e, inl (refl, omega arith))
remove-member (x ∷ xs) (suc k) (suc j) v e =
    let r = remove-member xs k j v e in (
      suc r.0,
      r.1,
      elim r.2 [
        | inl w ↦ let p : r.0 ≡ j = w.0 in let q : j < k = w.1 in inl (omega arith, omega arith)
        | inr w ↦ let p : r.0 ≡ j + 1 = w.0 in let q : k ≤ j = w.1 in inr (omega arith, omega arith)
      ],
    )

earlier : (i j k m n : ℕ) → i < j → ((m ≡ i) × (i < k)) ⊎ ((m ≡ i + 1) × (k ≤ i)) → ((n ≡ j) × (j < k)) ⊎ ((n ≡ j + 1) × (k ≤ j)) → m < n
earlier i j k m n l (inl a) (inl b) = omega (arith, a.0, a.1, b.0, b.1)
earlier i j k m n l (inl a) (inr b) = omega (arith, a.0, a.1, b.0, b.1)
earlier i j k m n l (inr a) (inl b) = omega (arith, a.0, a.1, b.0, b.1)
earlier i j k m n l (inr a) (inr b) = omega (arith, a.0, a.1, b.0, b.1)

pub ordered-remove : (R : Thread → Thread → Type 0) (ts : List Thread) (k : ℕ) → AreOrderedBy R ts → AreOrderedBy R (remove ts k)
ordered-remove R ts k h = λ i j v w l g m.
    let a = remove-member ts k i v g in
    let b = remove-member ts k j w m in
    h a.0 b.0 v w (earlier i j k a.0 b.0 l a.2 b.2) a.1 b.1

pub length-remove_of : (ts : List Thread) (k : ℕ) → length (remove ts k) ≤ length ts
length-remove_of [] zero = omega arith
length-remove_of [] (suc k) = omega arith
length-remove_of (x ∷ xs) zero = omega arith
length-remove_of (x ∷ xs) (suc k) = let h = length-remove_of xs k in omega arith

pub last-member : (ts : List Thread) (t : Thread) → (j : ℕ) × (slice_get (ts ++ t ∷ []) j ≡ Some t)
last-member [] t = (zero, refl)
last-member (x ∷ xs) t = let r = last-member xs t in (suc r.0, r.1)

pub kept-member : (ts : List Thread) (t : Thread) (j : ℕ) (v : Thread) → slice_get ts j ≡ Some v → slice_get (ts ++ t ∷ []) j ≡ Some v
kept-member [] t j v e = cc
kept-member (x ∷ xs) t zero v e = e
kept-member (x ∷ xs) t (suc j) v e = kept-member xs t j v e

pub push-member : (ts : List Thread) (t : Thread) (j : ℕ) (v : Thread) → slice_get (ts ++ t ∷ []) j ≡ Some v → (slice_get ts j ≡ Some v) ⊎ ((j ≡ length ts) × (v ≡ t))
push-member [] t zero v e = inr (refl, sym (some_same e))
push-member [] t (suc j) v e = cc
push-member (x ∷ xs) t zero v e = inl e
push-member (x ∷ xs) t (suc j) v e =
    elim (push-member xs t j v e) [
      | inl w ↦ inl w
      | inr w ↦ inr (ap suc w.0, w.1)
    ]

pub ordered-push : (R : Thread → Thread → Type 0) (ts : List Thread) (t : Thread) → ((j : ℕ) (v : Thread) → slice_get ts j ≡ Some v → R v t) → AreOrderedBy R ts → AreOrderedBy R (ts ++ t ∷ [])
ordered-push R ts t new h = λ i j v w l g m.
    elim (push-member ts t i v g) [
      | inl a ↦ elim (push-member ts t j w m) [
        | inl b ↦ h i j v w l a b
        | inr b ↦ subst (λ x. R v x) (sym b.1) (new i v a)
      ]
      | inr a ↦ elim (push-member ts t j w m) [
        | inl b ↦ let p : i ≡ length ts = a.0 in let q = get_within ts j w b in absurd (omega arith)
        | inr b ↦ let p : i ≡ length ts = a.0 in let q : j ≡ length ts = b.0 in absurd (omega arith)
      ]
    ]

neither : (a b : Bool) → (a || b) ≡ false → (a ≡ false) × (b ≡ false)
neither true b e = cc
neither false b e = (refl, e)

-- a slot that no thread uses is none of theirs
pub unused : (s : ℕ) (ts : List Thread) → list_any (uses s) ts ≡ false → (j : ℕ) (v : Thread) → slice_get ts j ≡ Some v → v.slot ≢ s
unused s [] e j v g = cc
unused s (x ∷ xs) e zero v g = λ q.
    let h = neither (x.slot == s) (list_any (uses s) xs) e in
    let m = eq-eqb x.slot s (ap (λ u. u.slot) (some_same g) ∙ q) in
    cc (h.0, m)
unused s (x ∷ xs) e (suc j) v g = unused s xs (neither (x.slot == s) (list_any (uses s) xs) e).1 j v g

pub set-there : (ts : List Thread) (k : ℕ) (t u : Thread) → slice_get ts k ≡ Some u → slice_get (slice_set ts k t) k ≡ Some t
set-there [] k t u e = cc
set-there (x ∷ xs) zero t u e = refl
set-there (x ∷ xs) (suc k) t u e = set-there xs k t u e

pub set-elsewhere : (ts : List Thread) (k j : ℕ) (t : Thread) → j ≢ k → slice_get (slice_set ts k t) j ≡ slice_get ts j
set-elsewhere [] k j t n = refl
set-elsewhere (x ∷ xs) zero zero t n = absurd (n refl)
set-elsewhere (x ∷ xs) zero (suc j) t n = refl
set-elsewhere (x ∷ xs) (suc k) zero t n = refl
set-elsewhere (x ∷ xs) (suc k) (suc j) t n = set-elsewhere xs k j t (λ e. n (ap suc e))

pub length-mapped : (f : Thread → Thread) (ts : List Thread) → length (map f ts) ≡ length ts
length-mapped f [] = refl
length-mapped f (x ∷ xs) = ap suc (length-mapped f xs)

pub map-member : (f : Thread → Thread) (ts : List Thread) (j : ℕ) (v : Thread) → slice_get (map f ts) j ≡ Some v → (u : Thread) × (slice_get ts j ≡ Some u) × (v ≡ f u)
map-member f [] j v e = cc
map-member f (x ∷ xs) zero v e = (x, refl, sym (some_same e))
map-member f (x ∷ xs) (suc j) v e = map-member f xs j v e

pub member-map : (f : Thread → Thread) (ts : List Thread) (j : ℕ) (u : Thread) → slice_get ts j ≡ Some u → slice_get (map f ts) j ≡ Some (f u)
member-map f [] j u e = cc
member-map f (x ∷ xs) zero u e = ap (λ v. Some (f v)) (some_same e)
member-map f (x ∷ xs) (suc j) u e = member-map f xs j u e

pub ordered-map : (R : Thread → Thread → Type 0) (f : Thread → Thread) (ts : List Thread) → ((t u : Thread) → R t u → R (f t) (f u)) → AreOrderedBy R ts → AreOrderedBy R (map f ts)
ordered-map R f ts keeps h = λ i j v w l g m.
    let a = map-member f ts i v g in
    let b = map-member f ts j w m in
    subst (λ x. R x w) (sym a.2) (subst (λ x. R (f a.0) x) (sym b.2) (keeps a.0 b.0 (h i j a.0 b.0 l a.1 b.1)))

-- who isn't removed stays
pub remove-keeps : (ts : List Thread) (k j : ℕ) (v : Thread) → slice_get ts j ≡ Some v → j ≢ k → (i : ℕ) × (slice_get (remove ts k) i ≡ Some v)
remove-keeps [] k j v e n = cc
remove-keeps (x ∷ xs) zero zero v e n = absurd (n refl)
remove-keeps (x ∷ xs) zero (suc j) v e n = (j, e)
remove-keeps (x ∷ xs) (suc k) zero v e n = (zero, e)
remove-keeps (x ∷ xs) (suc k) (suc j) v e n = let r = remove-keeps xs k j v e (λ q. n (ap suc q)) in (suc r.0, r.1)
