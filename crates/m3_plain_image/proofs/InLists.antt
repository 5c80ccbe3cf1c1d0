-- Places in lists.
use Rattle.std.proofs.Common.{◌≡◌, ℕ, zero, suc, ◌+◌, ◌-◌, ◌<◌, ◌≤◌, List, [], ◌∷◌, ◌++◌, length, None, Some, refl, sym, ap, ◌∙◌, subst, arith, append_assoc, length-append}
use Rattle.std.specs.Prelude.{slice_get}
use Rattle.std.specs.List.{AllByRecursion}
use Rattle.std.proofs.Math.Seq.{get_or-append_seam}
use Rattle.std.proofs.lemmas.Option.{slice_get-get_or}

-- these stand in the list at this place
abbrev pub HasAt : {A : Type 0} → List A → ℕ → List A → Type 0
HasAt all at [] = Unit {0}
HasAt all at (x ∷ xs) = (slice_get all at ≡ Some x) × HasAt all (at + 1) xs

pub has_front : {A : Type 0} (all : List A) (at : ℕ) (xs ys : List A) → HasAt all at (xs ++ ys) → HasAt all at xs
has_front all at [] ys h = tt
has_front all at (x ∷ xs) ys h = (h.0, has_front all (at + 1) xs ys h.1)

pub has_back : {A : Type 0} (all : List A) (at : ℕ) (xs ys : List A) → HasAt all at (xs ++ ys) → HasAt all (at + length xs) ys
has_back all at [] ys h = let e : at ≡ at + 0 = omega arith in subst (λ n. HasAt all n ys) e h
has_back all at (x ∷ xs) ys h =
    let e : at + 1 + length xs ≡ at + length (x ∷ xs) = omega arith in
    subst (λ n. HasAt all n ys) e (has_back all (at + 1) xs ys h.1)

pub has_all : {A : Type 0} (xs before : List A) → HasAt (before ++ xs) (length before) xs
has_all [] before = tt
has_all (x ∷ xs) before =
    let within : length before < length (before ++ x ∷ xs) = omega (arith, length-append before (x ∷ xs)) in
    let here = slice_get-get_or (before ++ x ∷ xs) (length before) x within ∙ ap Some (get_or-append_seam before x xs x) in
    let n : length (before ++ x ∷ []) ≡ length before + 1 = omega (arith, length-append before (x ∷ [])) in
    let rest = has_all xs (before ++ x ∷ []) in
    let rest' = subst (λ l. HasAt l (length (before ++ x ∷ [])) xs) (append_assoc before (x ∷ []) xs) rest in
    (here, subst (λ m. HasAt (before ++ x ∷ xs) m xs) n rest')

-- what stands in the front or in the back of two lists
pub get_front : {A : Type 0} (xs ys : List A) (k : ℕ) → k < length xs → slice_get (xs ++ ys) k ≡ slice_get xs k
get_front [] ys k h = absurd (omega arith)
get_front (x ∷ xs) ys zero h = refl
get_front (x ∷ xs) ys (suc k) h = get_front xs ys k (omega arith)

pub get_back : {A : Type 0} (xs ys : List A) (k : ℕ) → length xs ≤ k → slice_get (xs ++ ys) k ≡ slice_get ys (k - length xs)
get_back [] ys k h = let e : k ≡ k - 0 = omega arith in ap (slice_get ys) e
get_back (x ∷ xs) ys zero h = absurd (omega arith)
get_back (x ∷ xs) ys (suc k) h = let e : k - length xs ≡ suc k - length (x ∷ xs) = omega arith in get_back xs ys k (omega arith) ∙ ap (slice_get ys) e

-- ---- facts of each element

nothing-there : {A : Type 0} (x : A) → None ≡ Some x → ⊥
nothing-there x e = cc

same-there : {A : Type 0} (x y : A) → Some x ≡ Some y → x ≡ y
same-there x y e = cc

pub all_at : {A : Type 0} (P : A → Type 0) (xs : List A) (k : ℕ) (x : A) → AllByRecursion P xs → slice_get xs k ≡ Some x → P x
all_at P [] k x h e = absurd (nothing-there x e)
all_at P (y ∷ xs) zero x h e = subst P (same-there y x e) h.0
all_at P (y ∷ xs) (suc k) x h e = all_at P xs k x h.1 e

pub all_both : {A : Type 0} (P : A → Type 0) (xs ys : List A) → AllByRecursion P xs → AllByRecursion P ys → AllByRecursion P (xs ++ ys)
all_both P [] ys h k = k
all_both P (x ∷ xs) ys h k = (h.0, all_both P xs ys h.1 k)
