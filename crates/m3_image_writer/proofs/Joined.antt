-- Pieces that are written one after the other.
use Rattle.std.proofs.Common.{◌≡◌, ℕ, ◌+◌, ◌<◌, ◌≤◌, List, [], ◌∷◌, ◌++◌, length, get_or, take, Result, Ok, Err, ap, subst, ◌∙◌, append_assoc}
use Rattle.std.specs.Result.{OnOk}
use Rattle.std.specs.List.{AllByRecursion}
use Rattle.std.proofs.lemmas.List.{take_more, take_all}

-- a piece of what a value stands for
pub piece : {A : Type 0} (bytes : A → List ℕ) (before after : List ℕ) (x y : A) → after ≡ before ++ bytes x → x ≡ y → after ≡ before ++ bytes y
piece bytes before after x y e same = e ∙ ap (λ z. before ++ bytes z) same

pub eight_joined : (o a b c d e f g h oa ob oc od oe of og oh : List ℕ) → oa ≡ o ++ a → ob ≡ oa ++ b → oc ≡ ob ++ c → od ≡ oc ++ d → oe ≡ od ++ e → of ≡ oe ++ f → og ≡ of ++ g → oh ≡ og ++ h
    → oh ≡ o ++ (a ++ (b ++ (c ++ (d ++ (e ++ (f ++ (g ++ h)))))))
eight_joined o a b c d e f g h oa ob oc od oe of og oh pa pb pc pd pe pf pg ph = rw (ph, pg, pf, pe, pd, pc, pb, pa) (simp append_assoc)

-- what holds anyhow holds where a call succeeds
pub holds_on_ok : {T E : Type 0} (r : Result T E) (P : Type 0) → P → OnOk r P
holds_on_ok (Ok x) P h = h
holds_on_ok (Err e) P h = tt

-- one item more of which something is known
all_push : {A : Type 0} (P : A → Type 0) (xs : List A) (x : A) → AllByRecursion P xs → P x → AllByRecursion P (xs ++ x ∷ [])
all_push P [] x h here = (here, tt)
all_push P (y ∷ xs) x h here = (h.0, all_push P xs x h.1 here)

pub all_more : {A : Type 0} (P : A → Type 0) (xs : List A) (i : ℕ) (x : A) → i < length xs → x ≡ get_or xs i x → AllByRecursion P (take i xs) → P x → AllByRecursion P (take (i + 1) xs)
all_more P xs i x lt e h here = rw (take_more xs i x lt, ← e) (all_push P (take i xs) x h here)

pub all_told : {A : Type 0} (P : A → Type 0) (xs : List A) (n : ℕ) → length xs ≤ n → AllByRecursion P (take n xs) → AllByRecursion P xs
all_told {A = A} P xs n le h = subst (λ (ys : List A). AllByRecursion P ys) (take_all n xs le) h

pub all_more_at : {A : Type 0} (P : A → Type 0) (xs : List A) (i : ℕ) (d : A) → i < length xs → AllByRecursion P (take i xs) → P (get_or xs i d) → AllByRecursion P (take (i + 1) xs)
all_more_at P xs i d lt h here = rw (take_more xs i d lt) (all_push P (take i xs) (get_or xs i d) h here)
