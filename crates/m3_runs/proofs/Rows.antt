-- Rows whose members stand for one another one by one.
use Rattle.std.proofs.Common.{◌≡◌, ℕ, zero, suc, List, [], ◌∷◌, ◌++◌, length, Option, Some, None, refl, ap, subst}
use Rattle.std.specs.Prelude.{map}
use Rattle.std.specs.Option.{option_map}
use Rattle.m3_runs.specs.States.{thread_at, updated, without, counted, living}
use Rattle.m3_runs.specs.Follows.{Each, none, more, Both, neither, both}

pub each_mapped : {A B : Type 0} (P Q : A → B → Type 0) (xs : List A) (ys : List B) → ((x : A) (y : B) → P x y → Q x y) → Each P xs ys → Each Q xs ys
each_mapped P Q xs ys f none = none
each_mapped P Q xs ys f (more x y xs' ys' h hs) = more x y xs' ys' (f x y h) (each_mapped P Q xs' ys' f hs)

pub both_mapped : {A B : Type 0} (P Q : A → B → Type 0) (x : Option A) (y : Option B) → ((x : A) (y : B) → P x y → Q x y) → Both P x y → Both Q x y
both_mapped P Q x y f neither = neither
both_mapped P Q x y f (both a b h) = both a b (f a b h)

pub each_length : {A B : Type 0} (P : A → B → Type 0) (xs : List A) (ys : List B) → Each P xs ys → length xs ≡ length ys
each_length P xs ys none = refl
each_length P xs ys (more x y xs' ys' h hs) = ap suc (each_length P xs' ys' hs)

pub each_behind : {A B : Type 0} (P : A → B → Type 0) (xs : List A) (ys : List B) (x : A) (y : B) → Each P xs ys → P x y → Each P (xs ++ x ∷ []) (ys ++ y ∷ [])
each_behind P xs ys x y none h = more x y [] [] h none
each_behind P xs ys x y (more a b xs' ys' g gs) h = more a b (xs' ++ x ∷ []) (ys' ++ y ∷ []) g (each_behind P xs' ys' x y gs h)

pub map_each : {A B C D : Type 0} (P : A → B → Type 0) (Q : C → D → Type 0) (f : A → C) (g : B → D) (xs : List A) (ys : List B) → ((x : A) (y : B) → P x y → Q (f x) (g y)) → Each P xs ys → Each Q (map f xs) (map g ys)
map_each P Q f g xs ys h none = none
map_each P Q f g xs ys h (more x y xs' ys' k ks) = more (f x) (g y) (map f xs') (map g ys') (h x y k) (map_each P Q f g xs' ys' h ks)

-- ---- rows of threads

pub at_each : {A B : Type 0} (P : A → B → Type 0) (xs : List (Option A)) (ys : List (Option B)) (n : ℕ) → Each (Both P) xs ys → Both P (thread_at xs n) (thread_at ys n)
at_each P xs ys n none = neither
at_each P xs ys zero (more x y xs' ys' h hs) = h
at_each P xs ys (suc n) (more x y xs' ys' h hs) = at_each P xs' ys' n hs

pub option_both : {A B C D : Type 0} (P : A → B → Type 0) (Q : C → D → Type 0) (f : A → C) (g : B → D) (x : Option A) (y : Option B) → ((x : A) (y : B) → P x y → Q (f x) (g y)) → Both P x y → Both Q (option_map f x) (option_map g y)
option_both P Q f g x y h neither = neither
option_both P Q f g x y h (both a b k) = both (f a) (g b) (h a b k)

pub updated_each : {A B : Type 0} (P : A → B → Type 0) (f : A → A) (g : B → B) (n : ℕ) (xs : List (Option A)) (ys : List (Option B)) → ((x : A) (y : B) → P x y → P (f x) (g y)) → Each (Both P) xs ys → Each (Both P) (updated f n xs) (updated g n ys)
updated_each P f g n xs ys h none = none
updated_each P f g zero xs ys h (more x y xs' ys' k ks) = more (option_map f x) (option_map g y) xs' ys' (option_both P P f g x y h k) ks
updated_each P f g (suc n) xs ys h (more x y xs' ys' k ks) = more x y (updated f n xs') (updated g n ys') k (updated_each P f g n xs' ys' h ks)

pub without_each : {A B : Type 0} (P : A → B → Type 0) (n : ℕ) (xs : List (Option A)) (ys : List (Option B)) → Each (Both P) xs ys → Each (Both P) (without n xs) (without n ys)
without_each P n xs ys none = none
without_each P zero xs ys (more x y xs' ys' k ks) = more None None xs' ys' neither ks
without_each P (suc n) xs ys (more x y xs' ys' k ks) = more x y (without n xs') (without n ys') k (without_each P n xs' ys' ks)

counted_same : {A B : Type 0} (P : A → B → Type 0) (x : Option A) (y : Option B) (n : ℕ) → Both P x y → counted x n ≡ counted y n
counted_same P x y n neither = refl
counted_same P x y n (both a b h) = refl

pub living_same : {A B : Type 0} (P : A → B → Type 0) (xs : List (Option A)) (ys : List (Option B)) → Each (Both P) xs ys → living xs ≡ living ys
living_same P xs ys none = refl
living_same P xs ys (more x y xs' ys' k ks) = subst (λ i. counted x (living xs') ≡ counted y i) (living_same P xs' ys' ks) (counted_same P x y (living xs') k)

-- the one that stands for a thread that is there
pub there : {A B : Type 0} (P : A → B → Type 0) (x : Option A) (y : Option B) (b : B) → Both P x y → y ≡ Some b → (a : A) × (x ≡ Some a) × P a b
there P x y b neither e = absurd (let bad : None ≡ Some b = e in cc)
there P x y b (both a b' h) e = let same : b' ≡ b = cc in (a, refl, subst (P a) same h)
