-- Lists that are compared element by element.
use Rattle.std.proofs.Common.{◌≡◌, ℕ, zero, suc, ◌+◌, ◌<◌, List, [], ◌∷◌, ◌++◌, length, get_or, map, take, refl, sym, ◌∙◌, ap, arith, append-nil, append_assoc}
use Rattle.std.proofs.lemmas.List.{take_more}
use Rattle.m3_types.specs.Definitions.{gather}

get_or_map : {A B : Type 0} (f : A → B) (xs : List A) (i : ℕ) (d : A) → get_or (map f xs) i (f d) ≡ f (get_or xs i d)
get_or_map f [] i d = refl
get_or_map f (x ∷ xs) zero d = refl
get_or_map f (x ∷ xs) (suc i) d = get_or_map f xs i d

-- within a list the default doesn't matter
pub get_or_any : {A : Type 0} (xs : List A) (i : ℕ) (d e : A) → i < length xs → get_or xs i d ≡ get_or xs i e
get_or_any [] i d e l = absurd (omega arith)
get_or_any (x ∷ xs) zero d e l = refl
get_or_any (x ∷ xs) (suc i) d e l = get_or_any xs i d e (omega arith)

long : {A B : Type 0} (f : A → B) (xs : List A) (i : ℕ) → i < length xs → i < length (map f xs)
long f [] i l = absurd (omega arith)
long f (x ∷ xs) zero l = omega arith
long f (x ∷ xs) (suc i) l = let rest : i < length (map f xs) = long f xs i (omega arith) in omega arith

-- where f makes equal lists of two lists, it makes equal values of the elements at a place
pub same_at : {A B : Type 0} (f : A → B) (xs ys : List A) (i : ℕ) (d e : A) → i < length xs → i < length ys → map f xs ≡ map f ys → f (get_or xs i d) ≡ f (get_or ys i e)
same_at f xs ys i d e lx ly h =
    sym (get_or_map f xs i d) ∙ ap (λ zs. get_or zs i (f d)) h ∙ get_or_any (map f ys) i (f d) (f e) (long f ys i ly) ∙ get_or_map f ys i e

gather_more : {A : Type 0} (f : A → List ℕ) (xs : List A) (x : A) → gather f (xs ++ x ∷ []) ≡ gather f xs ++ f x
gather_more f [] x = append-nil (f x)
gather_more f (y ∷ ys) x = ap (λ zs. f y ++ zs) (gather_more f ys x) ∙ sym (append_assoc (f y) (gather f ys) (f x))

-- what was gathered so far, and what one element more makes of it
pub gather_next : {A : Type 0} (f : A → List ℕ) (xs : List A) (i : ℕ) (d : A) (first old new : List ℕ) → i < length xs → old ≡ first ++ gather f (take i xs) → new ≡ old ++ f (get_or xs i d) → new ≡ first ++ gather f (take (i + 1) xs)
gather_next f xs i d first old new l was now =
    now ∙ ap (λ zs. zs ++ f (get_or xs i d)) was ∙ append_assoc first (gather f (take i xs)) (f (get_or xs i d)) ∙ ap (λ zs. first ++ zs) (sym (ap (gather f) (take_more xs i d l) ∙ gather_more f (take i xs) (get_or xs i d)))
