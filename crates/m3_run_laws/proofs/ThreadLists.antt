-- Lists of threads, of which one or all are changed in what doesn't tell where they stand.
use Rattle.std.specs.Prelude.{ℕ, suc, ◌≡◌, ◌≤◌, ◌+◌, ◌==◌, Bool, true, false, List, [], ◌∷◌, ◌++◌, map, length, find, Some}
use Rattle.std.specs.List.{AllByRecursion}
use Rattle.std.proofs.Common.{refl, sym, ap, subst, ◌∙◌, arith, cond}
use Rattle.m3_threads.specs.declared.status.Thread.{Thread}
use Rattle.m3_threads.specs.All.{is_named, updated}
use Rattle.m3_threads.specs.Actions.{without}
use Rattle.m3_threads.proofs.Places.{find-updated}
use Rattle.m3_run_laws.specs.Standing.{Has}

-- a change of a thread leaves a fact, or its number
abbrev pub Leaves : (Thread → Type 0) → (Thread → Thread) → Type 0
Leaves P change = (t : Thread) → P t → P (change t)

abbrev pub KeepsNumber : (Thread → Thread) → Type 0
KeepsNumber change = (t : Thread) → (change t).number ≡ t.number

named-as : (change : Thread → Thread) (n : ℕ) (t : Thread) (b : Bool) → (change t).number ≡ t.number → (t.number == n) ≡ b → ((change t).number == n) ≡ b
named-as change n t b keeps e = ap (λ k. k == n) keeps ∙ e

some-is : (x t : Thread) → Some x ≡ Some t → x ≡ t
some-is x t e = cc

-- ---- facts of all threads

changed-at : (P : Thread → Type 0) (change : Thread → Thread) (n : ℕ) (x : Thread) (xs : List Thread) (b : Bool) → P (change x) → P x → AllByRecursion P xs → AllByRecursion P (updated change n xs)
    → AllByRecursion P (cond b (change x ∷ xs) (x ∷ updated change n xs))
changed-at P change n x xs true new old h go = (new, h)
changed-at P change n x xs false new old h go = (old, go)

pub all_changed : (P : Thread → Type 0) (change : Thread → Thread) (n : ℕ) (ts : List Thread) → Leaves P change → AllByRecursion P ts → AllByRecursion P (updated change n ts)
all_changed P change n [] leaves h = tt
all_changed P change n (x ∷ xs) leaves h = changed-at P change n x xs (x.number == n) (leaves x h.0) h.0 h.1 (all_changed P change n xs leaves h.1)

pub all_mapped : (P : Thread → Type 0) (f : Thread → Thread) (ts : List Thread) → Leaves P f → AllByRecursion P ts → AllByRecursion P (map f ts)
all_mapped P f [] leaves h = tt
all_mapped P f (x ∷ xs) leaves h = (leaves x h.0, all_mapped P f xs leaves h.1)

found-at : (P : Thread → Type 0) (n : ℕ) (x t : Thread) (xs : List Thread) (b : Bool) → P x → (find (is_named n) xs ≡ Some t → P t) → cond b (Some x) (find (is_named n) xs) ≡ Some t → P t
found-at P n x t xs true h go e = subst (λ (u : Thread). P u) (some-is x t e) h
found-at P n x t xs false h go e = go e

-- one that is found is one of all
pub of_found : (P : Thread → Type 0) (n : ℕ) (ts : List Thread) (t : Thread) → AllByRecursion P ts → find (is_named n) ts ≡ Some t → P t
of_found P n [] t h e = absurd cc
of_found P n (x ∷ xs) t h e = found-at P n x t xs (x.number == n) h.0 (of_found P n xs t h.1) e

-- ---- facts of all but the thread of a number

but-at : (P : Thread → Type 0) (n : ℕ) (x : Thread) (xs : List Thread) (b : Bool) → P x → AllByRecursion P xs → AllByRecursion P (without n xs) → AllByRecursion P (cond b xs (x ∷ without n xs))
but-at P n x xs true h rest go = rest
but-at P n x xs false h rest go = (h, go)

pub but_of_all : (P : Thread → Type 0) (n : ℕ) (ts : List Thread) → AllByRecursion P ts → AllByRecursion P (without n ts)
but_of_all P n [] h = tt
but_of_all P n (x ∷ xs) h = but-at P n x xs (x.number == n) h.0 h.1 (but_of_all P n xs h.1)

whole-at : (P : Thread → Type 0) (n : ℕ) (x t : Thread) (xs : List Thread) (b : Bool) → (AllByRecursion P (without n xs) → find (is_named n) xs ≡ Some t → AllByRecursion P xs)
    → AllByRecursion P (cond b xs (x ∷ without n xs)) → cond b (Some x) (find (is_named n) xs) ≡ Some t → P t → AllByRecursion P (x ∷ xs)
whole-at P n x t xs true go h e here = (subst (λ (u : Thread). P u) (sym (some-is x t e)) here, h)
whole-at P n x t xs false go h e here = (h.0, go h.1 e)

pub all_of_but : (P : Thread → Type 0) (n : ℕ) (ts : List Thread) (t : Thread) → P t → AllByRecursion P (without n ts) → find (is_named n) ts ≡ Some t → AllByRecursion P ts
all_of_but P n [] t here h e = tt
all_of_but P n (x ∷ xs) t here h e = whole-at P n x t xs (x.number == n) (λ g f. all_of_but P n xs t here g f) h e here

-- a change of that thread leaves the others
own-at : (change : Thread → Thread) (n : ℕ) (x : Thread) (xs : List Thread) (b : Bool) → (x.number == n) ≡ b → (change x).number ≡ x.number → without n (updated change n xs) ≡ without n xs
    → without n (cond b (change x ∷ xs) (x ∷ updated change n xs)) ≡ cond b xs (x ∷ without n xs)
own-at change n x xs true e keeps go = ap (λ b. cond b xs (change x ∷ without n xs)) (named-as change n x true keeps e)
own-at change n x xs false e keeps go = ap (λ b. cond b (updated change n xs) (x ∷ without n (updated change n xs))) e ∙ ap (λ us. x ∷ us) go

pub others_stay : (change : Thread → Thread) (n : ℕ) (ts : List Thread) → KeepsNumber change → without n (updated change n ts) ≡ without n ts
others_stay change n [] keeps = refl
others_stay change n (x ∷ xs) keeps = own-at change n x xs (x.number == n) refl (keeps x) (others_stay change n xs keeps)

-- a change of any thread
any-at : (P : Thread → Type 0) (change : Thread → Thread) (m n : ℕ) (x : Thread) (xs : List Thread) (b d : Bool) → (x.number == n) ≡ d → (change x).number ≡ x.number → Leaves P change
    → (AllByRecursion P (without n xs) → AllByRecursion P (without n (updated change m xs))) → AllByRecursion P (cond d xs (x ∷ without n xs))
    → AllByRecursion P (without n (cond b (change x ∷ xs) (x ∷ updated change m xs)))
any-at P change m n x xs true true e keeps leaves go h =
    subst (λ (b : Bool). AllByRecursion P (cond b xs (change x ∷ without n xs))) (sym (named-as change n x true keeps e)) h
any-at P change m n x xs true false e keeps leaves go h =
    subst (λ (b : Bool). AllByRecursion P (cond b xs (change x ∷ without n xs))) (sym (named-as change n x false keeps e)) (leaves x h.0, h.1)
any-at P change m n x xs false true e keeps leaves go h =
    subst (λ (b : Bool). AllByRecursion P (cond b (updated change m xs) (x ∷ without n (updated change m xs)))) (sym e) (all_changed P change m xs leaves h)
any-at P change m n x xs false false e keeps leaves go h =
    subst (λ (b : Bool). AllByRecursion P (cond b (updated change m xs) (x ∷ without n (updated change m xs)))) (sym e) (h.0, go h.1)

pub but_changed : (P : Thread → Type 0) (change : Thread → Thread) (m n : ℕ) (ts : List Thread) → KeepsNumber change → Leaves P change → AllByRecursion P (without n ts) → AllByRecursion P (without n (updated change m ts))
but_changed P change m n [] keeps leaves h = tt
but_changed P change m n (x ∷ xs) keeps leaves h = any-at P change m n x xs (x.number == m) (x.number == n) refl (keeps x) leaves (but_changed P change m n xs keeps leaves) h

-- a change of each
each-at : (P : Thread → Type 0) (f : Thread → Thread) (n : ℕ) (x : Thread) (xs : List Thread) (d : Bool) → (x.number == n) ≡ d → (f x).number ≡ x.number → Leaves P f
    → (AllByRecursion P (without n xs) → AllByRecursion P (without n (map f xs))) → AllByRecursion P (cond d xs (x ∷ without n xs)) → AllByRecursion P (without n (f x ∷ map f xs))
each-at P f n x xs true e keeps leaves go h =
    subst (λ (b : Bool). AllByRecursion P (cond b (map f xs) (f x ∷ without n (map f xs)))) (sym (named-as f n x true keeps e)) (all_mapped P f xs leaves h)
each-at P f n x xs false e keeps leaves go h =
    subst (λ (b : Bool). AllByRecursion P (cond b (map f xs) (f x ∷ without n (map f xs)))) (sym (named-as f n x false keeps e)) (leaves x h.0, go h.1)

pub but_mapped : (P : Thread → Type 0) (f : Thread → Thread) (n : ℕ) (ts : List Thread) → KeepsNumber f → Leaves P f → AllByRecursion P (without n ts) → AllByRecursion P (without n (map f ts))
but_mapped P f n [] keeps leaves h = tt
but_mapped P f n (x ∷ xs) keeps leaves h = each-at P f n x xs (x.number == n) refl (keeps x) leaves (but_mapped P f n xs keeps leaves) h

-- one thread more
all_more : (P : Thread → Type 0) (t : Thread) (ts : List Thread) → P t → AllByRecursion P ts → AllByRecursion P (ts ++ t ∷ [])
all_more P t [] here h = (here, tt)
all_more P t (x ∷ xs) here h = (h.0, all_more P t xs here h.1)

more-at : (P : Thread → Type 0) (n : ℕ) (t x : Thread) (xs : List Thread) (b : Bool) → P t → (AllByRecursion P (without n xs) → AllByRecursion P (without n (xs ++ t ∷ [])))
    → AllByRecursion P (cond b xs (x ∷ without n xs)) → AllByRecursion P (cond b (xs ++ t ∷ []) (x ∷ without n (xs ++ t ∷ [])))
more-at P n t x xs true here go h = all_more P t xs here h
more-at P n t x xs false here go h = (h.0, go h.1)

last-at : (P : Thread → Type 0) (t : Thread) (b : Bool) → P t → AllByRecursion P (cond b [] (t ∷ []))
last-at P t true here = tt
last-at P t false here = (here, tt)

pub but_one_more : (P : Thread → Type 0) (n : ℕ) (t : Thread) (ts : List Thread) → P t → AllByRecursion P (without n ts) → AllByRecursion P (without n (ts ++ t ∷ []))
but_one_more P n t [] here h = last-at P t (t.number == n) here
but_one_more P n t (x ∷ xs) here h = more-at P n t x xs (x.number == n) here (but_one_more P n t xs here) h

-- ---- the thread of a number

pub has_own : (P : Thread → Type 0) (change : Thread → Thread) (n : ℕ) (ts : List Thread) (t : Thread) → KeepsNumber change → find (is_named n) ts ≡ Some t → P (change t) → Has P n (updated change n ts)
has_own P change n ts t keeps e h = (change t, find-updated change n t ts keeps e, h)

has-at : (P : Thread → Type 0) (change : Thread → Thread) (m n : ℕ) (x t : Thread) (xs : List Thread) (b d : Bool) → (x.number == n) ≡ d → (change x).number ≡ x.number → Leaves P change
    → (find (is_named n) xs ≡ Some t → P t → Has P n (updated change m xs)) → cond d (Some x) (find (is_named n) xs) ≡ Some t → P t
    → Has P n (cond b (change x ∷ xs) (x ∷ updated change m xs))
has-at P change m n x t xs true true e keeps leaves go h here = (
  change x,
  ap (λ b. cond b (Some (change x)) (find (is_named n) xs)) (named-as change n x true keeps e),
  leaves x (subst (λ (u : Thread). P u) (sym (some-is x t h)) here),
)
has-at P change m n x t xs true false e keeps leaves go h here = (
  t,
  ap (λ b. cond b (Some (change x)) (find (is_named n) xs)) (named-as change n x false keeps e) ∙ h,
  here,
)
has-at P change m n x t xs false true e keeps leaves go h here = (
  x,
  ap (λ b. cond b (Some x) (find (is_named n) (updated change m xs))) e,
  subst (λ (u : Thread). P u) (sym (some-is x t h)) here,
)
has-at P change m n x t xs false false e keeps leaves go h here =
    let rest = go h here in
    (rest.0, ap (λ b. cond b (Some x) (find (is_named n) (updated change m xs))) e ∙ rest.1, rest.2)

has-found : (P : Thread → Type 0) (change : Thread → Thread) (m n : ℕ) (ts : List Thread) (t : Thread) → KeepsNumber change → Leaves P change → find (is_named n) ts ≡ Some t → P t → Has P n (updated change m ts)
has-found P change m n [] t keeps leaves e h = absurd cc
has-found P change m n (x ∷ xs) t keeps leaves e h =
    has-at P change m n x t xs (x.number == m) (x.number == n) refl (keeps x) leaves (has-found P change m n xs t keeps leaves) e h

pub has_changed : (P : Thread → Type 0) (change : Thread → Thread) (m n : ℕ) (ts : List Thread) → KeepsNumber change → Leaves P change → Has P n ts → Has P n (updated change m ts)
has_changed P change m n ts keeps leaves h = has-found P change m n ts h.0 keeps leaves h.1 h.2

mapped-at : (P : Thread → Type 0) (f : Thread → Thread) (n : ℕ) (x t : Thread) (xs : List Thread) (d : Bool) → (x.number == n) ≡ d → (f x).number ≡ x.number → Leaves P f
    → (find (is_named n) xs ≡ Some t → P t → Has P n (map f xs)) → cond d (Some x) (find (is_named n) xs) ≡ Some t → P t → Has P n (f x ∷ map f xs)
mapped-at P f n x t xs true e keeps leaves go h here = (
  f x,
  ap (λ b. cond b (Some (f x)) (find (is_named n) (map f xs))) (named-as f n x true keeps e),
  leaves x (subst (λ (u : Thread). P u) (sym (some-is x t h)) here),
)
mapped-at P f n x t xs false e keeps leaves go h here =
    let rest = go h here in
    (rest.0, ap (λ b. cond b (Some (f x)) (find (is_named n) (map f xs))) (named-as f n x false keeps e) ∙ rest.1, rest.2)

mapped-found : (P : Thread → Type 0) (f : Thread → Thread) (n : ℕ) (ts : List Thread) (t : Thread) → KeepsNumber f → Leaves P f → find (is_named n) ts ≡ Some t → P t → Has P n (map f ts)
mapped-found P f n [] t keeps leaves e h = absurd cc
mapped-found P f n (x ∷ xs) t keeps leaves e h = mapped-at P f n x t xs (x.number == n) refl (keeps x) leaves (mapped-found P f n xs t keeps leaves) e h

pub has_mapped : (P : Thread → Type 0) (f : Thread → Thread) (n : ℕ) (ts : List Thread) → KeepsNumber f → Leaves P f → Has P n ts → Has P n (map f ts)
has_mapped P f n ts keeps leaves h = mapped-found P f n ts h.0 keeps leaves h.1 h.2

before-at : (n : ℕ) (x t : Thread) (xs ys : List Thread) (b : Bool) → (find (is_named n) xs ≡ Some t → find (is_named n) (xs ++ ys) ≡ Some t) → cond b (Some x) (find (is_named n) xs) ≡ Some t
    → cond b (Some x) (find (is_named n) (xs ++ ys)) ≡ Some t
before-at n x t xs ys true go h = h
before-at n x t xs ys false go h = go h

found-before : (n : ℕ) (xs ys : List Thread) (t : Thread) → find (is_named n) xs ≡ Some t → find (is_named n) (xs ++ ys) ≡ Some t
found-before n [] ys t h = absurd cc
found-before n (x ∷ xs) ys t h = before-at n x t xs ys (x.number == n) (found-before n xs ys t) h

pub has_more : (P : Thread → Type 0) (n : ℕ) (ts us : List Thread) → Has P n ts → Has P n (ts ++ us)
has_more P n ts us h = (h.0, found-before n ts us h.0 h.1, h.2)

-- ---- how many there are

length-at : (change : Thread → Thread) (n : ℕ) (x : Thread) (xs : List Thread) (b : Bool) → length (updated change n xs) ≡ length xs → length (cond b (change x ∷ xs) (x ∷ updated change n xs)) ≡ length (x ∷ xs)
length-at change n x xs true go = refl
length-at change n x xs false go = ap suc go

pub length_changed : (change : Thread → Thread) (n : ℕ) (ts : List Thread) → length (updated change n ts) ≡ length ts
length_changed change n [] = refl
length_changed change n (x ∷ xs) = length-at change n x xs (x.number == n) (length_changed change n xs)

pub length_mapped : (f : Thread → Thread) (ts : List Thread) → length (map f ts) ≡ length ts
length_mapped f [] = refl
length_mapped f (x ∷ xs) = ap suc (length_mapped f xs)

fewer-at : (n : ℕ) (x : Thread) (xs : List Thread) (b : Bool) → length (without n xs) ≤ length xs → length (cond b xs (x ∷ without n xs)) ≤ length (x ∷ xs)
fewer-at n x xs true go = omega arith
fewer-at n x xs false go = omega (arith, go)

pub length_without : (n : ℕ) (ts : List Thread) → length (without n ts) ≤ length ts
length_without n [] = omega arith
length_without n (x ∷ xs) = fewer-at n x xs (x.number == n) (length_without n xs)

pub length_more : (t : Thread) (ts : List Thread) → length (ts ++ t ∷ []) ≡ length ts + 1
length_more t [] = refl
length_more t (x ∷ xs) = let go = length_more t xs in omega (arith, go)
