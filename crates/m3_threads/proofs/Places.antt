-- The place of a thread in a list.
use Rattle.std.proofs.Common.{◌≡◌, ◌≢◌, ℕ, zero, suc, ◌+◌, ◌<◌, ◌≤◌, ◌==◌, List, [], ◌∷◌, length, Some, None, Bool, true, false, cond, ◌||◌, map, take, drop, ◌++◌, add-one, refl, sym, ap, subst, ◌∙◌, inl, inr, IsSome, arith, get_or}
use Rattle.std.specs.Prelude.{find, slice_get, slice_set, remove}
use Rattle.m3_threads.specs.Actions.{without, uses}
use Rattle.std.specs.List.{list_any}
use Rattle.std.proofs.lemmas.Bool.{eq-eqb, ne_eqb, eqb-true, cases_lt}
use Rattle.std.proofs.lemmas.Option.{slice_get-get_or, slice_get_past}
use Rattle.m3_threads.specs.declared.status.Thread.{Thread}
use Rattle.m3_threads.specs.All.{is_named, updated, AreOrderedBy}
use Rattle.m3_threads.specs.PlacesInside.{IsPlaceOf, IsNobody}
use Rattle.std.proofs.lemmas.Bool.Decides.{nat_tests}

-- no thread below k has the number
pub record Passed (n : ℕ) (threads : List Thread) (k : ℕ) : Type 0 where
  pub others : (j : ℕ) (t : Thread) → j < k → slice_get threads j ≡ Some t → t.number ≢ n

pub some_same : {A : Type 0} {x y : A} → Some x ≡ Some y → x ≡ y
some_same e = cc

tail : (n : ℕ) (x : Thread) (xs : List Thread) (k : ℕ) → Passed n (x ∷ xs) (suc k) → Passed n xs k
tail n x xs k h = record { others = λ j t l e. h.others (suc j) t (omega arith) e }

head : (n : ℕ) (x : Thread) (xs : List Thread) (k : ℕ) → Passed n (x ∷ xs) (suc k) → (x.number == n) ≡ false
head n x xs k h = ne_eqb x.number n (h.others 0 x (omega arith) refl)

found_here : (n : ℕ) (ts : List Thread) (k : ℕ) (t : Thread) → Passed n ts k → slice_get ts k ≡ Some t → t.number ≡ n → find (is_named n) ts ≡ slice_get ts k
found_here n [] k t h e m = refl
found_here n (x ∷ xs) zero t h e m =
    ap (λ b. cond b (Some x) (find (is_named n) xs)) (eq-eqb x.number n (ap (λ u. u.number) (some_same e) ∙ m))
found_here n (x ∷ xs) (suc k) t h e m =
    ap (λ b. cond b (Some x) (find (is_named n) xs)) (head n x xs k h) ∙ found_here n xs k t (tail n x xs k h) e m

changed_here : (n : ℕ) (ts : List Thread) (k : ℕ) (t : Thread) (f : Thread → Thread) → Passed n ts k → slice_get ts k ≡ Some t → t.number ≡ n → updated f n ts ≡ slice_set ts k (f t)
changed_here n [] k t f h e m = cc
changed_here n (x ∷ xs) zero t f h e m =
    ap (λ b. cond b (f x ∷ xs) (x ∷ updated f n xs)) (eq-eqb x.number n (ap (λ u. u.number) (some_same e) ∙ m)) ∙ ap (λ u. f u ∷ xs) (some_same e)
changed_here n (x ∷ xs) (suc k) t f h e m =
    ap (λ b. cond b (f x ∷ xs) (x ∷ updated f n xs)) (head n x xs k h) ∙ ap (λ us. x ∷ us) (changed_here n xs k t f (tail n x xs k h) e m)

cut_here : (n : ℕ) (ts : List Thread) (k : ℕ) (t : Thread) → Passed n ts k → slice_get ts k ≡ Some t → t.number ≡ n → without n ts ≡ remove ts k
cut_here n [] k t h e m = cc
cut_here n (x ∷ xs) zero t h e m =
    ap (λ b. cond b xs (x ∷ without n xs)) (eq-eqb x.number n (ap (λ u. u.number) (some_same e) ∙ m))
cut_here n (x ∷ xs) (suc k) t h e m =
    ap (λ b. cond b xs (x ∷ without n xs)) (head n x xs k h) ∙ ap (λ us. x ∷ us) (cut_here n xs k t (tail n x xs k h) e m)

pub get_within : (ts : List Thread) (k : ℕ) (t : Thread) → slice_get ts k ≡ Some t → k < length ts
get_within ts k t e = elim (cases_lt k (length ts)) [ inl low ↦ low | inr past ↦ let gone = slice_get_past ts k past in cc ]

pub place_here : (n : ℕ) (ts : List Thread) (k : ℕ) (t : Thread) → Passed n ts k → slice_get ts k ≡ Some t → t.number ≡ n → IsPlaceOf n ts k
place_here n ts k t h e m = record {
  within = get_within ts k t e;
  found = found_here n ts k t h e m;
  change = λ f u g. changed_here n ts k u f h g (ap (λ v. v.number) (some_same (sym g ∙ e)) ∙ m);
  cut = cut_here n ts k t h e m;
}

pub place_more : (n : ℕ) (ts : List Thread) (k : ℕ) (t : Thread) → Passed n ts k → slice_get ts k ≡ Some t → t.number ≢ n → Passed n ts (k + 1)
place_more n ts k t h e m = record {
  others = λ j u l g. elim (cases_lt j k) [
    | inl low ↦ h.others j u low g
    | inr high ↦
        let same : j ≡ k = omega arith in
        λ v. m (ap (λ w. w.number) (some_same (sym e ∙ ap (slice_get ts) (sym same) ∙ g)) ∙ v)
  ];
}

pub nobody : (n : ℕ) (ts : List Thread) (k : ℕ) → length ts ≤ k → Passed n ts k → find (is_named n) ts ≡ None
nobody n [] k l h = refl
nobody n (x ∷ xs) zero l h = absurd (omega arith)
nobody n (x ∷ xs) (suc k) l h =
    ap (λ b. cond b (Some x) (find (is_named n) xs)) (head n x xs k h) ∙ nobody n xs k (omega arith) (tail n x xs k h)

pub passed_none : (n : ℕ) (ts : List Thread) → Passed n ts 0
passed_none n ts = record { others = λ j t l e. absurd (omega arith) }

-- a thread that is found has the number
pub found-number : (n : ℕ) (ts : List Thread) (t : Thread) → find (is_named n) ts ≡ Some t → t.number ≡ n
found-number n [] t e = cc
found-number n (x ∷ xs) t e =
    elim (cases_lt x.number n) [
      | inl low ↦ found-number n xs t (sym (ap (λ b. cond b (Some x) (find (is_named n) xs)) (ne_eqb x.number n (λ s. omega arith))) ∙ e)
      | inr high ↦ elim (cases_lt n x.number) [
        | inl above ↦ found-number n xs t (sym (ap (λ b. cond b (Some x) (find (is_named n) xs)) (ne_eqb x.number n (λ s. omega arith))) ∙ e)
        | inr same ↦
            let m : x.number ≡ n = omega arith in
            sym (ap (λ u. u.number) (some_same (sym (ap (λ b. cond b (Some x) (find (is_named n) xs)) (eq-eqb x.number n m)) ∙ e))) ∙ m
      ]
    ]

-- the thread at the place of a number
pub record Found (n : ℕ) (threads : List Thread) (place : ℕ) (t : Thread) : Type 0 where
  pub got : slice_get threads place ≡ Some t
  pub owned : find (is_named n) threads ≡ Some t

pub place_got : (n : ℕ) (ts slice : List Thread) (k : ℕ) (t : Thread) → slice ≡ ts → IsPlaceOf n slice k → t ≡ get_or ts k t → Found n ts k t
place_got n ts slice k t e h r =
    let i : IsPlaceOf n ts k = subst (λ xs. IsPlaceOf n xs k) e h in
    let g : slice_get ts k ≡ Some t = slice_get-get_or ts k t i.within ∙ ap Some (sym r) in
    record { got = g; owned = i.found ∙ g }

pub place_is : (n : ℕ) (ts slice : List Thread) (k : ℕ) (u : Thread) → slice ≡ ts → IsPlaceOf n slice k → find (is_named n) ts ≡ Some u → slice_get ts k ≡ Some u
place_is n ts slice k u e h f =
    let i : IsPlaceOf n ts k = subst (λ xs. IsPlaceOf n xs k) e h in
    sym i.found ∙ f

unchanged : (n : ℕ) (ts : List Thread) (k : ℕ) (f : Thread → Thread) → length ts ≤ k → Passed n ts k → updated f n ts ≡ ts
unchanged n [] k f l h = refl
unchanged n (x ∷ xs) zero f l h = absurd (omega arith)
unchanged n (x ∷ xs) (suc k) f l h =
    ap (λ b. cond b (f x ∷ xs) (x ∷ updated f n xs)) (head n x xs k h) ∙ ap (λ us. x ∷ us) (unchanged n xs k f (omega arith) (tail n x xs k h))

pub nobody_here : (n : ℕ) (ts : List Thread) (k : ℕ) → length ts ≤ k → Passed n ts k → IsNobody n ts
nobody_here n ts k l h = record { missing = nobody n ts k l h; kept = λ f. unchanged n ts k f l h }

some_or : (n : ℕ) (x y : Thread) (xs ys : List Thread) → x.number ≡ y.number → (IsSome (find (is_named n) xs) → IsSome (find (is_named n) ys)) → IsSome (find (is_named n) (x ∷ xs)) → IsSome (find (is_named n) (y ∷ ys))
some_or n x y xs ys e go h =
    elim (cases_lt x.number n) [
      | inl low ↦ grind (arith, nat_tests)
      | inr high ↦ grind (arith, nat_tests)
    ]

-- a change that keeps numbers keeps who is there
pub named-updated : (f : Thread → Thread) (m n : ℕ) (ts : List Thread) → ((t : Thread) → (f t).number ≡ t.number) → IsSome (find (is_named n) ts) → IsSome (find (is_named n) (updated f m ts))
named-updated f m n [] keeps h = h
named-updated f m n (x ∷ xs) keeps h =
    elim (x.number == m) as (λ b. IsSome (find (is_named n) (cond b (f x ∷ xs) (x ∷ updated f m xs)))) [
      | true ↦ some_or n x (f x) xs xs (sym (keeps x)) (λ g. g) h
      | false ↦ some_or n x x xs (updated f m xs) refl (named-updated f m n xs keeps) h
    ]

missing_at : (f : Thread → Thread) (n : ℕ) (x : Thread) (xs : List Thread) (b : Bool) → (find (is_named n) xs ≡ None → updated f n xs ≡ xs) → (x.number == n) ≡ b → cond b (Some x) (find (is_named n) xs) ≡ None → cond (x.number == n) (f x ∷ xs) (x ∷ updated f n xs) ≡ x ∷ xs
missing_at f n x xs true go b e = cc
missing_at f n x xs false go b e = ap (λ c. cond c (f x ∷ xs) (x ∷ updated f n xs)) b ∙ ap (λ us. x ∷ us) (go e)

-- where there is no thread of the number, nothing changes
pub updated-missing : (f : Thread → Thread) (n : ℕ) (ts : List Thread) → find (is_named n) ts ≡ None → updated f n ts ≡ ts
updated-missing f n [] e = refl
updated-missing f n (x ∷ xs) e = missing_at f n x xs (x.number == n) (updated-missing f n xs) refl e

named_at : (f : Thread → Thread) (n : ℕ) (x t : Thread) (xs : List Thread) (b : Bool) → ((u : Thread) → (f u).number ≡ u.number) → (find (is_named n) xs ≡ Some t → find (is_named n) (updated f n xs) ≡ Some (f t)) → (x.number == n) ≡ b → cond b (Some x) (find (is_named n) xs) ≡ Some t → find (is_named n) (cond b (f x ∷ xs) (x ∷ updated f n xs)) ≡ Some (f t)
named_at f n x t xs true keeps go b e =
    ap (λ k. cond k (Some (f x)) (find (is_named n) xs)) (ap (λ k. k == n) (keeps x) ∙ b) ∙ ap (λ u. Some (f u)) (some_same e)
named_at f n x t xs false keeps go b e = ap (λ k. cond k (Some x) (find (is_named n) (updated f n xs))) b ∙ go e

-- the changed thread is found
pub find-updated : (f : Thread → Thread) (n : ℕ) (t : Thread) (ts : List Thread) → ((u : Thread) → (f u).number ≡ u.number) → find (is_named n) ts ≡ Some t → find (is_named n) (updated f n ts) ≡ Some (f t)
find-updated f n t [] keeps e = cc
find-updated f n t (x ∷ xs) keeps e = named_at f n x t xs (x.number == n) keeps (find-updated f n t xs keeps) refl e

-- a list whose first k threads were changed
abbrev pub mixed : (Thread → Thread) → ℕ → List Thread → List Thread
mixed f k ts = map f (take k ts) ++ drop k ts

mixed_suc : (f : Thread → Thread) (ts : List Thread) (k : ℕ) (t : Thread) → slice_get (mixed f k ts) k ≡ Some t → slice_set (mixed f k ts) k (f t) ≡ mixed f (suc k) ts
mixed_suc f [] zero t e = cc
mixed_suc f [] (suc k) t e = cc
mixed_suc f (x ∷ xs) zero t e = ap (λ u. f u ∷ xs) (sym (some_same e))
mixed_suc f (x ∷ xs) (suc k) t e = ap (λ us. f x ∷ us) (mixed_suc f xs k t e)

pub mixed_more : (f : Thread → Thread) (ts now : List Thread) (k : ℕ) (t : Thread) → now ≡ mixed f k ts → slice_get now k ≡ Some t → slice_set now k (f t) ≡ mixed f (k + 1) ts
mixed_more f ts now k t e g =
    ap (λ us. slice_set us k (f t)) e ∙ mixed_suc f ts k t (ap (λ us. slice_get us k) (sym e) ∙ g) ∙ ap (λ j. mixed f j ts) (sym (add-one k))

-- who is there stays there when each thread keeps its number
pub named-map : (f : Thread → Thread) (n : ℕ) (ts : List Thread) → ((t : Thread) → (f t).number ≡ t.number) → IsSome (find (is_named n) ts) → IsSome (find (is_named n) (map f ts))
named-map f n [] keeps h = h
named-map f n (x ∷ xs) keeps h = some_or n x (f x) xs (map f xs) (sym (keeps x)) (named-map f n xs keeps) h

-- ---- slots

without_slot : ℕ → List Thread → List Thread
without_slot s [] = []
without_slot s (x ∷ xs) = cond (x.slot == s) xs (x ∷ without_slot s xs)

shorter : (s : ℕ) (ts : List Thread) → list_any (uses s) ts ≡ true → length (without_slot s ts) + 1 ≡ length ts
unfolding without_slot
shorter s [] e = cc
shorter s (x ∷ xs) e =
    elim (x.slot == s) as (λ b. (b || list_any (uses s) xs) ≡ true → length (cond b xs (x ∷ without_slot s xs)) + 1 ≡ suc (length xs)) [
      | true ↦ λ _. omega arith
      | false ↦ λ g. let h = shorter s xs g in omega arith
    ] e

other_slot_at : (s r : ℕ) (x : Thread) (xs : List Thread) (b : Bool) → (x.slot == s) ≡ b → r ≢ s → (list_any (uses r) xs ≡ true → list_any (uses r) (without_slot s xs) ≡ true) → (uses r x || list_any (uses r) xs) ≡ true → list_any (uses r) (cond b xs (x ∷ without_slot s xs)) ≡ true
other_slot_at s r x xs true m n go e =
    let same : x.slot ≡ s = eqb-true x.slot s m in
    let not : (x.slot == r) ≡ false = ne_eqb x.slot r (λ q. n (sym q ∙ same)) in
    sym (ap (λ b. b || list_any (uses r) xs) not) ∙ e
other_slot_at s r x xs false m n go e =
    elim (x.slot == r) as (λ b. (b || list_any (uses r) xs) ≡ true → (b || list_any (uses r) (without_slot s xs)) ≡ true) [
      | true ↦ λ _. refl
      | false ↦ λ g. go g
    ] e

other_slot : (s r : ℕ) (ts : List Thread) → r ≢ s → list_any (uses r) ts ≡ true → list_any (uses r) (without_slot s ts) ≡ true
unfolding without_slot
other_slot s r [] n e = e
other_slot s r (x ∷ xs) n e = other_slot_at s r x xs (x.slot == s) refl n (other_slot s r xs n) e

-- n slots in use are those of n threads at least
pub all_used : (n : ℕ) (ts : List Thread) → ((s : ℕ) → s < n → list_any (uses s) ts ≡ true) → n ≤ length ts
all_used zero ts h = omega arith
all_used (suc n) ts h =
    let rest = all_used n (without_slot n ts) (λ s l. other_slot n s ts (λ e. absurd (omega arith)) (h s (omega arith))) in
    let one = shorter n ts (h n (omega arith)) in
    omega arith

pub place_cut : (n : ℕ) (ts slice : List Thread) (k : ℕ) → slice ≡ ts → IsPlaceOf n slice k → without n ts ≡ remove ts k
place_cut n ts slice k e h = let i : IsPlaceOf n ts k = subst (λ xs. IsPlaceOf n xs k) e h in i.cut

-- where numbers rise, a thread stands at the place of its number
pub place_rising : (ts : List Thread) (k : ℕ) (t : Thread) → AreOrderedBy (λ t u. t.number < u.number) ts → slice_get ts k ≡ Some t → IsPlaceOf t.number ts k
place_rising ts k t rising e = place_here t.number ts k t (record { others = λ j u l g. let less = rising j k u t l g e in λ q. absurd (omega arith) }) e refl
