-- The places of a change, and rows that are the same.
use Rattle.std.proofs.Common.{◌≡◌, ℕ, ◌<◌, Bool, true, false, ◌&&◌, ◌||◌, eqb, ltb, List, [], ◌∷◌, Option, Some, None, refl, ap, subst, ◌∙◌, arith, ◌⊎◌, inl, inr}
use Rattle.std.specs.Prelude.{not, filter, nat_eq}
use Rattle.std.specs.List.{list_all}
use Rattle.std.specs.Cmp.Lexicographic.{pointwise}
use Rattle.std.proofs.lemmas.Bool.{ltb-true, lt-ltb, eqb-true}
use Rattle.std.proofs.lemmas.Bool.Decides.{nat_tests}
use Rattle.m3_tables.specs.Numbers.{has, rises}
use Rattle.m3_tables.specs.Rows.{Bases, Entry}
use Rattle.m3_tables_writer.specs.Plain.{Plain}
use Rattle.m3_tables_writer.specs.Writing.{missing, same_bases, same_path, same_entry, same_row}
use Rattle.m3_tables_writer.proofs.Again.{AreSmall}

pub both : (a b : Bool) → (a && b) ≡ true → (a ≡ true) × (b ≡ true)
both true b e = (refl, e)
both false b e = absurd cc

pub test : (b : Bool) → (b ≡ true) ⊎ (b ≡ false)
test true = inl refl
test false = inr refl

-- ---- what is missing

and_no : (b : Bool) → (b && false) ≡ false
and_no true = refl
and_no false = refl

kept_here : (ys : List ℕ) (x l : ℕ) (m rest : Bool) → has ys x ≡ false → m ≡ (rest && not (has ys l)) → (eqb x l || m) ≡ ((eqb x l || rest) && not (has ys l))
kept_here ys x l m rest out ih =
    elim (test (eqb x l)) [
      | inl same ↦ (let e : x ≡ l = eqb-true x l same in
          let gone : has ys l ≡ false = subst (λ (k : ℕ). has ys k ≡ false) e out in rw (same, gone) refl)
      | inr other ↦ rw other ih
    ]

left_out : (ys : List ℕ) (x l : ℕ) (m rest : Bool) → has ys x ≡ true → m ≡ (rest && not (has ys l)) → m ≡ ((eqb x l || rest) && not (has ys l))
left_out ys x l m rest inside ih =
    elim (test (eqb x l)) [
      | inl same ↦ (let e : x ≡ l = eqb-true x l same in
          let there : has ys l ≡ true = subst (λ (k : ℕ). has ys k ≡ true) e inside in
          let gone : m ≡ false = ih ∙ rw there (and_no rest) in rw (same, there) gone)
      | inr other ↦ rw other ih
    ]

pub has_missing : (xs ys : List ℕ) (l : ℕ) → has (missing xs ys) l ≡ (has xs l && not (has ys l))
has_missing [] ys l = refl
has_missing (x ∷ xs) ys l =
    elim (test (has ys x)) [
      | inl inside ↦ rw inside (left_out ys x l (has (missing xs ys) l) (has xs l) inside (has_missing xs ys l))
      | inr out ↦ rw out (kept_here ys x l (has (missing xs ys) l) (has xs l) out (has_missing xs ys l))
    ]

-- ---- its order, its bounds and its tests

rises_skip : (x y : ℕ) (xs : List ℕ) → rises (x ∷ y ∷ xs) ≡ true → rises (x ∷ xs) ≡ true
rises_skip x y [] r = refl
rises_skip x y (z ∷ xs) r =
    let p = both (ltb x y) (rises (y ∷ z ∷ xs)) r in
    let q = both (ltb y z) (rises (z ∷ xs)) p.1 in
    let a : x < y = ltb-true x y p.0 in
    let b : y < z = ltb-true y z q.0 in
    rw (lt-ltb x z (omega arith)) q.1

rises_kept : (keep : ℕ → Bool) (x : ℕ) (xs : List ℕ) → rises (x ∷ xs) ≡ true → rises (x ∷ filter keep xs) ≡ true
rises_kept keep x [] r = refl
rises_kept keep x (y ∷ xs) r =
    elim (test (keep y)) [
      | inl kept ↦ (let p = both (ltb x y) (rises (y ∷ xs)) r in rw (kept, p.0) (rises_kept keep y xs p.1))
      | inr gone ↦ rw gone (rises_kept keep x xs (rises_skip x y xs r))
    ]

rises_tail : (x : ℕ) (xs : List ℕ) → rises (x ∷ xs) ≡ true → rises xs ≡ true
rises_tail x [] r = refl
rises_tail x (y ∷ xs) r = (both (ltb x y) (rises (y ∷ xs)) r).1

pub rises_filter : (keep : ℕ → Bool) (xs : List ℕ) → rises xs ≡ true → rises (filter keep xs) ≡ true
rises_filter keep [] r = refl
rises_filter keep (x ∷ xs) r =
    elim (test (keep x)) [
      | inl kept ↦ rw kept (rises_kept keep x xs r)
      | inr gone ↦ rw gone (rises_filter keep xs (rises_tail x xs r))
    ]

pub small_filter : (keep : ℕ → Bool) (xs : List ℕ) → AreSmall xs → AreSmall (filter keep xs)
small_filter keep [] s = tt
small_filter keep (x ∷ xs) s =
    elim (test (keep x)) [
      | inl kept ↦ rw kept (s.0, small_filter keep xs s.1)
      | inr gone ↦ rw gone (small_filter keep xs s.1)
    ]

pub all_kept : (keep : ℕ → Bool) (xs : List ℕ) → list_all keep (filter keep xs) ≡ true
all_kept keep [] = refl
all_kept keep (x ∷ xs) =
    elim (test (keep x)) [
      | inl kept ↦ rw (kept, kept) (all_kept keep xs)
      | inr gone ↦ rw gone (all_kept keep xs)
    ]

or_yes : (b : Bool) → (b || true) ≡ true
or_yes true = refl
or_yes false = refl

all_of_list : (wanted keep : ℕ → Bool) (xs : List ℕ) → ((l : ℕ) → has xs l ≡ true → wanted l ≡ true) → list_all wanted (filter keep xs) ≡ true
all_of_list wanted keep [] h = refl
all_of_list wanted keep (x ∷ xs) h =
    let here : eqb x x ≡ true = grind (arith, nat_tests) in
    let first : wanted x ≡ true = h x (rw here refl) in
    let rest = all_of_list wanted keep xs (λ l e. h l (rw e (or_yes (eqb x l)))) in
    elim (test (keep x)) [
      | inl kept ↦ rw (kept, first) rest
      | inr gone ↦ rw gone rest
    ]

pub all_there : (keep : ℕ → Bool) (xs : List ℕ) → list_all (has xs) (filter keep xs) ≡ true
all_there keep xs = all_of_list (has xs) keep xs (λ l e. e)

-- the tidy places after a change
pub changed_is : (b r : Bool) → ((r && not b) || (b && not (b && not r))) ≡ r
changed_is true true = refl
changed_is true false = refl
changed_is false true = refl
changed_is false false = refl

-- ---- rows that are the same

pointwise_is : {A : Type 0} (E : A → A → Bool) → ((a b : A) → E a b ≡ true → a ≡ b) → (xs ys : List A) → pointwise E xs ys ≡ true → xs ≡ ys
pointwise_is E h [] [] e = refl
pointwise_is E h [] (y ∷ ys) e = absurd cc
pointwise_is E h (x ∷ xs) [] e = absurd cc
pointwise_is E h (x ∷ xs) (y ∷ ys) e =
    let p = both (E x y) (pointwise E xs ys) e in
    let first = h x y p.0 in
    let rest = pointwise_is E h xs ys p.1 in
    rw (first, rest) refl

same_numbers : (xs ys : List ℕ) → pointwise nat_eq xs ys ≡ true → xs ≡ ys
same_numbers xs ys e = pointwise_is nat_eq eqb-true xs ys e

bases_is : (a b : Bases) → same_bases a b ≡ true → a ≡ b
bases_is a b e =
    let p = both (pointwise nat_eq a.added b.added) (pointwise nat_eq a.subtracted b.subtracted) e in
    let one = same_numbers a.added b.added p.0 in
    let two = same_numbers a.subtracted b.subtracted p.1 in
    λ i. record { added = one i; subtracted = two i }

path_is : (a b : Option ℕ) → same_path a b ≡ true → a ≡ b
path_is None None e = refl
path_is None (Some q) e = absurd cc
path_is (Some p) None e = absurd cc
path_is (Some p) (Some q) e = ap (λ (n : ℕ). Some n) (eqb-true p q e)

entry_is : (a b : Entry) → same_entry a b ≡ true → a ≡ b
entry_is a b e =
    let p = both (eqb a.location b.location) (same_path a.path b.path && pointwise same_bases a.ways b.ways) e in
    let q = both (same_path a.path b.path) (pointwise same_bases a.ways b.ways) p.1 in
    let one = eqb-true a.location b.location p.0 in
    let two = path_is a.path b.path q.0 in
    let three = pointwise_is same_bases bases_is a.ways b.ways q.1 in
    λ i. record { location = one i; path = two i; ways = three i }

pub same_tidy : (a b : Plain) → same_row a b ≡ true → a.tidy ≡ b.tidy
same_tidy a b e = same_numbers a.tidy b.tidy (both (pointwise nat_eq a.tidy b.tidy) _ e).0

pub same_contents : (a b : Plain) → same_row a b ≡ true → a.contents ≡ b.contents
same_contents a b e =
    let p = (both (pointwise nat_eq a.tidy b.tidy) (pointwise nat_eq a.contents.arguments b.contents.arguments && (pointwise nat_eq a.contents.passed b.contents.passed && pointwise same_entry a.contents.derived b.contents.derived)) e).1 in
    let q = both (pointwise nat_eq a.contents.arguments b.contents.arguments) (pointwise nat_eq a.contents.passed b.contents.passed && pointwise same_entry a.contents.derived b.contents.derived) p in
    let r = both (pointwise nat_eq a.contents.passed b.contents.passed) (pointwise same_entry a.contents.derived b.contents.derived) q.1 in
    let one = same_numbers a.contents.arguments b.contents.arguments q.0 in
    let two = same_numbers a.contents.passed b.contents.passed r.0 in
    let three = pointwise_is same_entry entry_is a.contents.derived b.contents.derived r.1 in
    λ i. record { arguments = one i; passed = two i; derived = three i }
