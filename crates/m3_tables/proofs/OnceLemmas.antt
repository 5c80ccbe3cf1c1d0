-- The tidy places of a good row stand in its list once each.
use Rattle.std.proofs.Common.{◌≡◌, ℕ, zero, suc, ◌<◌, ◌≤◌, Bool, true, false, ◌&&◌, ◌||◌, not, filter, List, [], ◌∷◌, ◌++◌, Option, Some, None, inl, inr, refl, ◌∙◌, arith}
use Rattle.std.specs.Prelude.{◌==◌, nat_lt}
use Rattle.std.specs.Option.{option_map_or}
use Rattle.std.specs.List.{list_all}
use Rattle.std.proofs.lemmas.Bool.{ltb-true}
use Rattle.std.proofs.lemmas.Bool.Decides.{nat_tests}
use Rattle.m3_tables.specs.Numbers.{has, rises, is_once}
use Rattle.m3_tables.specs.Rows.{Tidies, All_of, Changed, Unchanged}
use Rattle.m3_tables.specs.Fields.{tidies_at}
use Rattle.m3_tables.specs.Sections.{row_in, tidies_rise, tidies_fit, rest_fits, was_tidy, is_tidy, tidies_list, tidy_list, is_good}
use Rattle.m3_tables.proofs.SectionLemmas.{good_rises, good_fits, has_append, has_filter, has_tidy_list}
use Rattle.m3_tables.proofs.KeepingLemmas.{choice, and_parts, not_true, has_passes}

-- ---- lists

false_or : (a b : Bool) → a ≡ false → b ≡ false → (a || b) ≡ false
false_or true b e f = absurd cc
false_or false b e f = f

-- a number below the first isn't in a list that rises
below_first : (x y : ℕ) (xs : List ℕ) → x < y → rises (y ∷ xs) ≡ true → has (y ∷ xs) x ≡ false
below_first x y [] lt e = let other : (y == x) ≡ false = grind (arith, nat_tests) in rw other refl
below_first x y (z ∷ xs) lt e =
    let parts = and_parts (nat_lt y z) (rises (z ∷ xs)) e in
    let next = ltb-true y z parts.0 in
    let other : (y == x) ≡ false = grind (arith, nat_tests) in
    rw other (below_first x z xs (omega arith) parts.1)

rises_once : (xs : List ℕ) → rises xs ≡ true → is_once xs ≡ true
rises_once [] e = refl
rises_once (x ∷ []) e = refl
rises_once (x ∷ y ∷ xs) e =
    let parts = and_parts (nat_lt x y) (rises (y ∷ xs)) e in
    let gone = below_first x y xs (ltb-true x y parts.0) parts.1 in
    rw gone (rises_once (y ∷ xs) parts.1)

filter_once : (p : ℕ → Bool) (xs : List ℕ) → is_once xs ≡ true → is_once (filter p xs) ≡ true
filter_once p [] e = refl
filter_once p (x ∷ xs) e =
    let parts = and_parts (not (has xs x)) (is_once xs) e in
    elim (choice (p x)) [
      | inl passes ↦ (
          let gone : has (filter p xs) x ≡ false = has_filter p xs x ∙ rw (not_true (has xs x) parts.0) refl in
          rw (passes, gone) (filter_once p xs parts.1))
      | inr fails ↦ rw fails (filter_once p xs parts.1)
    ]

or_second : (a b : Bool) → b ≡ true → (a || b) ≡ true
or_second true b e = refl
or_second false b e = e

append_once : (xs ys : List ℕ) → is_once xs ≡ true → is_once ys ≡ true → ((l : ℕ) → has xs l ≡ true → has ys l ≡ false) → is_once (xs ++ ys) ≡ true
append_once [] ys e f apart = f
append_once (x ∷ xs) ys e f apart =
    let parts = and_parts (not (has xs x)) (is_once xs) e in
    let same : (x == x) ≡ true = grind (arith, nat_tests) in
    let gone : has (xs ++ ys) x ≡ false = has_append xs ys x ∙ false_or (has xs x) (has ys x) (not_true (has xs x) parts.0) (apart x (rw same refl)) in
    rw gone (append_once xs ys parts.1 f (λ l h. apart l (or_second (x == l) (has xs l) h)))

-- ---- rows

changed_once : (removed added before : List ℕ) (was : ℕ → Bool) → ((l : ℕ) → has before l ≡ was l) → is_once before ≡ true → rises added ≡ true → list_all (λ l. not (was l)) added ≡ true
    → is_once (added ++ filter (λ l. not (has removed l)) before) ≡ true
changed_once removed added before was same once rising free =
    append_once added (filter (λ l. not (has removed l)) before) (rises_once added rising) (filter_once (λ l. not (has removed l)) before once)
    (λ l h. let gone = not_true (was l) (has_passes (λ m. not (was m)) added l free h) in
    has_filter (λ m. not (has removed m)) before l ∙ rw (same l, gone) refl)

told_once : (row : ℕ) (told : Tidies) (before : List ℕ) (was : ℕ → Bool) → ((l : ℕ) → has before l ≡ was l) → is_once before ≡ true → tidies_rise told ≡ true → tidies_fit row was told ≡ true → is_once (tidies_list told before) ≡ true
told_once row (All_of places) before was same once rising fits = rises_once places rising
told_once row (Changed removed added) before was same once rising fits =
    let lists = and_parts (rises removed) (rises added) rising in
    let parts = and_parts _ (list_all was removed && list_all (λ l. not (was l)) added) fits in
    changed_once removed added before was same once lists.1 (and_parts (list_all was removed) (list_all (λ l. not (was l)) added) parts.1).1
told_once row Unchanged before was same once rising fits = once

then_once : (row : ℕ) (o : Option (Tidies × List ℕ)) (before : List ℕ) (was tidy : ℕ → Bool) → ((l : ℕ) → has before l ≡ was l) → is_once before ≡ true → option_map_or (λ found. tidies_rise found.0) o false ≡ true
    → option_map_or (λ found. tidies_fit row was found.0 && rest_fits tidy found.0 found.1) o false ≡ true → is_once (option_map_or (λ found. tidies_list found.0 before) o []) ≡ true
then_once row None before was tidy same once rising fits = refl
then_once row (Some found) before was tidy same once rising fits = told_once row found.0 before was same once rising (and_parts (tidies_fit row was found.0) (rest_fits tidy found.0 found.1) fits).0

-- a row's tidy places stand in its list once each, where the rows up to it are good
pub tidy_list_once : (section : List ℕ) (row : ℕ) → ((k : ℕ) → k ≤ row → is_good section k ≡ true) → is_once (tidy_list section row) ≡ true
unfolding tidy_list
tidy_list_once section zero good =
    then_once 0 (tidies_at (row_in section 0)) [] (was_tidy section 0) (is_tidy section 0) (λ l. refl) refl (good_rises section 0 (good 0 (omega arith))) (good_fits section 0 (good 0 (omega arith)))
tidy_list_once section (suc row) good =
    then_once (suc row) (tidies_at (row_in section (suc row))) (tidy_list section row) (was_tidy section (suc row)) (is_tidy section (suc row)) (has_tidy_list section row) (tidy_list_once section row (λ k le. good k (omega arith)))
    (good_rises section (suc row) (good (suc row) (omega arith))) (good_fits section (suc row) (good (suc row) (omega arith)))
