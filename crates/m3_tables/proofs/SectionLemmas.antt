-- What a row says, by what the row before said.
use Rattle.std.proofs.Common.{◌≡◌, ℕ, zero, suc, ◌+◌, ◌-◌, ◌<◌, ◌≤◌, Bool, true, false, ◌&&◌, ◌||◌, not, filter, List, [], ◌∷◌, ◌++◌, Option, Some, None, ◌⊎◌, inl, inr, refl, sym, subst, ◌∙◌, arith}
use Rattle.std.specs.Prelude.{◌==◌}
use Rattle.std.proofs.lemmas.Bool.{cases_lt, ltb-true}
use Rattle.std.proofs.lemmas.Bool.Decides.{nat_tests}
use Rattle.std.specs.Option.{option_map_or}
use Rattle.std.specs.List.{list_all}
use Rattle.m3_tables.specs.Numbers.{has, rises}
use Rattle.m3_tables.specs.Rows.{Contents, nothing, Tidies, All_of, Changed, Unchanged}
use Rattle.m3_tables.specs.Fields.{tidies_at, contents_at}
use Rattle.m3_tables.specs.Sections.{row_in, tidies, tidies_list, tidy_list, was_list, tidies_then, is_tidy, was_tidy, instruction_in, offset_in, instruction_rises, start_of, row_rises, row_fits, is_good, first_bad, contents_then, contents_in, contents_fit, rest_fits, tidies_fit, told_all, tidy_all, are_free}

and_not : (b : Bool) → (b && false) ≡ false
and_not true = refl
and_not false = refl

and_yes : (b : Bool) → (b && true) ≡ b
and_yes true = refl
and_yes false = refl

pub is_tidy_at : (section : List ℕ) (row l : ℕ) → is_tidy section row l ≡ tidies_then (tidies_at (row_in section row)) (was_tidy section row l) l
unfolding is_tidy
is_tidy_at section zero l = refl
is_tidy_at section (suc row) l = refl

pub was_tidy_at : (section : List ℕ) (row l : ℕ) → 0 < row → was_tidy section row l ≡ is_tidy section (row - 1) l
was_tidy_at section zero l h = absurd (omega arith)
was_tidy_at section (suc row) l h = let e : suc row - 1 ≡ row = omega arith in rw e refl

-- by what the row tells
pub tidy_is : (section : List ℕ) (row l : ℕ) (told : Tidies) (rest : List ℕ) → Some (told, rest) ≡ tidies_at (row_in section row) → is_tidy section row l ≡ tidies told (was_tidy section row l) l
tidy_is section row l told rest h = is_tidy_at section row l ∙ rw (← h) refl

pub tidy_added : (section : List ℕ) (row l : ℕ) (removed added : List ℕ) (rest : List ℕ) → Some (Changed removed added, rest) ≡ tidies_at (row_in section row) → true ≡ has added l → true ≡ is_tidy section row l
tidy_added section row l removed added rest h e = sym (tidy_is section row l (Changed removed added) rest h ∙ rw (← e) refl)

pub tidy_removed : (section : List ℕ) (row l : ℕ) (removed added : List ℕ) (rest : List ℕ) → Some (Changed removed added, rest) ≡ tidies_at (row_in section row) → false ≡ has added l → true ≡ has removed l → false ≡ is_tidy section row l
tidy_removed section row l removed added rest h e f = sym (tidy_is section row l (Changed removed added) rest h ∙ rw (← e, ← f) (and_not (was_tidy section row l)))

pub tidy_stays : (section : List ℕ) (row l : ℕ) (removed added : List ℕ) (rest : List ℕ) → Some (Changed removed added, rest) ≡ tidies_at (row_in section row) → false ≡ has added l → false ≡ has removed l → 0 < row → is_tidy section (row - 1) l ≡ is_tidy section row l
tidy_stays section row l removed added rest h e f more =
    sym (tidy_is section row l (Changed removed added) rest h ∙ rw (← e, ← f) (and_yes (was_tidy section row l)) ∙ was_tidy_at section row l more)

pub tidy_same : (section : List ℕ) (row l : ℕ) (rest : List ℕ) → Some (Unchanged, rest) ≡ tidies_at (row_in section row) → 0 < row → is_tidy section (row - 1) l ≡ is_tidy section row l
tidy_same section row l rest h more = sym (tidy_is section row l Unchanged rest h ∙ was_tidy_at section row l more)

-- ---- the first bad row

and_parts : (a b : Bool) → (a && b) ≡ true → (a ≡ true) × (b ≡ true)
and_parts true b e = (refl, e)
and_parts false b e = absurd cc

pub good_rises : (section : List ℕ) (row : ℕ) → is_good section row ≡ true → row_rises section row ≡ true
unfolding is_good
good_rises section row e =
    (and_parts (row_rises section row) (row_fits section row) (and_parts (instruction_rises section row && offset_in section row == start_of section row) (row_rises section row && row_fits section row) e).1).0

pub good_follows : (section : List ℕ) (row : ℕ) → is_good section (suc row) ≡ true → instruction_in section row < instruction_in section (suc row)
unfolding is_good
good_follows section row e =
    let front = (and_parts (instruction_rises section (suc row) && offset_in section (suc row) == start_of section (suc row)) (row_rises section (suc row) && row_fits section (suc row)) e).0 in
    ltb-true _ _ (and_parts (instruction_rises section (suc row)) (offset_in section (suc row) == start_of section (suc row)) front).0

pub first_bad-zero : (section : List ℕ) → first_bad section 0 ≡ None
unfolding first_bad
first_bad-zero section = refl

pub first_bad-more : (section : List ℕ) (n : ℕ) → first_bad section n ≡ None → is_good section n ≡ true → first_bad section (n + 1) ≡ None
unfolding first_bad
first_bad-more section n e g = let one : n + 1 ≡ suc n = omega arith in rw (one, e, g) refl

first_bad-here : (section : List ℕ) (n : ℕ) → first_bad section n ≡ None → is_good section n ≡ false → first_bad section (suc n) ≡ Some n
unfolding first_bad
first_bad-here section n e g = rw (e, g) refl

first_bad-kept : (section : List ℕ) (n k : ℕ) → first_bad section n ≡ Some k → first_bad section (suc n) ≡ Some k
unfolding first_bad
first_bad-kept section n k e = rw e refl

pub first_bad-stop : (section : List ℕ) (n k : ℕ) → k < n → first_bad section k ≡ None → is_good section k ≡ false → first_bad section n ≡ Some k
first_bad-stop section zero k lt e g = absurd (omega arith)
first_bad-stop section (suc n) k lt e g =
    elim (cases_lt k n) [
      | inl less ↦ first_bad-kept section n k (first_bad-stop section n k less e g)
      | inr more ↦ (let same : k ≡ n = omega arith in
          rw same (first_bad-here section n (subst (λ (m : ℕ). first_bad section m ≡ None) same e) (subst (λ (m : ℕ). is_good section m ≡ false) same g)))
    ]

-- what the search for the first bad row says of the rows before it
choice : (b : Bool) → (b ≡ true) ⊎ (b ≡ false)
choice true = inl refl
choice false = inr refl

cases_first : (section : List ℕ) (n : ℕ) → (first_bad section n ≡ None) ⊎ ((k : ℕ) × (first_bad section n ≡ Some k))
cases_first section n = elim (first_bad section n) as (λ (o : Option ℕ). (o ≡ None) ⊎ ((k : ℕ) × (o ≡ Some k))) [ None ↦ inl refl | Some k ↦ inr (k, refl) ]

pub first_bad-none : (section : List ℕ) (n : ℕ) → first_bad section n ≡ None → (k : ℕ) → k < n → is_good section k ≡ true
first_bad-none section zero e k lt = absurd (omega arith)
first_bad-none section (suc n) e k lt =
    elim (cases_first section n) [
      | inl none ↦ elim (choice (is_good section n)) [
        | inl good ↦ elim (cases_lt k n) [
          | inl less ↦ first_bad-none section n none k less
          | inr more ↦ (let same : k ≡ n = omega arith in rw same good)
        ]
        | inr bad ↦ (let found = first_bad-here section n none bad in absurd cc)
      ]
      | inr some ↦ (let found = first_bad-kept section n some.0 some.1 in absurd cc)
    ]

none_some : (section : List ℕ) (k : ℕ) → first_bad section 0 ≡ Some k → ⊥
unfolding first_bad
none_some section k e = cc

-- the first bad row is below the count, and the rows before it are good
pub first_bad-some : (section : List ℕ) (n k : ℕ) → first_bad section n ≡ Some k → (k < n) × (first_bad section k ≡ None)
first_bad-some section zero k e = absurd (none_some section k e)
first_bad-some section (suc n) k e =
    elim (cases_first section n) [
      | inl none ↦ elim (choice (is_good section n)) [
        | inl good ↦ (let one : n + 1 ≡ suc n = omega arith in
            let found : first_bad section (suc n) ≡ None = rw (← one) (first_bad-more section n none good) in absurd cc)
        | inr bad ↦ (let found = first_bad-here section n none bad in
            let same : n ≡ k = cc in rw (← same) (omega arith, none))
      ]
      | inr some ↦ (let found = first_bad-kept section n some.0 some.1 in
          let same : some.0 ≡ k = cc in
          let before = first_bad-some section n some.0 some.1 in
          rw (← same) (omega (arith, before.0), before.1))
    ]

-- ---- what the lists of a good row are

all_good-step : (section : List ℕ) (row : ℕ) → ((k : ℕ) → k ≤ suc row → is_good section k ≡ true) → (k : ℕ) → k ≤ row → is_good section k ≡ true
all_good-step section row h k le = h k (omega arith)

lists_rise : Contents → Type 0
lists_rise c = (rises c.arguments ≡ true) × (rises c.passed ≡ true)

fit_rises : (tidy : ℕ → Bool) (c : Contents) → contents_fit tidy c ≡ true → lists_rise c
unfolding lists_rise
fit_rises tidy c e =
    let front = (and_parts (rises c.arguments && rises c.passed) _ e).0 in
    and_parts (rises c.arguments) (rises c.passed) front

found_rises : (tidy : ℕ → Bool) (o : Option (Contents × List ℕ)) → option_map_or (λ found. contents_fit tidy found.0) o false ≡ true → lists_rise (option_map_or (λ found. found.0) o nothing)
unfolding lists_rise
found_rises tidy None e = absurd cc
found_rises tidy (Some x) e = fit_rises tidy x.0 e

told_rises : (tidy : ℕ → Bool) (told : Tidies) (bytes : List ℕ) (before : Contents) → lists_rise before → rest_fits tidy told bytes ≡ true → lists_rise (contents_then told before bytes)
told_rises tidy (All_of places) bytes before b e = found_rises tidy (contents_at bytes) e
told_rises tidy (Changed removed added) bytes before b e = found_rises tidy (contents_at bytes) e
told_rises tidy Unchanged bytes before b e = b

row_rises_then : (row : ℕ) (was tidy : ℕ → Bool) (o : Option (Tidies × List ℕ)) (before : Contents) → lists_rise before
    → option_map_or (λ found. tidies_fit row was found.0 && rest_fits tidy found.0 found.1) o false ≡ true → lists_rise (option_map_or (λ found. contents_then found.0 before found.1) o nothing)
row_rises_then row was tidy None before b e = absurd cc
row_rises_then row was tidy (Some x) before b e = told_rises tidy x.0 x.1 before b (and_parts (tidies_fit row was x.0) (rest_fits tidy x.0 x.1) e).1

pub good_fits : (section : List ℕ) (row : ℕ) → is_good section row ≡ true → row_fits section row ≡ true
unfolding is_good
good_fits section row e =
    (and_parts (row_rises section row) (row_fits section row) (and_parts (instruction_rises section row && offset_in section row == start_of section row) (row_rises section row && row_fits section row) e).1).1

contents_rise : (section : List ℕ) (row : ℕ) → ((k : ℕ) → k ≤ row → is_good section k ≡ true) → lists_rise (contents_in section row)
unfolding contents_in lists_rise
contents_rise section zero h = row_rises_then 0 (was_tidy section 0) (is_tidy section 0) (tidies_at (row_in section 0)) nothing (refl, refl) (good_fits section 0 (h 0 (omega arith)))
contents_rise section (suc row) h =
    row_rises_then (suc row) (was_tidy section (suc row)) (is_tidy section (suc row)) (tidies_at (row_in section (suc row))) (contents_in section row) (contents_rise section row (all_good-step section row h)) (good_fits section (suc row) (h (suc row) (omega arith)))

pub arguments_rise : (section : List ℕ) (row : ℕ) → ((k : ℕ) → k ≤ row → is_good section k ≡ true) → rises (contents_in section row).arguments ≡ true
unfolding lists_rise
arguments_rise section row h = (contents_rise section row h).0

pub passed_rise : (section : List ℕ) (row : ℕ) → ((k : ℕ) → k ≤ row → is_good section k ≡ true) → rises (contents_in section row).passed ≡ true
unfolding lists_rise
passed_rise section row h = (contents_rise section row h).1

pub contents_at_row : (section : List ℕ) (row : ℕ) (told : Tidies) (rest : List ℕ) (c : Contents) (after : List ℕ) → Some (told, rest) ≡ tidies_at (row_in section row) → Some (c, after) ≡ contents_at rest
    → ((told ≡ Unchanged) → ⊥) → contents_in section row ≡ c
unfolding contents_in
contents_at_row section zero (All_of places) rest c after h e ne = rw (← h, ← e) refl
contents_at_row section zero (Changed removed added) rest c after h e ne = rw (← h, ← e) refl
contents_at_row section zero Unchanged rest c after h e ne = absurd (ne refl)
contents_at_row section (suc row) (All_of places) rest c after h e ne = rw (← h, ← e) refl
contents_at_row section (suc row) (Changed removed added) rest c after h e ne = rw (← h, ← e) refl
contents_at_row section (suc row) Unchanged rest c after h e ne = absurd (ne refl)

-- ---- what is said where nothing is told

pub contents_none : (section : List ℕ) (row : ℕ) → None ≡ tidies_at (row_in section row) → contents_in section row ≡ nothing
unfolding contents_in
contents_none section zero h = rw (← h) refl
contents_none section (suc row) h = rw (← h) refl

pub contents_lost : (section : List ℕ) (row : ℕ) (told : Tidies) (rest : List ℕ) → Some (told, rest) ≡ tidies_at (row_in section row) → None ≡ contents_at rest → ((told ≡ Unchanged) → ⊥) → contents_in section row ≡ nothing
unfolding contents_in
contents_lost section zero (All_of places) rest h e ne = rw (← h, ← e) refl
contents_lost section zero (Changed removed added) rest h e ne = rw (← h, ← e) refl
contents_lost section zero Unchanged rest h e ne = absurd (ne refl)
contents_lost section (suc row) (All_of places) rest h e ne = rw (← h, ← e) refl
contents_lost section (suc row) (Changed removed added) rest h e ne = rw (← h, ← e) refl
contents_lost section (suc row) Unchanged rest h e ne = absurd (ne refl)

pub contents_first : (section : List ℕ) (rest : List ℕ) → Some (Unchanged, rest) ≡ tidies_at (row_in section 0) → contents_in section 0 ≡ nothing
unfolding contents_in
contents_first section rest h = rw (← h) refl

pub contents_same : (section : List ℕ) (row : ℕ) (rest : List ℕ) → Some (Unchanged, rest) ≡ tidies_at (row_in section row) → 0 < row → contents_in section (row - 1) ≡ contents_in section row
unfolding contents_in
contents_same section zero rest h more = absurd (omega arith)
contents_same section (suc row) rest h more = let e : suc row - 1 ≡ row = omega arith in rw (e, ← h) refl

-- ---- instructions of good rows

pub instructions_before : (section : List ℕ) (n : ℕ) → ((k : ℕ) → k < n → is_good section k ≡ true) → (i d : ℕ) → i + suc d < n → instruction_in section i < instruction_in section (i + suc d)
instructions_before section n good i zero lt =
    let e : suc i ≡ i + 1 = omega arith in rw (← e) (good_follows section i (good (suc i) (omega arith)))
instructions_before section n good i (suc d) lt =
    let near = instructions_before section n good i d (omega arith) in
    let next = good_follows section (i + suc d) (good (suc (i + suc d)) (omega arith)) in
    let e : suc (i + suc d) ≡ i + suc (suc d) = omega arith in
    rw (← e) (omega arith)

instructions_apart : (section : List ℕ) (n : ℕ) → ((k : ℕ) → k < n → is_good section k ≡ true) → (i j : ℕ) → i < j → j < n → instruction_in section i < instruction_in section j
instructions_apart section n good i j lt h =
    let e : i + suc (j - suc i) ≡ j = omega arith in
    let lt' : i + suc (j - suc i) < n = omega arith in
    subst (λ (m : ℕ). instruction_in section i < instruction_in section m) e (instructions_before section n good i (j - suc i) lt')

pub instructions_below : (section : List ℕ) (n m instr : ℕ) → ((k : ℕ) → k < n → is_good section k ≡ true) → m < n → instruction_in section m < instr → (k : ℕ) → k < m + 1 → instruction_in section k < instr
instructions_below section n m instr good lt h k le =
    elim (cases_lt k m) [
      | inl less ↦ (let b = instructions_apart section n good k m less lt in omega arith)
      | inr more ↦ (let e : k ≡ m = omega arith in rw e h)
    ]

pub instructions_above : (section : List ℕ) (n m instr : ℕ) → ((k : ℕ) → k < n → is_good section k ≡ true) → instr < instruction_in section m → (k : ℕ) → m ≤ k → k < n → instr < instruction_in section k
instructions_above section n m instr good h k le lt =
    elim (cases_lt m k) [
      | inl less ↦ (let b = instructions_apart section n good m k less lt in omega arith)
      | inr more ↦ (let e : k ≡ m = omega arith in rw e h)
    ]

-- ---- tests of all tidy places

pub tidy_all_at : (test : ℕ → Bool) (section : List ℕ) (row : ℕ) → 0 < row → tidy_all test section row ≡ told_all test (tidies_at (row_in section row)) (tidy_all test section (row - 1))
unfolding tidy_all
tidy_all_at test section zero more = absurd (omega arith)
tidy_all_at test section (suc row) more = let e : suc row - 1 ≡ row = omega arith in rw e refl

pub tidy_all_first : (test : ℕ → Bool) (section : List ℕ) → tidy_all test section 0 ≡ told_all test (tidies_at (row_in section 0)) true
unfolding tidy_all
tidy_all_first test section = refl

pub all_ground : (test : ℕ → Bool) (section : List ℕ) (row : ℕ) (places rest : List ℕ) → Some (All_of places, rest) ≡ tidies_at (row_in section row) → list_all test places ≡ tidy_all test section row
all_ground test section zero places rest h = sym (tidy_all_first test section ∙ rw (← h) refl)
all_ground test section (suc row) places rest h = sym (tidy_all_at test section (suc row) (omega arith) ∙ rw (← h) refl)

pub all_failed : (test : ℕ → Bool) (section : List ℕ) (row : ℕ) (removed added rest : List ℕ) → Some (Changed removed added, rest) ≡ tidies_at (row_in section row) → false ≡ list_all test added → false ≡ tidy_all test section row
all_failed test section zero removed added rest h e = sym (tidy_all_first test section ∙ rw (← h, ← e) refl)
all_failed test section (suc row) removed added rest h e = sym (tidy_all_at test section (suc row) (omega arith) ∙ rw (← h, ← e) refl)

pub all_first : (test : ℕ → Bool) (section : List ℕ) (removed added rest : List ℕ) → Some (Changed removed added, rest) ≡ tidies_at (row_in section 0) → true ≡ list_all test added → true ≡ tidy_all test section 0
all_first test section removed added rest h e = sym (tidy_all_first test section ∙ rw (← h, ← e) refl)

pub all_first_same : (test : ℕ → Bool) (section : List ℕ) (rest : List ℕ) → Some (Unchanged, rest) ≡ tidies_at (row_in section 0) → true ≡ tidy_all test section 0
all_first_same test section rest h = sym (tidy_all_first test section ∙ rw (← h) refl)

pub all_more : (test : ℕ → Bool) (section : List ℕ) (row : ℕ) (removed added rest : List ℕ) → Some (Changed removed added, rest) ≡ tidies_at (row_in section row) → true ≡ list_all test added → 0 < row → tidy_all test section (row - 1) ≡ tidy_all test section row
all_more test section row removed added rest h e more = sym (tidy_all_at test section row more ∙ rw (← h, ← e) refl)

pub all_more_same : (test : ℕ → Bool) (section : List ℕ) (row : ℕ) (rest : List ℕ) → Some (Unchanged, rest) ≡ tidies_at (row_in section row) → 0 < row → tidy_all test section (row - 1) ≡ tidy_all test section row
all_more_same test section row rest h more = sym (tidy_all_at test section row more ∙ rw (← h) refl)

-- ---- registers that are free

pub free_zero : (tidy : ℕ → Bool) → are_free tidy 0 ≡ true
unfolding are_free
free_zero tidy = refl

pub free_more : (tidy : ℕ → Bool) (n : ℕ) → are_free tidy n ≡ true → false ≡ tidy n → are_free tidy (n + 1) ≡ true
unfolding are_free
free_more tidy n e f = let one : n + 1 ≡ suc n = omega arith in rw (one, e, ← f) refl

free_here : (tidy : ℕ → Bool) (n : ℕ) → true ≡ tidy n → are_free tidy (suc n) ≡ false
unfolding are_free
free_here tidy n f = rw (← f) (and_not (are_free tidy n))

free_kept : (tidy : ℕ → Bool) (n : ℕ) → are_free tidy n ≡ false → are_free tidy (suc n) ≡ false
unfolding are_free
free_kept tidy n e = rw e refl

pub free_stop : (tidy : ℕ → Bool) (m n : ℕ) → n < m → true ≡ tidy n → are_free tidy m ≡ false
free_stop tidy zero n lt f = absurd (omega arith)
free_stop tidy (suc m) n lt f =
    elim (cases_lt n m) [
      | inl less ↦ free_kept tidy m (free_stop tidy m n less f)
      | inr more ↦ (let same : m ≡ n = omega arith in rw same (free_here tidy n f))
    ]

-- ---- the tidy places in a list

pub tidy_list_at : (section : List ℕ) (row : ℕ) → tidy_list section row ≡ option_map_or (λ found. tidies_list found.0 (was_list section row)) (tidies_at (row_in section row)) []
unfolding tidy_list
tidy_list_at section zero = refl
tidy_list_at section (suc row) = refl

pub has_append : (xs ys : List ℕ) (l : ℕ) → has (xs ++ ys) l ≡ (has xs l || has ys l)
has_append [] ys l = refl
has_append (x ∷ xs) ys l =
    elim (x == l) as (λ b. (b || has (xs ++ ys) l) ≡ ((b || has xs l) || has ys l)) [ true ↦ refl | false ↦ has_append xs ys l ]

pub has_filter : (p : ℕ → Bool) (xs : List ℕ) (l : ℕ) → has (filter p xs) l ≡ (has xs l && p l)
has_filter p [] l = refl
has_filter p (x ∷ xs) l =
    elim (choice (x == l)) [
      | inl here ↦ (let same : x ≡ l = grind (arith, nat_tests) in
          elim (choice (p x)) [
            | inl passes ↦ (let also : p l ≡ true = subst (λ (m : ℕ). p m ≡ true) same passes in rw (passes, here, also) refl)
            | inr fails ↦ (let also : p l ≡ false = subst (λ (m : ℕ). p m ≡ false) same fails in rw (fails, here, has_filter p xs l, also) (and_not (has xs l)))
          ])
      | inr there ↦ elim (choice (p x)) [
        | inl passes ↦ rw (passes, there) (has_filter p xs l)
        | inr fails ↦ rw (fails, there) (has_filter p xs l)
      ]
    ]

tidies_has : (told : Tidies) (before : List ℕ) (was : ℕ → Bool) → ((l : ℕ) → has before l ≡ was l) → (l : ℕ) → has (tidies_list told before) l ≡ tidies told (was l) l
tidies_has (All_of places) before was same l = refl
tidies_has (Changed removed added) before was same l =
    rw (has_append added (filter (λ m. not (has removed m)) before) l, has_filter (λ m. not (has removed m)) before l, same l)
tidies_has Unchanged before was same l = same l

then_has : (o : Option (Tidies × List ℕ)) (before : List ℕ) (was : ℕ → Bool) → ((l : ℕ) → has before l ≡ was l) → (l : ℕ) → has (option_map_or (λ found. tidies_list found.0 before) o []) l ≡ tidies_then o (was l) l
then_has None before was same l = refl
then_has (Some found) before was same l = tidies_has found.0 before was same l

-- a place is in the list exactly where it is tidy
pub has_tidy_list : (section : List ℕ) (row l : ℕ) → has (tidy_list section row) l ≡ is_tidy section row l
unfolding tidy_list is_tidy
has_tidy_list section zero l = then_has (tidies_at (row_in section 0)) [] (λ m. false) (λ m. refl) l
has_tidy_list section (suc row) l = then_has (tidies_at (row_in section (suc row))) (tidy_list section row) (is_tidy section row) (has_tidy_list section row) l
