-- What every good row keeps, from the tests that it passed.
use Rattle.std.proofs.Common.{◌≡◌, ℕ, zero, suc, ◌+◌, ◌-◌, ◌≤◌, Bool, true, false, ◌&&◌, ◌||◌, not, List, [], ◌∷◌, length, drop, Option, Some, None, ◌⊎◌, inl, inr, refl, sym, subst, arith}
use Rattle.std.specs.Prelude.{◌==◌, nat_lt}
use Rattle.std.specs.Option.{option_map_or}
use Rattle.std.specs.List.{slice_get, list_all}
use Rattle.std.proofs.lemmas.Bool.{cases_lt, ltb-true}
use Rattle.std.proofs.lemmas.Bool.Decides.{nat_tests}
use Rattle.m3_tables.specs.Numbers.{has, rises}
use Rattle.m3_tables.specs.Rows.{Bases, Entry, Contents, nothing, Tidies, All_of, Changed, Unchanged}
use Rattle.m3_tables.specs.Fields.{tidies_at, contents_at}
use Rattle.m3_tables.specs.Sections.{row_in, is_listed, is_derived, is_path, bases_known, path_fits, entry_fits, entries_fit, contents_fit, rest_fits, tidies_fit, was_tidy, tidies, tidies_then, is_tidy, contents_then, contents_in, is_good, told_pass, told_all, tidy_all, are_free}
use Rattle.m3_tables.specs.Keeping.{BasesKept, EntryKept, ContentsKept, RowKept}
use Rattle.m3_tables.proofs.SectionLemmas.{good_fits, free_stop, tidy_same}

pub choice : (b : Bool) → (b ≡ true) ⊎ (b ≡ false)
choice true = inl refl
choice false = inr refl

pub and_parts : (a b : Bool) → (a && b) ≡ true → (a ≡ true) × (b ≡ true)
and_parts true b e = (refl, e)
and_parts false b e = absurd cc

pub not_true : (b : Bool) → not b ≡ true → b ≡ false
not_true true e = absurd cc
not_true false e = refl

or_false : (a b : Bool) → not (a || b) ≡ true → (a ≡ false) × (b ≡ false)
or_false true b e = absurd cc
or_false false b e = (refl, not_true b e)

pub or_implies : (a b : Bool) → (not a || b) ≡ true → a ≡ true → b ≡ true
or_implies true b e holds = e
or_implies false b e holds = absurd cc

-- what passes for each number of a list passes for one that it has
pub has_passes : (test : ℕ → Bool) (xs : List ℕ) (l : ℕ) → list_all test xs ≡ true → has xs l ≡ true → test l ≡ true
has_passes test [] l e h = absurd cc
has_passes test (x ∷ xs) l e h =
    let parts = and_parts (test x) (list_all test xs) e in
    elim (choice (x == l)) [
      | inl here ↦ (let same : x ≡ l = grind (arith, nat_tests) in subst (λ (m : ℕ). test m ≡ true) same parts.0)
      | inr there ↦ has_passes test xs l parts.1 (rw there at h)
    ]

-- and for one at a place
pub place_passes : {A : Type 0} (test : A → Bool) (xs : List A) (n : ℕ) (x : A) → list_all test xs ≡ true → slice_get xs n ≡ Some x → test x ≡ true
place_passes test [] n x e h = absurd cc
place_passes test (y ∷ xs) zero x e h =
    let same : y ≡ x = cc in rw (← same) (and_parts (test y) (list_all test xs) e).0
place_passes test (y ∷ xs) (suc n) x e h = place_passes test xs n x (and_parts (test y) (list_all test xs) e).1 h

-- ---- derived words

bases_kept : (listed : ℕ → Bool) (later : List Entry) (way : Bases) → bases_known listed later way ≡ true → BasesKept listed later way
bases_kept listed later way e =
    let known : ℕ → Bool = λ l. listed l || is_derived later l in
    let parts = and_parts (list_all known way.added) (list_all known way.subtracted) e in
    record {
      added = λ l h. has_passes known way.added l parts.0 h;
      subtracted = λ l h. has_passes known way.subtracted l parts.1 h;
    }

one_path : (listed : ℕ → Bool) (path : Option ℕ) (ways : ℕ) → option_map_or (λ p. not (listed p) && nat_lt 1 ways) path (ways == 1) ≡ true → path ≡ None → ways ≡ 1
one_path listed None ways e h = grind (arith, nat_tests, e)
one_path listed (Some p) ways e h = absurd cc

some_path : (listed : ℕ → Bool) (path : Option ℕ) (ways p : ℕ) → option_map_or (λ p. not (listed p) && nat_lt 1 ways) path (ways == 1) ≡ true → path ≡ Some p → (listed p ≡ false) × (2 ≤ ways)
some_path listed None ways p e h = absurd cc
some_path listed (Some q) ways p e h =
    let same : q ≡ p = cc in
    let parts = and_parts (not (listed q)) (nat_lt 1 ways) e in
    let more = ltb-true 1 ways parts.1 in
    (rw (← same) (not_true (listed q) parts.0), omega arith)

entry_kept : (listed : ℕ → Bool) (all later : List Entry) (e : Entry) → entry_fits listed all later e ≡ true → EntryKept listed all later e
entry_kept listed all later e fits =
    let parts = and_parts (not (listed e.location) && not (is_derived later e.location)) _ fits in
    let front = and_parts (not (listed e.location)) (not (is_derived later e.location)) parts.0 in
    let back = and_parts (not (is_path all e.location)) (path_fits listed e && list_all (bases_known listed later) e.ways) parts.1 in
    let rest = and_parts (path_fits listed e) (list_all (bases_known listed later) e.ways) back.1 in
    record {
      apart = not_true (listed e.location) front.0;
      once = not_true (is_derived later e.location) front.1;
      no_path = not_true (is_path all e.location) back.0;
      one_way = one_path listed e.path (length e.ways) rest.0;
      many_ways = λ p. some_path listed e.path (length e.ways) p rest.0;
      bases = λ n way h. bases_kept listed later way (place_passes (bases_known listed later) e.ways n way rest.1 h);
    }

entries_kept : (listed : ℕ → Bool) (all entries : List Entry) → entries_fit listed all entries ≡ true → (n : ℕ) (e : Entry) → slice_get entries n ≡ Some e → EntryKept listed all (drop (n + 1) entries) e
entries_kept listed all [] fits n e h = absurd cc
entries_kept listed all (x ∷ entries) fits zero e h =
    let same : x ≡ e = cc in
    rw (← same) (entry_kept listed all entries x (and_parts (entry_fits listed all entries x) (entries_fit listed all entries) fits).0)
entries_kept listed all (x ∷ entries) fits (suc n) e h =
    let more : suc n + 1 ≡ suc (n + 1) = omega arith in
    rw more (entries_kept listed all entries (and_parts (entry_fits listed all entries x) (entries_fit listed all entries) fits).1 n e h)

-- ---- a row

contents_kept : (tidy : ℕ → Bool) (c : Contents) → contents_fit tidy c ≡ true → ContentsKept tidy c
contents_kept tidy c fits =
    let parts = and_parts (rises c.arguments && rises c.passed) _ fits in
    let rise = and_parts (rises c.arguments) (rises c.passed) parts.0 in
    let rest = and_parts (list_all (λ l. not (tidy l)) c.arguments && list_all (λ l. not (tidy l || has c.arguments l)) c.passed) _ parts.1 in
    let apart = and_parts (list_all (λ l. not (tidy l)) c.arguments) (list_all (λ l. not (tidy l || has c.arguments l)) c.passed) rest.0 in
    record {
      arguments_rise = rise.0;
      passed_rise = rise.1;
      arguments_apart = λ l h. not_true (tidy l) (has_passes (λ m. not (tidy m)) c.arguments l apart.0 h);
      passed_apart = λ l h. or_false (tidy l) (has c.arguments l) (has_passes (λ m. not (tidy m || has c.arguments m)) c.passed l apart.1 h);
      entries = entries_kept (is_listed tidy c) c.derived c.derived rest.1;
    }

nothing_kept : (tidy : ℕ → Bool) → ContentsKept tidy nothing
nothing_kept tidy = record {
  arguments_rise = refl;
  passed_rise = refl;
  arguments_apart = λ l h. absurd cc;
  passed_apart = λ l h. absurd cc;
  entries = λ n e h. absurd cc;
}

found_kept : (tidy : ℕ → Bool) (o : Option (Contents × List ℕ)) → option_map_or (λ found. contents_fit tidy found.0) o false ≡ true → ContentsKept tidy (option_map_or (λ found. found.0) o nothing)
found_kept tidy None e = absurd cc
found_kept tidy (Some x) e = contents_kept tidy x.0 e

told_kept : (tidy : ℕ → Bool) (told : Tidies) (bytes : List ℕ) (before : Contents) → (told ≡ Unchanged → ContentsKept tidy before) → rest_fits tidy told bytes ≡ true → ContentsKept tidy (contents_then told before bytes)
told_kept tidy (All_of places) bytes before b e = found_kept tidy (contents_at bytes) e
told_kept tidy (Changed removed added) bytes before b e = found_kept tidy (contents_at bytes) e
told_kept tidy Unchanged bytes before b e = b refl

row_kept_then : (row : ℕ) (was tidy : ℕ → Bool) (o : Option (Tidies × List ℕ)) (before : Contents) → ((rest : List ℕ) → Some (Unchanged, rest) ≡ o → ContentsKept tidy before)
    → option_map_or (λ found. tidies_fit row was found.0 && rest_fits tidy found.0 found.1) o false ≡ true → ContentsKept tidy (option_map_or (λ found. contents_then found.0 before found.1) o nothing)
row_kept_then row was tidy None before b e = absurd cc
row_kept_then row was tidy (Some x) before b e =
    told_kept tidy x.0 x.1 before (λ same. b x.1 (rw (← same) refl)) (and_parts (tidies_fit row was x.0) (rest_fits tidy x.0 x.1) e).1

tidy_stays_same : (section : List ℕ) (row l : ℕ) (rest : List ℕ) → Some (Unchanged, rest) ≡ tidies_at (row_in section (suc row)) → is_tidy section row l ≡ is_tidy section (suc row) l
tidy_stays_same section row l rest h =
    let one : suc row - 1 ≡ row = omega arith in
    let same = tidy_same section (suc row) l rest h (omega arith) in
    rw one at same

-- every good row keeps its form, where those before it are good
pub row_kept : (section : List ℕ) (row : ℕ) → ((k : ℕ) → k ≤ row → is_good section k ≡ true) → RowKept section row
unfolding contents_in
row_kept section zero good =
    row_kept_then 0 (was_tidy section 0) (is_tidy section 0) (tidies_at (row_in section 0)) nothing (λ rest h. nothing_kept (is_tidy section 0)) (good_fits section 0 (good 0 (omega arith)))
row_kept section (suc row) good =
    row_kept_then (suc row) (was_tidy section (suc row)) (is_tidy section (suc row)) (tidies_at (row_in section (suc row))) (contents_in section row)
    (λ rest h. let before = row_kept section row (λ k le. good k (omega arith)) in
    let each : (l : ℕ) → is_tidy section row l ≡ is_tidy section (suc row) l = λ l. tidy_stays_same section row l rest h in
    let same : is_tidy section row ≡ is_tidy section (suc row) = λ i l. each l i in
    subst (λ (tidy : ℕ → Bool). ContentsKept tidy (contents_in section row)) same before)
    (good_fits section (suc row) (good (suc row) (omega arith)))

-- ---- tests of all tidy places

told_passes : (test : ℕ → Bool) (told : Tidies) (before : Bool) (all_before : Bool) (l : ℕ) → (all_before ≡ true → before ≡ true → test l ≡ true) → told_pass test told all_before ≡ true → tidies told before l ≡ true → test l ≡ true
told_passes test (All_of places) before all_before l b e h = has_passes test places l e h
told_passes test (Changed removed added) before all_before l b e h =
    let parts = and_parts (list_all test added) all_before e in
    elim (choice (has added l)) [
      | inl here ↦ has_passes test added l parts.0 here
      | inr there ↦ b parts.1 (and_parts before (not (has removed l)) (rw there at h)).0
    ]
told_passes test Unchanged before all_before l b e h = b e h

then_passes : (test : ℕ → Bool) (o : Option (Tidies × List ℕ)) (before : Bool) (all_before : Bool) (l : ℕ) → (all_before ≡ true → before ≡ true → test l ≡ true) → told_all test o all_before ≡ true → tidies_then o before l ≡ true → test l ≡ true
then_passes test None before all_before l b e h = absurd cc
then_passes test (Some found) before all_before l b e h = told_passes test found.0 before all_before l b e h

-- what passes for all that tell of a row's tidy places passes for each
pub tidy_passes : (test : ℕ → Bool) (section : List ℕ) (row l : ℕ) → tidy_all test section row ≡ true → is_tidy section row l ≡ true → test l ≡ true
unfolding tidy_all is_tidy
tidy_passes test section zero l e h = then_passes test (tidies_at (row_in section 0)) false true l (λ all before. absurd cc) e h
tidy_passes test section (suc row) l e h =
    then_passes test (tidies_at (row_in section (suc row))) (is_tidy section row l) (tidy_all test section row) l (λ all before. tidy_passes test section row l all before) e h

-- a tidy place past registers that are free
pub free_passes : (tidy : ℕ → Bool) (m l : ℕ) → are_free tidy m ≡ true → tidy l ≡ true → m ≤ l
free_passes tidy m l e h =
    elim (cases_lt l m) [
      | inl below ↦ (let bad = free_stop tidy m l below (sym h) in absurd cc)
      | inr above ↦ above
    ]
