-- The directory of the tables beside the points of the code.
use Rattle.std.proofs.Common.{◌≡◌, ◌≢◌, ℕ, zero, suc, ◌+◌, ◌*◌, ◌<◌, ◌≤◌, Bool, true, false, List, [], ◌∷◌, length, drop, Option, Some, None, inl, inr, refl, sym, ap, ◌∙◌, arith, add-one}
use Rattle.std.specs.Prelude.{nat_eq, is_none, ◌==◌}
use Rattle.std.specs.Option.{option_map_or, option_or}
use Rattle.std.proofs.lemmas.Option.{slice_get_past}
use Rattle.std.specs.List.{slice_get}
use Rattle.std.specs.Cmp.Lexicographic.{pointwise}
use Rattle.std.proofs.lemmas.List.{drop-drop}
use Rattle.std.proofs.lemmas.Bool.{cases_lt, lt-ltb, le-ltb}
use Rattle.std.proofs.lemmas.Bool.Decides.{nat_tests}
use Rattle.m3_tables.specs.Numbers.{word_in}
use Rattle.m3_tables.specs.Sections.{directory_fault, listed_in, first_bad, end_fault, first_fault as rows_or_else}
use Rattle.m3_image_sections.specs.Parts.{Program}
use Rattle.m3_image_sections.specs.Ranges.{first_failing, is_point_at, points_from}
use Rattle.m3_image.specs.Programs.{lists_points, row_suits, tables_fault}
use Rattle.m3_image_sections.specs.Fields.{each}
use Rattle.m3_image_sections.proofs.ListLemmas.{each_at, each_past, known}
use Rattle.m3_image_sections.proofs.FirstLemmas.{before_bad, both_stop, both_bad, both_none}
use Rattle.m3_image_sections.proofs.CodeLemmas.{drop_at, drop_past, points_yes, points_no}

-- the instructions that the directory lists
abbrev pub listed : List ℕ → List ℕ
listed section = each 8 word_in (word_in section) (drop 4 section)

pub listed_get : (section : List ℕ) (row : ℕ) → directory_fault section ≡ None → listed_in section row ≡ slice_get (listed section) row
listed_get section row e =
    elim (cases_lt row (word_in section)) [
      | inl less ↦
          let t = lt-ltb row (word_in section) less in
          let at = each_at 8 word_in (word_in section) (drop 4 section) row less in
          let place : drop (8 * row) (drop 4 section) ≡ drop (4 + 8 * row) section = drop-drop (8 * row) 4 section in
          rw (e, t, at) (ap (λ bytes. Some (word_in bytes)) (sym place))
      | inr more ↦
          let t = le-ltb row (word_in section) more in
          let past = each_past 8 word_in (word_in section) (drop 4 section) row more in
          rw (e, t, past) refl
    ]

pub listed_step : (xs ys : List ℕ) (k pc : ℕ) → slice_get xs k ≡ Some pc → pointwise nat_eq (drop k xs) (pc ∷ ys) ≡ pointwise nat_eq (drop (suc k) xs) ys
listed_step xs ys k pc e =
    let same : nat_eq pc pc ≡ true = grind (arith, nat_tests) in
    rw (drop_at xs k pc e, same) refl

pub listed_other : (xs ys : List ℕ) (k pc q : ℕ) → slice_get xs k ≡ Some q → q ≢ pc → pointwise nat_eq (drop k xs) (pc ∷ ys) ≡ false
listed_other xs ys k pc q e ne =
    let other : nat_eq q pc ≡ false = grind (arith, nat_tests) in
    rw (drop_at xs k q e, other) refl

pub listed_short : (xs ys : List ℕ) (k pc : ℕ) → slice_get xs k ≡ None → pointwise nat_eq (drop k xs) (pc ∷ ys) ≡ false
listed_short xs ys k pc e = rw (drop_past xs k e) refl

pub listed_end : (xs : List ℕ) (k : ℕ) → pointwise nat_eq (drop k xs) [] ≡ is_none (slice_get xs k)
listed_end [] zero = refl
listed_end [] (suc k) = refl
listed_end (x ∷ xs) zero = refl
listed_end (x ∷ xs) (suc k) = listed_end xs k

-- ---- the rows

pub holds_count : (section : List ℕ) → directory_fault section ≡ None → 4 ≤ length section
holds_count section e =
    elim (cases_lt (length section) 4) [
      | inl few ↦ (let t = lt-ltb (length section) 4 few in let no = rw t at e in absurd cc)
      | inr enough ↦ enough
    ]

-- what is wrong with the rows: the first that doesn't suit of those before the first bad one, else what is
-- wrong from that one on
pub tables_is : (p : Program) → directory_fault p.tables ≡ None → lists_points p ≡ true → tables_fault p ≡ option_or (first_failing (row_suits p) (before_bad p.tables (word_in p.tables))) (rows_or_else (first_bad p.tables (word_in p.tables)) (end_fault p.tables))
unfolding tables_fault
tables_is p d l =
    let n = word_in p.tables in
    elim (known (first_failing (row_suits p) (before_bad p.tables n))) [
      | inl suited ↦ elim (known (first_bad p.tables n)) [
        | inl none ↦ rw (d, l, suited, both_none p.tables (row_suits p) n suited none, none) refl
        | inr some ↦ rw (d, l, suited, both_bad p.tables (row_suits p) n some.0 suited some.1, some.1) refl
      ]
      | inr unsuited ↦ rw (d, l, unsuited.1, both_stop p.tables (row_suits p) n unsuited.0 unsuited.1) refl
    ]

pub none_or : {A : Type 0} (a b : Option A) → None ≡ option_or a b → (a ≡ None) × (b ≡ None)
none_or None b e = (refl, sym e)
none_or (Some x) b e = absurd cc

-- all rows are shown where nothing is wrong
pub whole_count : (section : List ℕ) → rows_or_else (first_bad section (word_in section)) (end_fault section) ≡ None → before_bad section (word_in section) ≡ word_in section
whole_count section e =
    elim (known (first_bad section (word_in section))) [ inl none ↦ rw none refl | inr some ↦ (let no = rw some.1 at e in absurd cc) ]

-- ---- the points, one after the other

-- the directory from a row on has the points from a place on
abbrev pub lists_from : Program → ℕ → ℕ → Bool
lists_from p row pc = pointwise nat_eq (drop row (listed p.tables)) (points_from pc (drop pc p.code))

pub lists_zero : (p : Program) → lists_from p 0 0 ≡ lists_points p
unfolding lists_points
lists_zero p = refl

pub lists_skip : (p : Program) (row pc : ℕ) → pc < length p.code → is_point_at p.code pc ≡ false → lists_from p row pc ≡ lists_from p row (pc + 1)
lists_skip p row pc lt e = rw (add-one) (ap (pointwise nat_eq (drop row (listed p.tables))) (points_no p.code pc lt e))

pub lists_step : (p : Program) (row pc : ℕ) → directory_fault p.tables ≡ None → is_point_at p.code pc ≡ true → option_map_or (λ n. n == pc) (listed_in p.tables row) false ≡ true → lists_from p row pc ≡ lists_from p (row + 1) (pc + 1)
lists_step p row pc d e f =
    let g = rw (listed_get p.tables row d) at f in
    elim (known (slice_get (listed p.tables) row)) [
      | inl none ↦ (let no = rw none at g in absurd cc)
      | inr some ↦
          let yes = rw some.1 at g in
          let same : some.0 ≡ pc = grind (arith, nat_tests, yes) in
          let at : slice_get (listed p.tables) row ≡ Some pc = some.1 ∙ ap Some same in
          let r : row + 1 ≡ suc row = omega arith in
          let q : pc + 1 ≡ suc pc = omega arith in
          rw (r, q, points_yes p.code pc e) (listed_step (listed p.tables) (points_from (suc pc) (drop (suc pc) p.code)) row pc at)
    ]

pub lists_stop : (p : Program) (row pc : ℕ) → directory_fault p.tables ≡ None → is_point_at p.code pc ≡ true → option_map_or (λ n. n == pc) (listed_in p.tables row) false ≡ false → lists_from p row pc ≡ false
lists_stop p row pc d e f =
    let g = rw (listed_get p.tables row d) at f in
    elim (known (slice_get (listed p.tables) row)) [
      | inl none ↦ rw (points_yes p.code pc e) (listed_short (listed p.tables) (points_from (suc pc) (drop (suc pc) p.code)) row pc none)
      | inr some ↦
          let q : ℕ = some.0 in
          let no = rw some.1 at g in
          let other : q ≢ pc = grind (arith, nat_tests, no) in
          rw (points_yes p.code pc e) (listed_other (listed p.tables) (points_from (suc pc) (drop (suc pc) p.code)) row pc q some.1 other)
    ]

pub lists_end : (p : Program) (row pc : ℕ) → directory_fault p.tables ≡ None → length p.code ≤ pc → lists_from p row pc ≡ is_none (listed_in p.tables row)
lists_end p row pc d le =
    let gone : drop pc p.code ≡ [] = drop_past p.code pc (slice_get_past p.code pc le) in
    rw (gone) (listed_end (listed p.tables) row ∙ ap is_none (sym (listed_get p.tables row d)))
