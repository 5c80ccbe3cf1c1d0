-- Rows that say nothing are rows, and those of points rise.
use Rattle.std.proofs.Common.{◌≡◌, ℕ, zero, suc, ◌+◌, ◌<◌, ◌≤◌, Bool, true, false, cond, List, [], ◌∷◌, ◌++◌, length, get_or, drop, refl, sym, ap, ◌∙◌, subst, arith, append_assoc, append-nil}
use Rattle.std.specs.Prelude.{map, nat_lt, ◌&&◌, IsTrue}
use Rattle.std.specs.List.{AllByRecursion}
use Rattle.std.proofs.lemmas.List.{drop_more, drop_all}
use Rattle.std.proofs.lemmas.Bool.Decides.{nat_tests}
use Rattle.m3_isa.specs.declared.instructions.Instr.{Instr}
use Rattle.m3_isa.specs.Instructions.{is_point}
use Rattle.m3_tables.specs.Numbers.{rises, has}
use Rattle.m3_tables.specs.Sections.{contents_fit}
use Rattle.m3_tables.specs.Rows.{Entry}
use Rattle.m3_tables.specs.declared.place.Location.{Location}
use Rattle.m3_tables_writer.specs.declared.plain.RowPlain.{RowPlain}
use Rattle.m3_tables_writer.specs.declared.plain.DerivedPlain.{DerivedPlain}
use Rattle.m3_tables_writer.specs.Plain.{Plain, plain_of, plains_of, place_numbers, entry_plain, AreNumbered, IsDerived, IsRow, tidy_plain, contents_plain}
use Rattle.m3_image_sections.specs.Ranges.{points_from}
use Rattle.m3_plain_image.specs.Image.{empty_row, in_first_file}

-- ---- their form

nil-map : {A B : Type 0} (f : A → B) (xs : List A) → map f xs ≡ [] → xs ≡ []
nil-map f [] e = refl
nil-map {A} {B} f (x ∷ xs) e = absurd (cons-nil e)
  where
    cons-nil : ◌≡◌ {A = List B} (f x ∷ map f xs) [] → ⊥
    cons-nil e = cc

none-numbered : (ls : List Location) → place_numbers ls ≡ [] → AreNumbered ls
none-numbered ls e = subst AreNumbered (sym (nil-map _ ls e)) tt

none-derived : (ds : List DerivedPlain) → map entry_plain ds ≡ [] → AllByRecursion IsDerived ds
none-derived ds e = subst (AllByRecursion IsDerived) (sym (nil-map entry_plain ds e)) tt

is_row : (row : RowPlain) (k : ℕ) → plain_of row ≡ empty_row k → IsRow row
is_row row k e = record {
  tidy = none-numbered row.tidy.items (ap (λ (p : Plain). p.tidy) e);
  arguments = none-numbered row.arguments.items (ap (λ (p : Plain). p.contents.arguments) e);
  passed = none-numbered row.passed.items (ap (λ (p : Plain). p.contents.passed) e);
  derived = none-derived row.derived.items (ap (λ (p : Plain). p.contents.derived) e);
  rising = ap (λ (p : Plain). rises p.tidy) e;
  fits = fits-by row k e;
}
  where
    fits-by : (row : RowPlain) (k : ℕ) → plain_of row ≡ empty_row k → IsTrue (contents_fit (has (tidy_plain row)) (contents_plain row))
    fits-by row k e = ap (λ (p : Plain). contents_fit (has p.tidy) p.contents) e

first-plain : (p q : Plain) (ps qs : List Plain) → ◌≡◌ {A = List Plain} (p ∷ ps) (q ∷ qs) → p ≡ q
first-plain p q ps qs e = cc

other-plains : (p q : Plain) (ps qs : List Plain) → ◌≡◌ {A = List Plain} (p ∷ ps) (q ∷ qs) → ps ≡ qs
other-plains p q ps qs e = cc

pub are_rows : (rows : List RowPlain) (ks : List ℕ) → plains_of rows ≡ map empty_row ks → AllByRecursion IsRow rows
are_rows [] ks e = tt
are_rows (row ∷ rows) [] e = absurd (cons-nil e)
  where
    cons-nil : ◌≡◌ {A = List Plain} (plain_of row ∷ plains_of rows) [] → ⊥
    cons-nil e = cc
are_rows (row ∷ rows) (k ∷ ks) e = (is_row row k (first-plain _ _ _ _ e), are_rows rows ks (other-plains _ _ _ _ e))

-- ---- their order

rises_by : (m n : ℕ) (later : List ℕ) (b : Bool) → m < n → rises (n ∷ later) ≡ true → rises (m ∷ later) ≡ true → rises (m ∷ cond b (n ∷ later) later) ≡ true
rises_by m n later true h one other = let below : nat_lt m n ≡ true = grind (arith, nat_tests) in ap (λ b. b && rises (n ∷ later)) below ∙ one
rises_by m n later false h one other = other

rises_after : (m n : ℕ) (code : List Instr) → m < n → rises (m ∷ points_from n code) ≡ true
rises_after m n [] h = refl
rises_after m n (i ∷ code) h = rises_by m n (points_from (suc n) code) (is_point i.op) h (rises_after n (suc n) code (omega arith)) (rises_after m (suc n) code (omega arith))

either_rises : (xs ys : List ℕ) (b : Bool) → rises xs ≡ true → rises ys ≡ true → rises (cond b xs ys) ≡ true
either_rises xs ys true h k = h
either_rises xs ys false h k = k

points_rise : (n : ℕ) (code : List Instr) → rises (points_from n code) ≡ true
points_rise n [] = refl
points_rise n (i ∷ code) = either_rises (n ∷ points_from (suc n) code) (points_from (suc n) code) (is_point i.op) (rises_after n (suc n) code (omega arith)) (points_rise (suc n) code)

instrs_of : (rows : List RowPlain) → map (λ (r : RowPlain). r.instr) rows ≡ map (λ (p : Plain). p.instr) (plains_of rows)
instrs_of [] = refl
instrs_of (row ∷ rows) = ap (λ l. row.instr ∷ l) (instrs_of rows)

instrs_back : (ks : List ℕ) → map (λ (p : Plain). p.instr) (map empty_row ks) ≡ ks
instrs_back [] = refl
instrs_back (k ∷ ks) = ap (λ l. k ∷ l) (instrs_back ks)

pub rows_rise : (rows : List RowPlain) (code : List Instr) → plains_of rows ≡ map empty_row (points_from 0 code) → IsTrue (rises (map (λ (r : RowPlain). r.instr) rows))
rows_rise rows code e = ap rises (instrs_of rows ∙ ap (map (λ (p : Plain). p.instr)) e ∙ instrs_back (points_from 0 code)) ∙ points_rise 0 code
