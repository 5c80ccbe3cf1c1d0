-- Rows that have the form are such as are read again.
use Rattle.std.proofs.Common.{◌≡◌, ℕ, ◌+◌, ◌-◌, ◌^◌, ◌<◌, ◌≤◌, ltb, List, [], ◌∷◌, ◌++◌, length, get_or, take, Option, Some, None, refl, ap, subst, arith, inl, inr}
use Rattle.std.specs.Prelude.{map, IfSome, IsSome}
use Rattle.m3_tables.specs.Places.{number_of}
use Rattle.std.specs.Option.{option_map}
use Rattle.std.specs.List.{AllByRecursion}
use Rattle.std.proofs.lemmas.Bool.{ltb-true}
use Rattle.std.proofs.lemmas.List.{length-map, take_more, take_all}
use Rattle.m3_tables.specs.declared.place.Location.{Location}
use Rattle.m3_tables.specs.declared.place.Location.TheVariants.{Register, Slot}
use Rattle.m3_tables_writer.specs.declared.plain.Way.{Way}
use Rattle.m3_tables_writer.specs.declared.plain.DerivedPlain.{DerivedPlain}
use Rattle.m3_tables_writer.specs.declared.plain.RowPlain.{RowPlain}
use Rattle.m3_tables_writer.specs.Plain.{place_number, place_numbers, bases_plain, entry_plain, plain_of, plains_of, IsDerived, IsRow}
use Rattle.m3_tables_writer.proofs.Missing.{test}
use Rattle.m3_tables_writer.proofs.Again.{AreSmall, IsSmallBases, IsSmallEntry}
use Rattle.m3_tables_writer.proofs.AgainRows.{FitsPlain}

place_small : (l : Location) → place_number l < 2 ^ 32
place_small (Register r) =
    elim (test (ltb r 16)) [
      | inl low ↦ (let lt = ltb-true r 16 low in rw low (omega arith))
      | inr high ↦ rw high (omega arith)
    ]
place_small (Slot s) =
    elim (test (ltb (s + 16) (2 ^ 32))) [
      | inl low ↦ (let lt = ltb-true (s + 16) (2 ^ 32) low in rw low lt)
      | inr high ↦ rw high (omega arith)
    ]

places_small : (ls : List Location) → AreSmall (place_numbers ls)
places_small [] = tt
places_small (l ∷ ls) = (place_small l, places_small ls)

ways_small : (ws : List Way) → AllByRecursion IsSmallBases (map bases_plain ws)
ways_small [] = tt
ways_small (w ∷ ws) = (record { added = places_small w.added.items; subtracted = places_small w.subtracted.items }, ways_small ws)

path_small : (p : Option Location) → IfSome p (λ l. IsSome (number_of l) × (place_number l < 2 ^ 32 - 1)) → IfSome (option_map place_number p) (λ n. n < 2 ^ 32 - 1)
path_small None h = tt
path_small (Some l) h = h.1

entries_small : (ds : List DerivedPlain) → AllByRecursion IsDerived ds → AllByRecursion IsSmallEntry (map entry_plain ds)
entries_small [] form = tt
entries_small (d ∷ ds) form =
    (record { location = place_small d.location; path = path_small d.path form.0.path; ways = ways_small d.ways.items; few = omega (arith, form.0.few, length-map d.ways.items bases_plain) }, entries_small ds form.1)

row_fits : (row : RowPlain) → IsRow row → row.instr < 2 ^ 32 → FitsPlain (plain_of row)
row_fits row form lt =
    record {
      instr = lt;
      tidy = places_small row.tidy.items;
      small = record { arguments = places_small row.arguments.items; passed = places_small row.passed.items; derived = entries_small row.derived.items form.derived };
      rising = form.rising;
      fits = form.fits;
    }

abbrev pub IsNumber : RowPlain → Type 0
IsNumber row = row.instr < 2 ^ 32

pub rows_fit : (rows : List RowPlain) → AllByRecursion IsRow rows → AllByRecursion IsNumber rows → AllByRecursion FitsPlain (plains_of rows)
rows_fit [] form numbers = tt
rows_fit (row ∷ rows) form numbers = (row_fits row form.0 numbers.0, rows_fit rows form.1 numbers.1)

pub same_instructions : (rows : List RowPlain) → map (λ r. r.instr) (plains_of rows) ≡ map (λ (r : RowPlain). r.instr) rows
same_instructions [] = refl
same_instructions (row ∷ rows) = ap (λ (ns : List ℕ). row.instr ∷ ns) (same_instructions rows)

-- numbers that were read are numbers
numbers_push : (rows : List RowPlain) (row : RowPlain) → AllByRecursion IsNumber rows → IsNumber row → AllByRecursion IsNumber (rows ++ row ∷ [])
numbers_push [] row h lt = (lt, tt)
numbers_push (r ∷ rows) row h lt = (h.0, numbers_push rows row h.1 lt)

pub numbers_more : (rows : List RowPlain) (i : ℕ) (row : RowPlain) → i < length rows → row ≡ get_or rows i row → AllByRecursion IsNumber (take i rows) → IsNumber row → AllByRecursion IsNumber (take (i + 1) rows)
numbers_more rows i row lt e h small = rw (take_more rows i row lt, ← e) (numbers_push (take i rows) row h small)

pub numbers_all : (rows : List RowPlain) (n : ℕ) → length rows ≤ n → AllByRecursion IsNumber (take n rows) → AllByRecursion IsNumber rows
numbers_all rows n le h = subst (λ (rs : List RowPlain). AllByRecursion IsNumber rs) (take_all n rows le) h
