-- A row to be written, with its places as numbers, and the form that it must have.
use Rattle.std.specs.Prelude.{ℕ, ◌<◌, ◌^◌, ◌-◌, List, map, length, IsTrue, IsSome, IfSome, unwrap_or}
use Rattle.std.specs.Option.{option_map}
use Rattle.std.specs.List.{AllByRecursion}
use Rattle.m3_tables.specs.declared.place.Location.{Location}
use Rattle.m3_tables_writer.specs.declared.plain.Way.{Way}
use Rattle.m3_tables_writer.specs.declared.plain.DerivedPlain.{DerivedPlain}
use Rattle.m3_tables_writer.specs.declared.plain.RowPlain.{RowPlain}
use Rattle.m3_tables.specs.Numbers.{has, rises}
use Rattle.m3_tables.specs.Places.{number_of}
use Rattle.m3_tables.specs.Rows.{Bases, Entry, Contents}
use Rattle.m3_tables.specs.Sections.{contents_fit}

-- the number of a place, where it has one
abbrev pub place_number : Location → ℕ
place_number l = unwrap_or (number_of l) 0

abbrev pub place_numbers : List Location → List ℕ
place_numbers ls = map place_number ls

abbrev pub bases_plain : Way → Bases
bases_plain way = record { added = place_numbers way.added.items; subtracted = place_numbers way.subtracted.items }

abbrev pub entry_plain : DerivedPlain → Entry
entry_plain d = record { location = place_number d.location; path = option_map place_number d.path; ways = map bases_plain d.ways.items }

abbrev pub contents_plain : RowPlain → Contents
contents_plain row =
    record { arguments = place_numbers row.arguments.items; passed = place_numbers row.passed.items; derived = map entry_plain row.derived.items }

abbrev pub tidy_plain : RowPlain → List ℕ
tidy_plain row = place_numbers row.tidy.items

-- a row with its places as numbers
pub record Plain : Type 0 where
  pub instr : ℕ
  pub tidy : List ℕ
  pub contents : Contents

abbrev pub plain_of : RowPlain → Plain
plain_of row = record { instr = row.instr; tidy = tidy_plain row; contents = contents_plain row }

abbrev pub plains_of : List RowPlain → List Plain
plains_of rows = map plain_of rows

-- ---- the form of a row

-- each place has a number
abbrev pub AreNumbered : List Location → Type 0
AreNumbered ls = AllByRecursion (λ l. IsSome (number_of l)) ls

-- what a byte each can count
pub record IsWay (way : Way) : Type 0 where
  pub added : AreNumbered way.added.items
  pub subtracted : AreNumbered way.subtracted.items
  pub few_added : length way.added.items < 2 ^ 8
  pub few_subtracted : length way.subtracted.items < 2 ^ 8

-- a path isn't the place whose number says that there is none
pub record IsDerived (d : DerivedPlain) : Type 0 where
  pub location : IsSome (number_of d.location)
  pub path : IfSome d.path (λ l. IsSome (number_of l) × (place_number l < 2 ^ 32 - 1))
  pub ways : AllByRecursion IsWay d.ways.items
  pub few : length d.ways.items < 2 ^ 16

-- all places have numbers, the tidy ones rise, and the rest fits to them
pub record IsRow (row : RowPlain) : Type 0 where
  pub tidy : AreNumbered row.tidy.items
  pub arguments : AreNumbered row.arguments.items
  pub passed : AreNumbered row.passed.items
  pub derived : AllByRecursion IsDerived row.derived.items
  pub rising : IsTrue (rises (tidy_plain row))
  pub fits : IsTrue (contents_fit (has (tidy_plain row)) (contents_plain row))
