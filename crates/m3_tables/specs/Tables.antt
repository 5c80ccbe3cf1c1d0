-- What a view of the tables and its rows stand for.
use Rattle.std.specs.Prelude.{◌≡◌, ℕ, Bool, false, List, unwrap_or}
use Rattle.std.specs.Option.{option_map_or}
use Rattle.m3_tables.specs.declared.place.Location.{Location}
use Rattle.m3_tables.specs.declared.table.TableView.{TableView}
use Rattle.m3_tables.specs.declared.table.TableFront.{TableFront}
use Rattle.m3_tables.specs.declared.row.Row.{Row}
use Rattle.m3_tables.specs.Numbers.{word_in, has}
use Rattle.m3_tables.specs.Places.{number_of}
use Rattle.m3_tables.specs.Rows.{Entry}
use Rattle.m3_tables.specs.Sections.{is_tidy, tidy_list, contents_in, first_bad, end_fault, first_fault}

-- the bytes of the section
abbrev pub section_of : TableView → List ℕ
section_of t = t.section.bytes.now

-- how many rows the view shows
abbrev pub row_count : TableView → ℕ
row_count t = t.rows

abbrev pub section_of_row : Row → List ℕ
section_of_row r = r.section.bytes.now

abbrev pub number_of_row : Row → ℕ
number_of_row r = r.number

-- the rows of a section before the first bad one, and what is wrong behind them
pub record IsFront (section : List ℕ) (front : TableFront) : Type 0 where
  pub bytes : section_of front.rows ≡ section
  pub rows : row_count front.rows ≡ unwrap_or (first_bad section (word_in section)) (word_in section)
  pub fault : front.fault ≡ first_fault (first_bad section (word_in section)) (end_fault section)

-- whether a place is one that a test of numbers takes; a place without a number is none
abbrev pub is_place_in : (ℕ → Bool) → Location → Bool
is_place_in test l = option_map_or test (number_of l) false

-- whether a place is tidy in a row, an argument, or a formal that the caller describes
abbrev pub is_tidy_in : Row → Location → Bool
is_tidy_in r l = is_place_in (is_tidy (section_of_row r) (number_of_row r)) l

abbrev pub is_argument_in : Row → Location → Bool
is_argument_in r l = is_place_in (has (contents_in (section_of_row r) (number_of_row r)).arguments) l

abbrev pub is_passed_in : Row → Location → Bool
is_passed_in r l = is_place_in (has (contents_in (section_of_row r) (number_of_row r)).passed) l

-- the tidy places of a row, its arguments, and the formals that the caller describes
abbrev pub tidy_in : Row → List ℕ
tidy_in r = tidy_list (section_of_row r) (number_of_row r)

abbrev pub arguments_in : Row → List ℕ
arguments_in r = (contents_in (section_of_row r) (number_of_row r)).arguments

abbrev pub passed_in : Row → List ℕ
passed_in r = (contents_in (section_of_row r) (number_of_row r)).passed

-- the derived words of a row
abbrev pub derived_in : Row → List Entry
derived_in r = (contents_in (section_of_row r) (number_of_row r)).derived
