-- What it is that a section says just these rows.
use Rattle.std.specs.Prelude.{◌≡◌, ℕ, List, length, Some, None}
use Rattle.std.specs.List.{slice_get}
use Rattle.m3_tables.specs.Numbers.{word_in, has}
use Rattle.m3_tables_writer.specs.Plain.{Plain}
use Rattle.m3_tables.specs.Sections.{instruction_in, is_tidy, contents_in, fault_of}

-- a row of a section says this
pub record SaysRow (section : List ℕ) (number : ℕ) (row : Plain) : Type 0 where
  pub instr : instruction_in section number ≡ row.instr
  pub tidy : (l : ℕ) → is_tidy section number l ≡ has row.tidy l
  pub contents : contents_in section number ≡ row.contents

-- nothing is wrong with the section, and its rows say these in their order
pub record Tabulates (section : List ℕ) (rows : List Plain) : Type 0 where
  pub sound : fault_of section ≡ None
  pub count : word_in section ≡ length rows
  pub rows_said : (number : ℕ) (row : Plain) → slice_get rows number ≡ Some row → SaysRow section number row
