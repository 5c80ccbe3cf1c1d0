-- What every good row keeps.
use Rattle.std.specs.Prelude.{◌≡◌, ℕ, ◌+◌, ◌≤◌, ◌||◌, Bool, true, false, List, length, drop, Some, None}
use Rattle.std.specs.List.{slice_get}
use Rattle.m3_tables.specs.Numbers.{has, rises}
use Rattle.m3_tables.specs.Rows.{Bases, Entry, Contents}
use Rattle.m3_tables.specs.Sections.{is_tidy, contents_in, is_listed, is_derived, is_path}

-- each base of a way is a listed place, or the place of a later derived word
pub record BasesKept (listed : ℕ → Bool) (later : List Entry) (way : Bases) : Type 0 where
  pub added : (l : ℕ) → has way.added l ≡ true → (listed l || is_derived later l) ≡ true
  pub subtracted : (l : ℕ) → has way.subtracted l ≡ true → (listed l || is_derived later l) ≡ true

-- a derived word's place is no listed one, none of a later derived word and no path; its ways are one, or
-- several with a path, which is no listed place
pub record EntryKept (listed : ℕ → Bool) (all later : List Entry) (e : Entry) : Type 0 where
  pub apart : listed e.location ≡ false
  pub once : is_derived later e.location ≡ false
  pub no_path : is_path all e.location ≡ false
  pub one_way : e.path ≡ None → length e.ways ≡ 1
  pub many_ways : (p : ℕ) → e.path ≡ Some p → (listed p ≡ false) × (2 ≤ length e.ways)
  pub bases : (n : ℕ) (way : Bases) → slice_get e.ways n ≡ Some way → BasesKept listed later way

-- the tidy places, the arguments, the formals that the caller describes and the derived words have no place in
-- common
pub record ContentsKept (tidy : ℕ → Bool) (c : Contents) : Type 0 where
  pub arguments_rise : rises c.arguments ≡ true
  pub passed_rise : rises c.passed ≡ true
  pub arguments_apart : (l : ℕ) → has c.arguments l ≡ true → tidy l ≡ false
  pub passed_apart : (l : ℕ) → has c.passed l ≡ true → (tidy l ≡ false) × (has c.arguments l ≡ false)
  pub entries : (n : ℕ) (e : Entry) → slice_get c.derived n ≡ Some e → EntryKept (is_listed tidy c) c.derived (drop (n + 1) c.derived) e

-- of a row of a section
abbrev pub RowKept : List ℕ → ℕ → Type 0
RowKept section row = ContentsKept (is_tidy section row) (contents_in section row)
