-- The bytes of rows that are written: which of the three forms each row gets, and the bytes of each form.
use Rattle.std.specs.Prelude.{ℕ, suc, ◌+◌, ◌%◌, ◌-◌, ◌^◌, ◌==◌, if◌then◌else◌, Bool, true, false, not, ◌&&◌, List, [], ◌∷◌, ◌++◌, length, filter, Option, Some, None, unwrap_or}
use Rattle.std.specs.List.{flat_map}
use Rattle.std.specs.Cmp.Lexicographic.{pointwise}
use Rattle.std.specs.Prelude.{nat_eq}
use Rattle.byteorder.specs.Endian.{little_bytes}
use Rattle.m3_tables.specs.Numbers.{has}
use Rattle.m3_tables.specs.Rows.{Bases, Entry, Contents}
use Rattle.m3_tables_writer.specs.Plain.{Plain}

-- ---- fields

unfoldable pub word_bytes : ℕ → List ℕ
word_bytes n = little_bytes 4 n

unfoldable pub half_bytes : ℕ → List ℕ
half_bytes n = little_bytes 2 n

unfoldable pub list_bytes : List ℕ → List ℕ
list_bytes ns = word_bytes (length ns) ++ flat_map word_bytes ns

unfoldable pub bases_bytes : Bases → List ℕ
bases_bytes way = length way.added ∷ length way.subtracted ∷ (flat_map word_bytes way.added ++ flat_map word_bytes way.subtracted)

unfoldable pub entry_bytes : Entry → List ℕ
entry_bytes e =
    word_bytes e.location ++ (word_bytes (unwrap_or e.path (2 ^ 32 - 1)) ++ (half_bytes (length e.ways) ++ flat_map bases_bytes e.ways))

unfoldable pub contents_bytes : Contents → List ℕ
contents_bytes c =
    list_bytes c.arguments ++ (list_bytes c.passed ++ (word_bytes (length c.derived) ++ flat_map entry_bytes c.derived))

-- ---- the three forms of a row

-- all tidy places, and the rest
unfoldable pub ground_bytes : Plain → List ℕ
ground_bytes row = 0 ∷ (list_bytes row.tidy ++ contents_bytes row.contents)

-- those of some places that aren't among others
abbrev pub missing : List ℕ → List ℕ → List ℕ
missing places others = filter (λ l. not (has others l)) places

-- the tidy places that go and those that come, and the rest
unfoldable pub change_bytes : Plain → Plain → List ℕ
change_bytes before row =
    1 ∷ (list_bytes (missing before.tidy row.tidy) ++ (list_bytes (missing row.tidy before.tidy) ++ contents_bytes row.contents))

abbrev pub same_bases : Bases → Bases → Bool
same_bases a b = pointwise nat_eq a.added b.added && pointwise nat_eq a.subtracted b.subtracted

abbrev pub same_path : Option ℕ → Option ℕ → Bool
same_path None None = true
same_path None (Some q) = false
same_path (Some p) None = false
same_path (Some p) (Some q) = p == q

abbrev pub same_entry : Entry → Entry → Bool
same_entry a b = a.location == b.location && (same_path a.path b.path && pointwise same_bases a.ways b.ways)

-- the tidy places, the arguments, the formals that the caller describes and the derived words are the same
abbrev pub same_row : Plain → Plain → Bool
same_row a b =
    pointwise nat_eq a.tidy b.tidy
    && (pointwise nat_eq a.contents.arguments b.contents.arguments && (pointwise nat_eq a.contents.passed b.contents.passed && pointwise same_entry a.contents.derived b.contents.derived))

abbrev pub after_bytes : Option Plain → Plain → List ℕ
after_bytes None row = ground_bytes row
after_bytes (Some before) row = if same_row before row then 2 ∷ [] else change_bytes before row

-- Each sixteenth row tells all its tidy places. Another row that is the same as the one before is a byte, and
-- any other tells the change.
unfoldable pub row_bytes : ℕ → Option Plain → Plain → List ℕ
row_bytes number before row = if number % 16 == 0 then ground_bytes row else after_bytes before row

-- ---- the section

-- the rows from a number on
unfoldable pub body_bytes : ℕ → Option Plain → List Plain → List ℕ
body_bytes number before [] = []
body_bytes number before (row ∷ rows) = row_bytes number before row ++ body_bytes (suc number) (Some row) rows

-- the directory of the rows from a number on, by where the first of them begins
unfoldable pub directory_bytes : ℕ → ℕ → Option Plain → List Plain → List ℕ
directory_bytes start number before [] = []
directory_bytes start number before (row ∷ rows) =
    word_bytes row.instr ++ (word_bytes start ++ directory_bytes (start + length (row_bytes number before row)) (suc number) (Some row) rows)

unfoldable pub table_bytes : List Plain → List ℕ
table_bytes rows = word_bytes (length rows) ++ (directory_bytes 0 0 None rows ++ body_bytes 0 None rows)
