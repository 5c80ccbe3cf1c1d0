-- The section of the tables: a count of rows, a directory with each row's instruction and where the row
-- begins after the directory, and the rows. What each row says, which rows are bad, and what is wrong
-- with the section first.
use Rattle.std.specs.Prelude.{ℕ, zero, suc, ◌+◌, ◌*◌, ◌-◌, ◌%◌, ◌^◌, nat_lt, ◌==◌, if◌then◌else◌, Bool, true, false, not, ◌&&◌, ◌||◌, List, [], ◌∷◌, ◌++◌, filter, length, drop, Option, Some, None, is_none}
use Rattle.std.specs.List.{list_any, list_all}
use Rattle.std.specs.Option.{option_map_or}
use Rattle.m3_tables.specs.Numbers.{word_in, has, rises}
use Rattle.m3_tables.specs.Rows.{Bases, Entry, Contents, nothing, Tidies, All_of, Changed, Unchanged}
use Rattle.m3_tables.specs.Fields.{◌>>=◌, tidies_at, contents_at}

-- ---- where things are

-- the instruction of a row
abbrev pub instruction_in : List ℕ → ℕ → ℕ
instruction_in section row = word_in (drop (4 + 8 * row) section)

-- where a row begins by the directory, counted from the directory's end
abbrev pub offset_in : List ℕ → ℕ → ℕ
offset_in section row = word_in (drop (8 + 8 * row) section)

-- the bytes after the directory
abbrev pub body_of : List ℕ → List ℕ
body_of section = drop (4 + 8 * word_in section) section

-- the bytes from a row's beginning on
abbrev pub row_in : List ℕ → ℕ → List ℕ
row_in section row = drop (offset_in section row) (body_of section)

-- ---- what a row says

-- whether a place is tidy, by whether it was tidy before
abbrev pub tidies : Tidies → Bool → ℕ → Bool
tidies (All_of places) before l = has places l
tidies (Changed removed added) before l = has added l || (before && not (has removed l))
tidies Unchanged before l = before

abbrev pub tidies_then : Option (Tidies × List ℕ) → Bool → ℕ → Bool
tidies_then None before l = false
tidies_then (Some found) before l = tidies found.0 before l

-- whether a place is tidy at a row
unfoldable pub is_tidy : List ℕ → ℕ → ℕ → Bool
is_tidy section zero l = tidies_then (tidies_at (row_in section 0)) false l
is_tidy section (suc row) l = tidies_then (tidies_at (row_in section (suc row))) (is_tidy section row l) l

-- whether it was tidy at the row before
abbrev pub was_tidy : List ℕ → ℕ → ℕ → Bool
was_tidy section zero l = false
was_tidy section (suc row) l = is_tidy section row l

-- the tidy places, by those of the row before: the ones that come, and those that stay
abbrev pub tidies_list : Tidies → List ℕ → List ℕ
tidies_list (All_of places) before = places
tidies_list (Changed removed added) before = added ++ filter (λ l. not (has removed l)) before
tidies_list Unchanged before = before

-- the tidy places of a row
unfoldable pub tidy_list : List ℕ → ℕ → List ℕ
tidy_list section zero = option_map_or (λ found. tidies_list found.0 []) (tidies_at (row_in section 0)) []
tidy_list section (suc row) = option_map_or (λ found. tidies_list found.0 (tidy_list section row)) (tidies_at (row_in section (suc row))) []

-- those of the row before
abbrev pub was_list : List ℕ → ℕ → List ℕ
was_list section zero = []
was_list section (suc row) = tidy_list section row

-- what a row says of the rest, by what the row before said
abbrev pub contents_then : Tidies → Contents → List ℕ → Contents
contents_then Unchanged before bytes = before
contents_then (All_of places) before bytes = option_map_or (λ found. found.0) (contents_at bytes) nothing
contents_then (Changed removed added) before bytes = option_map_or (λ found. found.0) (contents_at bytes) nothing

unfoldable pub contents_in : List ℕ → ℕ → Contents
contents_in section zero = option_map_or (λ found. contents_then found.0 nothing found.1) (tidies_at (row_in section 0)) nothing
contents_in section (suc row) = option_map_or (λ found. contents_then found.0 (contents_in section row) found.1) (tidies_at (row_in section (suc row))) nothing

-- the bytes after a row
abbrev pub past_contents : Tidies → List ℕ → Option (List ℕ)
past_contents Unchanged bytes = Some bytes
past_contents (All_of places) bytes = contents_at bytes >>= λ found. Some found.1
past_contents (Changed removed added) bytes = contents_at bytes >>= λ found. Some found.1

unfoldable pub past_row : List ℕ → Option (List ℕ)
past_row bytes = do
  found ← tidies_at bytes
  past_contents found.0 found.1

-- ---- the form of a row

-- whether a place is one of the tidy ones, of the arguments or of the formals that the caller describes
abbrev pub is_listed : (ℕ → Bool) → Contents → ℕ → Bool
is_listed tidy c l = tidy l || (has c.arguments l || has c.passed l)

-- whether a place is that of a derived word
abbrev pub is_derived : List Entry → ℕ → Bool
is_derived entries l = list_any (λ e. e.location == l) entries

-- whether a place is a path's
abbrev pub is_path : List Entry → ℕ → Bool
is_path entries l = list_any (λ e. option_map_or (λ p. p == l) e.path false) entries

-- the bases are listed, or are derived words of later entries
abbrev pub bases_known : (ℕ → Bool) → List Entry → Bases → Bool
bases_known listed later way =
    list_all (λ l. listed l || is_derived later l) way.added && list_all (λ l. listed l || is_derived later l) way.subtracted

-- a word without a path has one way; one with a path has at least two, and the path is no listed place
abbrev pub path_fits : (ℕ → Bool) → Entry → Bool
path_fits listed e = option_map_or (λ p. not (listed p) && nat_lt 1 (length e.ways)) e.path (length e.ways == 1)

-- an entry among all, with those after it
abbrev pub entry_fits : (ℕ → Bool) → List Entry → List Entry → Entry → Bool
entry_fits listed all later e =
    (not (listed e.location) && not (is_derived later e.location)) && (not (is_path all e.location) && (path_fits listed e && list_all (bases_known listed later) e.ways))

abbrev pub entries_fit : (ℕ → Bool) → List Entry → List Entry → Bool
entries_fit listed all [] = true
entries_fit listed all (e ∷ later) = entry_fits listed all later e && entries_fit listed all later

-- The lists rise, the tidy places, the arguments and the formals have none in common, and the entries fit.
abbrev pub contents_fit : (ℕ → Bool) → Contents → Bool
contents_fit tidy c =
    (rises c.arguments && rises c.passed)
    && ((list_all (λ l. not (tidy l)) c.arguments && list_all (λ l. not (tidy l || has c.arguments l)) c.passed) && entries_fit (is_listed tidy c) c.derived c.derived)

-- ---- which rows are bad

-- the tidy places are told in lists that rise
abbrev pub tidies_rise : Tidies → Bool
tidies_rise (All_of places) = rises places
tidies_rise (Changed removed added) = rises removed && rises added
tidies_rise Unchanged = true

-- Each sixteenth row tells all its tidy places. A change removes what is there and adds what isn't.
abbrev pub tidies_fit : ℕ → (ℕ → Bool) → Tidies → Bool
tidies_fit row before (All_of places) = true
tidies_fit row before (Changed removed added) = not (row % 16 == 0) && (list_all before removed && list_all (λ l. not (before l)) added)
tidies_fit row before Unchanged = not (row % 16 == 0)

-- what follows how the tidy places are told
abbrev pub rest_fits : (ℕ → Bool) → Tidies → List ℕ → Bool
rest_fits tidy Unchanged bytes = true
rest_fits tidy (All_of places) bytes = option_map_or (λ found. contents_fit tidy found.0) (contents_at bytes) false
rest_fits tidy (Changed removed added) bytes = option_map_or (λ found. contents_fit tidy found.0) (contents_at bytes) false

-- where a row begins: at first at the directory's end, and else where the row before ends
abbrev pub start_of : List ℕ → ℕ → ℕ
start_of section zero = 0
start_of section (suc row) = option_map_or (λ rest. length (body_of section) - length rest) (past_row (row_in section row)) 0

-- its instruction is above that of the row before
abbrev pub instruction_rises : List ℕ → ℕ → Bool
instruction_rises section zero = true
instruction_rises section (suc row) = nat_lt (instruction_in section row) (instruction_in section (suc row))

-- a row's lists of tidy places rise, where they are there
abbrev pub row_rises : List ℕ → ℕ → Bool
row_rises section row = option_map_or (λ found. tidies_rise found.0) (tidies_at (row_in section row)) false

abbrev pub row_fits : List ℕ → ℕ → Bool
row_fits section row = option_map_or (λ found. tidies_fit row (was_tidy section row) found.0 && rest_fits (is_tidy section row) found.0 found.1) (tidies_at (row_in section row)) false

unfoldable pub is_good : List ℕ → ℕ → Bool
is_good section row = (instruction_rises section row && offset_in section row == start_of section row) && (row_rises section row && row_fits section row)

-- the first bad row of so many
unfoldable pub first_bad : List ℕ → ℕ → Option ℕ
first_bad section zero = None
first_bad section (suc n) = option_map_or (λ row. Some row) (first_bad section n) (if is_good section n then None else Some n)

-- ---- what is wrong with a section first

-- the bytes don't hold the directory: 0 where they don't hold the count, and else the count
abbrev pub directory_fault : List ℕ → Option ℕ
directory_fault section =
    if nat_lt (length section) 4 then Some 0
    else (if nat_lt (length section) (4 + 8 * word_in section) then Some (word_in section) else None)

-- bytes after the last row
abbrev pub end_fault : List ℕ → Option ℕ
end_fault section = if start_of section (word_in section) == length (body_of section) then None else Some (word_in section)

abbrev pub first_fault : Option ℕ → Option ℕ → Option ℕ
first_fault first second = option_map_or (λ n. Some n) first second

-- the directory first, then the rows in order, then bytes after them
unfoldable pub fault_of : List ℕ → Option ℕ
fault_of section = first_fault (directory_fault section) (first_fault (first_bad section (word_in section)) (end_fault section))

-- ---- tests of all places of a row

abbrev pub told_pass : (ℕ → Bool) → Tidies → Bool → Bool
told_pass test (All_of places) before = list_all test places
told_pass test (Changed removed added) before = list_all test added && before
told_pass test Unchanged before = before

-- each place that a row adds, or tells with all, and those of the rows before it back to one that tells all
abbrev pub told_all : (ℕ → Bool) → Option (Tidies × List ℕ) → Bool → Bool
told_all test None before = true
told_all test (Some found) before = told_pass test found.0 before

-- a test of each tidy place of a row, by the lists that tell them
unfoldable pub tidy_all : (ℕ → Bool) → List ℕ → ℕ → Bool
tidy_all test section zero = told_all test (tidies_at (row_in section 0)) true
tidy_all test section (suc row) = told_all test (tidies_at (row_in section (suc row))) (tidy_all test section row)

-- a test of each place of the rest of a row
abbrev pub entry_passes : (ℕ → Bool) → Entry → Bool
entry_passes test e = test e.location && option_map_or test e.path true

abbrev pub derived_pass : (ℕ → Bool) → Contents → Bool
derived_pass test c = list_all test c.passed && list_all (entry_passes test) c.derived

-- from the lowest on and below the limit
abbrev pub is_between : ℕ → ℕ → ℕ → Bool
is_between lowest limit l = not (nat_lt l lowest) && nat_lt l limit

-- Each slot that a row names is below the frame: a place that was tidy before and isn't any more is none
-- that it names.
abbrev pub is_within : List ℕ → ℕ → ℕ → Bool
is_within section row frame =
    tidy_all (λ l. not (is_tidy section row l) || nat_lt l (frame + 16)) section row
    && (list_all (is_between 0 (frame + 16)) (contents_in section row).arguments && derived_pass (is_between 0 (frame + 16)) (contents_in section row))

-- whether none of so many registers, from the first on, is tidy
unfoldable pub are_free : (ℕ → Bool) → ℕ → Bool
are_free tidy zero = true
are_free tidy (suc n) = are_free tidy n && not (tidy n)

-- no register is a tidy place, a formal that the caller describes, a derived word or a path
abbrev pub spares_registers : List ℕ → ℕ → Bool
spares_registers section row =
    are_free (is_tidy section row) 16 && derived_pass (is_between 16 (2 ^ 32)) (contents_in section row)

-- what the directory gives for a row, where the bytes hold it
abbrev pub listed_in : List ℕ → ℕ → Option ℕ
listed_in section row = if is_none (directory_fault section) && nat_lt row (word_in section) then Some (instruction_in section row) else None
