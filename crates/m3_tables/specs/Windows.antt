-- Marks of places, and what the derived words of a row have to be to each other at the places that pass a test.
use Rattle.std.specs.Prelude.{◌≡◌, ℕ, ◌+◌, ◌-◌, nat_lt, Bool, true, false, not, ◌&&◌, ◌||◌, List, [], ◌∷◌, length, Option, None, Some, if◌then◌else◌, slice_index_or}
use Rattle.std.specs.List.{list_all}
use Rattle.std.specs.Option.{option_map_or}
use Rattle.m3_tables.specs.Rows.{Bases, Entry}
use Rattle.m3_tables.specs.Sections.{is_between, is_derived, path_fits, bases_known}

-- whether a place has a mark, where the first is that of `from`
abbrev pub has_mark : List Bool → ℕ → ℕ → Bool
has_mark marks from l = is_between from (from + length marks) l

-- whether a place is marked
abbrev pub mark_at : List Bool → ℕ → ℕ → Bool
mark_at marks from l = not (nat_lt l from) && slice_index_or marks (l - from) false

-- no place is marked
abbrev pub AreClear : List Bool → Type 0
AreClear marks = (q : ℕ) → slice_index_or marks q false ≡ false

-- the places of some derived words are marked, where they have a mark, and no others
abbrev pub MarkThose : List Bool → ℕ → List Entry → Type 0
MarkThose marks from entries = (l : ℕ) → mark_at marks from l ≡ (has_mark marks from l && is_derived entries l)

-- no derived word is listed, and the paths are as they may be
abbrev pub places_fit : (ℕ → Bool) → List Entry → Bool
places_fit listed entries = list_all (λ e. not (listed e.location) && path_fits listed e) entries

-- no place that passes is that of two derived words
abbrev pub places_apart : (ℕ → Bool) → List Entry → Bool
places_apart test [] = true
places_apart test (e ∷ later) = not (test e.location && is_derived later e.location) && places_apart test later

-- no path that passes is the place of a derived word
abbrev pub path_apart : (ℕ → Bool) → List Entry → Entry → Bool
path_apart test all e = option_map_or (λ p. not (test p && is_derived all p)) e.path true

abbrev pub paths_apart : (ℕ → Bool) → List Entry → List Entry → Bool
paths_apart test all entries = list_all (path_apart test all) entries

-- the bases that pass are listed, or are derived words of later entries
abbrev pub bases_come : (ℕ → Bool) → (ℕ → Bool) → List Entry → Bool
bases_come test listed [] = true
bases_come test listed (e ∷ later) = list_all (bases_known (λ l. not (test l) || listed l) later) e.ways && bases_come test listed later

abbrev pub window_fits : (ℕ → Bool) → (ℕ → Bool) → List Entry → Bool
window_fits test listed entries = (places_apart test entries && paths_apart test entries entries) && bases_come test listed entries

-- a test of all places that derived words name
abbrev pub way_names : (ℕ → Bool) → Bases → Bool
way_names test way = list_all test way.added && list_all test way.subtracted

abbrev pub entry_names : (ℕ → Bool) → Entry → Bool
entry_names test e = (test e.location && option_map_or test e.path true) && list_all (way_names test) e.ways

abbrev pub all_names : (ℕ → Bool) → List Entry → Bool
all_names test entries = list_all (entry_names test) entries

-- a place is below one, or not below another, where there is one
abbrev pub is_skipped : ℕ → Option ℕ → ℕ → Bool
is_skipped from least l = nat_lt l from || option_map_or (λ n. not (nat_lt l n)) least false

-- the lower one of a place and another, where it isn't below `from`
abbrev pub lower : ℕ → Option ℕ → ℕ → Option ℕ
lower from None place = if nat_lt place from then None else Some place
lower from (Some n) place = if not (nat_lt place n) || nat_lt place from then Some n else Some place

-- the lowest of a place and of what a list, a way, or derived words name
abbrev pub lowest : ℕ → Option ℕ → List ℕ → Option ℕ
lowest from least [] = least
lowest from least (place ∷ places) = lowest from (lower from least place) places

abbrev pub lowest_in_way : ℕ → Option ℕ → Bases → Option ℕ
lowest_in_way from least way = lowest from (lowest from least way.added) way.subtracted

abbrev pub lowest_path : ℕ → Option ℕ → Option ℕ → Option ℕ
lowest_path from least None = least
lowest_path from least (Some path) = lower from least path

abbrev pub lowest_in_ways : ℕ → Option ℕ → List Bases → Option ℕ
lowest_in_ways from least [] = least
lowest_in_ways from least (way ∷ ways) = lowest_in_ways from (lowest_in_way from least way) ways

abbrev pub lowest_in_entry : ℕ → Option ℕ → Entry → Option ℕ
lowest_in_entry from least e = lowest_in_ways from (lowest_path from (lower from least e.location) e.path) e.ways

abbrev pub lowest_of_all : ℕ → Option ℕ → List Entry → Option ℕ
lowest_of_all from least [] = least
lowest_of_all from least (e ∷ entries) = lowest_of_all from (lowest_in_entry from least e) entries
