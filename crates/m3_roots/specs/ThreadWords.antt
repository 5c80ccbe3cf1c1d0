-- The words of a thread, and which of them are derived from others.
use Rattle.std.specs.Prelude.{ℕ, ◌+◌, ◌%◌, ◌^◌, nat_lt, if◌then◌else◌, List, [], ◌∷◌, ◌++◌, map, sum, Option, None, Some, slice_index_or}
use Rattle.std.specs.List.{slice_get, flat_map}
use Rattle.m3_base.specs.Words.{sub_words}
use Rattle.m3_tables.specs.Rows.{Bases, Entry}

-- the word at a place, and 0 where there is none. The words of a thread have places: 0 to 15 are its registers, and
-- from 16 on come the words of its stack
abbrev pub word_at_place : List ℕ → ℕ → ℕ
word_at_place words place = slice_index_or words place 0

-- the place that a number of a row stands for in a frame that begins at a word of the stack: 0 to 15 are the
-- registers, and 16 is the frame's first word
abbrev pub place_from : ℕ → ℕ → ℕ
place_from first number = if nat_lt number 16 then number else first + number

abbrev pub places_from : ℕ → List ℕ → List ℕ
places_from first numbers = map (place_from first) numbers

-- a derived word: its entry, in the row of a frame that begins at a word of the stack
pub record Derived : Type 0 where
  pub first : ℕ
  pub entry : Entry

abbrev pub place_of : Derived → ℕ
place_of d = place_from d.first d.entry.location

abbrev pub derived_at : ℕ → Entry → Derived
derived_at first entry = record { first = first; entry = entry }

abbrev pub derived_from : ℕ → List Entry → List Derived
derived_from first entries = map (derived_at first) entries

-- the number of the way that an entry takes: that in its path's word, and 0 without a path
abbrev pub way_number : List ℕ → ℕ → Option ℕ → ℕ
way_number words first None = 0
way_number words first (Some path) = word_at_place words (place_from first path)

-- the way, and none where the number is past the ways
abbrev pub way_at : List ℕ → Derived → Option Bases
way_at words d = slice_get d.entry.ways (way_number words d.first d.entry.path)

-- the sum of the words at some places, modulo 2 ^ 64
abbrev pub sum_at : List ℕ → List ℕ → ℕ
sum_at words places = sum (map (word_at_place words) places) % 2 ^ 64

-- what the bases of a way come to: the sum of those added, less the sum of those subtracted
abbrev pub bases_by_way : List ℕ → ℕ → Bases → ℕ
bases_by_way words first way =
    sub_words (sum_at words (places_from first way.added)) (sum_at words (places_from first way.subtracted))

-- the places of its path, and of the bases of all its ways
abbrev pub path_list : Option ℕ → List ℕ
path_list None = []
path_list (Some path) = path ∷ []

abbrev pub path_places : Derived → List ℕ
path_places d = places_from d.first (path_list d.entry.path)

abbrev pub bases_in_way : Bases → List ℕ
bases_in_way way = way.added ++ way.subtracted

abbrev pub base_places : Derived → List ℕ
base_places d = places_from d.first (flat_map bases_in_way d.entry.ways)
