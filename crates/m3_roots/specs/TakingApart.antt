-- Derived words taken apart and put together again, one after the other, and what each of them reads.
use Rattle.std.specs.Prelude.{ℕ, ◌≡◌, Bool, List, [], ◌∷◌, Option, None, Some, slice_set}
use Rattle.std.specs.Bool.{MatchBool}
use Rattle.std.specs.Option.{option_and_then}
use Rattle.m3_base.specs.Words.{add_words, sub_words}
use Rattle.m3_tables.specs.Rows.{Bases}
use Rattle.m3_roots.specs.ThreadWords.{word_at_place, Derived, place_of, way_at, bases_by_way}

-- the bases of a derived word are subtracted from it, by the way that it takes
abbrev pub apart_by : List ℕ → Derived → Option Bases → Option (List ℕ)
apart_by words d None = None
apart_by words d (Some way) = Some (slice_set words (place_of d) (sub_words (word_at_place words (place_of d)) (bases_by_way words d.first way)))

abbrev pub apart_at : Derived → List ℕ → Option (List ℕ)
apart_at d words = apart_by words d (way_at words d)

-- from the first to the last
abbrev pub apart : List Derived → List ℕ → Option (List ℕ)
apart [] words = Some words
apart (d ∷ ds) words = option_and_then (apart ds) (apart_at d words)

-- the bases of a derived word are added to it
abbrev pub together_by : List ℕ → Derived → Option Bases → Option (List ℕ)
together_by words d None = None
together_by words d (Some way) = Some (slice_set words (place_of d) (add_words (word_at_place words (place_of d)) (bases_by_way words d.first way)))

abbrev pub together_at : Derived → List ℕ → Option (List ℕ)
together_at d words = together_by words d (way_at words d)

-- from the last to the first
abbrev pub together : List Derived → List ℕ → Option (List ℕ)
together [] words = Some words
together (d ∷ ds) words = option_and_then (together_at d) (together ds words)

-- the words are what this gives, or the answer is false exactly where it gives none
abbrev pub Leaves : Bool → Option (List ℕ) → List ℕ → Type 0
Leaves result given words = MatchBool result (given ≡ Some words) (given ≡ None)
