-- What a derived word is beside its bases.
use Rattle.std.specs.Prelude.{ℕ, ◌≡◌, ◌%◌, ◌^◌, ◌==◌, if◌then◌else◌, List, [], ◌∷◌, map, sum, Option, None, Some, Contains}
use Rattle.std.specs.List.{slice_get}
use Rattle.m3_base.specs.Words.{sub_words}
use Rattle.m3_tables.specs.Rows.{Bases}
use Rattle.m3_threads.specs.declared.status.Thread.{Thread}
use Rattle.m3_threads.specs.All.{Everyone}
use Rattle.m3_image_sections.specs.Parts.{Program}
use Rattle.m3_run_frames.specs.declared.frame.Frame.{Frame}
use Rattle.m3_roots.specs.ThreadWords.{word_at_place, places_from, Derived, place_of, way_at}
use Rattle.m3_roots.specs.RowMeaning.{derived_words}
use Rattle.m3_roots.specs.Collected.{words_at, AreFrames}

-- what the bases of a derived word come to, where each place stands for a number
abbrev pub bases_by : (ℕ → ℕ) → ℕ → Option Bases → ℕ
bases_by value first None = 0
bases_by value first (Some way) =
    sub_words (sum (map value (places_from first way.added)) % 2 ^ 64) (sum (map value (places_from first way.subtracted)) % 2 ^ 64)

-- the word at a place; but a derived word is replaced by its own bases, and so are those of its bases that are derived
-- words themselves, which come later in the list
abbrev pub replaced : List ℕ → List Derived → ℕ → ℕ
replaced words [] place = word_at_place words place
replaced words (d ∷ ds) place =
    if place_of d == place then bases_by (replaced words ds) d.first (way_at words d) else replaced words ds place

-- a derived word less its bases, where each of them that is a derived word itself is replaced by its own bases
abbrev pub offset_at : List ℕ → List Derived → Derived → ℕ
offset_at words ds d = sub_words (word_at_place words (place_of d)) (replaced words ds (place_of d))

-- each derived word is as far from its bases as before
abbrev pub KeepsOffsets : List Derived → List ℕ → List ℕ → Type 0
KeepsOffsets ds old new = (d : Derived) → Contains ds d → offset_at new ds d ≡ offset_at old ds d

-- in every frame of every thread
abbrev pub AllKeepOffsets : Program → Everyone → Everyone → Type 0
AllKeepOffsets p old new =
    (k : ℕ) (t u : Thread) (frames : List Frame) → slice_get old.threads k ≡ Some t → slice_get new.threads k ≡ Some u → AreFrames p old t frames
    → KeepsOffsets (derived_words p frames) (words_at old t) (words_at new u)
