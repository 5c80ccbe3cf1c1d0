-- How many steps a collection takes at most: by what the rows list, and by the words of the cells that it keeps.
use Rattle.std.specs.Prelude.{ℕ, ◌≤◌, ◌+◌, ◌-◌, ◌*◌, List, [], ◌∷◌, length}
use Rattle.m3_heap.specs.Moves.{kept_words, staying}
use Rattle.m3_heap.specs.Heap.{Heap}
use Rattle.m3_image_sections.specs.Parts.{Program}
use Rattle.m3_run_frames.specs.declared.frame.Frame.{Frame}
use Rattle.m3_roots.specs.ThreadWords.{Derived, base_places}
use Rattle.m3_roots.specs.RowMeaning.{tidy_places, derived_words}

-- some derived words, and the bases that their entries list
abbrev pub derived_listed : List Derived → ℕ
derived_listed [] = 0
derived_listed (d ∷ ds) = 1 + length (base_places d) + derived_listed ds

-- the locations and bases that the rows of some frames list
abbrev pub rows_list : Program → List Frame → ℕ
rows_list p frames = length (tidy_places p frames) + derived_listed (derived_words p frames)

-- those of the frames of all threads
abbrev pub all_list : Program → List (List Frame) → ℕ
all_list p [] = 0
all_list p (frames ∷ walks) = rows_list p frames + all_list p walks

-- words are visited: a step for each, and one for each word of a cell that is kept from then on
abbrev pub VisitCosts : Heap → Heap → ℕ → ℕ → ℕ → Type 0
VisitCosts old new before after places = after + kept_words old.cells old.moves ≤ before + places + kept_words old.cells new.moves

-- the words of the cells that a collection kept, but for those that it kept unasked
abbrev pub newly_kept : Heap → Heap → ℕ
newly_kept old new = kept_words old.cells new.moves - kept_words old.cells (staying old.tenured)

-- a collection takes at most twice as many steps as it keeps words, its rows list locations and bases, globals are
-- pointers, and words of tenured cells are looked at
abbrev pub StepsAtMost : Program → List (List Frame) → Heap → Heap → ℕ → ℕ → Type 0
StepsAtMost p walks old new before after = after ≤ before + 2 * (newly_kept old new + all_list p walks + length p.globals.pointers + old.watched)
