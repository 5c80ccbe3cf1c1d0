-- What the rows of an image say of the words of a thread: which of them are tidy, and from which words others are
-- derived.
use Rattle.std.specs.Prelude.{ℕ, ◌≡◌, ◌+◌, ◌<◌, List, [], ◌∷◌, ◌++◌}
use Rattle.std.specs.List.{AllByRecursion}
use Rattle.m3_tables.specs.Numbers.{word_in}
use Rattle.m3_tables.specs.Sections.{tidy_list, contents_in}
use Rattle.m3_image_sections.specs.Parts.{Program}
use Rattle.m3_run_frames.specs.declared.frame.Frame.{Frame}
use Rattle.m3_run_frames.specs.Frames.{IsFrame, IsOlder}
use Rattle.m3_roots.specs.ThreadWords.{places_from, Derived, derived_from}

-- ---- frames

-- the frames below one, down to the one at the first address of the stack
abbrev pub AreBelow : Program → ℕ → List ℕ → Frame → List Frame → Type 0
AreBelow p base stack newer [] = newer.first ≡ 0
AreBelow p base stack newer (older ∷ rest) = IsOlder p base stack newer older × AreBelow p base stack older rest

-- all frames of a stack whose first address is `base`, the newest first: it begins at fp and has the instruction at pc
abbrev pub AreFramesAt : Program → ℕ → List ℕ → ℕ → ℕ → List Frame → Type 0
AreFramesAt p base stack fp pc [] = ⊥
AreFramesAt p base stack fp pc (newest ∷ below) =
    (fp ≡ base + newest.first) × IsFrame p stack newest.first pc newest × AreBelow p base stack newest below

-- each has a row
abbrev pub HaveRows : Program → List Frame → Type 0
HaveRows p frames = AllByRecursion (λ f. f.row < word_in p.tables) frames

-- ---- tidy words

-- the places of the tidy words of a frame, and of the arguments by value of the call that it stands at
abbrev pub tidy_of_frame : Program → Frame → List ℕ
tidy_of_frame p f = places_from f.first (tidy_list p.tables f.row)

abbrev pub arguments_of_frame : Program → Frame → List ℕ
arguments_of_frame p f = places_from f.first (contents_in p.tables f.row).arguments

abbrev pub tidy_below : Program → List Frame → List ℕ
tidy_below p [] = []
tidy_below p (f ∷ fs) = tidy_of_frame p f ++ tidy_below p fs

-- those of the newest frame: the arguments count in no older one, where they are words of the frame that was called
abbrev pub newest_arguments : Program → List Frame → List ℕ
newest_arguments p [] = []
newest_arguments p (newest ∷ below) = arguments_of_frame p newest

-- the places of all tidy words
abbrev pub tidy_places : Program → List Frame → List ℕ
tidy_places p frames = newest_arguments p frames ++ tidy_below p frames

-- ---- derived words

-- the derived words of a frame, and of several, in the order of the frames and of the entries of each
abbrev pub derived_of_frame : Program → Frame → List Derived
derived_of_frame p f = derived_from f.first (contents_in p.tables f.row).derived

abbrev pub derived_words : Program → List Frame → List Derived
derived_words p [] = []
derived_words p (f ∷ fs) = derived_of_frame p f ++ derived_words p fs
