-- The marks that are made for the rows of a thread's frames.
use Rattle.std.specs.Prelude.{List, [], ◌∷◌, ◌++◌, map}
use Rattle.m3_image_sections.specs.Parts.{Program}
use Rattle.m3_run_frames.specs.declared.frame.Frame.{Frame}
use Rattle.m3_roots.specs.RowMeaning.{tidy_of_frame, newest_arguments, derived_of_frame}
use Rattle.m3_roots.specs.RowLists.{derived_places}
use Rattle.m3_roots.specs.BarActs.{bar_acts}
use Rattle.m3_roots.specs.Marking.{Act, Lists, Derives}

-- the first two words of a frame and its paths are barred and its bases used; then its tidy words and its derived
-- words are listed
abbrev pub frame_acts : Program → Frame → List Act
frame_acts p f = bar_acts f.first (derived_of_frame p f) ++ (map Lists (tidy_of_frame p f) ++ map Derives (derived_places p f))

abbrev pub acts_below : Program → List Frame → List Act
acts_below p [] = []
acts_below p (f ∷ fs) = frame_acts p f ++ acts_below p fs

abbrev pub acts_of : Program → List Frame → List Act
acts_of p frames = map Lists (newest_arguments p frames) ++ acts_below p frames
