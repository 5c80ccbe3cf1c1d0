-- What the rows of a thread's frames may list together.
use Rattle.std.specs.Prelude.{ℕ, ◌≡◌, true, false, List, [], ◌∷◌, ◌++◌, map}
use Rattle.std.specs.List.{flat_map}
use Rattle.m3_tables.specs.Numbers.{has, is_once}
use Rattle.m3_image_sections.specs.Parts.{Program}
use Rattle.m3_run_frames.specs.declared.frame.Frame.{Frame}
use Rattle.m3_roots.specs.ThreadWords.{place_from, place_of, path_places, base_places}
use Rattle.m3_roots.specs.RowMeaning.{tidy_of_frame, newest_arguments, derived_of_frame}

abbrev pub derived_places : Program → Frame → List ℕ
derived_places p f = map place_of (derived_of_frame p f)

-- the places that the rows list: the arguments of the newest frame, and the tidy words and the derived words of each
abbrev pub listed_below : Program → List Frame → List ℕ
listed_below p [] = []
listed_below p (f ∷ fs) = tidy_of_frame p f ++ (derived_places p f ++ listed_below p fs)

abbrev pub listed_places : Program → List Frame → List ℕ
listed_places p frames = newest_arguments p frames ++ listed_below p frames

-- the places that no row may list: the first two words of each frame, which lead to the frame below it, and the paths
abbrev pub barred_in : Program → Frame → List ℕ
barred_in p f = place_from f.first 16 ∷ place_from f.first 17 ∷ flat_map path_places (derived_of_frame p f)

abbrev pub barred_places : Program → List Frame → List ℕ
barred_places p [] = []
barred_places p (f ∷ fs) = barred_in p f ++ barred_places p fs

-- the bases of every way of every derived word of a frame
abbrev pub bases_in : Program → Frame → List ℕ
bases_in p f = flat_map base_places (derived_of_frame p f)

-- no base of a frame is a derived word of a newer one. The newer ones' derived words have these places
abbrev pub BasesArePlain : Program → List ℕ → List Frame → Type 0
BasesArePlain p newer [] = Unit {0}
BasesArePlain p newer (f ∷ fs) =
    ((base : ℕ) → has (bases_in p f) base ≡ true → has newer base ≡ false) × BasesArePlain p (derived_places p f ++ newer) fs

-- no word is listed twice; none that is listed is a path or one of the first two words of a frame; and no base is a
-- derived word of a newer frame
pub record ListsFit (p : Program) (frames : List Frame) : Type 0 where
  pub once : is_once (listed_places p frames) ≡ true
  pub free : (place : ℕ) → has (listed_places p frames) place ≡ true → has (barred_places p frames) place ≡ false
  pub plain : BasesArePlain p [] frames
