-- What is done with the words of one thread until its derived words are put together again.
use Rattle.std.specs.Prelude.{ℕ, ◌≡◌, List, ◌++◌, None, Some}
use Rattle.m3_heap.specs.Cells.{Cell}
use Rattle.m3_heap.specs.Moves.{Move}
use Rattle.m3_image_sections.specs.Parts.{Program}
use Rattle.m3_run_frames.specs.declared.frame.Frame.{Frame}
use Rattle.m3_roots.specs.RowMeaning.{tidy_places, derived_words}
use Rattle.m3_roots.specs.RowLists.{ListsFit}
use Rattle.m3_roots.specs.TakingApart.{apart}
use Rattle.m3_roots.specs.Visiting.{VisitsAll, StopsVisit}

-- a forwarding list that grew: what was kept stays where it went
abbrev pub GoesOn : List Move → List Move → Type 0
GoesOn old new = (more : List Move) × (new ≡ old ++ more)

-- the lists of the rows fit, the derived words are taken apart, and the tidy words visited
pub record Gathers (p : Program) (cells : List Cell) (frames : List Frame) (old : List ℕ) (before : List Move) (new : List ℕ) (after : List Move) : Type 0 where
  pub fit : ListsFit p frames
  pub taken : List ℕ
  pub less : apart (derived_words p frames) old ≡ Some taken
  pub visited : VisitsAll cells (tidy_places p frames) taken before new after

-- or one of these stops
pub data StopsGathering (p : Program) (cells : List Cell) (frames : List Frame) (old : List ℕ) (before : List Move) : Type 0 where
  lists : (ListsFit p frames → ⊥) → StopsGathering p cells frames old before
  path : ListsFit p frames → apart (derived_words p frames) old ≡ None → StopsGathering p cells frames old before
  tidy : (taken : List ℕ) → ListsFit p frames → apart (derived_words p frames) old ≡ Some taken → StopsVisit cells (tidy_places p frames) taken before → StopsGathering p cells frames old before
