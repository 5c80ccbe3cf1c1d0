-- What was gathered, by the answers of the calls.
use Rattle.std.proofs.Common.{◌≡◌, ℕ, ◌+◌, Bool, true, false, List, length, None, Some, refl, subst}
use Rattle.std.specs.Bool.{MatchBool, OnTrue, OnFalse}
use Rattle.m3_heap.specs.Cells.{Cell}
use Rattle.m3_heap.specs.Moves.{Move}
use Rattle.m3_image_sections.specs.Parts.{Program}
use Rattle.m3_image_sections.specs.Forms.{procs_fit}
use Rattle.m3_image.specs.Sound.{IsSoundProgram}
use Rattle.m3_run_frames.specs.declared.frame.Frame.{Frame}
use Rattle.m3_roots.specs.ThreadWords.{Derived}
use Rattle.m3_roots.specs.RowMeaning.{AreFramesAt, HaveRows, tidy_places, derived_words}
use Rattle.m3_roots.specs.RowLists.{ListsFit}
use Rattle.m3_roots.specs.TakingApart.{apart, together}
use Rattle.m3_roots.specs.Visiting.{VisitsAll, StopsVisit}
use Rattle.m3_roots.specs.Moving.{MovesWords}
use Rattle.m3_roots.specs.Gathering.{GoesOn, Gathers, StopsGathering, tidy}
use Rattle.m3_roots.proofs.WithinLemmas.{frames_sit, have_rows}
use Rattle.m3_roots.proofs.ThreadLemmas.{HasFrames, forwards, mends}

pub rows_of : (p : Program) → IsSoundProgram p → procs_fit p.procs ≡ true → (base : ℕ) (stack : List ℕ) (fp pc : ℕ) (fs : List Frame) → AreFramesAt p base stack fp pc fs → HaveRows p fs
rows_of p sound fits base stack fp pc fs framed = have_rows p (length stack) fs (frames_sit p sound fits base stack fp pc fs framed)

pub gathers_if : (b : Bool) (p : Program) (cells : List Cell) (frames : List Frame) (old taken : List ℕ) (before : List Move) (new : List ℕ) (after : List Move) → ListsFit p frames → apart (derived_words p frames) old ≡ Some taken
    → MatchBool b (VisitsAll cells (tidy_places p frames) taken before new after) (StopsVisit cells (tidy_places p frames) taken before) → OnTrue b (Gathers p cells frames old before new after)
gathers_if true p cells frames old taken before new after fit less visits = record { fit = fit; taken = taken; less = less; visited = visits }
gathers_if false p cells frames old taken before new after fit less visits = tt

pub stops_if : (b : Bool) (p : Program) (cells : List Cell) (frames : List Frame) (old taken : List ℕ) (before : List Move) (new : List ℕ) (after : List Move) → ListsFit p frames → apart (derived_words p frames) old ≡ Some taken
    → MatchBool b (VisitsAll cells (tidy_places p frames) taken before new after) (StopsVisit cells (tidy_places p frames) taken before) → OnFalse b (StopsGathering p cells frames old before)
stops_if true p cells frames old taken before new after fit less visits = tt
stops_if false p cells frames old taken before new after fit less visits = tidy taken fit less visits

mended_by : (b : Bool) (ds : List Derived) (w v z : List ℕ) → together ds w ≡ Some z → MatchBool b (together ds w ≡ Some v) (together ds w ≡ None) → (b ≡ true) × (z ≡ v)
mended_by true ds w v z e h = (refl, cc)
mended_by false ds w v z e h = absurd cc

pub mends_if : (b : Bool) (p : Program) → IsSoundProgram p → procs_fit p.procs ≡ true → (base fp pc : ℕ) (stack : List ℕ) (cells : List Cell) (frames : List Frame) (old : List ℕ) (before : List Move) (words : List ℕ) (after last : List Move) (new : List ℕ)
    → AreFramesAt p base stack fp pc frames → Gathers p cells frames old before words after → length old ≡ length stack + 16 → GoesOn after last
    → MatchBool b (together (derived_words p frames) words ≡ Some new) (together (derived_words p frames) words ≡ None) → (b ≡ true) × MovesWords p last frames old new
mends_if b p sound fits base fp pc stack cells frames old before words after last new framed gathers count grew put =
    let has_frames : HasFrames p (length stack) frames old = record { sit = frames_sit p sound fits base stack fp pc frames framed; count = count } in
    let f = forwards p cells (length stack) frames old before words after has_frames gathers in
    let m = mends p cells (length stack) frames old before words after last has_frames gathers.fit f (record { more = grew.0; is = grew.1 }) in
    let by = mended_by b (derived_words p frames) words new m.0 m.1 put in
    (by.0, subst (λ (z : List ℕ). MovesWords p last frames old z) by.1 m.2)
