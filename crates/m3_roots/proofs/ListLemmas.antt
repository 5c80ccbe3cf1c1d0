-- Marks that were made for the rows tell whether their lists fit.
use Rattle.std.proofs.Common.{◌≡◌, ℕ, ◌+◌, ◌<◌, ◌≤◌, Bool, true, false, List, length, Some, sym, ◌∙◌, arith}
use Rattle.std.specs.List.{slice_get, AllByRecursion}
use Rattle.m3_image_sections.specs.Parts.{Program}
use Rattle.m3_image_sections.specs.Forms.{procs_fit}
use Rattle.m3_image.specs.Sound.{IsSoundProgram}
use Rattle.m3_run_frames.specs.declared.frame.Frame.{Frame}
use Rattle.m3_roots.specs.declared.marks.Mark.{Mark}
use Rattle.m3_roots.specs.RowMeaning.{AreFramesAt}
use Rattle.m3_roots.specs.RowLists.{ListsFit}
use Rattle.m3_roots.specs.Marking.{Tell, nothing_marked, mark_of, all_go, MarksAll}
use Rattle.m3_roots.specs.RowActs.{acts_of}
use Rattle.m3_roots.proofs.MarkLemmas.{clash}
use Rattle.m3_roots.proofs.RowActLemmas.{fits_from, go_from}
use Rattle.m3_roots.proofs.WithinLemmas.{frames_sit, sit_before, acts_before}

pub tells_fit : (p : Program) → IsSoundProgram p → procs_fit p.procs ≡ true → (base fp pc : ℕ) (stack : List ℕ) (fs : List Frame) (cleared new : List Mark) (e end : ℕ) (result : Bool) → AreFramesAt p base stack fp pc fs → end ≡ e + 16 → end ≤ length cleared
    → ((q : ℕ) → q < end → slice_get cleared q ≡ Some (mark_of nothing_marked q)) → AllByRecursion (λ (f : Frame). f.first + f.words ≤ e) fs → MarksAll cleared new (acts_of p fs) result → result ≡ all_go nothing_marked (acts_of p fs)
tells_fit p sound fits base fp pc stack fs cleared new e end result framed is within blank ends marks =
    let sits = sit_before p (length stack) e fs (frames_sit p sound fits base stack fp pc fs framed) ends in
    let before = acts_before p e fs sits in
    let tell : Tell cleared (e + 16) nothing_marked = record { within = omega arith; each = λ q lt. blank q (omega arith) } in
    (marks (e + 16) nothing_marked tell before).0

pub fit_if : (p : Program) (fs : List Frame) (result : Bool) → result ≡ all_go nothing_marked (acts_of p fs) → result ≡ true → ListsFit p fs
fit_if p fs result e t = fits_from p fs (sym e ∙ t)

pub unfit_if : (p : Program) (fs : List Frame) (result : Bool) → result ≡ all_go nothing_marked (acts_of p fs) → result ≡ false → ListsFit p fs → ⊥
unfit_if p fs result e f fit = clash result (e ∙ go_from p fs fit) f
