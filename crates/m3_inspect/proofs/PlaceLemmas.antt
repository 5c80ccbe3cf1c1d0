-- Each variable in scope has its place in its frame.
use Rattle.std.proofs.Common.{◌≡◌, ℕ, zero, suc, ◌+◌, ◌<◌, ◌≤◌, ◌==◌, ◌&&◌, true, false, List, [], ◌∷◌, length, map, pos, Option, None, Some, inl, inr, refl, sym, ap, ◌∙◌, subst, arith, length-append}
use Rattle.std.specs.Prelude.{nat_lt, nat_le}
use Rattle.std.specs.List.{slice_get, list_all, AllByRecursion}
use Rattle.std.specs.Option.{option_map_or}
use Rattle.std.proofs.lemmas.Bool.Decides.{nat_tests}
use Rattle.m3_tables.specs.Numbers.{rises}
use Rattle.m3_tables.proofs.KeepingLemmas.{choice, and_parts}
use Rattle.m3_threads.specs.declared.status.Thread.{Thread}
use Rattle.m3_threads.specs.All.{Everyone, base_of, words_of}
use Rattle.m3_threads.proofs.Places.{some_same}
use Rattle.m3_image_sections.specs.declared.procs.ProcPart.{ProcPart}
use Rattle.m3_image_sections.specs.Forms.{none, proc_fits, follow_from, second_fits}
use Rattle.m3_image_sections.specs.Ranges.{containing, contains, is_point_at}
use Rattle.m3_image_sections.specs.Parts.{Image, Program, Variable}
use Rattle.m3_image.specs.Images.{IsImage}
use Rattle.m3_image.specs.Programs.{span_fits, local_fits, owner_fits, variable_fits}
use Rattle.m3_run_frames.specs.declared.frame.Frame.{Frame}
use Rattle.m3_run_frames.specs.Frames.{IsFrame}
use Rattle.m3_roots.specs.ThreadWords.{place_from}
use Rattle.m3_roots.specs.RowMeaning.{AreBelow, AreFramesAt}
use Rattle.m3_roots.specs.Collected.{words_at, AreFrames}
use Rattle.m3_inspect.specs.Standing.{place_at, instruction_of}
use Rattle.m3_inspect.specs.Listed.{PlacesAreBelow}

-- ---- the procedure of an instruction

follow_parts : (start : ℕ) (p : ProcPart) (ps : List ProcPart) → follow_from start (p ∷ ps) ≡ true → (p.first ≡ start) × (follow_from (p.first + p.count) ps ≡ true)
follow_parts start p ps e =
    let parts = and_parts (p.first == start && proc_fits p) (follow_from (p.first + p.count) ps) e in
    let first = (and_parts (p.first == start) (proc_fits p) parts.0).0 in
    (grind (arith, nat_tests, first), parts.1)

later_first : (start : ℕ) (ps : List ProcPart) → follow_from start ps ≡ true → (k : ℕ) (q : ProcPart) → slice_get ps k ≡ Some q → start ≤ q.first
later_first start [] e k q at = absurd cc
later_first start (p ∷ ps) e zero q at = let f = follow_parts start p ps e in let same : p ≡ q = some_same at in let first : p.first ≡ q.first = ap (λ (x : ProcPart). x.first) same in omega (arith, f.0, first)
later_first start (p ∷ ps) e (suc k) q at = let f = follow_parts start p ps e in let rest = later_first (p.first + p.count) ps f.1 k q at in omega (arith, f.0, rest)

-- an instruction of a procedure is in no other
pub contained_in : (start : ℕ) (ps : List ProcPart) → follow_from start ps ≡ true → (k : ℕ) (q : ProcPart) → slice_get ps k ≡ Some q → (pc : ℕ) → q.first ≤ pc → pc < q.first + q.count → containing ps pc ≡ Some q
contained_in start [] e k q at pc le lt = absurd cc
contained_in start (p ∷ ps) e zero q at pc le lt =
    let same : p ≡ q = some_same at in
    let end : p.first + p.count ≡ q.first + q.count = ap (λ (x : ProcPart). x.first + x.count) same in
    let here : nat_lt pc (p.first + p.count) ≡ true = grind (arith, nat_tests) in
    rw here (ap Some same)
contained_in start (p ∷ ps) e (suc k) q at pc le lt =
    let f = follow_parts start p ps e in
    let first = later_first (p.first + p.count) ps f.1 k q at in
    let past : nat_lt pc (p.first + p.count) ≡ false = grind (arith, nat_tests) in
    rw past (contained_in (p.first + p.count) ps f.1 k q at pc le lt)

-- ---- spans

-- a span of a variable at an instruction fits its procedure
span_there : (p : Program) (q : ProcPart) (spans : List (ℕ × ℕ)) → list_all (span_fits p q) spans ≡ true → (instr number : ℕ) → place_at instr spans ≡ Some number → span_fits p q (instr, number) ≡ true
span_there p q [] fits instr number at = absurd cc
span_there p q (s ∷ spans) fits instr number at =
    let parts = and_parts (span_fits p q s) (list_all (span_fits p q) spans) fits in
    elim (choice (s.0 == instr)) [
      | inl here ↦ (
          let first : s.0 ≡ instr = grind (arith, nat_tests) in
          let second : s.1 ≡ number = some_same (rw here at at) in
          subst (λ (n : ℕ). span_fits p q (instr, n) ≡ true) second (subst (λ (n : ℕ). span_fits p q (n, s.1) ≡ true) first parts.0))
      | inr other ↦ (let later = rw other at at in span_there p q spans parts.1 instr number later)
    ]

no_span : (spans : List (ℕ × ℕ)) → length spans ≡ 0 → (instr number : ℕ) → place_at instr spans ≡ Some number → ⊥
no_span [] e instr number at = cc
no_span (s ∷ spans) e instr number at = omega (arith, e)

in_frame : (p : Program) → follow_from 0 p.procs ≡ true → (v : Variable) → (o : Option ProcPart) → slice_get p.procs v.proc ≡ o → option_map_or (local_fits p v) o false ≡ true → (instr number : ℕ) (home : ProcPart) → containing p.procs instr ≡ Some home → place_at instr v.spans ≡ Some number → number < home.frame + 16
in_frame p follow v None there fits instr number home housed at = absurd cc
in_frame p follow v (Some q) there fits instr number home housed at =
    let spans = (and_parts (rises (map (λ (x : ℕ × ℕ). x.0) v.spans)) (list_all (span_fits p q) v.spans) (and_parts (v.word == 0) (rises (map (λ (x : ℕ × ℕ). x.0) v.spans) && list_all (span_fits p q) v.spans) fits).1).1 in
    let span = span_there p q v.spans spans instr number at in
    let parts = and_parts (is_point_at p.code instr && contains q (pos instr)) (nat_lt number (q.frame + 16)) span in
    let inside = and_parts (is_point_at p.code instr) (contains q (pos instr)) parts.0 in
    let range = and_parts (nat_le q.first instr) (nat_lt instr (q.first + q.count)) inside.1 in
    let from : q.first ≤ instr = let e = range.0 in grind (arith, nat_tests) in
    let to : instr < q.first + q.count = let e = range.1 in grind (arith, nat_tests) in
    let same : home ≡ q = some_same (sym housed ∙ contained_in 0 p.procs follow v.proc q there instr from to) in
    let frame : home.frame ≡ q.frame = ap (λ (x : ProcPart). x.frame) same in
    let low : number < q.frame + 16 = let e = parts.1 in grind (arith, nat_tests) in
    omega (arith, frame, low)

-- ---- frames

place_low : (p : Program) → follow_from 0 p.procs ≡ true → (v : Variable) → variable_fits p v ≡ true → (instr number : ℕ) (home : ProcPart) → containing p.procs instr ≡ Some home → place_at instr v.spans ≡ Some number → number < home.frame + 16
place_low p follow v fits instr number home housed at =
    let owner = (and_parts (nat_lt v.form 2) (owner_fits p v) fits).1 in
    elim (choice (v.proc == none)) [
      | inl global ↦ (
          let parts = and_parts (nat_lt v.word p.globals.words) (length v.spans == 0) (rw global at owner) in
          let empty : length v.spans ≡ 0 = let e = parts.1 in grind (arith, nat_tests) in
          absurd (no_span v.spans empty instr number at))
      | inr local ↦ (let there = rw local at owner in in_frame p follow v (slice_get p.procs v.proc) refl there instr number home housed at)
    ]

place_below : (first number frame end : ℕ) → number < frame + 16 → first + frame ≤ end → place_from first number < end + 16
place_below first number frame end low within = elim (choice (nat_lt number 16)) [
  | inl register ↦ (let e : number < 16 = grind (arith, nat_tests) in rw register (omega (arith, e)))
  | inr slot ↦ rw slot (omega (arith, low, within))
]

variables_below : (i : Image) → follow_from 0 i.program.procs ≡ true → (stack : List ℕ) (first instr : ℕ) (f : Frame) → IsFrame i.program stack first instr f → (vs : List Variable) → list_all (variable_fits i.program) vs ≡ true
    → AllByRecursion (λ v. (number : ℕ) → place_at (instruction_of i f) v.spans ≡ Some number → place_from f.first number < length stack + 16) vs
variables_below i follow stack first instr f h [] fits = tt
variables_below i follow stack first instr f h (v ∷ vs) fits =
    let parts = and_parts (variable_fits i.program v) (list_all (variable_fits i.program) vs) fits in
    let within = h.within in
    let words = h.words in
    let housed : containing i.program.procs (instruction_of i f) ≡ Some h.home = ap (containing i.program.procs) h.named ∙ h.housed in (
      λ number at. (
          let low = place_low i.program follow v parts.0 (instruction_of i f) number h.home housed at in
          place_below f.first number h.home.frame (length stack) low (omega (arith, within, words))),
      variables_below i follow stack first instr f h vs parts.1,
    )

older_below : (i : Image) → follow_from 0 i.program.procs ≡ true → list_all (variable_fits i.program) i.variables ≡ true → (base : ℕ) (stack : List ℕ) (newer : Frame) (fs : List Frame) → AreBelow i.program base stack newer fs → PlacesAreBelow i (length stack + 16) fs
older_below i follow fits base stack newer [] h = tt
older_below i follow fits base stack newer (f ∷ fs) h = (variables_below i follow stack f.first h.0.instr f h.0.frame i.variables fits, older_below i follow fits base stack f fs h.1)

frames_below : (i : Image) → follow_from 0 i.program.procs ≡ true → list_all (variable_fits i.program) i.variables ≡ true → (base : ℕ) (stack : List ℕ) (fp pc : ℕ) (fs : List Frame) → AreFramesAt i.program base stack fp pc fs → PlacesAreBelow i (length stack + 16) fs
frames_below i follow fits base stack fp pc [] h = tt
frames_below i follow fits base stack fp pc (f ∷ fs) h = (variables_below i follow stack f.first pc f h.1 i.variables fits, older_below i follow fits base stack f fs h.2)

pub places_below : (i : Image) (all : Everyone) (t : Thread) (frames : List Frame) → IsImage i → length t.regs.r ≡ 16 → AreFrames i.program all t frames → PlacesAreBelow i (length (words_at all t)) frames
places_below i all t frames image sixteen framed =
    let follow = (and_parts (follow_from 0 i.program.procs) (second_fits i.program.procs) image.procs).0 in
    let here = frames_below i follow image.variables (base_of t) (words_of all t) t.regs.fp t.regs.pc frames framed in
    let count = length-append t.regs.r (words_of all t) in
    let end : length (words_of all t) + 16 ≡ length (words_at all t) = omega (arith, count, sixteen) in
    subst (λ (n : ℕ). PlacesAreBelow i n frames) end here
