-- The frames of a thread stay its frames while its words are gathered: no row lists the words that lead from one to the
-- next.
use Rattle.std.proofs.Common.{◌≡◌, ℕ, ◌+◌, ◌<◌, ◌≤◌, true, List, [], ◌∷◌, ◌++◌, map, length, get_or, Some, refl, sym, ap, ◌∙◌, inl, inr, subst, arith}
use Rattle.std.specs.List.{slice_get, AllByRecursion, flat_map}
use Rattle.std.proofs.lemmas.List.{get_or-append-add}
use Rattle.std.proofs.lemmas.Bool.{cases_lt}
use Rattle.std.proofs.lemmas.Option.{slice_get_past, slice_get-get_or}
use Rattle.m3_tables.specs.Numbers.{has}
use Rattle.m3_heap.specs.Cells.{Cell}
use Rattle.m3_heap.specs.Moves.{Move}
use Rattle.m3_image_sections.specs.Parts.{Program}
use Rattle.m3_run_frames.specs.declared.frame.Frame.{Frame}
use Rattle.m3_run_frames.specs.Frames.{IsFrame, IsOlder}
use Rattle.m3_roots.specs.ThreadWords.{word_at_place, place_of, path_places}
use Rattle.m3_roots.specs.RowMeaning.{AreBelow, AreFramesAt, tidy_places, derived_of_frame, derived_words}
use Rattle.m3_roots.specs.RowLists.{listed_places, barred_in, barred_places, ListsFit}
use Rattle.m3_roots.proofs.WordLemmas.{has_first, has_more, has_left, has_right}
use Rattle.m3_roots.proofs.MarkLemmas.{false_if, clash}
use Rattle.m3_roots.proofs.ApartLemmas.{each_weaker}
use Rattle.m3_roots.proofs.FitLemmas.{listed_if}
use Rattle.m3_roots.proofs.ThreadLemmas.{Forwards}

-- ---- words that no row may list stay

pub barred_stays : (p : Program) (cells : List Cell) (frames : List Frame) (old : List ℕ) (before : List Move) (new : List ℕ) (after : List Move) → ListsFit p frames → Forwards p cells frames old before new after → (q : ℕ) → has (barred_places p frames) q ≡ true → word_at_place new q ≡ word_at_place old q
barred_stays p cells frames old before new after fit h q barred =
    let unlisted = false_if (has (listed_places p frames) q) (λ k. clash (has (barred_places p frames) q) barred (fit.free q k)) in
    let untidy = false_if (has (tidy_places p frames) q) (λ k. clash (has (listed_places p frames) q) (listed_if p frames q (inl k)) unlisted) in
    let plain = false_if (has (map place_of (derived_words p frames)) q) (λ k. clash (has (listed_places p frames) q) (listed_if p frames q (inr k)) unlisted) in
    h.words.others q untidy ∙ h.less.others q plain

abbrev pub AreBarred : List ℕ → Frame → Type 0
AreBarred places f = (has places (f.first + 16) ≡ true) × (has places (f.first + 17) ≡ true)

pub links_barred : (p : Program) (fs : List Frame) → AllByRecursion (AreBarred (barred_places p fs)) fs
links_barred p [] = tt
links_barred p (f ∷ fs) =
    let rest = barred_places p fs in
    let here = barred_in p f in
    let paths = flat_map path_places (derived_of_frame p f) in
    let first : has here (f.first + 16) ≡ true = has_first (f.first + 16) ((f.first + 17) ∷ paths) in
    let second : has here (f.first + 17) ≡ true = has_more (f.first + 16) (f.first + 17) ((f.first + 17) ∷ paths) (has_first (f.first + 17) paths) in (
      (has_left here rest (f.first + 16) first, has_left here rest (f.first + 17) second),
      each_weaker (AreBarred rest) (AreBarred (here ++ rest)) (λ g k. (has_right here rest (g.first + 16) k.0, has_right here rest (g.first + 17) k.1)) fs (links_barred p fs),
    )

-- ---- the same words of a stack

-- the first two words of a frame are the same in two stacks
abbrev pub LinksStay : List ℕ → List ℕ → Frame → Type 0
LinksStay old new f = (slice_get new f.first ≡ slice_get old f.first) × (slice_get new (f.first + 1) ≡ slice_get old (f.first + 1))

same_get : (old new : List ℕ) (i : ℕ) → length new ≡ length old → get_or new i 0 ≡ get_or old i 0 → slice_get new i ≡ slice_get old i
same_get old new i e h = elim (cases_lt i (length old)) [
  | inl low ↦ (let low_too : i < length new = omega arith in slice_get-get_or new i 0 low_too ∙ ap Some h ∙ sym (slice_get-get_or old i 0 low))
  | inr past ↦ (let past_too : length new ≤ i = omega arith in slice_get_past new i past_too ∙ sym (slice_get_past old i past))
]

in_stack : (r stack : List ℕ) (i q : ℕ) → length r ≡ 16 → q ≡ i + 16 → word_at_place (r ++ stack) q ≡ get_or stack i 0
in_stack r stack i q e at =
    let place : length r + i ≡ q = omega arith in
    subst (λ (n : ℕ). word_at_place (r ++ stack) n ≡ get_or stack i 0) place (get_or-append-add r stack i 0)

link_stays : (r old s new : List ℕ) (i q : ℕ) → length r ≡ 16 → length s ≡ 16 → length new ≡ length old → q ≡ i + 16 → word_at_place (s ++ new) q ≡ word_at_place (r ++ old) q → slice_get new i ≡ slice_get old i
link_stays r old s new i q e f depth at same = same_get old new i depth (sym (in_stack s new i q f at) ∙ same ∙ in_stack r old i q e at)

abbrev pub WordsStay : List ℕ → List ℕ → Frame → Type 0
WordsStay old new f = (word_at_place new (f.first + 16) ≡ word_at_place old (f.first + 16)) × (word_at_place new (f.first + 17) ≡ word_at_place old (f.first + 17))

pub links_stay : (r old s new : List ℕ) (fs : List Frame) → length r ≡ 16 → length s ≡ 16 → length new ≡ length old → AllByRecursion (WordsStay (r ++ old) (s ++ new)) fs → AllByRecursion (LinksStay old new) fs
links_stay r old s new fs e f depth h = each_weaker (WordsStay (r ++ old) (s ++ new)) (LinksStay old new) (λ g k.
    (link_stays r old s new g.first (g.first + 16) e f depth refl k.0, link_stays r old s new (g.first + 1) (g.first + 17) e f depth (omega arith) k.1)) fs h

-- ---- frames

frame_stays : (p : Program) (old new : List ℕ) (first instr : ℕ) (f : Frame) → length new ≡ length old → IsFrame p old first instr f → IsFrame p new first instr f
frame_stays p old new first instr f depth h = let within = h.within in record {
  row = h.row;
  named = h.named;
  home = h.home;
  housed = h.housed;
  words = h.words;
  begins = h.begins;
  within = omega arith;
}

older_stays : (p : Program) (base : ℕ) (old new : List ℕ) (newer older : Frame) → length new ≡ length old → LinksStay old new newer → IsOlder p base old newer older → IsOlder p base new newer older
older_stays p base old new newer older depth links h = record {
  instr = h.instr;
  back = links.0 ∙ h.back;
  start = links.1 ∙ h.start;
  below = h.below;
  call = h.call;
  frame = frame_stays p old new older.first h.instr older depth h.frame;
}

below_stays : (p : Program) (base : ℕ) (old new : List ℕ) (newer : Frame) (fs : List Frame) → length new ≡ length old → LinksStay old new newer → AllByRecursion (LinksStay old new) fs → AreBelow p base old newer fs → AreBelow p base new newer fs
below_stays p base old new newer [] depth link links h = h
below_stays p base old new newer (f ∷ fs) depth link links h = (older_stays p base old new newer f depth link h.0, below_stays p base old new f fs depth links.0 links.1 h.1)

pub frames_stay : (p : Program) (base : ℕ) (old new : List ℕ) (fp pc : ℕ) (fs : List Frame) → length new ≡ length old → AllByRecursion (LinksStay old new) fs → AreFramesAt p base old fp pc fs → AreFramesAt p base new fp pc fs
frames_stay p base old new fp pc [] depth links h = h
frames_stay p base old new fp pc (f ∷ fs) depth links h = (h.0, frame_stays p old new f.first pc f depth h.1, below_stays p base old new f fs depth links.0 links.1 h.2)

-- gathered words have the same frames
pub gathered_framed : (p : Program) (cells : List Cell) (frames : List Frame) (base fp pc : ℕ) (r old s new : List ℕ) (before after : List Move) → length r ≡ 16 → length s ≡ 16 → length new ≡ length old → ListsFit p frames → Forwards p cells frames (r ++ old) before (s ++ new) after
    → AreFramesAt p base old fp pc frames → AreFramesAt p base new fp pc frames
gathered_framed p cells frames base fp pc r old s new before after e f depth fit h framed =
    let stays = barred_stays p cells frames (r ++ old) before (s ++ new) after fit h in
    let words = each_weaker (AreBarred (barred_places p frames)) (WordsStay (r ++ old) (s ++ new)) (λ g k. (stays (g.first + 16) k.0, stays (g.first + 17) k.1)) frames (links_barred p frames) in
    frames_stay p base old new fp pc frames depth (links_stay r old s new frames e f depth words) framed
