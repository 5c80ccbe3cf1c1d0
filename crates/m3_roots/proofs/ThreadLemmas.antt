-- What a collection makes of the words of one thread: derived words are taken apart, tidy words visited, and the derived
-- words put together again.
use Rattle.std.proofs.Common.{◌≡◌, ℕ, suc, ◌+◌, true, List, [], ◌∷◌, ◌++◌, length, None, Some, refl, sym, ap, ◌∙◌, subst, arith}
use Rattle.std.specs.Prelude.{Contains}
use Rattle.std.specs.List.{AllByRecursion}
use Rattle.std.proofs.lemmas.List.Elements.{All-from_recursion, All-contains}
use Rattle.m3_tables.specs.Numbers.{has}
use Rattle.m3_heap.specs.Cells.{Cell}
use Rattle.m3_heap.specs.Moves.{Move, forwarded}
use Rattle.m3_heap.specs.Reach.{IsBadPointer}
use Rattle.m3_image_sections.specs.Parts.{Program}
use Rattle.m3_run_frames.specs.declared.frame.Frame.{Frame}
use Rattle.m3_roots.specs.ThreadWords.{word_at_place, Derived, way_at}
use Rattle.m3_roots.specs.RowMeaning.{tidy_places, derived_words}
use Rattle.m3_roots.specs.RowLists.{ListsFit}
use Rattle.m3_roots.specs.TakingApart.{apart, together}
use Rattle.m3_roots.specs.Visiting.{StopsVisit}
use Rattle.m3_roots.specs.Moving.{MovesWords}
use Rattle.m3_roots.specs.Gathering.{Gathers}
use Rattle.m3_roots.proofs.WordLemmas.{SameAt}
use Rattle.m3_roots.proofs.ApartLemmas.{AreLess, apart_less, apart_past, Grows, AreVisited, mended}
use Rattle.m3_roots.proofs.VisitLemmas.{Grew, forwarded_stays, AreForwarded, visits_forward, stops_bad}
use Rattle.m3_roots.proofs.FitLemmas.{all_apart, paths_free, derived_apart}
use Rattle.m3_roots.proofs.WithinLemmas.{Sits, rows_kept, derived_within, all_tidy_within}

-- the frames of a thread sit in its stack, and it has a word for each of its places
pub record HasFrames (p : Program) (end : ℕ) (frames : List Frame) (words : List ℕ) : Type 0 where
  pub sit : AllByRecursion (Sits p end) frames
  pub count : length words ≡ end + 16

-- what was gathered: derived words are less, tidy words forwarded, and each of these cells is kept
pub record Forwards (p : Program) (cells : List Cell) (frames : List Frame) (old : List ℕ) (before : List Move) (new : List ℕ) (after : List Move) : Type 0 where
  pub taken : List ℕ
  pub apart_is : apart (derived_words p frames) old ≡ Some taken
  pub less : AreLess (derived_words p frames) old taken
  pub words : AreForwarded cells (tidy_places p frames) taken before new after
  pub tidy_same : SameAt (tidy_places p frames) old taken

untouched : (p : Program) (frames : List Frame) (old taken : List ℕ) → ListsFit p frames → AreLess (derived_words p frames) old taken → SameAt (tidy_places p frames) old taken
untouched p frames old taken fit less q h = less.others q ((all_apart p frames fit.once).apart q h)

pub forwards : (p : Program) (cells : List Cell) (end : ℕ) (frames : List Frame) (old : List ℕ) (before : List Move) (new : List ℕ) (after : List Move) → HasFrames p end frames old → Gathers p cells frames old before new after → Forwards p cells frames old before new after
forwards p cells end frames old before new after has_frames h =
    let ds = derived_words p frames in
    let within = derived_within p end frames has_frames.sit in
    let count = has_frames.count in
    let less = apart_less ds old h.taken (derived_apart p frames (rows_kept p end frames has_frames.sit) h.fit) (rw count within) h.less in
    let tidy_count : length h.taken ≡ end + 16 = less.count ∙ count in
    let tidy_within = all_tidy_within p end frames has_frames.sit in
    record {
      taken = h.taken;
      apart_is = h.less;
      less = less;
      words = visits_forward cells (tidy_places p frames) h.taken before new after (all_apart p frames h.fit.once).tidy_once (λ q k. rw tidy_count (tidy_within q k)) h.visited;
      tidy_same = untouched p frames old h.taken h.fit less;
    }

-- ---- put together again

pub mends : (p : Program) (cells : List Cell) (end : ℕ) (frames : List Frame) (old : List ℕ) (before : List Move) (new : List ℕ) (after last : List Move) → HasFrames p end frames old → ListsFit p frames → Forwards p cells frames old before new after → Grew after last
    → (z : List ℕ) × (together (derived_words p frames) new ≡ Some z) × MovesWords p last frames old z
mends p cells end frames old before new after last has_frames fit h grew =
    let ds = derived_words p frames in
    let tidy = tidy_places p frames in
    let count = has_frames.count in
    let within = derived_within p end frames has_frames.sit in
    let free = derived_apart p frames (rows_kept p end frames has_frames.sit) fit in
    let apart_all = all_apart p frames fit.once in
    let visited : AreVisited tidy h.taken new = record { count = h.words.count; others = h.words.others } in
    let done = mended ds tidy old h.taken new free (rw count within) h.apart_is visited (paths_free p frames fit) apart_all.apart in
    let z = done.0 in (
      z,
      done.1,
      record {
        count = done.2.count;
        tidy = λ q k. (
            let each = h.words.each q k in
            let same = h.tidy_same q k in
            done.2.visited_words q k ∙ each.0 ∙ sym (forwarded_stays after last (word_at_place h.taken q) grew each.1) ∙ ap (forwarded last) same);
        derived = λ d way among takes. All-contains (Grows old z) ds d (All-from_recursion (Grows old z) ds done.2.each) among way takes;
        others = done.2.others;
      },
    )

-- ---- what stops it

contains_split : (front : List Derived) (d : Derived) (back : List Derived) → Contains (front ++ d ∷ back) d
contains_split [] d back = (0, omega arith, refl)
contains_split (x ∷ front) d back = let rest = contains_split front d back in (suc rest.0, omega arith, rest.2)

pub stops_path : (p : Program) (end : ℕ) (frames : List Frame) (old : List ℕ) → HasFrames p end frames old → ListsFit p frames → apart (derived_words p frames) old ≡ None → (d : Derived) × Contains (derived_words p frames) d × (way_at old d ≡ None)
stops_path p end frames old has_frames fit e =
    let past = apart_past (derived_words p frames) old (derived_apart p frames (rows_kept p end frames has_frames.sit) fit) e in
    (past.derived, subst (λ (ds : List Derived). Contains ds past.derived) (sym past.split) (contains_split past.front past.derived past.back), past.past)

pub stops_tidy : (p : Program) (cells : List Cell) (end : ℕ) (frames : List Frame) (old taken : List ℕ) (before : List Move) → HasFrames p end frames old → ListsFit p frames → apart (derived_words p frames) old ≡ Some taken → StopsVisit cells (tidy_places p frames) taken before
    → (q : ℕ) × (has (tidy_places p frames) q ≡ true) × IsBadPointer cells (word_at_place old q)
stops_tidy p cells end frames old taken before has_frames fit e stops =
    let ds = derived_words p frames in
    let within = derived_within p end frames has_frames.sit in
    let count = has_frames.count in
    let less = apart_less ds old taken (derived_apart p frames (rows_kept p end frames has_frames.sit) fit) (rw count within) e in
    let found = stops_bad cells (tidy_places p frames) taken before (all_apart p frames fit.once).tidy_once stops in
    let same = untouched p frames old taken fit less found.0 found.1 in
    (found.0, found.1, subst (λ (w : ℕ). IsBadPointer cells w) same found.2)
