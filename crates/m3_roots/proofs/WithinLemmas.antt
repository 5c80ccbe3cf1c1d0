-- All places that the rows of a thread's frames name are places of its words.
use Rattle.std.proofs.Common.{◌≡◌, ℕ, suc, ◌+◌, ◌<◌, ◌≤◌, true, ◌&&◌, ◌||◌, List, [], ◌∷◌, ◌++◌, map, length, Option, None, Some, refl, sym, ap, ◌∙◌, inl, inr, subst, arith}
use Rattle.std.specs.Prelude.{◌==◌, nat_lt, nat_le}
use Rattle.std.specs.List.{slice_get, flat_map, AllByRecursion}
use Rattle.std.proofs.lemmas.Bool.Decides.{nat_tests}
use Rattle.m3_tables.specs.Numbers.{word_in, has}
use Rattle.m3_tables.specs.Rows.{Entry}
use Rattle.m3_tables.specs.Keeping.{RowKept}
use Rattle.m3_tables.specs.Sections.{is_tidy, tidy_list, contents_in, is_listed, is_derived}
use Rattle.m3_tables.proofs.KeepingLemmas.{choice, and_parts}
use Rattle.m3_tables.proofs.SectionLemmas.{has_tidy_list}
use Rattle.m3_image_sections.specs.declared.procs.ProcPart.{ProcPart}
use Rattle.m3_image_sections.specs.Parts.{Program}
use Rattle.m3_image_sections.specs.Forms.{proc_fits, follow_from, procs_fit, second_fits}
use Rattle.m3_image_sections.specs.Ranges.{containing}
use Rattle.m3_image.specs.Sound.{IsInFrame, EntryPlaces, RowInFrame, IsSoundProgram}
use Rattle.m3_run_frames.specs.declared.frame.Frame.{Frame}
use Rattle.m3_run_frames.specs.Frames.{IsFrame}
use Rattle.m3_roots.specs.ThreadWords.{places_from, Derived, derived_at, derived_from, place_of, path_list, path_places, base_places}
use Rattle.m3_roots.specs.RowMeaning.{AreBelow, AreFramesAt, HaveRows, tidy_of_frame, arguments_of_frame, tidy_below, newest_arguments, tidy_places, derived_of_frame, derived_words}
use Rattle.m3_roots.specs.RowLists.{derived_places}
use Rattle.m3_roots.specs.Marking.{Act, Lists, Derives, Bars, Uses, place_in_act, AreBefore}
use Rattle.m3_roots.specs.BarActs.{bar_acts}
use Rattle.m3_roots.specs.RowActs.{frame_acts, acts_below, acts_of}
use Rattle.m3_roots.proofs.WordLemmas.{has_first, has_more}
use Rattle.m3_roots.proofs.MarkLemmas.{has_cases}
use Rattle.m3_roots.proofs.PartLemmas.{before_join}
use Rattle.m3_roots.proofs.ApartLemmas.{each_weaker, AreWithin}
use Rattle.m3_roots.proofs.OnceLemmas.{either, in_either, place_low, has_place}
use Rattle.m3_roots.proofs.FitLemmas.{base_is, base_known, KeepEntries, keep_first, keep_later, RowsKept}

-- ---- what a frame keeps

-- it has a row that keeps its form, all places of the row are in the frame, and the frame is before an end
pub record Sits (p : Program) (end : ℕ) (f : Frame) : Type 0 where
  pub row : f.row < word_in p.tables
  pub kept : RowKept p.tables f.row
  pub inside : RowInFrame p f.row f.words
  pub within : f.first + f.words ≤ end
  pub tall : 3 ≤ f.words

tall_in : (start : ℕ) (ps : List ProcPart) (pc : ℕ) (home : ProcPart) → follow_from start ps ≡ true → containing ps pc ≡ Some home → 3 ≤ home.frame
tall_in start [] pc home fits found = absurd cc
tall_in start (q ∷ qs) pc home fits found =
    let parts = and_parts (q.first == start && proc_fits q) (follow_from (q.first + q.count) qs) fits in
    let form = (and_parts (q.first == start) (proc_fits q) parts.0).1 in
    let rest = (and_parts (nat_lt 0 q.count) (nat_le 3 q.body && nat_le q.body q.frame) form).1 in
    let sizes = and_parts (nat_le 3 q.body) (nat_le q.body q.frame) rest in
    let a = sizes.0 in
    let b = sizes.1 in
    elim (choice (nat_lt pc (q.first + q.count))) [
      | inl here ↦ (let e : Some q ≡ Some home = rw here at found in let same : q ≡ home = cc in rw (← same) (grind (arith, nat_tests)))
      | inr later ↦ tall_in (q.first + q.count) qs pc home parts.1 (rw later at found)
    ]

frame_sits : (p : Program) → IsSoundProgram p → procs_fit p.procs ≡ true → (stack : List ℕ) (first instr : ℕ) (f : Frame) → IsFrame p stack first instr f → Sits p (length stack) f
frame_sits p sound fits stack first instr f h =
    let row = sound.rows f.row h.row in
    let housed : containing p.procs instr ≡ Some row.home = subst (λ (n : ℕ). containing p.procs n ≡ Some row.home) h.named row.housed in
    let a = h.housed in
    let same : row.home ≡ h.home = cc in
    let words : row.home.frame ≡ f.words = ap (λ (q : ProcPart). q.frame) same ∙ sym h.words in
    let tall = tall_in 0 p.procs instr h.home (and_parts (follow_from 0 p.procs) (second_fits p.procs) fits).0 h.housed in
    let w = h.words in
    record {
      row = h.row;
      kept = row.form;
      inside = subst (λ (n : ℕ). RowInFrame p f.row n) words row.in_frame;
      within = h.within;
      tall = omega arith;
    }

below_sit : (p : Program) → IsSoundProgram p → procs_fit p.procs ≡ true → (base : ℕ) (stack : List ℕ) (newer : Frame) (fs : List Frame) → AreBelow p base stack newer fs → AllByRecursion (Sits p (length stack)) fs
below_sit p sound fits base stack newer [] h = tt
below_sit p sound fits base stack newer (f ∷ fs) h = (frame_sits p sound fits stack f.first h.0.instr f h.0.frame, below_sit p sound fits base stack f fs h.1)

pub frames_sit : (p : Program) → IsSoundProgram p → procs_fit p.procs ≡ true → (base : ℕ) (stack : List ℕ) (fp pc : ℕ) (fs : List Frame) → AreFramesAt p base stack fp pc fs → AllByRecursion (Sits p (length stack)) fs
frames_sit p sound fits base stack fp pc [] h = tt
frames_sit p sound fits base stack fp pc (f ∷ fs) h = (frame_sits p sound fits stack f.first pc f h.1, below_sit p sound fits base stack f fs h.2)

pub have_rows : (p : Program) (end : ℕ) (fs : List Frame) → AllByRecursion (Sits p end) fs → HaveRows p fs
have_rows p end fs h = each_weaker (Sits p end) (λ f. f.row < word_in p.tables) (λ f s. s.row) fs h

pub rows_kept : (p : Program) (end : ℕ) (fs : List Frame) → AllByRecursion (Sits p end) fs → RowsKept p fs
rows_kept p end fs h = each_weaker (Sits p end) (λ f. RowKept p.tables f.row) (λ f s. s.kept) fs h

pub all_end : (p : Program) (end : ℕ) (fs : List Frame) → AllByRecursion (Sits p end) fs → AllByRecursion (λ f. f.first + f.words ≤ end) fs
all_end p end fs h = each_weaker (Sits p end) (λ f. f.first + f.words ≤ end) (λ f s. s.within) fs h

-- a frame sits before any end that it is before
pub sit_before : (p : Program) (end other : ℕ) (fs : List Frame) → AllByRecursion (Sits p end) fs → AllByRecursion (λ f. f.first + f.words ≤ other) fs → AllByRecursion (Sits p other) fs
sit_before p end other [] h k = tt
sit_before p end other (f ∷ fs) h k =
    (record { row = h.0.row; kept = h.0.kept; inside = h.0.inside; within = k.0; tall = h.0.tall }, sit_before p end other fs h.1 k.1)

-- ---- places of a frame

abbrev pub AllBelow : ℕ → List ℕ → Type 0
AllBelow end places = (q : ℕ) → has places q ≡ true → q < end

numbers_below : (p : Program) (end : ℕ) (f : Frame) (numbers : List ℕ) → Sits p end f → ((l : ℕ) → has numbers l ≡ true → IsInFrame f.words l) → AllBelow (end + 16) (places_from f.first numbers)
numbers_below p end f numbers sits inside q h =
    let found = has_place f.first numbers q h in
    let low = place_low f.first found.0 f.words end (inside found.0 found.2) sits.within in
    rw (← found.1) low

pub tidy_within : (p : Program) (end : ℕ) (f : Frame) → Sits p end f → AllBelow (end + 16) (tidy_of_frame p f)
tidy_within p end f sits = numbers_below p end f (tidy_list p.tables f.row) sits (λ l h. sits.inside.tidy l (sym (has_tidy_list p.tables f.row l) ∙ h))

pub arguments_within : (p : Program) (end : ℕ) (f : Frame) → Sits p end f → AllBelow (end + 16) (arguments_of_frame p f)
arguments_within p end f sits = numbers_below p end f (contents_in p.tables f.row).arguments sits sits.inside.arguments

abbrev EntriesIn : ℕ → List Entry → Type 0
EntriesIn words es = (n : ℕ) (e : Entry) → slice_get es n ≡ Some e → EntryPlaces (IsInFrame words) e

entries_later : (words : ℕ) (x : Entry) (xs : List Entry) → EntriesIn words (x ∷ xs) → EntriesIn words xs
entries_later words x xs h = λ n e found. h (suc n) e found

derived_below : (p : Program) (end : ℕ) (f : Frame) (es : List Entry) → Sits p end f → EntriesIn f.words es → AllByRecursion (λ d. place_of d < end + 16) (derived_from f.first es)
derived_below p end f [] sits inside = tt
derived_below p end f (x ∷ xs) sits inside =
    (place_low f.first x.location f.words end (inside 0 x refl).location sits.within, derived_below p end f xs sits (entries_later f.words x xs inside))

path_below : (p : Program) (end : ℕ) (f : Frame) (o : Option ℕ) → Sits p end f → ((l : ℕ) → o ≡ Some l → IsInFrame f.words l) → AllBelow (end + 16) (places_from f.first (path_list o))
path_below p end f None sits inside q h = absurd cc
path_below p end f (Some l) sits inside q h = numbers_below p end f (l ∷ []) sits (λ m k. elim (has_cases l m [] k) [ inl same ↦ rw (← same) (inside l refl) | inr none ↦ absurd cc ]) q h

paths_below : (p : Program) (end : ℕ) (f : Frame) (es : List Entry) → Sits p end f → EntriesIn f.words es → AllBelow (end + 16) (flat_map path_places (derived_from f.first es))
paths_below p end f [] sits inside q h = absurd cc
paths_below p end f (x ∷ xs) sits inside q h = elim (in_either (path_places (derived_at f.first x)) (flat_map path_places (derived_from f.first xs)) q h) [
  | inl here ↦ path_below p end f x.path sits (inside 0 x refl).path q here
  | inr later ↦ paths_below p end f xs sits (entries_later f.words x xs inside) q later
]

-- a derived word of a list is at the place of an entry of it
derived_is : (words : ℕ) (es : List Entry) (l : ℕ) → EntriesIn words es → is_derived es l ≡ true → IsInFrame words l
derived_is words [] l inside h = absurd cc
derived_is words (x ∷ xs) l inside h = elim (either (x.location == l) (is_derived xs l) h) [
  | inl here ↦ (let same : x.location ≡ l = grind (arith, nat_tests) in rw (← same) (inside 0 x refl).location)
  | inr later ↦ derived_is words xs l (entries_later words x xs inside) later
]

listed_inside : (p : Program) (f : Frame) (l : ℕ) → RowInFrame p f.row f.words → is_listed (is_tidy p.tables f.row) (contents_in p.tables f.row) l ≡ true → IsInFrame f.words l
listed_inside p f l inside h = elim (either (is_tidy p.tables f.row l) (has (contents_in p.tables f.row).arguments l || has (contents_in p.tables f.row).passed l) h) [
  | inl tidy ↦ inside.tidy l tidy
  | inr other ↦ (elim (either (has (contents_in p.tables f.row).arguments l) (has (contents_in p.tables f.row).passed l) other) [
    | inl argument ↦ inside.arguments l argument
    | inr passed ↦ inside.passed l passed
  ])
]

bases_below : (p : Program) (end : ℕ) (f : Frame) (all es : List Entry) → Sits p end f → EntriesIn f.words es → KeepEntries (is_listed (is_tidy p.tables f.row) (contents_in p.tables f.row)) all es → AllBelow (end + 16) (flat_map base_places (derived_from f.first es))
bases_below p end f all [] sits inside kept q h = absurd cc
bases_below p end f all (x ∷ xs) sits inside kept q h = elim (in_either (base_places (derived_at f.first x)) (flat_map base_places (derived_from f.first xs)) q h) [
  | inl here ↦ (
      let listed = is_listed (is_tidy p.tables f.row) (contents_in p.tables f.row) in
      let base = base_is (derived_at f.first x) q here in
      let known = base_known listed all xs f.first x q (keep_first listed all x xs kept) base in
      let inside_frame : IsInFrame f.words base.number = elim (either (listed base.number) (is_derived xs base.number) known) [
        | inl among ↦ listed_inside p f base.number sits.inside among
        | inr later ↦ derived_is f.words xs base.number (entries_later f.words x xs inside) later
      ] in
      let low = place_low f.first base.number f.words end inside_frame sits.within in
      rw (← base.place) low)
  | inr later ↦ bases_below p end f all xs sits (entries_later f.words x xs inside) (keep_later (is_listed (is_tidy p.tables f.row) (contents_in p.tables f.row)) all x xs kept) q later
]

-- ---- acts before an end

before_map : (make : ℕ → Act) → ((q : ℕ) → place_in_act (make q) ≡ q) → (end : ℕ) (xs : List ℕ) → AllBelow end xs → AreBefore end (map make xs)
before_map make is end [] h = tt
before_map make is end (x ∷ xs) h = (rw (is x) (h x (has_first x xs)), before_map make is end xs (λ q k. h q (has_more x q xs k)))

places_below : (end : ℕ) (ds : List Derived) → AllByRecursion (λ d. place_of d < end) ds → AllBelow end (map place_of ds)
places_below end [] h q k = absurd cc
places_below end (d ∷ ds) h q k = elim (has_cases (place_of d) q (map place_of ds) k) [ inl same ↦ rw (← same) h.0 | inr more ↦ places_below end ds h.1 q more ]

frame_before : (p : Program) (end : ℕ) (f : Frame) → Sits p end f → AreBefore (end + 16) (frame_acts p f)
frame_before p end f sits =
    let es = (contents_in p.tables f.row).derived in
    let ds = derived_of_frame p f in
    let paths = before_map Bars (λ q. refl) (end + 16) (flat_map path_places ds) (paths_below p end f es sits sits.inside.derived) in
    let bases = before_map Uses (λ q. refl) (end + 16) (flat_map base_places ds) (bases_below p end f es es sits sits.inside.derived sits.kept.entries) in
    let tidy = before_map Lists (λ q. refl) (end + 16) (tidy_of_frame p f) (tidy_within p end f sits) in
    let derived = before_map Derives (λ q. refl) (end + 16) (derived_places p f) (places_below (end + 16) ds (derived_below p end f es sits sits.inside.derived)) in
    let words = sits.within in
    let tall = sits.tall in
    let bars : AreBefore (end + 16) (bar_acts f.first ds) = (omega arith, (omega arith, before_join (end + 16) (map Bars (flat_map path_places ds)) (map Uses (flat_map base_places ds)) paths bases)) in
    before_join (end + 16) (bar_acts f.first ds) (map Lists (tidy_of_frame p f) ++ map Derives (derived_places p f)) bars (before_join (end + 16) (map Lists (tidy_of_frame p f)) (map Derives (derived_places p f)) tidy derived)

below_before : (p : Program) (end : ℕ) (fs : List Frame) → AllByRecursion (Sits p end) fs → AreBefore (end + 16) (acts_below p fs)
below_before p end [] h = tt
below_before p end (f ∷ fs) h = before_join (end + 16) (frame_acts p f) (acts_below p fs) (frame_before p end f h.0) (below_before p end fs h.1)

newest_before : (p : Program) (end : ℕ) (fs : List Frame) → AllByRecursion (Sits p end) fs → AreBefore (end + 16) (map Lists (newest_arguments p fs))
newest_before p end [] h = tt
newest_before p end (f ∷ fs) h = before_map Lists (λ q. refl) (end + 16) (arguments_of_frame p f) (arguments_within p end f h.0)

pub acts_before : (p : Program) (end : ℕ) (fs : List Frame) → AllByRecursion (Sits p end) fs → AreBefore (end + 16) (acts_of p fs)
acts_before p end fs h = before_join (end + 16) (map Lists (newest_arguments p fs)) (acts_below p fs) (newest_before p end fs h) (below_before p end fs h)

-- ---- tidy and derived places of all frames

each_append : {X : Type 0} (P : X → Type 0) (xs ys : List X) → AllByRecursion P xs → AllByRecursion P ys → AllByRecursion P (xs ++ ys)
each_append P [] ys h k = k
each_append P (x ∷ xs) ys h k = (h.0, each_append P xs ys h.1 k)

pub derived_within : (p : Program) (end : ℕ) (fs : List Frame) → AllByRecursion (Sits p end) fs → AreWithin (end + 16) (derived_words p fs)
derived_within p end [] h = tt
derived_within p end (f ∷ fs) h =
    each_append (λ d. place_of d < end + 16) (derived_of_frame p f) (derived_words p fs) (derived_below p end f (contents_in p.tables f.row).derived h.0 h.0.inside.derived) (derived_within p end fs h.1)

below_within : (p : Program) (end : ℕ) (fs : List Frame) → AllByRecursion (Sits p end) fs → AllBelow (end + 16) (tidy_below p fs)
below_within p end [] h q k = absurd cc
below_within p end (f ∷ fs) h q k = elim (in_either (tidy_of_frame p f) (tidy_below p fs) q k) [ inl here ↦ tidy_within p end f h.0 q here | inr later ↦ below_within p end fs h.1 q later ]

newest_within : (p : Program) (end : ℕ) (fs : List Frame) → AllByRecursion (Sits p end) fs → AllBelow (end + 16) (newest_arguments p fs)
newest_within p end [] h q k = absurd cc
newest_within p end (f ∷ fs) h q k = arguments_within p end f h.0 q k

pub all_tidy_within : (p : Program) (end : ℕ) (fs : List Frame) → AllByRecursion (Sits p end) fs → AllBelow (end + 16) (tidy_places p fs)
all_tidy_within p end fs h q k = elim (in_either (newest_arguments p fs) (tidy_below p fs) q k) [ inl newest ↦ newest_within p end fs h q newest | inr below ↦ below_within p end fs h q below ]
