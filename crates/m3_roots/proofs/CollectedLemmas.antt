-- A whole collection, by the answers of its parts.
use Rattle.std.proofs.Common.{◌≡◌, ◌⊎◌, ℕ, zero, suc, ◌+◌, ◌<◌, ◌≤◌, Bool, true, false, not, ◌&&◌, List, [], ◌∷◌, ◌++◌, map, length, Option, None, Some, refl, sym, ap, ◌∙◌, inl, inr, subst, arith}
use Rattle.std.specs.Prelude.{Contains, nat_lt, nat_le, ◌==◌}
use Rattle.std.specs.List.{slice_get, AllByRecursion, list_all}
use Rattle.std.proofs.lemmas.List.{ext_get_or}
use Rattle.std.proofs.lemmas.List.Elements.{All-from_recursion, All-contains, Contains-append_left, Contains-append_right, Contains-append_cases}
use Rattle.std.proofs.lemmas.Bool.{cases_lt, ltb-true}
use Rattle.std.proofs.lemmas.Bool.Decides.{nat_tests}
use Rattle.std.proofs.lemmas.Option.{slice_get_within, slice_get-get_or}
use Rattle.std.specs.Bool.{MatchBool, OnTrue, OnFalse}
use Rattle.m3_tables.specs.Numbers.{has, rises, is_once}
use Rattle.m3_tables.specs.Sections.{is_between}
use Rattle.m3_tables.proofs.KeepingLemmas.{choice, and_parts, has_passes}
use Rattle.m3_heap.specs.Cells.{Cell, IsInHeap}
use Rattle.m3_heap.specs.Shapes.{Shape}
use Rattle.m3_heap.specs.Moves.{Move, kept_starts, staying}
use Rattle.m3_heap.specs.Reach.{IsBadPointer, HasBadPointer}
use Rattle.m3_heap.specs.Heap.{Heap, KeepsLaws, SameSizes, KeepsReached, MovesCells, MakesRoom, CountsOne, ChangesHalves}
use Rattle.m3_threads.specs.declared.status.Thread.{Thread}
use Rattle.m3_threads.specs.All.{Everyone, thread_named, base_of, words_of}
use Rattle.m3_threads.specs.Going.{of_thread}
use Rattle.m3_threads.proofs.Places.{some_same, place_rising}
use Rattle.m3_image_sections.specs.Parts.{Program}
use Rattle.m3_image.specs.Programs.{fault_of}
use Rattle.m3_run_frames.specs.declared.frame.Frame.{Frame}
use Rattle.m3_roots.specs.ThreadWords.{word_at_place, Derived, way_at}
use Rattle.m3_roots.specs.RowMeaning.{AreFramesAt, tidy_places, derived_words}
use Rattle.m3_roots.specs.RowLists.{ListsFit}
use Rattle.m3_roots.specs.Gathering.{StopsGathering, lists, path, tidy, GoesOn}
use Rattle.m3_roots.specs.Collected.{Parts, shapes_of, words_at, AreFrames, frames_at, AllFramed, tidy_words, all_tidy_words, tidy_globals, roots_of, MovesThreads, MovesGlobals, Collected, StopsThread, lists as lists_unfit, tidy as tidy_bad, path as path_past, StopsCollection, frames as unframed_thread, thread as stopped_thread, global as bad_global, pointer as bad_pointer}
use Rattle.m3_roots.proofs.GoodLemmas.{IsGood}
use Rattle.m3_roots.proofs.WordLemmas.{has_first, has_more}
use Rattle.m3_roots.proofs.MarkLemmas.{has_cases}
use Rattle.m3_roots.proofs.FrameLemmas.{frames_once}
use Rattle.m3_roots.proofs.WithinLemmas.{frames_sit}
use Rattle.m3_roots.proofs.VisitLemmas.{Grew, grew_twice, IsKnown, known_stays, forwarded_stays, AreForwarded, visits_forward, stops_bad}
use Rattle.m3_roots.proofs.ThreadLemmas.{HasFrames, forwards, stops_path, stops_tidy}
use Rattle.m3_roots.proofs.ApartLemmas.{IsLess, AreLess}
use Rattle.m3_roots.proofs.ReachLemmas.{contains_has, has_contains, Leads, reached_too, bad_too, known_leads, staying_starts, stays_put}
use Rattle.m3_roots.specs.Visiting.{VisitsAll, StopsVisit, KeepsHeap}
use Rattle.m3_roots.specs.Offsets.{KeepsOffsets, AllKeepOffsets}
use Rattle.m3_roots.specs.ThreadsGathered.{GathersThread, Alike, StopsThreadHere, unframed, stopped, AreSoundIn, ThreadGathered, Gathered, AllGathered, Visited, opened}
use Rattle.m3_roots.proofs.GatheredLemmas.{grew_if, goes_twice, gathered_none, gathered_more}
use Rattle.m3_roots.proofs.OffsetLemmas.{keeps_offsets}

-- ---- what every image keeps

below_first : (x y : ℕ) (xs : List ℕ) → x < y → rises (y ∷ xs) ≡ true → has (y ∷ xs) x ≡ false
below_first x y [] lt e = let other : (y == x) ≡ false = grind (arith, nat_tests) in rw other refl
below_first x y (z ∷ xs) lt e =
    let parts = and_parts (nat_lt y z) (rises (z ∷ xs)) e in
    let next = ltb-true y z parts.0 in
    let other : (y == x) ≡ false = grind (arith, nat_tests) in
    rw other (below_first x z xs (omega arith) parts.1)

rises_once : (xs : List ℕ) → rises xs ≡ true → is_once xs ≡ true
rises_once [] e = refl
rises_once (x ∷ []) e = refl
rises_once (x ∷ y ∷ xs) e =
    let parts = and_parts (nat_lt x y) (rises (y ∷ xs)) e in
    let gone = below_first x y xs (ltb-true x y parts.0) parts.1 in
    rw gone (rises_once (y ∷ xs) parts.1)

globals_once : (p : Program) → IsGood p → is_once p.globals.pointers ≡ true
globals_once p good =
    let all = and_parts (nat_le 4 p.globals.words) (rises p.globals.pointers && list_all (is_between 4 p.globals.words) p.globals.pointers) good.globals in
    rises_once p.globals.pointers (and_parts (rises p.globals.pointers) (list_all (is_between 4 p.globals.words) p.globals.pointers) all.1).0

globals_within : (p : Program) → IsGood p → (n : ℕ) → has p.globals.pointers n ≡ true → n < p.globals.words
globals_within p good n h =
    let all = and_parts (nat_le 4 p.globals.words) (rises p.globals.pointers && list_all (is_between 4 p.globals.words) p.globals.pointers) good.globals in
    let between = has_passes (is_between 4 p.globals.words) p.globals.pointers n (and_parts (rises p.globals.pointers) (list_all (is_between 4 p.globals.words) p.globals.pointers) all.1).1 h in
    ltb-true n p.globals.words (and_parts (not (nat_lt n 4)) (nat_lt n p.globals.words) between).1

-- ---- threads by their places

there : {A : Type 0} (xs : List A) (i : ℕ) → i < length xs → (x : A) × (slice_get xs i ≡ Some x)
there [] i lt = absurd (omega arith)
there (x ∷ xs) zero lt = (x, refl)
there (x ∷ xs) (suc i) lt = there xs i (omega arith)

pub member : {A : Type 0} (xs : List A) (k : ℕ) (x : A) → slice_get xs k ≡ Some x → Contains xs x
member [] k x e = absurd cc
member (y ∷ ys) zero x e = let same : y ≡ x = cc in (0, omega arith, same)
member (y ∷ ys) (suc k) x e = let rest = member ys k x e in (suc rest.0, omega arith, rest.2)

pub place_in : {A : Type 0} (xs : List A) (x : A) → Contains xs x → (k : ℕ) × (slice_get xs k ≡ Some x)
place_in xs x h = (h.0, slice_get-get_or xs h.0 x h.1 ∙ ap Some h.2)

named_by : (o : Option Thread) (n : ℕ) → Some n ≡ of_thread (λ t. t.number) o → (t : Thread) × (o ≡ Some t) × (t.number ≡ n)
named_by None n e = absurd cc
named_by (Some t) n e = (t, refl, cc)

-- the thread of a number that was told of a place
pub record ThreadAt (all : Everyone) (k n : ℕ) : Type 0 where
  pub t : Thread
  pub at : slice_get all.threads k ≡ Some t
  pub number : t.number ≡ n
  pub named : thread_named all n ≡ Some t

pub thread_at : (all : Everyone) (k n : ℕ) → AreSoundIn all → Some n ≡ of_thread (λ t. t.number) (slice_get all.threads k) → ThreadAt all k n
thread_at all k n sound e =
    let found = named_by (slice_get all.threads k) n e in
    let place = place_rising all.threads k found.0 sound.rising found.1 in
    record {
      t = found.0;
      at = found.1;
      number = found.2;
      named = subst (λ (m : ℕ). thread_named all m ≡ Some found.0) found.2 (place.found ∙ found.1);
    }

none_at : (ts : List Thread) (k : ℕ) → None ≡ of_thread (λ t. t.number) (slice_get ts k) → length ts ≤ k
none_at ts k e = elim (cases_lt k (length ts)) [
  | inl low ↦ (let x = there ts k low in let f : None ≡ Some x.0.number = e ∙ ap (of_thread (λ (t : Thread). t.number)) x.1 in absurd cc)
  | inr past ↦ past
]

pub none_left : (ts : List Thread) (k : ℕ) → None ≡ of_thread (λ t. t.number) (slice_get ts k) → length ts ≤ k
none_left ts k e = none_at ts k e

-- ---- all threads were gathered

pub all_gathered : (p : Program) (cells : List Cell) (first now : Everyone) (start moves : List Move) (n : ℕ) (walks : List (List Frame)) → Gathered p cells first now start moves n walks → length first.threads ≤ n → n ≡ length first.threads
all_gathered p cells first now start moves zero walks g le = omega arith
all_gathered p cells first now start moves (suc n) walks g le = let last = g.each n (omega arith) in let lt = slice_get_within first.threads n last.t last.was in omega arith

pub all_framed : (p : Program) (cells : List Cell) (first now : Everyone) (start moves : List Move) (n : ℕ) (walks : List (List Frame)) → Gathered p cells first now start moves n walks → length first.threads ≤ n → AllFramed p first walks
all_framed p cells first now start moves n walks g le =
    let all = all_gathered p cells first now start moves n walks g le in
    record {
      count = g.count ∙ all;
      each = λ k t at. (
          let lt = slice_get_within first.threads k t at in
          let here = g.each k (omega arith) in
          let same : here.t ≡ t = (let a = here.was in cc) in
          subst (λ (x : Thread). AreFrames p first x (frames_at walks k)) same here.framed);
    }

-- no thread has two lists of frames
pub walks_once : (p : Program) → fault_of p ≡ None → (all : Everyone) (ws vs : List (List Frame)) → AllFramed p all ws → AllFramed p all vs → ws ≡ vs
walks_once p good all ws vs h k =
    let a = h.count in
    let b = k.count in
    ext_get_or [] ws vs (a ∙ sym b) (λ i lt. (
    let within : i < length all.threads = omega arith in
    let x = there all.threads i within in
    frames_once p good (base_of x.0) (words_of all x.0) x.0.regs.fp x.0.regs.pc (frames_at ws i) (frames_at vs i) (h.each i x.0 x.1) (k.each i x.0 x.1)))

-- ---- what one thread gives

-- a gathered thread, as it was before
pub record Good (p : Program) (cells : List Cell) (words : List ℕ) (moves : List Move) (frames : List Frame) : Type 0 where
  pub fit : ListsFit p frames
  pub known : (q : ℕ) → has (tidy_places p frames) q ≡ true → IsKnown moves (word_at_place words q)
  pub good : (q : ℕ) → has (tidy_places p frames) q ≡ true → IsBadPointer cells (word_at_place words q) → ⊥
  pub ways : (d : Derived) → Contains (derived_words p frames) d → way_at words d ≡ None → ⊥

some_way : (p : Program) (frames : List Frame) (old taken : List ℕ) → AreLess (derived_words p frames) old taken → (d : Derived) → Contains (derived_words p frames) d → way_at old d ≡ None → ⊥
some_way p frames old taken less d among none =
    let here = All-contains (IsLess old taken) (derived_words p frames) d (All-from_recursion (IsLess old taken) (derived_words p frames) less.each) among in
    let takes = here.takes in
    cc

good_thread : (p : Program) → IsGood p → (cells : List Cell) (first now : Everyone) (moves : List Move) (k : ℕ) (frames : List Frame) → (g : ThreadGathered p cells first now moves k frames) → Good p cells (words_at first g.t) moves frames
good_thread p good cells first now moves k frames g =
    let old = words_at first g.t in
    let has_frames : HasFrames p (length (words_of first g.t)) frames old = record { sit = frames_sit p good.sound good.procs (base_of g.t) (words_of first g.t) g.t.regs.fp g.t.regs.pc frames g.framed; count = g.count } in
    let f = forwards p cells (length (words_of first g.t)) frames old g.before (words_at now g.u) g.after has_frames g.gathers in
    record {
      fit = g.gathers.fit;
      known = λ q h. subst (IsKnown moves) (f.tidy_same q h) (known_stays g.after moves (word_at_place f.taken q) (grew_if g.after moves g.grew) (f.words.each q h).1);
      good = λ q h bad. (f.words.each q h).2 (subst (IsBadPointer cells) (sym (f.tidy_same q h)) bad);
      ways = some_way p frames old f.taken f.less;
    }

-- ---- what stops one

pub stops_thread : (p : Program) → IsGood p → (s : Parts) (t : Thread) (frames : List Frame) (before : List Move) → AreFrames p s.all t frames → length (words_at s.all t) ≡ length (words_of s.all t) + 16 → StopsGathering p s.heap.cells frames (words_at s.all t) before → StopsThread p s t frames
stops_thread p good s t frames before framed count (lists unfit) = lists_unfit unfit
stops_thread p good s t frames before framed count (path fit e) =
    let has_frames : HasFrames p (length (words_of s.all t)) frames (words_at s.all t) = record { sit = frames_sit p good.sound good.procs (base_of t) (words_of s.all t) t.regs.fp t.regs.pc frames framed; count = count } in
    let found = stops_path p (length (words_of s.all t)) frames (words_at s.all t) has_frames fit e in
    path_past found.0 found.1 found.2
stops_thread p good s t frames before framed count (tidy taken fit e stops) =
    let has_frames : HasFrames p (length (words_of s.all t)) frames (words_at s.all t) = record { sit = frames_sit p good.sound good.procs (base_of t) (words_of s.all t) t.regs.fp t.regs.pc frames framed; count = count } in
    let found = stops_tidy p s.heap.cells (length (words_of s.all t)) frames (words_at s.all t) taken before has_frames fit e stops in
    tidy_bad found.0 found.1 found.2

-- the first thread that can't be gathered stops the collection
pub stops_here : (p : Program) → IsGood p → (s : Parts) (now : Everyone) (start moves : List Move) (n : ℕ) (walks : List (List Frame)) (t : Thread) → Gathered p s.heap.cells s.all now start moves n walks → slice_get now.threads n ≡ Some t → StopsThreadHere p s.heap.cells t now moves → StopsCollection p s
stops_here p good s now start moves n walks t g at (unframed none) =
    let was : slice_get s.all.threads n ≡ Some t = sym (g.rest n (omega arith)) ∙ at in
    let words : words_of now t ≡ words_of s.all t = g.rest_words n t (omega arith) was in
    unframed_thread t (member s.all.threads n t was) (λ frames framed. none frames (subst (λ (ws : List ℕ). AreFramesAt p (base_of t) ws t.regs.fp t.regs.pc frames) (sym words) framed))
stops_here p good s now start moves n walks t g at (stopped frames framed count stops) =
    let was : slice_get s.all.threads n ≡ Some t = sym (g.rest n (omega arith)) ∙ at in
    let words : words_of now t ≡ words_of s.all t = g.rest_words n t (omega arith) was in
    let framed_first = subst (λ (ws : List ℕ). AreFramesAt p (base_of t) ws t.regs.fp t.regs.pc frames) words framed in
    let count_first = subst (λ (ws : List ℕ). length (t.regs.r ++ ws) ≡ length ws + 16) words count in
    let stops_first = subst (λ (ws : List ℕ). StopsGathering p s.heap.cells frames (t.regs.r ++ ws) moves) words stops in
    stopped_thread t frames (member s.all.threads n t was) framed_first (stops_thread p good s t frames moves framed_first count_first stops_first)

-- ---- the words of all threads

tidy_among : (p : Program) (all : Everyone) (ts : List Thread) (walks : List (List Frame)) (k : ℕ) (t : Thread) (w : ℕ) → slice_get ts k ≡ Some t → k < length walks → Contains (tidy_words p all t (frames_at walks k)) w → Contains (all_tidy_words p all ts walks) w
tidy_among p all [] walks k t w at lt h = absurd cc
tidy_among p all (u ∷ us) [] k t w at lt h = absurd (omega arith)
tidy_among p all (u ∷ us) (f ∷ fs) zero t w at lt h =
    let same : t ≡ u = some_same (sym at) in
    Contains-append_left (tidy_words p all u f) (all_tidy_words p all us fs) w (subst (λ (x : Thread). Contains (tidy_words p all x f) w) same h)
tidy_among p all (u ∷ us) (f ∷ fs) (suc k) t w at lt h = Contains-append_right (tidy_words p all u f) (all_tidy_words p all us fs) w (tidy_among p all us fs k t w at (omega arith) h)

pub record TidyOf (p : Program) (all : Everyone) (ts : List Thread) (walks : List (List Frame)) (w : ℕ) : Type 0 where
  pub k : ℕ
  pub t : Thread
  pub at : slice_get ts k ≡ Some t
  pub within : k < length walks
  pub among : Contains (tidy_words p all t (frames_at walks k)) w

tidy_from : (p : Program) (all : Everyone) (ts : List Thread) (walks : List (List Frame)) (w : ℕ) → Contains (all_tidy_words p all ts walks) w → TidyOf p all ts walks w
tidy_from p all [] walks w h = let lt = h.1 in absurd (omega arith)
tidy_from p all (u ∷ us) [] w h = let lt = h.1 in absurd (omega arith)
tidy_from p all (u ∷ us) (f ∷ fs) w h = elim (Contains-append_cases (tidy_words p all u f) (all_tidy_words p all us fs) w h) [
  | inl here ↦ record { k = 0; t = u; at = refl; within = omega arith; among = here }
  | inr later ↦ (let rest = tidy_from p all us fs w later in let within = rest.within in record { k = suc rest.k; t = rest.t; at = rest.at; within = omega arith; among = rest.among })
]

-- a word of some places is the word of one of them
pub in_words : (words places : List ℕ) (w : ℕ) → Contains (map (word_at_place words) places) w → (q : ℕ) × (has places q ≡ true) × (word_at_place words q ≡ w)
in_words words [] w h = let lt = h.1 in absurd (omega arith)
in_words words (p ∷ ps) w h = elim (has_cases (word_at_place words p) w (map (word_at_place words) ps) (has_contains (map (word_at_place words) (p ∷ ps)) w h)) [
  | inl same ↦ (p, has_first p ps, same)
  | inr later ↦ (let rest = in_words words ps w (contains_has (map (word_at_place words) ps) w later) in (rest.0, has_more p rest.0 ps rest.1, rest.2))
]

-- ---- the roots, when all were visited

visited_globals : (p : Program) → IsGood p → (old : Parts) (now : Everyone) (globals : List ℕ) (moves : List Move) → length old.globals ≡ p.globals.words → (v : Visited p old now globals moves) → AreForwarded old.heap.cells p.globals.pointers old.globals v.middle globals moves
visited_globals p good old now globals moves count v =
    visits_forward old.heap.cells p.globals.pointers old.globals v.middle globals moves (globals_once p good) (λ n h. (let lt = globals_within p good n h in omega arith)) v.globals_visited

pub visited_grew : (p : Program) → IsGood p → (old : Parts) (now : Everyone) (globals : List ℕ) (moves : List Move) → length old.globals ≡ p.globals.words → Visited p old now globals moves → Grew (staying old.heap.tenured) moves
visited_grew p good old now globals moves count v =
    let f = visited_globals p good old now globals moves count v in
    grew_twice (staying old.heap.tenured) v.middle moves (grew_if (staying old.heap.tenured) v.middle v.threads.gathered.grew) f.grew

starts_of : (moves more : List Move) → kept_starts (moves ++ more) ≡ kept_starts moves ++ kept_starts more
starts_of [] more = refl
starts_of (m ∷ ms) more = ap (λ (xs : List ℕ). m.from ∷ xs) (starts_of ms more)

good_at : (p : Program) → IsGood p → (old : Parts) (now : Everyone) (globals : List ℕ) (moves : List Move) → (v : Visited p old now globals moves) → (k : ℕ) (t : Thread) → slice_get old.all.threads k ≡ Some t → Good p old.heap.cells (words_at old.all t) v.middle (frames_at v.threads.walks k)
good_at p good old now globals moves v k t at =
    let lt = slice_get_within old.all.threads k t at in
    let all = v.threads.all in
    let here = v.threads.gathered.each k (omega arith) in
    let same : here.t ≡ t = some_same (sym here.was ∙ at) in
    subst (λ (x : Thread). Good p old.heap.cells (words_at old.all x) v.middle (frames_at v.threads.walks k)) same (good_thread p good old.heap.cells old.all now v.middle k (frames_at v.threads.walks k) here)

-- each root that may refer to a cell was kept
pub roots_lead : (p : Program) → IsGood p → (old : Parts) (now : Everyone) (globals : List ℕ) (moves : List Move) → length old.globals ≡ p.globals.words → (v : Visited p old now globals moves) → Leads (roots_of p old v.threads.walks) (kept_starts moves)
roots_lead p good old now globals moves count v = λ w h.
    (let f = visited_globals p good old now globals moves count v in
    let grew = visited_grew p good old now globals moves count v in
    let rest = all_tidy_words p old.all old.all.threads v.threads.walks ++ tidy_globals p old.globals in
    elim (Contains-append_cases old.heap.tenured rest w h) [
      | inl unasked ↦ inr (
          let starts : kept_starts moves ≡ old.heap.tenured ++ kept_starts grew.more = ap kept_starts grew.is ∙ starts_of (staying old.heap.tenured) grew.more ∙ ap (λ (xs : List ℕ). xs ++ kept_starts grew.more) (staying_starts old.heap.tenured) in
          subst (λ (xs : List ℕ). Contains xs w) (sym starts) (Contains-append_left old.heap.tenured (kept_starts grew.more) w unasked))
      | inr others ↦ (elim (Contains-append_cases (all_tidy_words p old.all old.all.threads v.threads.walks) (tidy_globals p old.globals) w others) [
        | inl word ↦ (
            let of_thread_ = tidy_from p old.all old.all.threads v.threads.walks w word in
            let here = good_at p good old now globals moves v of_thread_.k of_thread_.t of_thread_.at in
            let place = in_words (words_at old.all of_thread_.t) (tidy_places p (frames_at v.threads.walks of_thread_.k)) w of_thread_.among in
            let known = subst (IsKnown v.middle) place.2 (here.known place.0 place.1) in
            known_leads moves w (known_stays v.middle moves w f.grew known))
        | inr word ↦ (
            let place = in_words old.globals p.globals.pointers w word in
            known_leads moves w (subst (IsKnown moves) place.2 (f.each place.0 place.1).1))
      ])
    ])

-- each cell that was kept is that of a root
pub starts_lead : (p : Program) → IsGood p → (old : Parts) (now : Everyone) (globals : List ℕ) (moves : List Move) → length old.globals ≡ p.globals.words → (v : Visited p old now globals moves) → Leads (kept_starts moves) (roots_of p old v.threads.walks)
starts_lead p good old now globals moves count v = λ w h. inr
    (let f = visited_globals p good old now globals moves count v in
    let threads = all_tidy_words p old.all old.all.threads v.threads.walks in
    let rest = threads ++ tidy_globals p old.globals in
    elim (f.starts w (has_contains (kept_starts moves) w h)) [
      | inl kept ↦ (elim (v.threads.gathered.starts w kept) [
        | inl unasked ↦ Contains-append_left old.heap.tenured rest w (subst (λ (xs : List ℕ). Contains xs w) (staying_starts old.heap.tenured) (contains_has (kept_starts (staying old.heap.tenured)) w unasked))
        | inr below ↦ (
            let lower = below.lower in
            let many = v.threads.gathered.count in
            let among = tidy_among p old.all old.all.threads v.threads.walks below.k below.t w below.there (omega arith) (contains_has (tidy_words p old.all below.t (frames_at v.threads.walks below.k)) w below.word) in
            Contains-append_right old.heap.tenured rest w (Contains-append_left threads (tidy_globals p old.globals) w among))
      ])
      | inr word ↦ Contains-append_right old.heap.tenured rest w (Contains-append_right threads (tidy_globals p old.globals) w (contains_has (tidy_globals p old.globals) w word))
    ])

pub visited_framed : (p : Program) (old : Parts) (now : Everyone) (globals : List ℕ) (moves : List Move) → (v : Visited p old now globals moves) → AllFramed p old.all v.threads.walks
visited_framed p old now globals moves v = all_framed p old.heap.cells old.all now (staying old.heap.tenured) v.middle v.threads.n v.threads.walks v.threads.gathered v.threads.all

-- ---- nothing stops it

stops_not : (p : Program) → IsGood p → (old : Parts) (now : Everyone) (globals : List ℕ) (moves : List Move) → (v : Visited p old now globals moves) → (k : ℕ) (t : Thread) (frames : List Frame) → slice_get old.all.threads k ≡ Some t → AreFrames p old.all t frames → StopsThread p old t frames → ⊥
stops_not p good old now globals moves v k t frames at framed stops =
    let walk = frames_at v.threads.walks k in
    let mine = (visited_framed p old now globals moves v).each k t at in
    let same : frames ≡ walk = frames_once p good.fault (base_of t) (words_of old.all t) t.regs.fp t.regs.pc frames walk framed mine in
    let here = good_at p good old now globals moves v k t at in
    elim (subst (StopsThread p old t) same stops) [
      | lists_unfit unfit ↦ unfit here.fit
      | tidy_bad place listed bad ↦ here.good place listed bad
      | path_past d among past ↦ here.ways d among past
    ]

pub nothing_stops : (p : Program) → IsGood p → (old : Parts) (now : Everyone) (globals : List ℕ) (moves : List Move) → length old.globals ≡ p.globals.words → AllByRecursion IsInHeap old.heap.cells → (v : Visited p old now globals moves)
    → (HasBadPointer (shapes_of p) old.heap.cells (kept_starts moves) → ⊥) → StopsCollection p old → ⊥
nothing_stops p good old now globals moves count high v fine (unframed_thread t among none) =
    let at = place_in old.all.threads t among in
    none (frames_at v.threads.walks at.0) ((visited_framed p old now globals moves v).each at.0 t at.1)
nothing_stops p good old now globals moves count high v fine (stopped_thread t frames among framed stops) =
    let at = place_in old.all.threads t among in
    stops_not p good old now globals moves v at.0 t frames at.1 framed stops
nothing_stops p good old now globals moves count high v fine (bad_global n pointer bad) = ((visited_globals p good old now globals moves count v).each n pointer).2 bad
nothing_stops p good old now globals moves count high v fine (bad_pointer walks framed bad) =
    let same : walks ≡ v.threads.walks = walks_once p good.fault old.all walks v.threads.walks framed (visited_framed p old now globals moves v) in
    let here = subst (λ (ws : List (List Frame)). HasBadPointer (shapes_of p) old.heap.cells (roots_of p old ws)) same bad in
    fine (bad_too (shapes_of p) old.heap.cells (roots_of p old v.threads.walks) (kept_starts moves) high (roots_lead p good old now globals moves count v) here)

-- ---- what stops it after the threads

pub stops_globals : (p : Program) → IsGood p → (old : Parts) (moves : List Move) → StopsVisit old.heap.cells p.globals.pointers old.globals moves → StopsCollection p old
stops_globals p good old moves stops =
    let found = stops_bad old.heap.cells p.globals.pointers old.globals moves (globals_once p good) stops in
    bad_global found.0 found.1 found.2

pub stops_pointer : (p : Program) → IsGood p → (old : Parts) (now : Everyone) (globals : List ℕ) (moves : List Move) → length old.globals ≡ p.globals.words → AllByRecursion IsInHeap old.heap.cells → Visited p old now globals moves → HasBadPointer (shapes_of p) old.heap.cells (kept_starts moves) → StopsCollection p old
stops_pointer p good old now globals moves count high v bad =
    bad_pointer v.threads.walks (visited_framed p old now globals moves v) (bad_too (shapes_of p) old.heap.cells (kept_starts moves) (roots_of p old v.threads.walks) high (starts_lead p good old now globals moves count v) bad)

-- ---- the whole

-- what the end of a collection leaves
pub record Finishes (shapes : List Shape) (old new : Heap) : Type 0 where
  pub reached : KeepsReached shapes old new
  pub moved : MovesCells shapes old new
  pub room : MakesRoom old new
  pub counted : CountsOne old new
  pub halves : ChangesHalves old new
  pub closed : new.is_open ≡ false
  pub asked : new.asked ≡ 0
  pub sizes : SameSizes old new
  pub laws : KeepsLaws new

moves_globals : (p : Program) → IsGood p → (old : Parts) (now : Everyone) (globals : List ℕ) (moves last : List Move) → length old.globals ≡ p.globals.words → Visited p old now globals moves → Grew moves last → MovesGlobals p last old.globals globals
moves_globals p good old now globals moves last count v grew =
    let f = visited_globals p good old now globals moves count v in (
      f.count,
      λ n. elim (choice (has p.globals.pointers n)) [
        | inl pointer ↦ (let each = f.each n pointer in rw pointer (each.0 ∙ sym (forwarded_stays moves last (word_at_place old.globals n) grew each.1)))
        | inr plain ↦ rw plain (f.others n plain)
      ],
    )

pub collected : (p : Program) → IsGood p → (old : Parts) (now last : Everyone) (globals : List ℕ) (moves : List Move) (heap : Heap) → length old.globals ≡ p.globals.words → AllByRecursion IsInHeap old.heap.cells → (v : Visited p old now globals moves) → Finishes (shapes_of p) (opened old.heap moves) heap
    → MovesThreads p heap.moves v.threads.walks old.all last → Collected p old (record { all = last; globals = globals; heap = heap })
collected p good old now last globals moves heap count high v done threads =
    let roots = roots_of p old v.threads.walks in
    let starts = kept_starts moves in
    let grew = visited_grew p good old now globals moves count v in
    let on : Grew moves heap.moves = record { more = done.reached.goes_on.0; is = done.reached.goes_on.1 } in
    record {
      walks = v.threads.walks;
      framed = visited_framed p old now globals moves v;
      one_to_one = done.reached.one_to_one;
      kept = λ start. (
        λ h. reached_too (shapes_of p) old.heap.cells starts roots high (starts_lead p good old now globals moves count v) start (done.reached.reached start h),
        λ h. done.reached.kept start (reached_too (shapes_of p) old.heap.cells roots starts high (roots_lead p good old now globals moves count v) start h),
      );
      unasked = λ start h. stays_put old.heap.tenured heap.moves (grew_twice (staying old.heap.tenured) moves heap.moves grew on) start h;
      cells = done.moved;
      threads = threads;
      globals = moves_globals p good old now globals moves heap.moves count v on;
      closed = done.closed;
      asked = done.asked;
      sizes = record { size = done.sizes.size; nursery = done.sizes.nursery };
      halves = record { base = done.halves.base; young = done.halves.young };
      counted = done.counted;
      room = done.room;
      laws = done.laws;
    }

-- each derived word is as far from its bases as before
pub offsets_kept : (p : Program) → IsGood p → (old : Parts) (now last : Everyone) (globals : List ℕ) (moves later : List Move) → (v : Visited p old now globals moves) → MovesThreads p later v.threads.walks old.all last → AllKeepOffsets p old.all last
offsets_kept p good old now last globals moves later v threads = λ k t u frames at is framed.
    (let walk = frames_at v.threads.walks k in
    let mine = (visited_framed p old now globals moves v).each k t at in
    let same : frames ≡ walk = frames_once p good.fault (base_of t) (words_of old.all t) t.regs.fp t.regs.pc frames walk framed mine in
    let here = good_at p good old now globals moves v k t at in
    let kept = keeps_offsets p walk later (words_at old.all t) (words_at last u) here.fit here.ways (threads.words k t u at is) in
    subst (λ (fs : List Frame). KeepsOffsets (derived_words p fs) (words_at old.all t) (words_at last u)) (sym same) kept)

-- ---- one thread after another

-- a thread's stack has as many words as every stack
pub stack_words : (first now : Everyone) (k : ℕ) (t : Thread) → Alike first now → AreSoundIn now → slice_get now.threads k ≡ Some t → length (words_of now t) ≡ first.stack
stack_words first now k t alike sound at = sound.words k t at ∙ ap (λ (all : Everyone). all.stack) alike.rest

-- ---- all threads

few_of : (first now : Everyone) → Alike first now → AreSoundIn now → length first.threads ≤ 64
few_of first now alike sound =
    let count = alike.count in
    let room = sound.room in
    let few = sound.few in
    omega arith

pub all_visited : (p : Program) (cells : List Cell) (first now : Everyone) (start moves : List Move) (n : ℕ) (walks : List (List Frame)) → AreSoundIn now → None ≡ of_thread (λ t. t.number) (slice_get now.threads n) → Gathered p cells first now start moves n walks → AllGathered p cells first now start moves
all_visited p cells first now start moves n walks sound none g =
    let past = none_left now.threads n none in
    let count = g.alike.count in
    record { n = n; all = omega arith; few = few_of first now g.alike sound; walks = walks; gathered = g }

-- a place is the first, or there are few threads
abbrev pub IsFirstOrFew : ℕ → Everyone → Type 0
IsFirstOrFew n first = (n ≡ 0) ⊎ (length first.threads ≤ 64)

few_at_last : (n : ℕ) (first : Everyone) → 64 ≤ n → IsFirstOrFew n first → length first.threads ≤ 64
few_at_last n first le (inl start) = absurd (omega arith)
few_at_last n first le (inr few) = few

pub all_at_last : (p : Program) (cells : List Cell) (first now : Everyone) (start moves : List Move) (n : ℕ) (walks : List (List Frame)) → 64 ≤ n → IsFirstOrFew n first → Gathered p cells first now start moves n walks → AllGathered p cells first now start moves
all_at_last p cells first now start moves n walks le few g =
    let count = few_at_last n first le few in
    record { n = n; all = omega arith; few = count; walks = walks; gathered = g }

-- what is known at a place while threads are gathered
pub record GatheredTo (p : Program) (cells : List Cell) (first now : Everyone) (start moves : List Move) (n : ℕ) : Type 0 where
  pub walks : List (List Frame)
  pub gathered : Gathered p cells first now start moves n walks
  pub few : IsFirstOrFew n first

pub gathered_to_none : (p : Program) (cells : List Cell) (all : Everyone) (moves : List Move) → GatheredTo p cells all all moves moves 0
gathered_to_none p cells all moves = record { walks = []; gathered = gathered_none p cells all moves; few = inl refl }

pub visit_step : (p : Program) → IsGood p → (cells there : List Cell) (first now new : Everyone) (start before after : List Move) (n : ℕ) (t : Thread) → there ≡ cells → AreSoundIn now → slice_get now.threads n ≡ Some t → GatheredTo p cells first now start before n
    → GathersThread p there t now before new after → GatheredTo p cells first new start after (n + 1)
visit_step p good cells there first now new start before after n t same sound at g here =
    let mine = subst (λ (cs : List Cell). GathersThread p cs t now before new after) same here in
    record {
      walks = g.walks ++ mine.frames ∷ [];
      gathered = gathered_more p good.sound good.procs cells first now new start before after n g.walks t sound at g.gathered mine;
      few = inr (few_of first now g.gathered.alike sound);
    }

pub visit_stop : (p : Program) → IsGood p → (s : Parts) (cells there : List Cell) (first now : Everyone) (start moves : List Move) (n : ℕ) (t : Thread) → s.all ≡ first → s.heap.cells ≡ cells → there ≡ cells → slice_get now.threads n ≡ Some t → GatheredTo p cells first now start moves n
    → StopsThreadHere p there t now moves → StopsCollection p s
visit_stop p good s cells there first now start moves n t all heap same at g stops =
    let of_all = subst (λ (x : Everyone). Gathered p cells x now start moves n g.walks) (sym all) g.gathered in
    let mine = subst (λ (cs : List Cell). Gathered p cs s.all now start moves n g.walks) (sym heap) of_all in
    stops_here p good s now start moves n g.walks t mine at (subst (λ (cs : List Cell). StopsThreadHere p cs t now moves) (same ∙ sym heap) stops)

-- ---- the globals after them

-- a heap whose collection begins
abbrev pub begun : Heap → Heap
begun heap = opened heap (staying heap.tenured)

pub roots_visited : (b : Bool) (p : Program) (old : Parts) (h1 h2 : Heap) (last : List Move) (now : Everyone) (globals : List ℕ) → h1 ≡ begun old.heap → KeepsHeap h1 h2 → AllGathered p h1.cells old.all now h1.moves h2.moves
    → MatchBool b (VisitsAll h2.cells p.globals.pointers old.globals h2.moves globals last) (StopsVisit h2.cells p.globals.pointers old.globals h2.moves) → OnTrue b (Visited p old now globals last)
roots_visited false p old h1 h2 last now globals e keeps g ends = tt
roots_visited true p old h1 h2 last now globals e keeps g ends =
    let cells : h2.cells ≡ old.heap.cells = ap (λ (h : Heap). h.cells) keeps ∙ ap (λ (h : Heap). h.cells) e in
    record {
      middle = h2.moves;
      threads = subst (λ (h : Heap). AllGathered p h.cells old.all now h.moves h2.moves) e g;
      globals_visited = subst (λ (cs : List Cell). VisitsAll cs p.globals.pointers old.globals h2.moves globals last) cells ends;
    }

pub roots_stopped : (b : Bool) (p : Program) → IsGood p → (old : Parts) (h1 h2 : Heap) (last : List Move) (globals : List ℕ) → h1 ≡ begun old.heap → KeepsHeap h1 h2
    → MatchBool b (VisitsAll h2.cells p.globals.pointers old.globals h2.moves globals last) (StopsVisit h2.cells p.globals.pointers old.globals h2.moves) → OnFalse b (StopsCollection p old)
roots_stopped true p good old h1 h2 last globals e keeps ends = tt
roots_stopped false p good old h1 h2 last globals e keeps ends =
    let cells : h2.cells ≡ old.heap.cells = ap (λ (h : Heap). h.cells) keeps ∙ ap (λ (h : Heap). h.cells) e in
    stops_globals p good old h2.moves (subst (λ (cs : List Cell). StopsVisit cs p.globals.pointers old.globals h2.moves) cells ends)

-- ---- the end

-- where a cell that the roots lead to has a bad pointer, that stops the collection
pub pointer_stops : (p : Program) → IsGood p → (old : Parts) (now : Everyone) (globals : List ℕ) (h3 : Heap) → length old.globals ≡ p.globals.words → AllByRecursion IsInHeap old.heap.cells → h3 ≡ opened old.heap h3.moves
    → Visited p old now globals h3.moves → HasBadPointer (shapes_of p) h3.cells (kept_starts h3.moves) → StopsCollection p old
pointer_stops p good old now globals h3 count high open_ v bad =
    let cells : h3.cells ≡ old.heap.cells = ap (λ (h : Heap). h.cells) open_ in
    stops_pointer p good old now globals h3.moves count high v (subst (λ (cs : List Cell). HasBadPointer (shapes_of p) cs (kept_starts h3.moves)) cells bad)

pub middle_goes : (p : Program) → IsGood p → (old : Parts) (now : Everyone) (globals : List ℕ) (moves last : List Move) → length old.globals ≡ p.globals.words → (v : Visited p old now globals moves) → GoesOn moves last → GoesOn v.middle last
middle_goes p good old now globals moves last count v on =
    let f = visited_globals p good old now globals moves count v in
    goes_twice v.middle moves last (f.grew.more, f.grew.is) on

pub visited_stack : (p : Program) (old : Parts) (now : Everyone) (globals : List ℕ) (moves : List Move) → Visited p old now globals moves → now.stack ≡ old.all.stack
visited_stack p old now globals moves v = ap (λ (all : Everyone). all.stack) v.threads.gathered.alike.rest

pub finishes : (shapes : List Shape) (old h3 new : Heap) → h3 ≡ opened old h3.moves → KeepsReached shapes h3 new → MovesCells shapes h3 new → MakesRoom h3 new → CountsOne h3 new → ChangesHalves h3 new → new.is_open ≡ false → new.asked ≡ 0 → SameSizes h3 new → KeepsLaws new → Finishes shapes (opened old h3.moves) new
finishes shapes old h3 new e reached moved room counted halves closed asked sizes laws =
    subst (λ (h : Heap). Finishes shapes h new) e (record { reached = reached; moved = moved; room = room; counted = counted; halves = halves; closed = closed; asked = asked; sizes = sizes; laws = laws })

pub sizes_on : (old h3 new : Heap) → h3 ≡ opened old h3.moves → SameSizes h3 new → SameSizes old new
sizes_on old h3 new e same = record { size = same.size ∙ ap (λ (h : Heap). h.size) e; nursery = same.nursery ∙ ap (λ (h : Heap). h.nursery) e }

pub finely : (shapes : List Shape) (old h3 : Heap) → h3 ≡ opened old h3.moves → (HasBadPointer shapes h3.cells (kept_starts h3.moves) → ⊥) → HasBadPointer shapes old.cells (kept_starts h3.moves) → ⊥
finely shapes old h3 e fine bad =
    let cells : h3.cells ≡ old.cells = ap (λ (h : Heap). h.cells) e in
    fine (subst (λ (cs : List Cell). HasBadPointer shapes cs (kept_starts h3.moves)) (sym cells) bad)

pub on_true : {A : Type 0} (b : Bool) → b ≡ true → A → OnTrue b A
on_true true e x = x
on_true false e x = absurd cc

pub it_is : {A : Type 0} (b : Bool) → b ≡ true → OnTrue b A → A
it_is true e x = x
it_is false e x = absurd cc

pub it_is_not : {A : Type 0} (b : Bool) → b ≡ false → OnFalse b A → A
it_is_not true e x = absurd cc
it_is_not false e x = x

pub off_true : (A : Type 0) (b : Bool) → b ≡ true → OnFalse b A
off_true A true e = tt
off_true A false e = absurd cc
