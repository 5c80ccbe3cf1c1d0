-- What threads and globals show stays at a collection.
use Rattle.std.proofs.Common.{◌≡◌, ℕ, zero, suc, ◌+◌, ◌<◌, ◌≤◌, ◌==◌, ◌||◌, true, List, [], ◌∷◌, ◌++◌, length, map, None, Some, inl, inr, refl, sym, ap, ◌∙◌, subst, arith, length-append}
use Rattle.std.specs.Prelude.{Contains, nat_le, slice_index_or}
use Rattle.std.specs.List.{slice_get, AllByRecursion}
use Rattle.std.proofs.lemmas.Bool.{cases_lt, cases_eq}
use Rattle.std.proofs.lemmas.Bool.Decides.{nat_tests}
use Rattle.std.proofs.lemmas.List.Elements.{Contains-append_left, Contains-append_right}
use Rattle.std.proofs.lemmas.Option.{slice_get_within}
use Rattle.m3_tables.specs.Numbers.{has}
use Rattle.m3_tables.proofs.KeepingLemmas.{choice, and_parts}
use Rattle.m3_heap.specs.Cells.{Cell, heap_base, is_start, layout}
use Rattle.m3_heap.specs.Shapes.{Shape}
use Rattle.m3_heap.specs.Moves.{Move, forwarded, moved_cells}
use Rattle.m3_heap.specs.Reach.{IsBadPointer}
use Rattle.m3_heap.specs.Heap.{Heap, first_base, second_base, nursery_base, lies_in, is_placed, old_words}
use Rattle.m3_threads.specs.declared.status.Thread.{Thread}
use Rattle.m3_threads.specs.All.{Everyone, base_of, words_of}
use Rattle.m3_threads.proofs.Places.{some_same}
use Rattle.m3_image.specs.Programs.{fault_of}
use Rattle.m3_image_sections.specs.Parts.{Image, Program}
use Rattle.m3_run_frames.specs.declared.frame.Frame.{Frame}
use Rattle.m3_roots.specs.ThreadWords.{word_at_place, place_of}
use Rattle.m3_roots.specs.RowMeaning.{AreFramesAt, tidy_places, derived_words}
use Rattle.m3_roots.specs.RowLists.{listed_places, barred_places, ListsFit}
use Rattle.m3_roots.specs.Moving.{MovesWords}
use Rattle.m3_roots.specs.Collected.{Parts, shapes_of, words_at, AreFrames, frames_at, tidy_words, all_tidy_words, tidy_globals, roots_of, Collected, lists, tidy, StopsCollection, thread as stopped_thread, global as bad_global}
use Rattle.m3_roots.proofs.ApartLemmas.{each_weaker}
use Rattle.m3_roots.proofs.MarkLemmas.{false_if, clash, has_cases}
use Rattle.m3_roots.proofs.FitLemmas.{listed_if}
use Rattle.m3_roots.proofs.FrameLemmas.{frames_once}
use Rattle.m3_roots.proofs.LinkLemmas.{AreBarred, links_barred, WordsStay, links_stay, frames_stay}
use Rattle.m3_roots.proofs.ReachLemmas.{contains_first, contains_later}
use Rattle.m3_roots.proofs.CollectedLemmas.{member}
use Rattle.m3_roots.proofs.VisitLemmas.{IsKnown}
use Rattle.m3_inspect.specs.Standing.{globals_from}
use Rattle.m3_inspect.specs.Shown.{Shown, ShownThread, ShowsThread, ShowThreads, no_thread, thread, shown_frames, cells_after_frames, shown_vars, cells_after, IsShown}
use Rattle.m3_inspect.specs.Listed.{AreListed, HaveRegisters}
use Rattle.m3_inspect.proofs.MoveLemmas.{AreSoundMoves, AllKnown, shown_moved, after_moved, after_known}
use Rattle.m3_inspect.proofs.StayLemmas.{WordsMove, globals_move, frames_show}
use Rattle.m3_inspect.proofs.ThreadLemmas.{there}

-- ---- the forwarding list of a collection

lies_high : (base words : ℕ) (cell : ℕ × ℕ) → heap_base ≤ base → lies_in base words cell ≡ true → heap_base ≤ cell.0
lies_high base words cell high h =
    let parts = and_parts (nat_le base cell.0) (nat_le (cell.0 + cell.1) (base + words)) h in
    let le : base ≤ cell.0 = let e = parts.0 in grind (arith, nat_tests) in
    omega (arith, le)

half_high : (base : ℕ) → (base == first_base || base == second_base) ≡ true → heap_base ≤ base
half_high base h = elim (choice (base == first_base)) [
  | inl one ↦ (let e : base ≡ first_base = grind (arith, nat_tests) in omega (arith, e))
  | inr other ↦ (let two : (base == second_base) ≡ true = rw other at h in let e : base ≡ second_base = grind (arith, nat_tests) in omega (arith, e))
]

placed_high : (heap : Heap) → heap_base ≤ heap.base → (cell : ℕ × ℕ) → is_placed heap cell ≡ true → heap_base ≤ cell.0
placed_high heap high cell h = elim (choice (lies_in heap.base (old_words heap) cell)) [
  | inl old ↦ lies_high heap.base (old_words heap) cell high old
  | inr young ↦ (let there = rw young at h in lies_high nursery_base heap.young cell (omega arith) there)
]

cells_high : (heap : Heap) → heap_base ≤ heap.base → (cells : List Cell) → AllByRecursion (λ (cell : ℕ × ℕ). is_placed heap cell ≡ true) (layout cells) → AllByRecursion (λ (c : Cell). heap_base ≤ c.start) cells
cells_high heap high [] h = tt
cells_high heap high (c ∷ cs) h = (placed_high heap high (c.start, length c.words) h.0, cells_high heap high cs h.1)

moves_high : (shapes : List Shape) (cells : List Cell) (all moves : List Move) → AllByRecursion (λ (c : Cell). heap_base ≤ c.start) (moved_cells shapes cells all moves) → AllByRecursion (λ (m : Move). heap_base ≤ m.to) moves
moves_high shapes cells all [] h = tt
moves_high shapes cells all (m ∷ ms) h = (h.0, moves_high shapes cells all ms h.1)

sound_moves : (p : Program) (old new : Parts) → Collected p old new → AreSoundMoves new.heap.moves
sound_moves p old new c =
    let high = cells_high new.heap (half_high new.heap.base c.laws.half) new.heap.cells c.laws.placed in
    record {
      one_to_one = c.one_to_one;
      high = moves_high (shapes_of p) old.heap.cells new.heap.moves new.heap.moves (subst (λ (cs : List Cell). AllByRecursion (λ (x : Cell). heap_base ≤ x.start) cs) c.cells high);
    }

-- ---- the words that lead to cells

known_root : (p : Program) (old new : Parts) → (c : Collected p old new) → (word : ℕ) → Contains (roots_of p old c.walks) word → (IsBadPointer old.heap.cells word → ⊥) → IsKnown new.heap.moves word
known_root p old new c word root fine = elim (cases_lt word heap_base) [
  | inl low ↦ inl low
  | inr high ↦ (elim (choice (is_start old.heap.cells word)) [
    | inl starts ↦ inr ((c.kept word).1 (record { starts = starts; steps = 0; leads = root }))
    | inr none ↦ absurd (fine (high, none))
  ])
]

contains_map : (f : ℕ → ℕ) (xs : List ℕ) (x : ℕ) → has xs x ≡ true → Contains (map f xs) (f x)
contains_map f [] x h = absurd cc
contains_map f (y ∷ ys) x h = elim (has_cases y x ys h) [
  | inl same ↦ subst (λ (n : ℕ). Contains (map f (y ∷ ys)) (f n)) same (contains_first (f y) (map f ys))
  | inr later ↦ contains_later (f y) (f x) (map f ys) (contains_map f ys x later)
]

among_threads : (p : Program) (all : Everyone) (ts : List Thread) (walks : List (List Frame)) (k : ℕ) (t : Thread) (word : ℕ) → slice_get ts k ≡ Some t → k < length walks → Contains (tidy_words p all t (frames_at walks k)) word → Contains (all_tidy_words p all ts walks) word
among_threads p all [] walks k t word at lt h = absurd cc
among_threads p all (u ∷ us) [] k t word at lt h = absurd (omega arith)
among_threads p all (u ∷ us) (f ∷ fs) zero t word at lt h =
    let same : t ≡ u = some_same (sym at) in
    Contains-append_left (tidy_words p all u f) (all_tidy_words p all us fs) word (subst (λ (x : Thread). Contains (tidy_words p all x f) word) same h)
among_threads p all (u ∷ us) (f ∷ fs) (suc k) t word at lt h = Contains-append_right (tidy_words p all u f) (all_tidy_words p all us fs) word (among_threads p all us fs k t word at (omega arith) h)

-- ---- one thread

-- a thread before and after the collection
pub record ThreadPair (p : Program) (old new : Parts) (k : ℕ) : Type 0 where
  pub t : Thread
  pub u : Thread
  pub was : slice_get old.all.threads k ≡ Some t
  pub is : slice_get new.all.threads k ≡ Some u

thread_words : (p : Program) (old new : Parts) → (StopsCollection p old → ⊥) → (c : Collected p old new) → (k : ℕ) → (x : ThreadPair p old new k)
    → WordsMove new.heap.moves (tidy_places p (frames_at c.walks k)) (map place_of (derived_words p (frames_at c.walks k))) (words_at old.all x.t) (words_at new.all x.u)
thread_words p old new whole c k x =
    let frames = frames_at c.walks k in
    let m = c.threads.words k x.t x.u x.was x.is in
    let within = slice_get_within old.all.threads k x.t x.was in
    let count = c.framed.count in
    record {
      follow = m.tidy;
      known = λ q h. (
          let words = word_at_place (words_at old.all x.t) in
          let among = among_threads p old.all old.all.threads c.walks k x.t (words q) x.was (omega arith) (contains_map words (tidy_places p frames) q h) in
          let threads = all_tidy_words p old.all old.all.threads c.walks in
          let root = Contains-append_right old.heap.tenured (threads ++ tidy_globals p old.globals) (words q) (Contains-append_left threads (tidy_globals p old.globals) (words q) among) in
          known_root p old new c (words q) root (λ bad. whole (stopped_thread x.t frames (member old.all.threads k x.t x.was) (c.framed.each k x.t x.was) (tidy q h bad))));
      others = m.others;
    }

-- the first two words of a frame stay: else the lists of the rows wouldn't fit, which stops a collection
barred_stays : (p : Program) (moves : List Move) (frames : List Frame) (old new : List ℕ) → MovesWords p moves frames old new → ListsFit p frames → (q : ℕ) → has (barred_places p frames) q ≡ true → word_at_place new q ≡ word_at_place old q
barred_stays p moves frames old new m fit q barred =
    let unlisted = false_if (has (listed_places p frames) q) (λ k. clash (has (barred_places p frames) q) barred (fit.free q k)) in
    let untidy = false_if (has (tidy_places p frames) q) (λ k. clash (has (listed_places p frames) q) (listed_if p frames q (inl k)) unlisted) in
    let plain = false_if (has (map place_of (derived_words p frames)) q) (λ k. clash (has (listed_places p frames) q) (listed_if p frames q (inr k)) unlisted) in
    m.others q untidy plain

links_same : (p : Program) (old new : Parts) → (StopsCollection p old → ⊥) → (c : Collected p old new) → (k : ℕ) → (x : ThreadPair p old new k) → (q : ℕ) → has (barred_places p (frames_at c.walks k)) q ≡ true
    → word_at_place (words_at new.all x.u) q ≡ word_at_place (words_at old.all x.t) q
links_same p old new whole c k x q barred =
    let frames = frames_at c.walks k in
    let m = c.threads.words k x.t x.u x.was x.is in
    elim (cases_eq (word_at_place (words_at new.all x.u) q) (word_at_place (words_at old.all x.t) q)) [
      | inl same ↦ same
      | inr other ↦ absurd (whole (stopped_thread x.t frames (member old.all.threads k x.t x.was) (c.framed.each k x.t x.was) (lists (λ fit. other (barred_stays p new.heap.moves frames (words_at old.all x.t) (words_at new.all x.u) m fit q barred)))))
    ]

depth_at : (xs ys : List (List ℕ)) (k : ℕ) → map length xs ≡ map length ys → length (slice_index_or xs k []) ≡ length (slice_index_or ys k [])
depth_at [] [] k e = refl
depth_at [] (y ∷ ys) k e = absurd cc
depth_at (x ∷ xs) [] k e = absurd cc
depth_at (x ∷ xs) (y ∷ ys) zero e = let first : length x ≡ length y = cc in first
depth_at (x ∷ xs) (y ∷ ys) (suc k) e = let rest : map length xs ≡ map length ys = cc in depth_at xs ys k rest

stack_depth : (p : Program) (old new : Parts) → (c : Collected p old new) → (k : ℕ) → (x : ThreadPair p old new k) → length (words_of new.all x.u) ≡ length (words_of old.all x.t)
stack_depth p old new c k x =
    let same = c.threads.same k x.t x.u x.was x.is in
    let slot : x.u.slot ≡ x.t.slot = ap (λ (y : Thread). y.slot) same in
    ap (λ (n : ℕ). length (slice_index_or new.all.stacks n [])) slot ∙ depth_at new.all.stacks old.all.stacks x.t.slot c.threads.depths

framed_still : (p : Program) (old new : Parts) → HaveRegisters old.all → (StopsCollection p old → ⊥) → (c : Collected p old new) → (k : ℕ) → (x : ThreadPair p old new k) → AreFrames p new.all x.u (frames_at c.walks k)
framed_still p old new registers whole c k x =
    let frames = frames_at c.walks k in
    let m = c.threads.words k x.t x.u x.was x.is in
    let depth = stack_depth p old new c k x in
    let sixteen = registers k x.t x.was in
    let before = length-append x.t.regs.r (words_of old.all x.t) in
    let after = length-append x.u.regs.r (words_of new.all x.u) in
    let count = m.count in
    let sixteen_too : length x.u.regs.r ≡ 16 = omega (arith, depth, sixteen, before, after, count) in
    let stays = links_same p old new whole c k x in
    let words = each_weaker (AreBarred (barred_places p frames)) (WordsStay (words_at old.all x.t) (words_at new.all x.u)) (λ g h. (stays (g.first + 16) h.0, stays (g.first + 17) h.1)) frames (links_barred p frames) in
    let links = links_stay x.t.regs.r (words_of old.all x.t) x.u.regs.r (words_of new.all x.u) frames sixteen sixteen_too depth words in
    let here = frames_stay p (base_of x.t) (words_of old.all x.t) (words_of new.all x.u) x.t.regs.fp x.t.regs.pc frames depth links (c.framed.each k x.t x.was) in
    let same = c.threads.same k x.t x.u x.was x.is in
    let base : base_of x.t ≡ base_of x.u = sym (ap base_of same) in
    let fp : x.t.regs.fp ≡ x.u.regs.fp = sym (ap (λ (y : Thread). y.regs.fp) same) in
    let pc : x.t.regs.pc ≡ x.u.regs.pc = sym (ap (λ (y : Thread). y.regs.pc) same) in
    subst (λ (n : ℕ). AreFramesAt p (base_of x.u) (words_of new.all x.u) x.u.regs.fp n frames) pc (subst (λ (n : ℕ). AreFramesAt p (base_of x.u) (words_of new.all x.u) n x.t.regs.pc frames) fp (subst (λ (n : ℕ). AreFramesAt p n (words_of new.all x.u) x.t.regs.fp x.t.regs.pc frames) base here))

-- what a thread shows stays
pub record ThreadStays (i : Image) (new : Parts) (u : Thread) (cells : List ℕ) (s : ShownThread) (after : List ℕ) : Type 0 where
  pub shows : ShowsThread i new.all u (map (forwarded new.heap.moves) cells) s (map (forwarded new.heap.moves) after)
  pub known : AllKnown new.heap.moves after

thread_stays : (i : Image) (old new : Parts) → fault_of i.program ≡ None → HaveRegisters old.all → AreListed i old.all → (StopsCollection i.program old → ⊥) → Collected i.program old new
    → (k : ℕ) → (x : ThreadPair i.program old new k) → (cells : List ℕ) → AllKnown new.heap.moves cells → (s : ShownThread) (after : List ℕ) → ShowsThread i old.all x.t cells s after → ThreadStays i new x.u cells s after
thread_stays i old new good registers listed whole c k x cells known s after h =
    let p = i.program in
    let frames = frames_at c.walks k in
    let moves = new.heap.moves in
    let framed = c.framed.each k x.t x.was in
    let same : h.frames ≡ frames = frames_once p good (base_of x.t) (words_of old.all x.t) x.t.regs.fp x.t.regs.pc h.frames frames h.framed framed in
    let stay = frames_show i moves (tidy_places p frames) (map place_of (derived_words p frames)) (words_at old.all x.t) (words_at new.all x.u) (sound_moves p old new c) (thread_words p old new whole c k x) cells known frames (listed.threads k x.t x.was frames framed) in
    let shown = h.shown ∙ ap (shown_frames i (words_at old.all x.t) cells) same in
    let ends = h.cells ∙ ap (cells_after_frames i (words_at old.all x.t) cells) same in
    let number : x.u.number ≡ x.t.number = ap (λ (y : Thread). y.number) (c.threads.same k x.t x.u x.was x.is) in
    record {
      shows = record {
        frames = frames;
        framed = framed_still p old new registers whole c k x;
        number = h.number ∙ sym number;
        shown = shown ∙ sym stay.shown;
        cells = ap (map (forwarded moves)) ends ∙ sym stay.after;
      };
      known = subst (AllKnown moves) (sym ends) stay.known;
    }

-- ---- all threads

pub record ThreadsStay (i : Image) (new : Parts) (first : List ℕ) (n : ℕ) (shown : List ShownThread) (cells : List ℕ) : Type 0 where
  pub show : ShowThreads i new.all (map (forwarded new.heap.moves) first) n shown (map (forwarded new.heap.moves) cells)
  pub known : AllKnown new.heap.moves cells

threads_stay : (i : Image) (old new : Parts) → fault_of i.program ≡ None → HaveRegisters old.all → AreListed i old.all → (StopsCollection i.program old → ⊥) → Collected i.program old new
    → (first : List ℕ) → AllKnown new.heap.moves first → (n : ℕ) (shown : List ShownThread) (cells : List ℕ) → ShowThreads i old.all first n shown cells → ThreadsStay i new first n shown cells
threads_stay i old new good registers listed whole c first known _ _ _ no_thread = record { show = no_thread; known = known }
threads_stay i old new good registers listed whole c first known _ _ _ (thread n before cells t s after h at shows) =
    let earlier = threads_stay i old new good registers listed whole c first known n before cells h in
    let within = slice_get_within old.all.threads n t at in
    let count = c.threads.count in
    let u = there new.all.threads n (omega arith) in
    let pair : ThreadPair i.program old new n = record { t = t; u = u.0; was = at; is = u.1 } in
    let here = thread_stays i old new good registers listed whole c n pair cells earlier.known s after shows in
    record {
      show = thread n before (map (forwarded new.heap.moves) cells) u.0 s (map (forwarded new.heap.moves) after) earlier.show u.1 here.shows;
      known = here.known;
    }

-- ---- the whole

global_words : (p : Program) (old new : Parts) → (StopsCollection p old → ⊥) → Collected p old new → WordsMove new.heap.moves p.globals.pointers [] old.globals new.globals
global_words p old new whole c = record {
  follow = λ q h. (let goes = c.globals.1 q in rw h at goes);
  known = λ q h. (
      let words = word_at_place old.globals in
      let threads = all_tidy_words p old.all old.all.threads c.walks in
      let root = Contains-append_right old.heap.tenured (threads ++ tidy_globals p old.globals) (words q) (Contains-append_right threads (tidy_globals p old.globals) (words q) (contains_map words p.globals.pointers q h)) in
      known_root p old new c (words q) root (λ bad. whole (bad_global q h bad)));
  others = λ q h k. (let goes = c.globals.1 q in rw h at goes);
}

pub view_stays : (i : Image) (old new : Parts) (s : Shown) → fault_of i.program ≡ None → HaveRegisters old.all → AreListed i old.all → (StopsCollection i.program old → ⊥) → Collected i.program old new → IsShown i old.all old.globals s → IsShown i new.all new.globals s
view_stays i old new s good registers listed whole c h =
    let moves = new.heap.moves in
    let sound = sound_moves i.program old new c in
    let was = globals_from old.globals 0 i.variables in
    let held = globals_move moves i.program.globals.pointers old.globals new.globals (global_words i.program old new whole c) 0 i.variables listed.globals in
    let vars = ap (shown_vars []) held.moved ∙ shown_moved moves sound [] tt was held.known in
    let after = ap (cells_after []) held.moved ∙ after_moved moves sound [] tt was held.known in
    let known = after_known moves [] tt was held.known in
    let stay = threads_stay i old new good registers listed whole c (cells_after [] was) known (length old.all.threads) s.threads h.cells h.threads_shown in
    record {
      cells = map (forwarded moves) h.cells;
      globals_shown = h.globals_shown ∙ sym vars;
      threads_shown = subst (λ (n : ℕ). ShowThreads i new.all (cells_after [] (globals_from new.globals 0 i.variables)) n s.threads (map (forwarded moves) h.cells)) (sym c.threads.count)
          (subst (λ (cs : List ℕ). ShowThreads i new.all cs (length old.all.threads) s.threads (map (forwarded moves) h.cells)) (sym after) stay.show);
    }
