-- The threads that are shown so far have their frames, and after the last of them there is none.
use Rattle.std.proofs.Common.{◌≡◌, ℕ, zero, suc, ◌+◌, ◌<◌, ◌≤◌, List, [], ◌∷◌, ◌++◌, length, map, Option, None, Some, inl, inr, refl, ap, ◌∙◌, subst, sym, arith}
use Rattle.std.specs.Prelude.{MatchOption}
use Rattle.std.specs.List.{slice_get}
use Rattle.std.proofs.lemmas.Bool.{cases_lt}
use Rattle.std.proofs.lemmas.List.{map-append}
use Rattle.m3_isa.specs.declared.registers.Regs.{Regs}
use Rattle.m3_threads.specs.declared.status.Thread.{Thread}
use Rattle.m3_threads.specs.All.{Everyone, base_of, words_of}
use Rattle.m3_threads.specs.Going.{of_thread}
use Rattle.m3_image_sections.specs.Parts.{Image, Program}
use Rattle.m3_run_frames.specs.declared.frame.Frame.{Frame}
use Rattle.m3_roots.specs.Collected.{words_at, AreFrames}
use Rattle.m3_roots.specs.RowMeaning.{AreBelow, AreFramesAt, HaveRows}
use Rattle.m3_roots.proofs.ThreadSteps.{frames_from}
use Rattle.m3_inspect.specs.declared.values.ThreadView.{ThreadView}
use Rattle.m3_inspect.specs.Standing.{globals_from}
use Rattle.m3_inspect.specs.Shown.{Shown, ShownFrame, ShownThread, shown_thread, IsUnframed, ShowsThread, ShowThreads, no_thread, thread, shown_frames, cells_after_frames, cells_after, IsShown}

pub there : {A : Type 0} (xs : List A) (i : ℕ) → i < length xs → (x : A) × (slice_get xs i ≡ Some x)
there [] i lt = absurd (omega arith)
there (x ∷ xs) zero lt = (x, refl)
there (x ∷ xs) (suc i) lt = there xs i (omega arith)

pub none_at : (ts : List Thread) (k : ℕ) → None ≡ of_thread (λ t. t.number) (slice_get ts k) → length ts ≤ k
none_at ts k e = elim (cases_lt k (length ts)) [
  | inl low ↦ (let x = there ts k low in let f : None ≡ Some x.0.number = e ∙ ap (of_thread (λ (t : Thread). t.number)) x.1 in absurd cc)
  | inr past ↦ past
]

pub framed_before : (i : Image) (all : Everyone) (first : List ℕ) (n : ℕ) (shown : List ShownThread) (cells : List ℕ) → ShowThreads i all first n shown cells → (k : ℕ) (u : Thread) → k < n → slice_get all.threads k ≡ Some u
    → (frames : List Frame) × AreFrames i.program all u frames
framed_before i all first _ _ _ no_thread k u lt e = absurd (omega arith)
framed_before i all first _ _ _ (thread n before cells t s after h at shows) k u lt e = elim (cases_lt k n) [
  | inl less ↦ framed_before i all first n before cells h k u less e
  | inr past ↦ (let same : k ≡ n = omega arith in
      let one : t ≡ u = cc in
      (shows.frames, subst (λ (x : Thread). AreFrames i.program all x shows.frames) one shows.framed))
]

-- ---- one thread

-- each frame has a row
below_have_rows : (p : Program) (base : ℕ) (stack : List ℕ) (newer : Frame) (fs : List Frame) → AreBelow p base stack newer fs → HaveRows p fs
below_have_rows p base stack newer [] h = tt
below_have_rows p base stack newer (f ∷ fs) h = (h.0.frame.row, below_have_rows p base stack f fs h.1)

pub frames_have_rows : (p : Program) (base : ℕ) (stack : List ℕ) (fp pc : ℕ) (fs : List Frame) → AreFramesAt p base stack fp pc fs → HaveRows p fs
frames_have_rows p base stack fp pc [] h = tt
frames_have_rows p base stack fp pc (f ∷ fs) h = (h.1.row, below_have_rows p base stack f fs h.2)

-- what is shown of the parts of a thread is what it shows
pub shows_thread : (i : Image) (all : Everyone) (t : Thread) (number base : ℕ) (stack : List ℕ) (regs : Regs) (fs : List Frame) (before after : List ℕ) (shown : List ShownFrame) → t.number ≡ number → base ≡ base_of t → stack ≡ words_of all t → regs ≡ t.regs
    → AreFramesAt i.program base stack regs.fp regs.pc fs → shown ≡ shown_frames i (regs.r ++ stack) before fs → after ≡ cells_after_frames i (regs.r ++ stack) before fs → ShowsThread i all t before (record { number = number; frames = shown }) after
shows_thread i all t number base stack regs fs before after shown n b s r h e k =
    let words : regs.r ++ stack ≡ words_at all t = ap (λ (x : Regs). x.r ++ stack) r ∙ ap (λ (ws : List ℕ). t.regs.r ++ ws) s in
    record {
      frames = fs;
      framed = frames_from i.program all t base stack regs fs b s r h;
      number = sym n;
      shown = e ∙ ap (λ (ws : List ℕ). shown_frames i ws before fs) words;
      cells = k ∙ ap (λ (ws : List ℕ). cells_after_frames i ws before fs) words;
    }

-- the same of an image that is seen by a view
pub shows_by : (view i : Image) (all : Everyone) (t : Thread) (number base : ℕ) (stack : List ℕ) (regs : Regs) (listed fs : List Frame) (before after : List ℕ) (shown : List ShownFrame) → view ≡ i → listed ≡ fs → t.number ≡ number → base ≡ base_of t → stack ≡ words_of all t → regs ≡ t.regs
    → AreFramesAt i.program base stack regs.fp regs.pc fs → (HaveRows view.program listed → shown ≡ shown_frames view (regs.r ++ stack) before listed) → (HaveRows view.program listed → after ≡ cells_after_frames view (regs.r ++ stack) before listed)
    → ShowsThread i all t before (record { number = number; frames = shown }) after
shows_by view i all t number base stack regs listed fs before after shown v l n b s r h e k =
    let here : AreFramesAt view.program base stack regs.fp regs.pc listed = subst (λ (x : Image). AreFramesAt x.program base stack regs.fp regs.pc listed) (sym v) (subst (λ (x : List Frame). AreFramesAt i.program base stack regs.fp regs.pc x) (sym l) h) in
    let rows = frames_have_rows view.program base stack regs.fp regs.pc listed here in
    subst (λ (x : Image). ShowsThread x all t before (record { number = number; frames = shown }) after) v (shows_thread view all t number base stack regs listed before after shown n b s r here (e rows) (k rows))

-- what was found is told
pub matched : {A : Type 0} (N : Type 0) (P : A → Type 0) (o : Option A) (x : A) → o ≡ Some x → MatchOption o N P → P x
matched N P o x e h = rw e at h

pub missed : {A : Type 0} (N : Type 0) (P : A → Type 0) (o : Option A) → o ≡ None → MatchOption o N P → N
missed N P o e h = rw e at h

-- ---- all threads

pub all_shown : (i : Image) (all : Everyone) (first : List ℕ) (n : ℕ) (shown : List ShownThread) (cells : List ℕ) → n ≤ length all.threads → length all.threads ≤ n → ShowThreads i all first n shown cells → ShowThreads i all first (length all.threads) shown cells
all_shown i all first n shown cells few past h = let same : n ≡ length all.threads = omega arith in subst (λ (m : ℕ). ShowThreads i all first m shown cells) same h

pub one_more : (i : Image) (all : Everyone) (first : List ℕ) (n : ℕ) (views new : List ThreadView) (view : ThreadView) (cells after : List ℕ) (t : Thread) → ShowThreads i all first n (map shown_thread views) cells → slice_get all.threads n ≡ Some t → ShowsThread i all t cells (shown_thread view) after
    → new ≡ views ++ view ∷ [] → ShowThreads i all first (n + 1) (map shown_thread new) after
one_more i all first n views new view cells after t before at shows pushed =
    let mapped : map shown_thread new ≡ map shown_thread views ++ shown_thread view ∷ [] = ap (map shown_thread) pushed ∙ map-append shown_thread views (view ∷ []) in
    let count : suc n ≡ n + 1 = omega arith in
    subst (λ (m : ℕ). ShowThreads i all first m (map shown_thread new) after) count (subst (λ (s : List ShownThread). ShowThreads i all first (suc n) s after) (sym mapped) (thread n (map shown_thread views) cells t (shown_thread view) after before at shows))

pub is_unframed : (i : Image) (all : Everyone) (first : List ℕ) (n number : ℕ) (shown : List ShownThread) (cells : List ℕ) (t : Thread) → ShowThreads i all first n shown cells → slice_get all.threads n ≡ Some t → t.number ≡ number → ((frames : List Frame) → AreFrames i.program all t frames → ⊥) → IsUnframed i all number
is_unframed i all first n number shown cells t before at named none = record {
  place = n;
  thread = t;
  there = at;
  named = named;
  unframed = none;
  lower = λ k u lt there. framed_before i all first n shown cells before k u lt there;
}

pub within : (ts : List Thread) (k : ℕ) (t : Thread) → slice_get ts k ≡ Some t → k < length ts
within [] k t e = absurd cc
within (u ∷ ts) zero t e = omega arith
within (u ∷ ts) (suc k) t e = let rest = within ts k t e in omega (arith, rest)

-- a thread that has no frames isn't shown
pub frames_clash : (i : Image) (all : Everyone) (globals : List ℕ) (s : Shown) (number : ℕ) → IsShown i all globals s → IsUnframed i all number → ⊥
frames_clash i all globals s number shown none =
    let lt = within all.threads none.place none.thread none.there in
    let found = framed_before i all (cells_after [] (globals_from globals 0 i.variables)) (length all.threads) s.threads shown.cells shown.threads_shown none.place none.thread lt none.there in
    none.unframed found.0 found.1
