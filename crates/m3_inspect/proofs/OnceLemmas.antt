-- Threads and globals show one thing alone.
use Rattle.std.proofs.Common.{◌≡◌, ℕ, List, [], ◌∷◌, ◌++◌, length, None, Some, refl, sym, ap, ◌∙◌, subst, arith}
use Rattle.std.specs.List.{slice_get}
use Rattle.m3_threads.specs.declared.status.Thread.{Thread}
use Rattle.m3_threads.specs.All.{Everyone, base_of, words_of}
use Rattle.m3_threads.proofs.Places.{some_same}
use Rattle.m3_image.specs.Programs.{fault_of}
use Rattle.m3_image_sections.specs.Parts.{Image}
use Rattle.m3_roots.specs.Collected.{words_at}
use Rattle.m3_roots.proofs.FrameLemmas.{frames_once}
use Rattle.m3_inspect.specs.declared.values.VarValue.{VarValue}
use Rattle.m3_inspect.specs.Standing.{globals_from}
use Rattle.m3_inspect.specs.Shown.{Shown, ShownFrame, ShownThread, ShowsThread, ShowThreads, no_thread, thread, shown_frames, cells_after_frames, cells_after, IsShown}

abbrev shown_by : ℕ → List ShownFrame → ShownThread
shown_by number frames = record { number = number; frames = frames }

thread_once : (i : Image) (all : Everyone) → fault_of i.program ≡ None → (t : Thread) (before : List ℕ) (s u : ShownThread) (after end : List ℕ) → ShowsThread i all t before s after → ShowsThread i all t before u end → (u ≡ s) × (end ≡ after)
thread_once i all good t before s u after end h k =
    let words = words_at all t in
    let same = frames_once i.program good (base_of t) (words_of all t) t.regs.fp t.regs.pc k.frames h.frames k.framed h.framed in
    let number : u.number ≡ s.number = k.number ∙ sym h.number in
    let frames : u.frames ≡ s.frames = k.shown ∙ ap (shown_frames i words before) same ∙ sym h.shown in
    (ap (λ (n : ℕ). shown_by n u.frames) number ∙ ap (shown_by s.number) frames, k.cells ∙ ap (cells_after_frames i words before) same ∙ sym h.cells)

threads_once : (i : Image) (all : Everyone) → fault_of i.program ≡ None → (first : List ℕ) (n m : ℕ) (ss us : List ShownThread) (cells others : List ℕ) → n ≡ m → ShowThreads i all first n ss cells → ShowThreads i all first m us others → (us ≡ ss) × (others ≡ cells)
threads_once i all good first _ _ _ _ _ _ e no_thread no_thread = (refl, refl)
threads_once i all good first _ _ _ _ _ _ e no_thread (thread m before cells t s after h at shows) = absurd (omega (arith, e))
threads_once i all good first _ _ _ _ _ _ e (thread m before cells t s after h at shows) no_thread = absurd (omega (arith, e))
threads_once i all good first _ _ _ _ _ _ e (thread n before cells t s after h at shows) (thread m begun known u v end k there shows_too) =
    let less : n ≡ m = omega (arith, e) in
    let earlier = threads_once i all good first n m before begun cells known less h k in
    let place : slice_get all.threads n ≡ Some u = ap (slice_get all.threads) less ∙ there in
    let same : u ≡ t = some_same (sym place ∙ at) in
    let other = subst (λ (x : Thread). ShowsThread i all x known v end) same shows_too in
    let now = subst (λ (cs : List ℕ). ShowsThread i all t cs v end) earlier.1 other in
    let one = thread_once i all good t cells s v after end shows now in
    (ap (λ (xs : List ShownThread). xs ++ v ∷ []) earlier.0 ∙ ap (λ (x : ShownThread). before ++ x ∷ []) one.0, one.1)

abbrev shown_with : List VarValue → List ShownThread → Shown
shown_with globals threads = record { globals = globals; threads = threads }

shown_once : (s u : Shown) → u.globals ≡ s.globals → u.threads ≡ s.threads → u ≡ s
shown_once s u g t = ap (λ (vs : List VarValue). shown_with vs u.threads) g ∙ ap (shown_with s.globals) t

pub view_once : (i : Image) (all : Everyone) (globals : List ℕ) (s u : Shown) → fault_of i.program ≡ None → IsShown i all globals s → IsShown i all globals u → u ≡ s
view_once i all globals s u good h k =
    let threads = threads_once i all good (cells_after [] (globals_from globals 0 i.variables)) (length all.threads) (length all.threads) s.threads u.threads h.cells k.cells refl h.threads_shown k.threads_shown in
    shown_once s u (k.globals_shown ∙ sym h.globals_shown) threads.0
