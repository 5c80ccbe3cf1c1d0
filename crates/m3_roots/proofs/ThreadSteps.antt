-- One thread gathered or mended, by the answers of the calls.
use Rattle.std.proofs.Common.{◌≡◌, ℕ, ◌+◌, Bool, true, false, List, ◌++◌, length, Option, Some, sym, ap, ◌∙◌, subst, arith, length-append}
use Rattle.std.specs.Bool.{OnTrue, OnFalse}
use Rattle.m3_isa.specs.declared.registers.Regs.{Regs}
use Rattle.m3_heap.specs.Cells.{Cell}
use Rattle.m3_heap.specs.Moves.{Move}
use Rattle.m3_threads.specs.declared.status.Thread.{Thread}
use Rattle.m3_threads.specs.All.{Everyone, thread_named, base_of, words_of}
use Rattle.m3_threads.specs.Going.{of_thread}
use Rattle.m3_threads.specs.Lending.{with_regs, with_words}
use Rattle.m3_threads.proofs.Places.{found-number}
use Rattle.m3_image_sections.specs.Parts.{Program}
use Rattle.m3_run_frames.specs.declared.frame.Frame.{Frame}
use Rattle.m3_roots.specs.RowMeaning.{AreFramesAt}
use Rattle.m3_roots.specs.Gathering.{Gathers, StopsGathering}
use Rattle.m3_roots.specs.Moving.{MovesWords}
use Rattle.m3_roots.specs.Collected.{words_at, AreFrames}
use Rattle.m3_roots.specs.ThreadsGathered.{with_thread_words, GathersThread, StopsThreadHere, stopped, MendsThread}

-- what is told of a thread that is there
pub told : {A : Type 0} (part : Thread → A) (o : Option Thread) (t : Thread) (x : A) → o ≡ Some t → Some x ≡ of_thread part o → x ≡ part t
told part o t x named e = let f : Some x ≡ of_thread part (Some t) = e ∙ ap (of_thread part) named in cc

-- the frames of a stack with this base, these words and these registers are those of the thread
pub frames_from : (p : Program) (all : Everyone) (t : Thread) (base : ℕ) (stack : List ℕ) (regs : Regs) (frames : List Frame) → base ≡ base_of t → stack ≡ words_of all t → regs ≡ t.regs → AreFramesAt p base stack regs.fp regs.pc frames → AreFrames p all t frames
frames_from p all t base stack regs frames b s r h =
    subst (λ (x : Regs). AreFramesAt p (base_of t) (words_of all t) x.fp x.pc frames) r (subst (λ (ws : List ℕ). AreFramesAt p (base_of t) ws regs.fp regs.pc frames) s (subst (λ (n : ℕ). AreFramesAt p n stack regs.fp regs.pc frames) b h))

pub frames_to : (p : Program) (all : Everyone) (t : Thread) (base : ℕ) (stack : List ℕ) (regs : Regs) (frames : List Frame) → base ≡ base_of t → stack ≡ words_of all t → regs ≡ t.regs → AreFrames p all t frames → AreFramesAt p base stack regs.fp regs.pc frames
frames_to p all t base stack regs frames b s r h =
    subst (λ (n : ℕ). AreFramesAt p n stack regs.fp regs.pc frames) (sym b) (subst (λ (ws : List ℕ). AreFramesAt p (base_of t) ws regs.fp regs.pc frames) (sym s) (subst (λ (x : Regs). AreFramesAt p (base_of t) (words_of all t) x.fp x.pc frames) (sym r) h))

-- a thread's words and registers were taken in hand, and given back
pub record InHand (all : Everyone) (n : ℕ) (t : Thread) (regs : Regs) (stack : List ℕ) : Type 0 where
  pub named : thread_named all n ≡ Some t
  pub regs_are : regs ≡ t.regs
  pub words_are : stack ≡ words_of all t
  pub sixteen : length regs.r ≡ 16

pub in_hand : (all : Everyone) (n : ℕ) (t : Thread) (regs : Regs) (stack : List ℕ) → thread_named all n ≡ Some t → regs ≡ t.regs → Some stack ≡ of_thread (words_of all) (thread_named all n) → length regs.r ≡ 16 → InHand all n t regs stack
in_hand all n t regs stack named regs_are words sixteen = record { named = named; regs_are = regs_are; words_are = told (words_of all) (thread_named all n) t stack named words; sixteen = sixteen }

words_in_hand : (all : Everyone) (n : ℕ) (t : Thread) (regs : Regs) (stack : List ℕ) → InHand all n t regs stack → regs.r ++ stack ≡ words_at all t
words_in_hand all n t regs stack h = ap (λ (x : Regs). x.r ++ stack) h.regs_are ∙ ap (λ (ws : List ℕ). t.regs.r ++ ws) h.words_are

count_in_hand : (all : Everyone) (n : ℕ) (t : Thread) (regs : Regs) (stack : List ℕ) → InHand all n t regs stack → length (words_at all t) ≡ length (words_of all t) + 16
count_in_hand all n t regs stack h =
    let sixteen : length t.regs.r ≡ 16 = ap (λ (x : Regs). length x.r) (sym h.regs_are) ∙ h.sixteen in
    omega (arith, length-append t.regs.r (words_of all t))

-- written back by the number of the thread
written : (all new : Everyone) (n : ℕ) (t : Thread) (regs : Regs) (stack r after : List ℕ) → InHand all n t regs stack → new ≡ with_regs (with_words all n after) n (record regs { r = r }) → new ≡ with_thread_words all t r after
written all new n t regs stack r after h e =
    let number : t.number ≡ n = found-number n all.threads t h.named in
    e ∙ ap (λ (x : Regs). with_regs (with_words all n after) n (record x { r = r })) h.regs_are ∙ ap (λ (m : ℕ). with_regs (with_words all m after) m (record t.regs { r = r })) (sym number)

gathers_thread : (p : Program) (cells : List Cell) (all new : Everyone) (n : ℕ) (t : Thread) (regs : Regs) (stack r after : List ℕ) (frames : List Frame) (before moves : List Move) → InHand all n t regs stack → AreFrames p all t frames → length r ≡ 16 → length after ≡ length stack
    → new ≡ with_regs (with_words all n after) n (record regs { r = r }) → Gathers p cells frames (regs.r ++ stack) before (r ++ after) moves → GathersThread p cells t all before new moves
gathers_thread p cells all new n t regs stack r after frames before moves h framed sixteen depth back gathers = record {
  frames = frames;
  framed = framed;
  count = count_in_hand all n t regs stack h;
  r = r;
  stack = after;
  sixteen = sixteen;
  depth = depth ∙ ap length h.words_are;
  gathers = subst (λ (ws : List ℕ). Gathers p cells frames ws before (r ++ after) moves) (words_in_hand all n t regs stack h) gathers;
  becomes = written all new n t regs stack r after h back;
}

pub gathers_thread_if : (b : Bool) (p : Program) (cells : List Cell) (all new : Everyone) (n : ℕ) (t : Thread) (regs : Regs) (stack r after : List ℕ) (frames : List Frame) (before moves : List Move) → InHand all n t regs stack → AreFrames p all t frames → length r ≡ 16 → length after ≡ length stack
    → new ≡ with_regs (with_words all n after) n (record regs { r = r }) → OnTrue b (Gathers p cells frames (regs.r ++ stack) before (r ++ after) moves) → OnTrue b (GathersThread p cells t all before new moves)
gathers_thread_if true p cells all new n t regs stack r after frames before moves h framed sixteen depth back gathers = gathers_thread p cells all new n t regs stack r after frames before moves h framed sixteen depth back gathers
gathers_thread_if false p cells all new n t regs stack r after frames before moves h framed sixteen depth back gathers = tt

pub stops_thread_if : (b : Bool) (p : Program) (cells : List Cell) (all : Everyone) (n : ℕ) (t : Thread) (regs : Regs) (stack : List ℕ) (frames : List Frame) (before : List Move) → InHand all n t regs stack → AreFrames p all t frames
    → OnFalse b (StopsGathering p cells frames (regs.r ++ stack) before) → OnFalse b (StopsThreadHere p cells t all before)
stops_thread_if true p cells all n t regs stack frames before h framed stops = tt
stops_thread_if false p cells all n t regs stack frames before h framed stops =
    stopped frames framed (count_in_hand all n t regs stack h) (subst (λ (ws : List ℕ). StopsGathering p cells frames ws before) (words_in_hand all n t regs stack h) stops)

-- what was gathered is in hand
pub gathered_in_hand : (p : Program) (cells : List Cell) (all : Everyone) (n : ℕ) (t : Thread) (regs : Regs) (stack : List ℕ) (frames : List Frame) (words : List ℕ) (before after : List Move) → InHand all n t regs stack → Gathers p cells frames words before (words_at all t) after → Gathers p cells frames words before (regs.r ++ stack) after
gathered_in_hand p cells all n t regs stack frames words before after h gathers = subst (λ (ws : List ℕ). Gathers p cells frames words before ws after) (sym (words_in_hand all n t regs stack h)) gathers

pub mends_thread : (p : Program) (last : List Move) (all new : Everyone) (n : ℕ) (t : Thread) (regs : Regs) (stack r after : List ℕ) (frames : List Frame) (words : List ℕ) → InHand all n t regs stack → length after ≡ length stack → new ≡ with_regs (with_words all n after) n (record regs { r = r }) → MovesWords p last frames words (r ++ after)
    → MendsThread p last frames t words all new
mends_thread p last all new n t regs stack r after frames words h depth back moves = record {
  r = r;
  stack = after;
  depth = depth ∙ ap length h.words_are;
  moves = moves;
  becomes = written all new n t regs stack r after h back;
}
