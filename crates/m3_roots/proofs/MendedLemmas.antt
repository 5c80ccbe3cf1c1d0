-- Threads whose derived words are put together again one after the other.
use Rattle.std.proofs.Common.{◌≡◌, ◌≢◌, ℕ, ◌+◌, ◌<◌, ◌≤◌, List, ◌++◌, length, Some, refl, sym, ap, ◌∙◌, inl, inr, subst, arith}
use Rattle.std.specs.List.{slice_get}
use Rattle.std.proofs.lemmas.Bool.{cases_lt}
use Rattle.std.proofs.lemmas.Option.{slice_get_within}
use Rattle.m3_heap.specs.Cells.{Cell}
use Rattle.m3_heap.specs.Moves.{Move}
use Rattle.m3_threads.specs.declared.status.Thread.{Thread}
use Rattle.m3_threads.specs.All.{Everyone, base_of, words_of}
use Rattle.m3_threads.proofs.Places.{some_same}
use Rattle.m3_image_sections.specs.Parts.{Program}
use Rattle.m3_run_frames.specs.declared.frame.Frame.{Frame}
use Rattle.m3_roots.specs.RowMeaning.{AreFramesAt}
use Rattle.m3_roots.specs.Moving.{MovesWords}
use Rattle.m3_roots.specs.Gathering.{Gathers, GoesOn}
use Rattle.m3_roots.specs.Collected.{with_registers, words_at, AreFrames, frames_at, MovesThreads}
use Rattle.m3_roots.specs.ThreadsGathered.{MendsThread, AreSoundIn, Gathered, AllGathered, Mended}
use Rattle.m3_roots.proofs.AlikeLemmas.{alike_self, alike_twice, ChangedAt, changed_at}

pub mended_none : (p : Program) (last : List Move) (walks : List (List Frame)) (first gathered : Everyone) → Mended p last walks first gathered gathered 0
mended_none p last walks first gathered = record {
  words = λ k t u lt. absurd (omega arith);
  rest = λ k le. refl;
  rest_words = λ k u le e. refl;
  alike = alike_self gathered;
}

-- ---- one thread more

words_here : (p : Program) (last : List Move) (frames : List Frame) (now new : Everyone) (n : ℕ) (t u v : Thread) (old : List ℕ) → (here : MendsThread p last frames u old now new) → ChangedAt now new n u here.r here.stack → slice_get new.threads n ≡ Some v → MovesWords p last frames old (words_at new v)
words_here p last frames now new n t u v old here changed at =
    let same : with_registers here.r u ≡ v = some_same (sym changed.here ∙ at) in
    subst (λ (x : Thread). MovesWords p last frames old (words_at new x)) same (subst (λ (ws : List ℕ). MovesWords p last frames old (here.r ++ ws)) (sym changed.words) here.moves)

words_still : (p : Program) (last : List Move) (frames : List Frame) (now new : Everyone) (n k : ℕ) (u v : Thread) (r stack old : List ℕ) → k ≢ n → ChangedAt now new n u r stack → slice_get new.threads k ≡ Some v → ((w : Thread) → slice_get now.threads k ≡ Some w → MovesWords p last frames old (words_at now w)) → MovesWords p last frames old (words_at new v)
words_still p last frames now new n k u v r stack old ne changed at moved =
    let was : slice_get now.threads k ≡ Some v = sym (changed.others k ne) ∙ at in
    subst (λ (ws : List ℕ). MovesWords p last frames old (v.regs.r ++ ws)) (sym (changed.other_words k v ne was)) (moved v was)

pub mended_more : (p : Program) (last : List Move) (walks : List (List Frame)) (first gathered now new : Everyone) (n : ℕ) (t u : Thread) → AreSoundIn now → slice_get first.threads n ≡ Some t → slice_get now.threads n ≡ Some u → Mended p last walks first gathered now n
    → MendsThread p last (frames_at walks n) u (words_at first t) now new → Mended p last walks first gathered new (n + 1)
mended_more p last walks first gathered now new n t u whole was at m here =
    let changed = changed_at now new n u here.r here.stack whole at here.depth here.becomes in
    record {
      words = λ k v w lt old is. elim (cases_lt k n) [
        | inl less ↦ (let ne : k ≢ n = λ e. omega arith in words_still p last (frames_at walks k) now new n k u w here.r here.stack (words_at first v) ne changed is (λ x there. m.words k v x less old there))
        | inr more ↦ (
            let e : k ≡ n = omega arith in
            let is_n : slice_get new.threads n ≡ Some w = ap (slice_get new.threads) (sym e) ∙ is in
            let old_n : slice_get first.threads n ≡ Some v = ap (slice_get first.threads) (sym e) ∙ old in
            let v_is : t ≡ v = some_same (sym was ∙ old_n) in
            let moved = words_here p last (frames_at walks n) now new n t u w (words_at first t) here changed is_n in
            subst (λ (m : ℕ). MovesWords p last (frames_at walks m) (words_at first v) (words_at new w)) (sym e) (subst (λ (x : Thread). MovesWords p last (frames_at walks n) (words_at first x) (words_at new w)) v_is moved))
      ];
      rest = λ k le. (let ne : k ≢ n = λ e. omega arith in changed.others k ne ∙ m.rest k (omega arith));
      rest_words = λ k v le e. (
          let ne : k ≢ n = λ f. omega arith in
          let low : n ≤ k = omega arith in
          changed.other_words k v ne (m.rest k low ∙ e) ∙ m.rest_words k v low e);
      alike = alike_twice gathered now new m.alike changed.alike;
    }

-- ---- all of them

pub moves_threads : (p : Program) (cells : List Cell) (start moves last : List Move) (walks : List (List Frame)) (first gathered now : Everyone) (n m : ℕ) → Gathered p cells first gathered start moves m walks → Mended p last walks first gathered now n → length first.threads ≤ n → MovesThreads p last walks first now
moves_threads p cells start moves last walks first gathered now n m g done all =
    let alike = alike_twice first gathered now g.alike done.alike in
    record {
      count = alike.count;
      same = alike.same;
      words = λ k t u was is. (let lt = slice_get_within first.threads k t was in done.words k t u (omega arith) was is);
      depths = alike.depths;
      rest = alike.rest;
    }

-- what is known of the thread at a place that isn't mended yet
pub record NextGathered (p : Program) (cells : List Cell) (first now : Everyone) (moves : List Move) (n : ℕ) (u : Thread) (frames : List Frame) : Type 0 where
  pub t : Thread
  pub was : slice_get first.threads n ≡ Some t
  pub framed : AreFrames p now u frames
  pub count : length (words_at first t) ≡ length (words_of now u) + 16
  pub before : List Move
  pub after : List Move
  pub gathers : Gathers p cells frames (words_at first t) before (words_at now u) after
  pub grew : GoesOn after moves

pub next_gathered : (p : Program) (cells : List Cell) (start moves last : List Move) (walks : List (List Frame)) (first gathered now : Everyone) (n m : ℕ) (u : Thread) → Gathered p cells first gathered start moves m walks → Mended p last walks first gathered now n → n < m → slice_get now.threads n ≡ Some u
    → NextGathered p cells first now moves n u (frames_at walks n)
next_gathered p cells start moves last walks first gathered now n m u g done lt at =
    let here = g.each n lt in
    let was_u : slice_get gathered.threads n ≡ Some u = sym (done.rest n (omega arith)) ∙ at in
    let same : here.u ≡ u = some_same (sym here.is ∙ was_u) in
    let words : words_of now u ≡ words_of gathered u = done.rest_words n u (omega arith) was_u in
    let frames = frames_at walks n in
    let depth = here.depth in
    let count = here.count in
    let many : length (words_at first here.t) ≡ length (words_of gathered here.u) + 16 = omega arith in
    let of_u = subst (λ (x : Thread). AreFrames p gathered x frames × Gathers p cells frames (words_at first here.t) here.before (words_at gathered x) here.after × (length (words_at first here.t) ≡ length (words_of gathered x) + 16)) same (here.still, here.gathers, many) in
    record {
      t = here.t;
      was = here.was;
      framed = subst (λ (ws : List ℕ). AreFramesAt p (base_of u) ws u.regs.fp u.regs.pc frames) (sym words) of_u.0;
      count = subst (λ (ws : List ℕ). length (words_at first here.t) ≡ length ws + 16) (sym words) of_u.2;
      before = here.before;
      after = here.after;
      gathers = subst (λ (ws : List ℕ). Gathers p cells frames (words_at first here.t) here.before (u.regs.r ++ ws) here.after) (sym words) of_u.1;
      grew = here.grew;
    }

-- ---- the next thread

pub next_of : (p : Program) (cells : List Cell) (first gathered now : Everyone) (start moves last : List Move) (n : ℕ) (u : Thread) → (all : AllGathered p cells first gathered start moves) → Mended p last all.walks first gathered now n → slice_get now.threads n ≡ Some u → NextGathered p cells first now moves n u (frames_at all.walks n)
next_of p cells first gathered now start moves last n u all done at =
    let lt = slice_get_within now.threads n u at in
    let a = done.alike.count in
    let b = all.gathered.alike.count in
    let many = all.all in
    next_gathered p cells start moves last all.walks first gathered now n all.n u all.gathered done (omega arith) at

-- its frames are listed
pub walk_within : (p : Program) (cells : List Cell) (first gathered now : Everyone) (start moves last : List Move) (n : ℕ) (u : Thread) → (all : AllGathered p cells first gathered start moves) → Mended p last all.walks first gathered now n → slice_get now.threads n ≡ Some u → n < length all.walks
walk_within p cells first gathered now start moves last n u all done at =
    let lt = slice_get_within now.threads n u at in
    let a = done.alike.count in
    let b = all.gathered.alike.count in
    let many = all.all in
    let count = all.gathered.count in
    omega arith

-- all of them, where none is left
pub none_unmended : (p : Program) (cells : List Cell) (first gathered now : Everyone) (start moves last : List Move) (n : ℕ) → (all : AllGathered p cells first gathered start moves) → Mended p last all.walks first gathered now n → length now.threads ≤ n → MovesThreads p last all.walks first now
none_unmended p cells first gathered now start moves last n all done le =
    let a = done.alike.count in
    let b = all.gathered.alike.count in
    moves_threads p cells start moves last all.walks first gathered now n all.n all.gathered done (omega arith)

-- or where all places were looked at
pub all_mended : (p : Program) (cells : List Cell) (first gathered now : Everyone) (start moves last : List Move) (n : ℕ) → (all : AllGathered p cells first gathered start moves) → Mended p last all.walks first gathered now n → 64 ≤ n → MovesThreads p last all.walks first now
all_mended p cells first gathered now start moves last n all done le =
    let few = all.few in
    moves_threads p cells start moves last all.walks first gathered now n all.n all.gathered done (omega arith)
