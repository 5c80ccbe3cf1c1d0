-- Threads whose words were gathered one after the other.
use Rattle.std.proofs.Common.{◌≡◌, ◌≢◌, ◌⊎◌, ℕ, ◌+◌, ◌<◌, ◌≤◌, true, List, [], ◌∷◌, ◌++◌, map, length, get_or, Some, refl, sym, ap, ◌∙◌, inl, inr, subst, arith, length-append}
use Rattle.std.proofs.Math.ListN.{get_or-append}
use Rattle.std.specs.List.{slice_get}
use Rattle.std.proofs.Math.Seq.{get_or-append_seam}
use Rattle.std.proofs.lemmas.List.{append-nil, append_assoc}
use Rattle.std.proofs.lemmas.Bool.{cases_lt}
use Rattle.m3_tables.specs.Numbers.{has}
use Rattle.m3_heap.specs.Cells.{Cell}
use Rattle.m3_heap.specs.Moves.{Move, kept_starts}
use Rattle.m3_threads.specs.declared.status.Thread.{Thread}
use Rattle.m3_threads.specs.All.{Everyone, base_of, words_of}
use Rattle.m3_image_sections.specs.Parts.{Program}
use Rattle.m3_image_sections.specs.Forms.{procs_fit}
use Rattle.m3_image.specs.Sound.{IsSoundProgram}
use Rattle.m3_run_frames.specs.declared.frame.Frame.{Frame}
use Rattle.m3_roots.specs.ThreadWords.{word_at_place}
use Rattle.m3_roots.specs.RowMeaning.{AreFramesAt, tidy_places}
use Rattle.m3_roots.specs.Gathering.{Gathers, GoesOn}
use Rattle.m3_roots.specs.Collected.{with_registers, words_at, frames_at, tidy_words}
use Rattle.m3_roots.specs.ThreadsGathered.{GathersThread, AreSoundIn, ThreadGathered, IsTidyBelow, Gathered}
use Rattle.m3_roots.proofs.WordLemmas.{map_same}
use Rattle.m3_roots.proofs.WithinLemmas.{frames_sit}
use Rattle.m3_roots.proofs.VisitLemmas.{Grew}
use Rattle.m3_roots.proofs.ThreadLemmas.{HasFrames, forwards}
use Rattle.m3_roots.proofs.LinkLemmas.{gathered_framed}
use Rattle.m3_roots.proofs.AlikeLemmas.{alike_self, alike_twice, ChangedAt, changed_at}

-- ---- forwarding lists that go on

pub goes_not : (moves : List Move) → GoesOn moves moves
goes_not moves = ([], sym (append-nil moves))

pub goes_twice : (a b c : List Move) → GoesOn a b → GoesOn b c → GoesOn a c
goes_twice a b c h k = (h.0 ++ k.0, k.1 ∙ ap (λ (m : List Move). m ++ k.0) h.1 ∙ append_assoc a h.0 k.0)

pub grew_if : (a b : List Move) → GoesOn a b → Grew a b
grew_if a b h = record { more = h.0; is = h.1 }

-- ---- lists with one more

pub last_at : {A : Type 0} (xs : List A) (x d : A) (n : ℕ) → length xs ≡ n → get_or (xs ++ x ∷ []) n d ≡ x
last_at xs x d n e = subst (λ (m : ℕ). get_or (xs ++ x ∷ []) m d ≡ x) e (get_or-append_seam xs x [] d)

pub earlier_at : {A : Type 0} (xs : List A) (x d : A) (k n : ℕ) → length xs ≡ n → k < n → get_or (xs ++ x ∷ []) k d ≡ get_or xs k d
earlier_at xs x d k n e lt = let within : k < length xs = omega arith in get_or-append xs (x ∷ []) d k within

length_more : {A : Type 0} (xs : List A) (x : A) → length (xs ++ x ∷ []) ≡ length xs + 1
length_more xs x = length-append xs (x ∷ [])

-- ---- threads that were gathered

pub gathered_none : (p : Program) (cells : List Cell) (all : Everyone) (moves : List Move) → Gathered p cells all all moves moves 0 []
gathered_none p cells all moves = record {
  count = refl;
  each = λ k lt. absurd (omega arith);
  rest = λ k le. refl;
  rest_words = λ k t le e. refl;
  alike = alike_self all;
  grew = goes_not moves;
  starts = λ s h. inl h;
}

-- ---- one thread more

-- one that was gathered before stays gathered
gathered_still : (p : Program) (cells : List Cell) (first now new : Everyone) (before after : List Move) (n k : ℕ) (t : Thread) (r stack : List ℕ) (frames : List Frame) → k < n → GoesOn before after → ChangedAt now new n t r stack → ThreadGathered p cells first now before k frames → ThreadGathered p cells first new after k frames
gathered_still p cells first now new before after n k t r stack frames lt grew changed g =
    let ne : k ≢ n = λ e. omega arith in
    let words = changed.other_words k g.u ne g.is in
    record {
      t = g.t;
      u = g.u;
      was = g.was;
      is = changed.others k ne ∙ g.is;
      framed = g.framed;
      still = subst (λ (ws : List ℕ). AreFramesAt p (base_of g.u) ws g.u.regs.fp g.u.regs.pc frames) (sym words) g.still;
      count = g.count;
      depth = ap length words ∙ g.depth;
      before = g.before;
      after = g.after;
      gathers = subst (λ (ws : List ℕ). Gathers p cells frames (words_at first g.t) g.before (g.u.regs.r ++ ws) g.after) (sym words) g.gathers;
      grew = goes_twice g.after before after g.grew grew;
    }

sixteen_in : (r stack : List ℕ) → length (r ++ stack) ≡ length stack + 16 → length r ≡ 16
sixteen_in r stack e = omega (arith, length-append r stack)

-- what is known of the thread that was gathered just now
pub record JustGathered (p : Program) (cells : List Cell) (first new : Everyone) (before after : List Move) (n : ℕ) (t : Thread) (frames : List Frame) : Type 0 where
  pub gathered : ThreadGathered p cells first new after n frames
  pub grew : GoesOn before after
  pub starts : (s : ℕ) → has (kept_starts after) s ≡ true → (has (kept_starts before) s ≡ true) ⊎ (has (tidy_words p first t frames) s ≡ true)

just_gathered : (p : Program) → IsSoundProgram p → procs_fit p.procs ≡ true → (cells : List Cell) (first new : Everyone) (before after : List Move) (n : ℕ) (t : Thread) (frames : List Frame) (stack r new_stack : List ℕ) → slice_get first.threads n ≡ Some t → slice_get new.threads n ≡ Some (with_registers r t)
    → words_of new (with_registers r t) ≡ new_stack → words_of first t ≡ stack → AreFramesAt p (base_of t) stack t.regs.fp t.regs.pc frames → length (t.regs.r ++ stack) ≡ length stack + 16 → length r ≡ 16 → length new_stack ≡ length stack
    → Gathers p cells frames (t.regs.r ++ stack) before (r ++ new_stack) after → JustGathered p cells first new before after n t frames
just_gathered p sound fits cells first new before after n t frames stack r new_stack was is words old_words framed count sixteen depth gathers =
    let has_frames : HasFrames p (length stack) frames (t.regs.r ++ stack) = record { sit = frames_sit p sound fits (base_of t) stack t.regs.fp t.regs.pc frames framed; count = count } in
    let f = forwards p cells (length stack) frames (t.regs.r ++ stack) before (r ++ new_stack) after has_frames gathers in
    let still = gathered_framed p cells frames (base_of t) t.regs.fp t.regs.pc t.regs.r stack r new_stack before after (sixteen_in t.regs.r stack count) sixteen depth gathers.fit f framed in
    record {
      gathered = record {
        t = t;
        u = with_registers r t;
        was = was;
        is = is;
        framed = subst (λ (ws : List ℕ). AreFramesAt p (base_of t) ws t.regs.fp t.regs.pc frames) (sym old_words) framed;
        still = subst (λ (ws : List ℕ). AreFramesAt p (base_of t) ws t.regs.fp t.regs.pc frames) (sym words) still;
        count = subst (λ (ws : List ℕ). length (t.regs.r ++ ws) ≡ length ws + 16) (sym old_words) count;
        depth = ap length words ∙ depth ∙ sym (ap length old_words);
        before = before;
        after = after;
        gathers = subst (λ (ws : List ℕ). Gathers p cells frames (t.regs.r ++ ws) before (r ++ words_of new (with_registers r t)) after) (sym old_words)
            (subst (λ (ws : List ℕ). Gathers p cells frames (t.regs.r ++ stack) before (r ++ ws) after) (sym words) gathers);
        grew = goes_not after;
      };
      grew = (f.words.grew.more, f.words.grew.is);
      starts = λ s h. elim (f.words.starts s h) [
        | inl kept ↦ inl kept
        | inr word ↦ inr (
            let same : map (word_at_place f.taken) (tidy_places p frames) ≡ map (word_at_place (t.regs.r ++ stack)) (tidy_places p frames) = map_same (tidy_places p frames) (t.regs.r ++ stack) f.taken f.tidy_same in
            let here : has (map (word_at_place (t.regs.r ++ stack)) (tidy_places p frames)) s ≡ true = rw same at word in
            subst (λ (ws : List ℕ). has (map (word_at_place (t.regs.r ++ ws)) (tidy_places p frames)) s ≡ true) (sym old_words) here)
      ];
    }

more_each : (p : Program) (cells : List Cell) (first now new : Everyone) (start before after : List Move) (n : ℕ) (walks : List (List Frame)) (t : Thread) (r stack : List ℕ) (frames : List Frame) → Gathered p cells first now start before n walks → ChangedAt now new n t r stack → JustGathered p cells first new before after n t frames
    → (k : ℕ) → k < n + 1 → ThreadGathered p cells first new after k (frames_at (walks ++ frames ∷ []) k)
more_each p cells first now new start before after n walks t r stack frames g changed just k lt = elim (cases_lt k n) [
  | inl less ↦ subst (ThreadGathered p cells first new after k) (sym (earlier_at walks frames [] k n g.count less)) (gathered_still p cells first now new before after n k t r stack (frames_at walks k) less just.grew changed (g.each k less))
  | inr more ↦ (let e : n ≡ k = omega arith in subst (λ (m : ℕ). ThreadGathered p cells first new after m (frames_at (walks ++ frames ∷ []) m)) e (subst (ThreadGathered p cells first new after n) (sym (last_at walks frames [] n g.count)) just.gathered))
]

tidy_still : (p : Program) (all : Everyone) (walks : List (List Frame)) (frames : List Frame) (n s : ℕ) → length walks ≡ n → IsTidyBelow p all walks n s → IsTidyBelow p all (walks ++ frames ∷ []) (n + 1) s
tidy_still p all walks frames n s e h = let lower = h.lower in record {
  k = h.k;
  lower = omega arith;
  t = h.t;
  there = h.there;
  word = subst (λ (fs : List Frame). has (tidy_words p all h.t fs) s ≡ true) (sym (earlier_at walks frames [] h.k n e h.lower)) h.word;
}

pub gathered_more : (p : Program) → IsSoundProgram p → procs_fit p.procs ≡ true → (cells : List Cell) (first now new : Everyone) (start before after : List Move) (n : ℕ) (walks : List (List Frame)) (t : Thread) → AreSoundIn now → slice_get now.threads n ≡ Some t → Gathered p cells first now start before n walks
    → (here : GathersThread p cells t now before new after) → Gathered p cells first new start after (n + 1) (walks ++ here.frames ∷ [])
gathered_more p sound fits cells first now new start before after n walks t whole at g here =
    let changed = changed_at now new n t here.r here.stack whole at here.depth here.becomes in
    let was : slice_get first.threads n ≡ Some t = sym (g.rest n (omega arith)) ∙ at in
    let old_words : words_of first t ≡ words_of now t = sym (g.rest_words n t (omega arith) was) in
    let just = just_gathered p sound fits cells first new before after n t here.frames (words_of now t) here.r here.stack was changed.here changed.words old_words here.framed here.count here.sixteen here.depth here.gathers in
    let count = g.count in
    record {
      count = length_more walks here.frames ∙ ap (λ (m : ℕ). m + 1) g.count;
      each = more_each p cells first now new start before after n walks t here.r here.stack here.frames g changed just;
      rest = λ k le. (let ne : k ≢ n = λ e. omega arith in changed.others k ne ∙ g.rest k (omega arith));
      rest_words = λ k v le e. (
          let ne : k ≢ n = λ f. omega arith in
          let low : n ≤ k = omega arith in
          changed.other_words k v ne (g.rest k low ∙ e) ∙ g.rest_words k v low e);
      alike = alike_twice first now new g.alike changed.alike;
      grew = goes_twice start before after g.grew just.grew;
      starts = λ s h. elim (just.starts s h) [
        | inl kept ↦ (elim (g.starts s kept) [ inl first_ones ↦ inl first_ones | inr tidy ↦ inr (tidy_still p first walks here.frames n s g.count tidy) ])
        | inr word ↦ inr (record {
          k = n;
          lower = omega arith;
          t = t;
          there = was;
          word = subst (λ (fs : List Frame). has (tidy_words p first t fs) s ≡ true) (sym (last_at walks here.frames [] n g.count)) word;
        })
      ];
    }
