-- The runs of middle code keep it that each activation that waits lives.
use Rattle.std.proofs.Common.{◌≡◌, ℕ, zero, suc, Bool, List, [], ◌∷◌, ◌++◌, length, Option, Some, None, refl, sym, ap, ◌∙◌, subst, ◌⊎◌, inl, inr, ⊎_elim}
use Rattle.std.specs.Prelude.{◌≢◌}
use Rattle.std.specs.Option.{option_map}
use Rattle.m3_runs.specs.Languages as run_of
use Rattle.m3_runs.specs.Languages.{Action, Calls, Answer, Gives, Raises, Fails, Move, Acts, Leaves, Breaks, Begins, Overflows, Entered, Thread, Begun, Parts}
use Rattle.m3_runs.specs.States.{Given, thread_at, updated, without, with_parts, with_memory, with_threads, changing, come_to, beginning, start}
use Rattle.m3_runs.specs.Services.{Done, Comes_to, Rests, Stops, serves}
use Rattle.m3_runs.specs.Runs as run
use Rattle.m3_runs.specs.Runs.{Over, Result, Goes, Ends, Undefined, Does, Collected_if, settled, thread_ended, result_kept, forked, passed, runs_on}
use Rattle.m3_runs.specs.Follows.{Each, Both, neither, both}
use Rattle.m3_runs.specs.Keeping.{Keeps}
use Rattle.m3_runs.specs.Served as served
use Rattle.m3_runs.specs.Served.{SameButWaiting, Wrote, Left, ServedSo}
use Rattle.m3_runs.proofs.Rows.{at_each}
use Rattle.m3_runs.proofs.Served.{serves_so}
use Rattle.m3_mid_meaning.specs.Words.{Word, number, further, ◌>>=◌}
use Rattle.m3_mid_meaning.specs.Memory as words
use Rattle.m3_mid_meaning.specs.States.{Ending, Returned, Escaped, Faulted, Waiting}
use Rattle.m3_mid_meaning.specs.States as code
use Rattle.m3_mid_meaning.specs.Operations.{method_of}
use Rattle.m3_mid_meaning.specs.Actions.{procedure_of}
use Rattle.m3_mid_programs.specs.Linked.{Linked, procedure_at}
use Rattle.m3_mid_programs.specs.Values.{Value, Words, Beside, the_word, on_word}
use Rattle.m3_mid_programs.specs.Activations as place
use Rattle.m3_mid_programs.specs.Activations.{Memory, with_words, Frame, Activation, Activity, Bodies, Applying, Within, Came}
use Rattle.m3_mid_programs.specs.Actions.{is_wide, action_of}
use Rattle.m3_mid_programs.specs.Cells as cells
use Rattle.m3_mid_programs.specs.Moves as moving
use Rattle.m3_mid_programs.specs.Moves.{Moves, Callee, callee, left, leaves_with, leaves_by, frame_left, without_frame, result_in, acts, move_of, next_body, Enters, GoesOn}
use Rattle.m3_mid_programs.specs.Programs.{MidState, mid_language, begun, main_of, last_slot}
use Rattle.m3_mid_programs.specs.Living.{frames_of, IsOneOf, first, later, AllLive, AreApart, HasFrames, Others, AllLiving, LivingAt, living, AllStayLiving}
use Rattle.m3_mid_programs.proofs.Living.{enters, leaves, others_as, one_of_both}

-- ---- lists

none_in : (f : Frame) (fs : List Frame) → fs ≡ [] → IsOneOf f fs → ⊥
none_in f fs e (first gs) = let bad : f ∷ gs ≡ [] = e in cc
none_in f fs e (later g gs of) = let bad : g ∷ gs ≡ [] = e in cc

-- ---- states

from_all : (s : MidState) (n : ℕ) (t : Thread Activity Value) → AllLiving s → thread_at s.parts.threads n ≡ Some t → Others s n s.parts.memory.frames (frames_of t.stack)
from_all s n t h e = record {
  its = h.all n (frames_of t.stack) (t, e, refl);
  others = λ k fs differ has. h.all k fs has;
  apart = λ k fs differ has. h.apart n k (frames_of t.stack) fs (λ x. differ (sym x)) (t, e, refl) has;
  among = λ k j fs gs dk dj d hk hj. h.apart k j fs gs d hk hj;
}

to_all : (s : MidState) (n : ℕ) (own : List Frame) → Others s n s.parts.memory.frames own → ((fs : List Frame) → HasFrames s n fs → fs ≡ own) → AllLiving s
to_all s n own h mine = record {
  all = λ k fs has. one_of_both k n (AllLive s.parts.memory.frames fs)
      (λ e. subst (AllLive s.parts.memory.frames) (sym (mine fs (subst (λ i. HasFrames s i fs) e has))) h.its)
      (λ d. h.others k fs d has);
  apart = λ k j fs gs d hk hj. one_of_both k n (AreApart fs gs)
      (λ e. subst (λ xs. AreApart xs gs) (sym (mine fs (subst (λ i. HasFrames s i fs) e hk))) (h.apart j gs (λ x. d (e ∙ sym x)) hj))
      (λ dk. one_of_both j n (AreApart fs gs)
      (λ e f g of og same. h.apart k fs dk hk g f (subst (IsOneOf g) (mine gs (subst (λ i. HasFrames s i gs) e hj)) og) of (sym same))
      (λ dj. h.among k j fs gs dk dj d hk hj));
}

-- with another memory of the same frames
frames_same : (s : MidState) (n : ℕ) (frames other : List (Option ℕ)) (own : List Frame) → frames ≡ other → Others s n frames own → Others s n other own
frames_same s n frames other own e h = subst (λ x. Others s n x own) e h

-- ---- memory

mapped_frames : (m : Memory) (o : Option words.Memory) (after : Memory) → option_map (with_words m) o ≡ Some after → after.frames ≡ m.frames
mapped_frames m None after e = absurd (let bad : None ≡ Some after = e in cc)
mapped_frames m (Some memory) after e = let same : with_words m memory ≡ after = cc in ap (λ (x : Memory). x.frames) (sym same)

stored_frames : (m : Memory) (at : Word) (distance : ℕ) (w : Word) (after : Memory) → cells.with_word m at distance w ≡ Some after → after.frames ≡ m.frames
stored_frames m at distance w after e = mapped_frames m (words.store m.words (further at distance) w) after e

on_word_frames : (m : Memory) (v : Value) (f : Word → Option Memory) (after : Memory) → ((w : Word) (x : Memory) → f w ≡ Some x → x.frames ≡ m.frames) → on_word f v ≡ Some after → after.frames ≡ m.frames
on_word_frames m (Words []) f after h e = absurd (let bad : None ≡ Some after = e in cc)
on_word_frames m (Words (w ∷ [])) f after h e = h w after e
on_word_frames m (Words (w ∷ u ∷ ws)) f after h e = absurd (let bad : None ≡ Some after = e in cc)
on_word_frames m (Beside environment result_at) f after h e = absurd (let bad : None ≡ Some after = e in cc)

written_frames : (linked : Linked) (n : ℕ) (m after : Memory) → Wrote (mid_language linked) n m after → after.frames ≡ m.frames
written_frames linked n m after served.nothing = refl
written_frames linked n m after (served.holder v holder _ few e) = on_word_frames m v (cells.hold m holder) after (λ w x e. stored_frames m w 1 _ x e) e
written_frames linked n m after (served.join v _ e) = on_word_frames m v (cells.join m) after (λ w x e. stored_frames m w 2 _ x e) e

both_frames : (m : Memory) (o : Option Memory) (w : Word) (after : Memory) → ((x : Memory) → o ≡ Some x → x.frames ≡ m.frames) → (o >>= λ x. cells.with_word x w 2 (number 1)) ≡ Some after → after.frames ≡ m.frames
both_frames m None w after h e = absurd (let bad : None ≡ Some after = e in cc)
both_frames m (Some x) w after h e = stored_frames x w 2 (number 1) after e ∙ h x refl

-- ---- an activation is left, or comes to its next point

result_so : (s : MidState) (n : ℕ) (rest : List Activity) (f : Frame) (m : Memory) (memory : words.Memory) (v : Option (Option Value)) → Others s n m.frames (f ∷ frames_of rest) → LivingAt s n rest (leaves_with (frame_left f m) memory v)
result_so s n rest f m memory None h = tt
result_so s n rest f m memory (Some v) h = leaves s n m.frames f (frames_of rest) h

escaped_so : (s : MidState) (n : ℕ) (rest : List Activity) (f : Frame) (m : Memory) (exception : ℕ) (x tidy : Word) (memory : words.Memory) → Others s n m.frames (f ∷ frames_of rest) → LivingAt s n rest (leaves_by (frame_left f m) exception x tidy memory)
escaped_so s n rest f m zero x tidy memory h = tt
escaped_so s n rest f m (suc exception) x tidy memory h = leaves s n m.frames f (frames_of rest) h

left_so : (s : MidState) (n : ℕ) (rest : List Activity) (f : Frame) (m : Memory) (ending : Ending) → Others s n m.frames (f ∷ frames_of rest) → LivingAt s n rest (left f m ending)
left_so s n rest f m (Returned value memory) h = result_so s n rest f m (without_frame f memory) (result_in f (without_frame f memory) f.procedure.result value) h
left_so s n rest f m (Escaped exception x tidy memory) h = escaped_so s n rest f m exception x tidy (without_frame f memory) h
left_so s n rest f m (Faulted kind at) h = tt
left_so s n rest f m Waiting h = tt
left_so s n rest f m code.Undefined h = tt

module _ (linked : Linked) where
  acts_so : (s : MidState) (n : ℕ) (rest : List Activity) (a : Activation) (m : Memory) (o : Option (Action Value)) → Others s n m.frames (a.frame ∷ frames_of rest) → LivingAt s n rest (acts linked a m o)
  acts_so s n rest a m None h = tt
  acts_so s n rest a m (Some action) h = h

  comes_so : (s : MidState) (n : ℕ) (rest : List Activity) (f : Frame) (m : Memory) (came : Came) → Others s n m.frames (f ∷ frames_of rest) → LivingAt s n rest (move_of linked f m came)
  comes_so s n rest f m (place.Stands st op event code) h = acts_so s n rest (record { frame = f; state = st; op = op; rest = code }) (with_words m event.memory) (action_of linked event.action) h
  comes_so s n rest f m (place.Ended ending) h = left_so s n rest f m ending h

  -- ---- going on

  bodies_so : (s : MidState) (n : ℕ) (rest : List Activity) (stack : ℕ) (order : List ℕ) (answer : Answer Value) (m : Memory) → Others s n m.frames (frames_of rest) → LivingAt s n rest (next_body stack order answer m)
  bodies_so s n rest stack [] (Gives v) m h = h
  bodies_so s n rest stack (q ∷ order) (Gives v) m h = h
  bodies_so s n rest stack [] (Raises x v u) m h = h
  bodies_so s n rest stack (q ∷ order) (Raises x v u) m h = h
  bodies_so s n rest stack [] (Fails kind) m h = h
  bodies_so s n rest stack (q ∷ order) (Fails kind) m h = h

  goes_so : (s : MidState) (n : ℕ) (x : Activity) (rest : List Activity) (answer : Answer Value) (m : Memory) (move : Moves) → LivingAt s n (x ∷ rest) (Leaves answer m) → GoesOn linked answer m x move → LivingAt s n rest move
  goes_so s n x rest answer m move h (moving.next stack order) = bodies_so s n rest stack order answer m h
  goes_so s n x rest answer m move h (moving.applied stack) = h
  goes_so s n x rest answer m move h (moving.over a event reply ending e r) = left_so s n rest a.frame m ending h
  goes_so s n x rest answer m move h (moving.further a event reply st came e r k) = comes_so s n rest a.frame m came h

  -- ---- entering

  bound : {A B : Type 0} (o : Option A) (f : A → Option B) (y : B) → (o >>= f) ≡ Some y → (x : A) × (f x ≡ Some y)
  bound None f y e = absurd (let bad : None ≡ Some y = e in cc)
  bound (Some x) f y e = (x, e)

  abbrev number_in : Option Callee → ℕ
  number_in None = 0
  number_in (Some c) = c.frame.number

  numbered : (stack : List Activity) (q : ℕ) (v : Value) (formals : List Value) (m : Memory) (c : Callee) → callee linked stack q v formals m ≡ Some c → c.frame.number ≡ length m.frames
  numbered stack q (Words ws) formals m c e = absurd (let bad : None ≡ Some c = e in cc)
  numbered stack q (Beside environment result_at) formals m c e =
      let q1 = bound (procedure_at linked q) _ c e in
      let q2 = bound (moving.spot_above linked stack) _ c q1.1 in
      let q3 = bound (moving.formal_words (q1.0).formals formals) _ c q2.1 in
      let q4 = bound (moving.address_passed (is_wide (q1.0).result) result_at) _ c q3.1 in
      ap number_in (sym (q4.1))

  enters_so : (s : MidState) (n : ℕ) (stack : List Activity) (called : Option Callee) (m : Memory) (move : Moves) → ((c : Callee) → called ≡ Some c → c.frame.number ≡ length m.frames) → Others s n m.frames (frames_of stack) → Enters linked called m (Begins move) → LivingAt s n stack move
  enters_so s n stack called m move number h (moving.breaks e) = tt
  enters_so s n stack called m move number h (moving.begins c came e room k) = comes_so s n stack c.frame (moving.with_frame c.frame m) came (enters s n m.frames c.frame (frames_of stack) h (number c e))

  -- ---- states whose threads have the same activations

  frames_back : (t u : Option (Thread Activity Value)) (x : Thread Activity Value) → Both SameButWaiting t u → u ≡ Some x → (y : Thread Activity Value) × (t ≡ Some y) × (frames_of y.stack ≡ frames_of x.stack)
  frames_back t u x neither e = absurd (let bad : None ≡ Some x = e in cc)
  frames_back t u x (both y z h) e = let same : z ≡ x = cc in (y, refl, ap frames_of (sym h.stack) ∙ ap (λ (i : Thread Activity Value). frames_of i.stack) same)

  back : (s after : MidState) (k : ℕ) (fs : List Frame) → Each (Both SameButWaiting) s.parts.threads after.parts.threads → HasFrames after k fs → HasFrames s k fs
  back s after k fs each has =
      let f = frames_back (thread_at s.parts.threads k) (thread_at after.parts.threads k) has.0 (at_each SameButWaiting s.parts.threads after.parts.threads k each) has.1 in
      (f.0, f.1, f.2 ∙ has.2)

  left_frames : (n : ℕ) (s after : MidState) → Left (mid_language linked) n s after → after.parts.memory.frames ≡ s.parts.memory.frames
  left_frames n s after h = written_frames linked n s.parts.memory after.parts.memory h.memory

  living_left : (n : ℕ) (s after : MidState) → AllLiving s → Left (mid_language linked) n s after → AllLiving after
  living_left n s after h left = record {
    all = λ k fs has. subst (λ x. AllLive x fs) (sym (left_frames n s after left)) (h.all k fs (back s after k fs left.threads has));
    apart = λ k j fs gs d hk hj. h.apart k j fs gs d (back s after k fs left.threads hk) (back s after j gs left.threads hj);
  }

  -- ---- the action of a thread

  abbrev Good : ℕ → Done Activity Value Memory → Type 0
  Good n (Comes_to after stack move) = LivingAt after n stack move
  Good n (Rests after) = AllLiving after
  Good n (Stops after outcome) = Unit {0}

  served_good : (n : ℕ) (t : Thread Activity Value) (s : MidState) (done : Done Activity Value Memory) → AllLiving s → thread_at s.parts.threads n ≡ Some t → ServedSo (mid_language linked) n t s done → Good n done
  served_good n t s done h there (served.answered after answer left) =
      frames_same after n s.parts.memory.frames after.parts.memory.frames (frames_of t.stack) (sym (left_frames n s after left))
      (others_as s n s.parts.memory.frames after (frames_of t.stack) (λ k fs differ has. back s after k fs left.threads has) (from_all s n t h there))
  served_good n t s done h there (served.slept after left) = living_left n s after h left
  served_good n t s done h there (served.not_defined after) = tt

  made_good : (n : ℕ) (s : MidState) (parts : Parts Activity Value Memory) (new : run_of.New Value) (v : Option Value) (t : Thread Activity Value) → AllLiving s → cells.MakesCell linked s.parts new v parts → thread_at parts.threads n ≡ Some t → Others (with_parts s parts) n parts.memory.frames (frames_of t.stack)
  made_good n s parts new v t h (cells.makes made e) there = others_as s n s.parts.memory.frames (with_parts s parts) (frames_of t.stack) (λ k fs differ has. has) (from_all s n t h there)

  -- ---- a thread is added, which has no frames yet

  abbrev bare_in : Option (Begun Activity Value) → List Frame
  bare_in None = []
  bare_in (Some b) = frames_of (b.lowest ∷ [])

  lowest_bare : (m : Memory) (w : Word) (b : Begun Activity Value) → begun linked m w ≡ Some b → frames_of (b.lowest ∷ []) ≡ []
  lowest_bare m w b e =
      let q1 = bound (method_of linked.around m.words w 0 >>= procedure_of) _ b e in
      let q2 = bound (last_slot m.slots) _ b q1.1 in
      ap bare_in (sym (q2.1))

  begun_bare : (m : Memory) (v : Value) (b : Begun Activity Value) → (mid_language linked).begins m v ≡ Some b → frames_of (b.lowest ∷ []) ≡ []
  begun_bare m (Words []) b e = absurd (let bad : None ≡ Some b = e in cc)
  begun_bare m (Words (w ∷ [])) b e = lowest_bare m w b e
  begun_bare m (Words (w ∷ u ∷ ws)) b e = absurd (let bad : None ≡ Some b = e in cc)
  begun_bare m (Beside environment result_at) b e = absurd (let bad : None ≡ Some b = e in cc)

  new_or_old : (ts : List (Option (Thread Activity Value))) (new x : Thread Activity Value) (k : ℕ) → thread_at (ts ++ Some new ∷ []) k ≡ Some x → (thread_at ts k ≡ Some x) ⊎ (new ≡ x)
  new_or_old [] new x zero e = inr (let same : new ≡ x = cc in same)
  new_or_old [] new x (suc k) e = absurd (let bad : None ≡ Some x = e in cc)
  new_or_old (t ∷ ts) new x zero e = inl e
  new_or_old (t ∷ ts) new x (suc k) e = new_or_old ts new x k e

  none_of : {A : Type 0} (f : Frame) → IsOneOf f [] → A
  none_of f of = absurd (none_in f [] refl of)

  nobody : {A : Type 0} (f : Frame) (fs : List Frame) → fs ≡ [] → IsOneOf f fs → A
  nobody f fs e of = none_of f (subst (IsOneOf f) e of)

  none_there : (frames : List (Option ℕ)) (fs : List Frame) → fs ≡ [] → AllLive frames fs
  none_there frames fs e = subst (AllLive frames) (sym e) (record { there = λ f of. none_of f of; falling = tt })

  module _ (s : MidState) (n : ℕ) (frames : List (Option ℕ)) (own : List Frame) (new : Thread Activity Value) (bare : frames_of new.stack ≡ []) (h : Others s n frames own) where
    abbrev Forked : MidState
    Forked = with_threads s (s.parts.threads ++ Some new ∷ [])

    either : (k : ℕ) (fs : List Frame) → HasFrames Forked k fs → HasFrames s k fs ⊎ (fs ≡ [])
    either k fs has = ⊎_elim (λ e. inl (has.0, e, has.2)) (λ e. inr (sym has.2 ∙ ap (λ (x : Thread Activity Value). frames_of x.stack) (sym e) ∙ bare)) (new_or_old s.parts.threads new has.0 k has.1)

    fork_keeps : Others Forked n frames own
    fork_keeps = record {
      its = h.its;
      others = λ k fs differ has. ⊎_elim (λ old. h.others k fs differ old) (λ e. none_there frames fs e) (either k fs has);
      apart = λ k fs differ has f g of og. ⊎_elim (λ old. h.apart k fs differ old f g of og) (λ e. nobody g fs e og) (either k fs has);
      among = λ k j fs gs dk dj d hk hj f g of og. ⊎_elim
          (λ old. ⊎_elim (λ old'. h.among k j fs gs dk dj d old old' f g of og) (λ e. nobody g gs e og) (either j gs hj))
          (λ e. nobody f fs e of) (either k fs hk);
    }

  forked_good : (n : ℕ) (s : MidState) (t : Thread Activity Value) (cell : Value) (o : Option (Begun Activity Value)) → ((b : Begun Activity Value) → o ≡ Some b → frames_of (b.lowest ∷ []) ≡ []) → Others s n s.parts.memory.frames (frames_of t.stack) → Good n (forked (mid_language linked) s t cell o)
  forked_good n s t cell None bare h = tt
  forked_good n s t cell (Some b) bare h = fork_keeps s n s.parts.memory.frames (frames_of t.stack) (beginning cell b) (bare b refl) h

  does_good : (given : Given) (n : ℕ) (t : Thread Activity Value) (s : MidState) (action : Action Value) (done : Done Activity Value Memory) → AllLiving s → thread_at s.parts.threads n ≡ Some t → Does (mid_language linked) given n t s action done → Good n done
  does_good given n t s action done h there run.passes = from_all s n t h there
  does_good given n t s action done h there (run.begins q v formals move e) =
      enters_so s n t.stack (callee linked t.stack q v formals s.parts.memory) s.parts.memory move (λ c e. numbered t.stack q v formals s.parts.memory c e) (from_all s n t h there) e
  does_good given n t s action done h there (run.overflows q v formals e) = tt
  does_good given n t s action done h there (run.makes new v parts after e at) = made_good n s parts new (Some v) after h e at
  does_good given n t s action done h there (run.finds_no_room new parts e) = tt
  does_good given n t s action done h there (run.too_many closure few) = tt
  does_good given n t s action done h there (run.forks closure v parts after moved few e at is) =
      forked_good n (with_parts s parts) after v ((mid_language linked).begins parts.memory moved) (λ b e. begun_bare parts.memory moved b e) (made_good n s parts (run_of.ThreadCell (length s.parts.threads)) (Some v) after h e at)
  does_good given n t s action done h there (run.finds_no_cell closure parts few e) = tt
  does_good given n t s action done h there (run.served service) = served_good n t s (serves (mid_language linked) given n t service s) h there (serves_so (mid_language linked) given n t s service)

  -- ---- a turn begins

  collected_same : (parts after : Parts Activity Value Memory) (collect : Bool) → Collected_if (mid_language linked) parts collect after → parts ≡ after
  collected_same parts after collect run.left = refl
  collected_same parts after collect (run.made _ e) = e

  turn_begins : (s : MidState) (n : ℕ) (parts : Parts Activity Value Memory) → AllLiving s → s.parts ≡ parts → AllLiving (runs_on n (passed (with_parts s parts)))
  turn_begins s n parts h e = subst (λ x. AllLiving (runs_on n (passed (with_parts s x)))) e (record { all = h.all; apart = h.apart })

  -- ---- a thread comes to its next point

  changed_there : (f : Thread Activity Value → Thread Activity Value) (n : ℕ) (ts : List (Option (Thread Activity Value))) (x : Thread Activity Value) → thread_at (updated f n ts) n ≡ Some x → (y : Thread Activity Value) × (x ≡ f y)
  changed_there f n [] x e = absurd (let bad : None ≡ Some x = e in cc)
  changed_there f zero (None ∷ ts) x e = absurd (let bad : None ≡ Some x = e in cc)
  changed_there f zero (Some t ∷ ts) x e = (t, let same : f t ≡ x = cc in sym same)
  changed_there f (suc n) (t ∷ ts) x e = changed_there f n ts x e

  changed_other : (f : Thread Activity Value → Thread Activity Value) (n k : ℕ) (ts : List (Option (Thread Activity Value))) → k ≢ n → thread_at (updated f n ts) k ≡ thread_at ts k
  changed_other f n k [] d = refl
  changed_other f zero zero (t ∷ ts) d = absurd (d refl)
  changed_other f zero (suc k) (t ∷ ts) d = refl
  changed_other f (suc n) zero (t ∷ ts) d = refl
  changed_other f (suc n) (suc k) (t ∷ ts) d = changed_other f n k ts (λ e. d (ap suc e))

  stands_so : (s : MidState) (n : ℕ) (x : Activity) (rest : List Activity) (action : Action Value) (m : Memory) → Others s n m.frames (frames_of (x ∷ rest)) → AllLiving (with_memory (changing (come_to action (x ∷ rest)) n s) m)
  stands_so s n x rest action m h =
      let f = come_to action (x ∷ rest) in
      let after : MidState = with_memory (changing f n s) m in
      to_all after n (frames_of (x ∷ rest)) (others_as s n m.frames after (frames_of (x ∷ rest)) (λ k fs d has. (has.0, sym (changed_other f n k s.parts.threads d) ∙ has.1, has.2)) h)
      (λ fs has. let y = changed_there f n s.parts.threads has.0 has.1 in sym has.2 ∙ ap (λ (t : Thread Activity Value). frames_of t.stack) y.1)

  -- ---- a thread is over

  gone_there : (n : ℕ) (ts : List (Option (Thread Activity Value))) (x : Thread Activity Value) → thread_at (without n ts) n ≡ Some x → ⊥
  gone_there n [] x e = let bad : None ≡ Some x = e in cc
  gone_there zero (t ∷ ts) x e = let bad : None ≡ Some x = e in cc
  gone_there (suc n) (t ∷ ts) x e = gone_there n ts x e

  gone_other : (n k : ℕ) (ts : List (Option (Thread Activity Value))) → k ≢ n → thread_at (without n ts) k ≡ thread_at ts k
  gone_other n k [] d = refl
  gone_other zero zero (t ∷ ts) d = absurd (d refl)
  gone_other zero (suc k) (t ∷ ts) d = refl
  gone_other (suc n) zero (t ∷ ts) d = refl
  gone_other (suc n) (suc k) (t ∷ ts) d = gone_other n k ts (λ e. d (ap suc e))

  gone_living : (s : MidState) (n : ℕ) (m : Memory) → Others s n m.frames [] → AllLiving (with_parts s (record { threads = without n s.parts.threads; memory = m }))
  gone_living s n m h =
      let after : MidState = with_parts s (record { threads = without n s.parts.threads; memory = m }) in
      to_all after n [] (others_as s n m.frames after [] (λ k fs d has. (has.0, sym (gone_other n k s.parts.threads d) ∙ has.1, has.2)) h) (λ fs has. absurd (gone_there n s.parts.threads has.0 has.1))

  two_writes : (m : Memory) (result w : Word) (after : Memory) → cells.end_with m result w ≡ Some after → after.frames ≡ m.frames
  two_writes m result w after e = both_frames m (cells.with_word m w 3 result) w after (λ x k. stored_frames m w 3 result x k) e

  end_frames : (m : Memory) (v u : Value) (after : Memory) → (mid_language linked).end_with m v u ≡ Some after → after.frames ≡ m.frames
  end_frames m v u after e =
      let q = bound (the_word u) _ after e in
      on_word_frames m v (cells.end_with m q.0) after (λ w x k. two_writes m q.0 w x k) q.1

  kept_living : (s after : MidState) (n : ℕ) (m : Memory) (o : Option Memory) → ((x : Memory) → o ≡ Some x → x.frames ≡ m.frames) → Others s n m.frames [] → result_kept (mid_language linked) s n o ≡ Goes after → AllLiving after
  kept_living s after n m None same h e = absurd (let bad : Undefined ≡ Goes after = e in cc)
  kept_living s after n m (Some x) same h e =
      let it : with_parts s (record { threads = without n s.parts.threads; memory = x }) ≡ after = cc in
      subst AllLiving it (gone_living s n x (frames_same s n m.frames x.frames [] (sym (same x refl)) h))

  ended_living : (s after : MidState) (n : ℕ) (v : Option Value) (m : Memory) (t : Option (Thread Activity Value)) → Others s n m.frames [] → thread_ended (mid_language linked) s n v m t ≡ Goes after → AllLiving after
  ended_living s after n None m t h e = absurd (let bad : Undefined ≡ Goes after = e in cc)
  ended_living s after n (Some v) m None h e = absurd (let bad : Undefined ≡ Goes after = e in cc)
  ended_living s after n (Some v) m (Some t) h e = kept_living s after n m ((mid_language linked).end_with m t.cell v) (λ x k. end_frames m t.cell v x k) h e

  ends_so : (s after : MidState) (n : ℕ) (answer : Answer Value) (m : Memory) → Others s n m.frames [] → settled (mid_language linked) s n (Over answer m) ≡ Goes after → AllLiving after
  ends_so s after zero (Gives v) m h e = absurd (let bad : Ends _ _ ≡ Goes after = e in cc)
  ends_so s after (suc n) (Gives v) m h e = ended_living s after (suc n) v m (thread_at s.parts.threads (suc n)) h e
  ends_so s after zero (Raises x v u) m h e = absurd (let bad : Ends _ _ ≡ Goes after = e in cc)
  ends_so s after (suc n) (Raises x v u) m h e = absurd (let bad : Ends _ _ ≡ Goes after = e in cc)
  ends_so s after zero (Fails kind) m h e = absurd (let bad : Undefined ≡ Goes after = e in cc)
  ends_so s after (suc n) (Fails kind) m h e = absurd (let bad : Undefined ≡ Goes after = e in cc)

  -- ---- all together

  pub keeps_living : (given : Given) → Keeps (mid_language linked) given living
  keeps_living given = record {
    begins = λ s entry n parts h few collected chosen. turn_begins s n parts h (collected_same s.parts parts entry.collect collected);
    does = λ n t s after stack move h there does. does_good given n t s t.action (Comes_to after stack move) h there does;
    goes = λ u n x rest answer m move known goes. goes_so u n x rest answer m move known goes;
    stands = λ u n x rest action m known. stands_so u n x rest action m known;
    ends = λ u after n answer m known over. ends_so u after n answer m known over;
    rests = λ n t s after h there does. does_good given n t s t.action (Rests after) h there does;
  }

  main_bare : (order : List ℕ) → frames_of ((main_of linked order).lowest ∷ []) ≡ []
  main_bare [] = refl
  main_bare (q ∷ order) = refl

  start_bare : (k : ℕ) (fs : List Frame) → HasFrames (start (mid_language linked)) k fs → fs ≡ []
  start_bare zero fs has =
      let same : beginning (mid_language linked).main_cell (mid_language linked).main ≡ has.0 = let all : Some (beginning (mid_language linked).main_cell (mid_language linked).main) ≡ Some has.0 = has.1 in cc in
      sym has.2 ∙ ap (λ (t : Thread Activity Value). frames_of t.stack) (sym same) ∙ main_bare linked.order
  start_bare (suc k) fs has = absurd (let bad : None ≡ Some has.0 = has.1 in cc)

  pub starts_living : AllLiving (start (mid_language linked))
  starts_living = record {
    all = λ k fs has. none_there [] fs (start_bare k fs has);
    apart = λ k j fs gs d hk hj f g of og. nobody f fs (start_bare k fs hk) of;
  }

pub stay_living : AllStayLiving
stay_living linked given = record { keeps = keeps_living linked given; begins = starts_living linked }
