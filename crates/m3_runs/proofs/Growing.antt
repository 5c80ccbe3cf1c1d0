-- What a turn does to the output and to the count of points.
use Rattle.std.proofs.Common.{◌≡◌, ℕ, zero, suc, ◌+◌, ◌<◌, Bool, true, false, List, [], ◌++◌, Option, Some, None, refl, sym, ap, ◌∙◌, arith, append_assoc}
use Rattle.std.proofs.lemmas.List.{append-nil}
use Rattle.std.specs.Prelude.{◌==◌, ◌&&◌, if◌then◌else◌, slice_get}
use Rattle.m3_base.specs.declared.outcomes.Entry.{Entry}
use Rattle.m3_base.specs.declared.outcomes.FaultKind.TheVariants.{NotHeld}
use Rattle.m3_runs.specs.Languages.{Service, Put, GetByte, EndOfInput, Join, Acquire, Release, Wait, Signal, Broadcast, MySelf, Alert, TestAlert, Action, Gives, Raises, Fails, Status, Ready, Wants, Waits, Joins, Thread, Life, Alive, Ended, Joined, Begun, Language}
use Rattle.m3_runs.specs.States.{Given, State, thread_at, with_parts, with_memory, changing}
use Rattle.m3_runs.specs.Services.{Done, Comes_to, Rests, Stops, answers, finding, alert_marked, Sleeper, longest_from, woken_by, done, is_alerted, takes, held_by, holding, falls_asleep, waits_at, joins_if, serves}
use Rattle.m3_runs.specs.Runs as run
use Rattle.m3_runs.specs.Runs.{Settled, Stands, Over, Failed, Broken, Result, Goes, Ends, Undefined, Does, Finishes, Carries_out, Turns, Runs, forked, result_kept, thread_ended, settled, passed, runs_on, first_entry, later_entries}
use Rattle.m3_runs.specs.Laws.{PutsMore, OutputGrows, BudgetEnds}

-- a fact about output and points that more output keeps
module _ {S V M : Type 0} (L : Language S V M) (given : Given) (P : List ℕ → ℕ → Type 0) (grows : (o bytes : List ℕ) (n : ℕ) → P o n → P (o ++ bytes) n) where
  abbrev Holds : State S V M → Type 0
  Holds s = P s.output s.points

  abbrev HoldsAfter : Done S V M → Type 0
  HoldsAfter (Comes_to s stack move) = Holds s
  HoldsAfter (Rests s) = Holds s
  HoldsAfter (Stops s o) = Holds s

  abbrev pub HoldsIn : Result S V M → Type 0
  HoldsIn (Goes s) = Holds s
  HoldsIn (Ends s o) = Holds s
  HoldsIn Undefined = Unit {0}

  finding_keeps : {A : Type 0} (s : State S V M) (o : Option A) (go : A → Done S V M) → Holds s → ((x : A) → HoldsAfter (go x)) → HoldsAfter (finding s o go)
  finding_keeps s None go h k = h
  finding_keeps s (Some x) go h k = k x

  if_keeps : (b : Bool) (d e : Done S V M) → HoldsAfter d → HoldsAfter e → HoldsAfter (if b then d else e)
  if_keeps true d e h k = h
  if_keeps false d e h k = k

  woken_keeps : (o : Option Sleeper) (s : State S V M) → Holds s → Holds (woken_by L o s)
  woken_keeps None s h = h
  woken_keeps (Some sleeper) s h = h

  module _ (n : ℕ) (t : Thread S V) where
    takes_keeps : (o : Option ℕ) (s : State S V M) → Holds s → HoldsAfter (takes L given n t o s)
    takes_keeps None s h = h
    takes_keeps (Some byte) s h = h

    held_keeps : (holder : ℕ) (mutex : V) (s : State S V M) (go : State S V M → Done S V M) → Holds s → ((u : State S V M) → Holds u → HoldsAfter (go u)) → HoldsAfter (held_by L given n t holder mutex s go)
    held_keeps holder mutex s go h k = finding_keeps s (L.hold s.parts.memory mutex holder) (λ memory. go (with_memory s memory)) h (λ memory. k (with_memory s memory) h)

    holding_keeps : (mutex : V) (s : State S V M) (go : Done S V M) → Holds s → HoldsAfter go → HoldsAfter (holding L given n t mutex s go)
    holding_keeps mutex s go h k = finding_keeps s (L.holder s.parts.memory mutex) (λ holder. if holder == n + 1 then go else answers s t (Fails NotHeld)) h (λ holder. if_keeps (holder == n + 1) go (answers s t (Fails NotHeld)) k h)

    first_keeps : (mutex condition : V) (alertable : Bool) (s : State S V M) → Holds s →
        HoldsAfter (holding L given n t mutex s (if alertable && t.alerted then is_alerted L given n t s else held_by L given n t 0 mutex s (falls_asleep L given n t mutex condition alertable)))
    first_keeps mutex condition alertable s h =
        let sleeping = held_by L given n t 0 mutex s (falls_asleep L given n t mutex condition alertable) in
        holding_keeps mutex s (if alertable && t.alerted then is_alerted L given n t s else sleeping) h
        (if_keeps (alertable && t.alerted) (is_alerted L given n t s) sleeping h (held_keeps 0 mutex s (falls_asleep L given n t mutex condition alertable) h (λ u k. k)))

    waits_keeps : (status : Status V) (mutex condition : V) (alertable : Bool) (s : State S V M) → Holds s → HoldsAfter (waits_at L given n t status mutex condition alertable s)
    waits_keeps Ready mutex condition alertable s h = first_keeps mutex condition alertable s h
    waits_keeps (Wants m) mutex condition alertable s h =
        held_keeps (n + 1) mutex s (λ u. if alertable && t.alerted then is_alerted L given n t u else done L given n t u) h (λ u k. if_keeps (alertable && t.alerted) (is_alerted L given n t u) (done L given n t u) k k)
    waits_keeps (Waits m c place a) mutex condition alertable s h = first_keeps mutex condition alertable s h
    waits_keeps (Joins m a) mutex condition alertable s h = first_keeps mutex condition alertable s h

    joins_keeps : (thread : V) (s : State S V M) (life : Life V) → Holds s → HoldsAfter (joins_if L given n t thread s life)
    joins_keeps thread s Alive h = h
    joins_keeps thread s Joined h = h
    joins_keeps thread s (Ended result) h = finding_keeps s (L.join s.parts.memory thread) (λ memory. answers (with_memory s memory) t (Gives (Some result))) h (λ memory. h)

    serves_keeps : (service : Service V) (s : State S V M) → Holds s → HoldsAfter (serves L given n t service s)
    serves_keeps (Put form v) s h = finding_keeps s (L.bytes s.parts.memory form v) (λ bytes. done L given n t (record s { output = s.output ++ bytes })) h (λ bytes. grows s.output bytes s.points h)
    serves_keeps GetByte s h = takes_keeps (slice_get given.input s.taken) s h
    serves_keeps EndOfInput s h = h
    serves_keeps (Acquire mutex) s h = held_keeps (n + 1) mutex s (done L given n t) h (λ u k. k)
    serves_keeps (Release mutex) s h = holding_keeps mutex s (held_by L given n t 0 mutex s (done L given n t)) h (held_keeps 0 mutex s (done L given n t) h (λ u k. k))
    serves_keeps (Wait mutex condition alertable) s h = waits_keeps t.status mutex condition alertable s h
    serves_keeps (Signal condition) s h = woken_keeps (longest_from L condition 0 s.parts.threads) s h
    serves_keeps (Broadcast condition) s h = h
    serves_keeps (Join thread alertable) s h =
        if_keeps (alertable && t.alerted) (is_alerted L given n t s) (finding s (L.life s.parts.memory thread) (joins_if L given n t thread s)) h (finding_keeps s (L.life s.parts.memory thread) (joins_if L given n t thread s) h (λ life. joins_keeps thread s life h))
    serves_keeps MySelf s h = h
    serves_keeps (Alert thread) s h = finding_keeps s (L.number_of s.parts.memory thread) (λ k. done L given n t (changing alert_marked k s)) h (λ k. h)
    serves_keeps TestAlert s h = h

    forked_keeps : (s : State S V M) (x : Thread S V) (cell : V) (o : Option (Begun S V)) → Holds s → HoldsAfter (forked L s x cell o)
    forked_keeps s x cell None h = h
    forked_keeps s x cell (Some b) h = h

    does_keeps : (s : State S V M) (a : Action V) (d : Done S V M) → Does L given n t s a d → Holds s → HoldsAfter d
    does_keeps s a d run.passes h = h
    does_keeps s a d (run.begins p v vs move e) h = h
    does_keeps s a d (run.overflows p v vs e) h = h
    does_keeps s a d (run.makes new v parts x e at) h = h
    does_keeps s a d (run.finds_no_room new parts e) h = h
    does_keeps s a d (run.too_many c many) h = h
    does_keeps s a d (run.forks c v parts x moved few e at is) h = forked_keeps (with_parts s parts) x v (L.begins parts.memory moved) h
    does_keeps s a d (run.finds_no_cell c parts few e) h = h
    does_keeps s a d (run.served service) h = serves_keeps service s h

  kept_keeps : (s : State S V M) (n : ℕ) (o : Option M) → Holds s → HoldsIn (result_kept L s n o)
  kept_keeps s n None h = tt
  kept_keeps s n (Some m) h = h

  ended_keeps : (s : State S V M) (n : ℕ) (o : Option V) (m : M) (t : Option (Thread S V)) → Holds s → HoldsIn (thread_ended L s n o m t)
  ended_keeps s n None m t h = tt
  ended_keeps s n (Some v) m None h = tt
  ended_keeps s n (Some v) m (Some t) h = kept_keeps s n (L.end_with m t.cell v) h

  settled_keeps : (s : State S V M) (n : ℕ) (to : Settled S V M) → Holds s → HoldsIn (settled L s n to)
  settled_keeps s zero (Stands a ss m) h = h
  settled_keeps s (suc n) (Stands a ss m) h = h
  settled_keeps s zero (Over (Gives v) m) h = h
  settled_keeps s (suc n) (Over (Gives v) m) h = ended_keeps s (suc n) v m (thread_at s.parts.threads (suc n)) h
  settled_keeps s zero (Over (Raises e v u) m) h = h
  settled_keeps s (suc n) (Over (Raises e v u) m) h = h
  settled_keeps s zero (Over (Fails kind) m) h = tt
  settled_keeps s (suc n) (Over (Fails kind) m) h = tt
  settled_keeps s zero (Failed kind file line) h = h
  settled_keeps s (suc n) (Failed kind file line) h = h
  settled_keeps s zero Broken h = tt
  settled_keeps s (suc n) Broken h = tt

  finishes_keeps : (n : ℕ) (d : Done S V M) (r : Result S V M) → Finishes L n d r → HoldsAfter d → HoldsIn r
  finishes_keeps n d r (run.comes s stack move to k) h = settled_keeps s n to h
  finishes_keeps n d r (run.rests s) h = h
  finishes_keeps n d r (run.stops s o) h = h

  pub carries_keeps : (n : ℕ) (s : State S V M) (r : Result S V M) → Carries_out L given n s r → Holds s → HoldsIn r
  carries_keeps n s r (run.carries_out t d _ at does fin) h = finishes_keeps n d r fin (does_keeps n t s t.action d does h)

-- ---- a run

-- the first list begins the second one
abbrev Begins : List ℕ → List ℕ → Type 0
Begins before after = (bytes : List ℕ) × (after ≡ before ++ bytes)

begins_more : (before o bytes : List ℕ) → Begins before o → Begins before (o ++ bytes)
begins_more before o bytes h = (h.0 ++ bytes, ap (λ x. x ++ bytes) h.1 ∙ append_assoc before h.0 bytes)

begins_same : (o : List ℕ) → Begins o o
begins_same o = ([], sym (append-nil o))

module _ {S V M : Type 0} (L : Language S V M) (given : Given) where
  puts_more : (before : List ℕ) (r : Result S V M) → HoldsIn L given (λ o n. Begins before o) (λ o bytes n. begins_more before o bytes) r → PutsMore L given before r
  puts_more before (Goes u) h = h
  puts_more before (Ends u o) h = h
  puts_more before Undefined h = tt

  turn_grows : (s : State S V M) (entry : Entry) (r : Result S V M) → Turns L given s entry r → PutsMore L given s.output r
  turn_grows s entry r (run.unknown e) = tt
  turn_grows s entry r (run.nobody e h) = begins_same s.output
  turn_grows s entry r (run.spent k e h full) = begins_same s.output
  turn_grows s entry r (run.goes k n parts _ e h few coll chosen c) =
      puts_more s.output r (carries_keeps L given (λ o n. Begins s.output o) (λ o bytes n. begins_more s.output o bytes) n (runs_on n (passed (with_parts s parts))) r c (begins_same s.output))

  after_more : (a b : List ℕ) (r : Result S V M) → Begins a b → PutsMore L given b r → PutsMore L given a r
  after_more a b (Goes u) h k = (h.0 ++ k.0, k.1 ∙ ap (λ x. x ++ k.0) h.1 ∙ append_assoc a h.0 k.0)
  after_more a b (Ends u o) h k = (h.0 ++ k.0, k.1 ∙ ap (λ x. x ++ k.0) h.1 ∙ append_assoc a h.0 k.0)
  after_more a b Undefined h k = tt

  pub output_grows : OutputGrows L given
  output_grows s schedule turns r (run.stays _ _) = begins_same s.output
  output_grows s schedule turns r (run.turn _ u _ n _ t k) = after_more s.output u.output r (turn_grows s (first_entry schedule) (Goes u) t) (output_grows u (later_entries schedule) n r k)
  output_grows s schedule turns r (run.ends _ u _ n o t) = turn_grows s (first_entry schedule) (Ends u o) t
  output_grows s schedule turns r (run.breaks_off _ _ n t) = tt

  -- ---- points

  turn_counts : (s u : State S V M) (entry : Entry) → Turns L given s entry (Goes u) → (u.points ≡ s.points + 1) × (s.points < given.points)
  turn_counts s u entry (run.goes k n parts _ e h few coll chosen c) =
      (carries_keeps L given (λ o i. i ≡ s.points + 1) (λ o bytes i q. q) n (runs_on n (passed (with_parts s parts))) (Goes u) c refl, few)

  pub budget_ends : BudgetEnds L given
  budget_ends s u schedule turns fits (run.stays _ _) = record { counted = omega arith; within = fits }
  budget_ends s u schedule turns fits (run.turn _ v _ n _ t k) =
      let h = turn_counts s v (first_entry schedule) t in
      let later = budget_ends v u (later_entries schedule) n (omega (arith, h.0, h.1)) k in
      record { counted = omega (arith, h.0, later.counted); within = later.within }
