-- Services of states that show one another leave such states.
use Rattle.std.proofs.Common.{◌≡◌, ℕ, suc, ◌+◌, Bool, true, false, List, [], ◌++◌, length, Option, Some, None, refl, ap, ◌∙◌, subst, ◌≤◌, arith}
use Rattle.std.specs.Prelude.{◌==◌, ◌&&◌, nat_le, if◌then◌else◌, slice_get}
use Rattle.std.specs.Option.{option_map}
use Rattle.m3_base.specs.declared.outcomes.Outcome.{Outcome}
use Rattle.m3_base.specs.declared.outcomes.FaultKind.TheVariants.{Index, NotHeld, JoinTwice}
use Rattle.m3_runs.specs.Languages.{Service, Answer, Gives, Raises, Fails, Move, Leaves, Breaks, Status, Thread, Life, Language, Form, Put}
use Rattle.m3_runs.specs.States.{Given, State, with_memory, changing}
use Rattle.m3_runs.specs.Services.{Done, Comes_to, Rests, Stops, answers, finding, flag, alert_cleared, alerted_at, alert_marked, woken_at, woken, asleep, Sleeper, earlier, sleeps_on_at, place_at, sleeper_if, longest_from, woken_by, signalled, woken_on, broadcasted, done, tells, is_alerted, takes, held_by, holding, falls_asleep, waits_at, joins_if, serves}
use Rattle.m3_runs.specs.Follows as rel
use Rattle.m3_runs.specs.Follows.{Each, none, more, Both, neither, both, AsDefined, undefined, defined, IsOne, Standing, SameService, SameAnswer, SameMove, SameStatus, SameThread, SameLife, SameParts, SameCounts, Shows, Room, Invariant, Follows}
use Rattle.m3_runs.proofs.Rows.{updated_each, map_each, option_both}

none_more : (n : ℕ) → 0 ≤ n + 1
none_more n = omega arith

as_much : (n : ℕ) → n + 1 ≤ n + 1
as_much n = omega arith

module _ {W SA VA MA SB VB MB : Type 0} (R : Standing W SA VA MA SB VB MB) where
  -- what an action leaves on the one side, and on the other
  pub data SameDone (w : W) : Done SA VA MA → Done SB VB MB → Type 0 where
    comes : (s : State SA VA MA) (s' : State SB VB MB) (stack : List SA) (stack' : List SB) (move : Move SA VA MA) (move' : Move SB VB MB)
        → Each (Both (SameThread R w)) s.parts.threads s'.parts.threads → SameCounts R s s' → SameMove R w stack stack' move move'
        → SameDone w (Comes_to s stack move) (Comes_to s' stack' move')
    rests : (s : State SA VA MA) (s' : State SB VB MB) → Shows R w s s' → SameDone w (Rests s) (Rests s')
    stops : (s : State SA VA MA) (s' : State SB VB MB) (o : Outcome) → SameCounts R s s' → SameDone w (Stops s o) (Stops s' o)
    breaks : (s : State SA VA MA) (stack : List SA) (done' : Done SB VB MB) → SameDone w (Comes_to s stack Breaks) done'

module _ {W SA VA MA SB VB MB : Type 0} (R : Standing W SA VA MA SB VB MB) (w : W) where
  pub finding_so : {A B : Type 0} (P : A → B → Type 0) (o : Option A) (o' : Option B) (s : State SA VA MA) (s' : State SB VB MB) (go : A → Done SA VA MA) (go' : B → Done SB VB MB) →
      AsDefined P o o' → ((x : A) (y : B) → P x y → SameDone R w (go x) (go' y)) → SameDone R w (finding s o go) (finding s' o' go')
  finding_so P o o' s s' go go' (undefined _) h = breaks s [] (finding s' o' go')
  finding_so P o o' s s' go go' (defined x y k) h = h x y k

  pub answers_so : (s : State SA VA MA) (s' : State SB VB MB) (t : Thread SA VA) (t' : Thread SB VB) (a : Answer VA) (a' : Answer VB) → Shows R w s s' → SameThread R w t t' → SameAnswer R w a a' → SameDone R w (answers s t a) (answers s' t' a')
  answers_so s s' t t' a a' sh th h = comes s s' t.stack t'.stack (Leaves a s.parts.memory) (Leaves a' s'.parts.memory) sh.parts.threads sh.counts (rel.leaves a a' s.parts.memory s'.parts.memory h th.stack sh.parts.memory)

  if_so : (b b' : Bool) (d e : Done SA VA MA) (d' e' : Done SB VB MB) → b ≡ b' → SameDone R w d d' → SameDone R w e e' → SameDone R w (if b then d else e) (if b' then d' else e')
  if_so true true d e d' e' q h k = h
  if_so false false d e d' e' q h k = k
  if_so true false d e d' e' q h k = absurd (let bad : true ≡ false = q in cc)
  if_so false true d e d' e' q h k = absurd (let bad : false ≡ true = q in cc)

  memory_so : (s : State SA VA MA) (s' : State SB VB MB) (m : MA) (m' : MB) → Shows R w s s' → R.memory w m m' → Shows R w (with_memory s m) (with_memory s' m')
  memory_so s s' m m' sh mem = record { parts = record { threads = sh.parts.threads; memory = mem }; counts = record { output = sh.counts.output; taken = sh.counts.taken; points = sh.counts.points; running = sh.counts.running; waits = sh.counts.waits } }

  changing_so : (f : Thread SA VA → Thread SA VA) (g : Thread SB VB → Thread SB VB) (n : ℕ) (s : State SA VA MA) (s' : State SB VB MB) → ((t : Thread SA VA) (t' : Thread SB VB) → SameThread R w t t' → SameThread R w (f t) (g t')) → Shows R w s s' → Shows R w (changing f n s) (changing g n s')
  changing_so f g n s s' h sh = record {
    parts = record { threads = updated_each (SameThread R w) f g n s.parts.threads s'.parts.threads h sh.parts.threads; memory = sh.parts.memory };
    counts = record { output = sh.counts.output; taken = sh.counts.taken; points = sh.counts.points; running = sh.counts.running; waits = sh.counts.waits };
  }

  -- ---- changes of threads

  cleared_so : (t : Thread SA VA) (t' : Thread SB VB) → SameThread R w t t' → SameThread R w (alert_cleared t) (alert_cleared t')
  cleared_so t t' h = record { action = h.action; status = h.status; alerted = refl; cell = h.cell; stack = h.stack }

  alerted_status : (st : Status VA) (st' : Status VB) → SameStatus R w st st' → SameStatus R w (alerted_at st) (alerted_at st')
  alerted_status st st' rel.ready = rel.ready
  alerted_status st st' (rel.wants v v' h) = rel.wants v v' h
  alerted_status st st' (rel.waits v u v' u' place true h k) = rel.wants v v' h
  alerted_status st st' (rel.waits v u v' u' place false h k) = rel.waits v u v' u' place false h k
  alerted_status st st' (rel.joins v v' alertable h) = rel.joins v v' alertable h

  marked_so : (t : Thread SA VA) (t' : Thread SB VB) → SameThread R w t t' → SameThread R w (alert_marked t) (alert_marked t')
  marked_so t t' h = record { action = h.action; status = alerted_status t.status t'.status h.status; alerted = refl; cell = h.cell; stack = h.stack }

  woken_status : (st : Status VA) (st' : Status VB) → SameStatus R w st st' → SameStatus R w (woken_at st) (woken_at st')
  woken_status st st' rel.ready = rel.ready
  woken_status st st' (rel.wants v v' h) = rel.wants v v' h
  woken_status st st' (rel.waits v u v' u' place alertable h k) = rel.wants v v' h
  woken_status st st' (rel.joins v v' alertable h) = rel.joins v v' alertable h

  woken_so : (t : Thread SA VA) (t' : Thread SB VB) → SameThread R w t t' → SameThread R w (woken t) (woken t')
  woken_so t t' h = record { action = h.action; status = woken_status t.status t'.status h.status; alerted = h.alerted; cell = h.cell; stack = h.stack }

  asleep_so : (v u : VA) (v' u' : VB) (place : ℕ) (alertable : Bool) → R.value w v v' → R.value w u u' → (t : Thread SA VA) (t' : Thread SB VB) → SameThread R w t t' → SameThread R w (asleep v u place alertable t) (asleep v' u' place alertable t')
  asleep_so v u v' u' place alertable h k t t' th = record { action = th.action; status = rel.waits v u v' u' place alertable h k; alerted = th.alerted; cell = th.cell; stack = th.stack }

module _ {W SA VA MA SB VB MB : Type 0} (R : Standing W SA VA MA SB VB MB) (K : Language SA VA MA) (L : Language SB VB MB) (I : Invariant SA VA MA) (J : Invariant SB VB MB) (room : Room R) (F : Follows R K L I J room) (w : W) where
  -- ---- sleepers

  module _ (m : MA) (m' : MB) (mem : R.memory w m m') where
    sleeps_same : (c : VA) (c' : VB) (st : Status VA) (st' : Status VB) → R.value w c c' → SameStatus R w st st' → sleeps_on_at K c st ≡ sleeps_on_at L c' st'
    sleeps_same c c' st st' h rel.ready = refl
    sleeps_same c c' st st' h (rel.wants v v' k) = refl
    sleeps_same c c' st st' h (rel.waits v u v' u' place alertable k l) = F.is_same w m m' u c u' c' mem l h
    sleeps_same c c' st st' h (rel.joins v v' alertable k) = refl

    place_same : (st : Status VA) (st' : Status VB) → SameStatus R w st st' → place_at K st ≡ place_at L st'
    place_same st st' rel.ready = refl
    place_same st st' (rel.wants v v' k) = refl
    place_same st st' (rel.waits v u v' u' place alertable k l) = refl
    place_same st st' (rel.joins v v' alertable k) = refl

    sleeper_same : (c : VA) (c' : VB) (n : ℕ) (t : Option (Thread SA VA)) (t' : Option (Thread SB VB)) → R.value w c c' → Both (SameThread R w) t t' → sleeper_if K c n t ≡ sleeper_if L c' n t'
    sleeper_same c c' n t t' h neither = refl
    sleeper_same c c' n t t' h (both x y th) =
        ap (λ b. if b then Some (record { number = n; place = place_at K x.status }) else None) (sleeps_same c c' x.status y.status h th.status)
        ∙ ap (λ i. if sleeps_on_at L c' y.status then Some (record { number = n; place = i }) else None) (place_same x.status y.status th.status)

    longest_same : (c : VA) (c' : VB) (n : ℕ) (ts : List (Option (Thread SA VA))) (ts' : List (Option (Thread SB VB))) → R.value w c c' → Each (Both (SameThread R w)) ts ts' → longest_from K c n ts ≡ longest_from L c' n ts'
    longest_same c c' n ts ts' h none = refl
    longest_same c c' n ts ts' h (more t t' us us' k ks) =
        ap (λ o. earlier o (longest_from K c (suc n) us)) (sleeper_same c c' n t t' h k) ∙ ap (earlier (sleeper_if L c' n t')) (longest_same c c' (suc n) us us' h ks)

  woken_by_so : (o : Option Sleeper) (s : State SA VA MA) (s' : State SB VB MB) → Shows R w s s' → Shows R w (woken_by K o s) (woken_by L o s')
  woken_by_so None s s' sh = sh
  woken_by_so (Some sleeper) s s' sh = changing_so R w woken woken sleeper.number s s' (woken_so R w) sh

  signalled_so : (c : VA) (c' : VB) (s : State SA VA MA) (s' : State SB VB MB) → R.value w c c' → Shows R w s s' → Shows R w (signalled K c s) (signalled L c' s')
  signalled_so c c' s s' h sh =
      subst (λ o. Shows R w (signalled K c s) (woken_by L o s')) (longest_same s.parts.memory s'.parts.memory sh.parts.memory c c' 0 s.parts.threads s'.parts.threads h sh.parts.threads)
      (woken_by_so (longest_from K c 0 s.parts.threads) s s' sh)

  choosing : (b b' : Bool) (t : Thread SA VA) (t' : Thread SB VB) → b ≡ b' → SameThread R w t t' → SameThread R w (if b then woken t else t) (if b' then woken t' else t')
  choosing true true t t' q h = woken_so R w t t' h
  choosing false false t t' q h = h
  choosing true false t t' q h = absurd (let bad : true ≡ false = q in cc)
  choosing false true t t' q h = absurd (let bad : false ≡ true = q in cc)

  broadcasted_so : (c : VA) (c' : VB) (s : State SA VA MA) (s' : State SB VB MB) → R.value w c c' → Shows R w s s' → Shows R w (broadcasted K c s) (broadcasted L c' s')
  broadcasted_so c c' s s' h sh = record {
    parts = record {
      threads = map_each (Both (SameThread R w)) (Both (SameThread R w)) (option_map (woken_on K c)) (option_map (woken_on L c')) s.parts.threads s'.parts.threads
          (λ t t' k. option_both (SameThread R w) (SameThread R w) (woken_on K c) (woken_on L c') t t' (λ x y th. choosing (sleeps_on_at K c x.status) (sleeps_on_at L c' y.status) x y (sleeps_same s.parts.memory s'.parts.memory sh.parts.memory c c' x.status y.status h th.status) th) k) sh.parts.threads;
      memory = sh.parts.memory;
    };
    counts = record { output = sh.counts.output; taken = sh.counts.taken; points = sh.counts.points; running = sh.counts.running; waits = sh.counts.waits };
  }

  -- ---- services of thread n

  module _ (given : Given) (n : ℕ) (t : Thread SA VA) (t' : Thread SB VB) (th : SameThread R w t t') where
    done_so : (s : State SA VA MA) (s' : State SB VB MB) → Shows R w s s' → SameDone R w (done K given n t s) (done L given n t' s')
    done_so s s' sh = answers_so R w s s' t t' (Gives None) (Gives None) sh th (rel.gives None None neither)

    tells_so : (k : ℕ) (s : State SA VA MA) (s' : State SB VB MB) → Shows R w s s' → SameDone R w (tells K given n t k s) (tells L given n t' k s')
    tells_so k s s' sh = answers_so R w s s' t t' (Gives (Some (K.number k))) (Gives (Some (L.number k))) sh th (rel.gives (Some (K.number k)) (Some (L.number k)) (both (K.number k) (L.number k) (F.number w k)))

    alerted_so : (s : State SA VA MA) (s' : State SB VB MB) → Shows R w s s' → SameDone R w (is_alerted K given n t s) (is_alerted L given n t' s')
    alerted_so s s' sh = subst (λ e. SameDone R w (is_alerted K given n t s) (answers (changing alert_cleared n s') t' (Raises e (L.number 0) (L.number 0)))) F.alerted
        (answers_so R w (changing alert_cleared n s) (changing alert_cleared n s') t t' (Raises K.alerted (K.number 0) (K.number 0)) (Raises K.alerted (L.number 0) (L.number 0))
        (changing_so R w alert_cleared alert_cleared n s s' (cleared_so R w) sh) th (rel.raises K.alerted (K.number 0) (K.number 0) (L.number 0) (L.number 0) (F.number w 0) (F.number w 0)))

    fails_so : (s : State SA VA MA) (s' : State SB VB MB) (a : Answer VA) (a' : Answer VB) → SameAnswer R w a a' → Shows R w s s' → SameDone R w (answers s t a) (answers s' t' a')
    fails_so s s' a a' h sh = answers_so R w s s' t t' a a' sh th h

    put_so : (s : State SA VA MA) (s' : State SB VB MB) (x y : List ℕ) → Shows R w s s' → x ≡ y → SameDone R w (done K given n t (record s { output = s.output ++ x })) (done L given n t' (record s' { output = s'.output ++ y }))
    put_so s s' x y sh e = done_so (record s { output = s.output ++ x }) (record s' { output = s'.output ++ y }) (record {
      parts = sh.parts;
      counts = record { output = ap (λ o. o ++ x) sh.counts.output ∙ ap (λ b. s'.output ++ b) e; taken = sh.counts.taken; points = sh.counts.points; running = sh.counts.running; waits = sh.counts.waits };
    })

    takes_so : (o : Option ℕ) (s : State SA VA MA) (s' : State SB VB MB) → Shows R w s s' → SameDone R w (takes K given n t o s) (takes L given n t' o s')
    takes_so None s s' sh = fails_so s s' (Fails Index) (Fails Index) (rel.fails Index) sh
    takes_so (Some byte) s s' sh = tells_so byte (record s { taken = s.taken + 1 }) (record s' { taken = s'.taken + 1 }) (record {
      parts = sh.parts;
      counts = record { output = sh.counts.output; taken = ap (λ i. i + 1) sh.counts.taken; points = sh.counts.points; running = sh.counts.running; waits = sh.counts.waits };
    })

    held_so : (holder : ℕ) (v : VA) (v' : VB) (s : State SA VA MA) (s' : State SB VB MB) → AsDefined (R.memory w) (K.hold s.parts.memory v holder) (L.hold s'.parts.memory v' holder) → (go : State SA VA MA → Done SA VA MA) (go' : State SB VB MB → Done SB VB MB) → R.value w v v' → Shows R w s s' →
        ((u : State SA VA MA) (u' : State SB VB MB) → Shows R w u u' → SameDone R w (go u) (go' u')) → SameDone R w (held_by K given n t holder v s go) (held_by L given n t' holder v' s' go')
    held_so holder v v' s s' holds go go' h sh k =
        finding_so R w (R.memory w) (K.hold s.parts.memory v holder) (L.hold s'.parts.memory v' holder) s s' (λ m. go (with_memory s m)) (λ m. go' (with_memory s' m))
        holds (λ m m' mem. k (with_memory s m) (with_memory s' m') (memory_so R w s s' m m' sh mem))

    holding_so : (v : VA) (v' : VB) (s : State SA VA MA) (s' : State SB VB MB) (go : Done SA VA MA) (go' : Done SB VB MB) → R.value w v v' → Shows R w s s' → SameDone R w go go' → SameDone R w (holding K given n t v s go) (holding L given n t' v' s' go')
    holding_so v v' s s' go go' h sh k =
        finding_so R w IsOne (K.holder s.parts.memory v) (L.holder s'.parts.memory v') s s' (λ i. if i == n + 1 then go else answers s t (Fails NotHeld)) (λ i. if i == n + 1 then go' else answers s' t' (Fails NotHeld))
        (F.holder w s.parts.memory s'.parts.memory v v' sh.parts.memory h)
        (λ i j e. if_so R w (i == n + 1) (j == n + 1) go (answers s t (Fails NotHeld)) go' (answers s' t' (Fails NotHeld)) (ap (λ x. x == n + 1) e) k (fails_so s s' (Fails NotHeld) (Fails NotHeld) (rel.fails NotHeld) sh))

    sleeps_so : (v u : VA) (v' u' : VB) (alertable : Bool) (s : State SA VA MA) (s' : State SB VB MB) → R.value w v v' → R.value w u u' → Shows R w s s' →
        SameDone R w (falls_asleep K given n t v u alertable s) (falls_asleep L given n t' v' u' alertable s')
    sleeps_so v u v' u' alertable s s' h k sh =
        let old = record s { waits = s.waits + 1 } in
        let old' = record s' { waits = s'.waits + 1 } in
        let counts : SameCounts R old old' = record { output = sh.counts.output; taken = sh.counts.taken; points = sh.counts.points; running = sh.counts.running; waits = ap (λ i. i + 1) sh.counts.waits } in
        let before : Shows R w old old' = record { parts = sh.parts; counts = counts } in
        subst (λ i. SameDone R w (falls_asleep K given n t v u alertable s) (Rests (changing (asleep v' u' i alertable) n old'))) sh.counts.waits
        (rests (changing (asleep v u s.waits alertable) n old) (changing (asleep v' u' s.waits alertable) n old')
        (changing_so R w (asleep v u s.waits alertable) (asleep v' u' s.waits alertable) n old old' (asleep_so R w v u v' u' s.waits alertable h k) before))

    marked_and : (alertable : Bool) → (alertable && t.alerted) ≡ (alertable && t'.alerted)
    marked_and alertable = ap (λ b. alertable && b) th.alerted

    first_so : (v u : VA) (v' u' : VB) (alertable : Bool) (s : State SA VA MA) (s' : State SB VB MB) → ((holder : ℕ) → holder ≤ n + 1 → AsDefined (R.memory w) (K.hold s.parts.memory v holder) (L.hold s'.parts.memory v' holder)) → R.value w v v' → R.value w u u' → Shows R w s s' →
        SameDone R w (holding K given n t v s (if alertable && t.alerted then is_alerted K given n t s else held_by K given n t 0 v s (falls_asleep K given n t v u alertable)))
        (holding L given n t' v' s' (if alertable && t'.alerted then is_alerted L given n t' s' else held_by L given n t' 0 v' s' (falls_asleep L given n t' v' u' alertable)))
    first_so v u v' u' alertable s s' holds h k sh =
        let yielding = held_by K given n t 0 v s (falls_asleep K given n t v u alertable) in
        let yielding' = held_by L given n t' 0 v' s' (falls_asleep L given n t' v' u' alertable) in
        holding_so v v' s s' (if alertable && t.alerted then is_alerted K given n t s else yielding) (if alertable && t'.alerted then is_alerted L given n t' s' else yielding') h sh
        (if_so R w (alertable && t.alerted) (alertable && t'.alerted) (is_alerted K given n t s) yielding (is_alerted L given n t' s') yielding' (marked_and alertable) (alerted_so s s' sh)
        (held_so 0 v v' s s' (holds 0 (none_more n)) (falls_asleep K given n t v u alertable) (falls_asleep L given n t' v' u' alertable) h sh (λ x x' shows. sleeps_so v u v' u' alertable x x' h k shows)))

    waits_so : (st : Status VA) (st' : Status VB) (v u : VA) (v' u' : VB) (alertable : Bool) (s : State SA VA MA) (s' : State SB VB MB) → ((holder : ℕ) → holder ≤ n + 1 → AsDefined (R.memory w) (K.hold s.parts.memory v holder) (L.hold s'.parts.memory v' holder)) → SameStatus R w st st' → R.value w v v' → R.value w u u' → Shows R w s s' →
        SameDone R w (waits_at K given n t st v u alertable s) (waits_at L given n t' st' v' u' alertable s')
    waits_so st st' v u v' u' alertable s s' holds rel.ready h k sh = first_so v u v' u' alertable s s' holds h k sh
    waits_so st st' v u v' u' alertable s s' holds (rel.wants m m' q) h k sh =
        held_so (n + 1) v v' s s' (holds (n + 1) (as_much n)) (λ x. if alertable && t.alerted then is_alerted K given n t x else done K given n t x) (λ x. if alertable && t'.alerted then is_alerted L given n t' x else done L given n t' x) h sh
        (λ x x' shows. if_so R w (alertable && t.alerted) (alertable && t'.alerted) (is_alerted K given n t x) (done K given n t x) (is_alerted L given n t' x') (done L given n t' x') (marked_and alertable) (alerted_so x x' shows) (done_so x x' shows))
    waits_so st st' v u v' u' alertable s s' holds (rel.waits m c m' c' place a q r) h k sh = first_so v u v' u' alertable s s' holds h k sh
    waits_so st st' v u v' u' alertable s s' holds (rel.joins m m' a q) h k sh = first_so v u v' u' alertable s s' holds h k sh

    joins_so : (v : VA) (v' : VB) (s : State SA VA MA) (s' : State SB VB MB) (x : Life VA) (y : Life VB) → R.value w v v' → Shows R w s s' → SameLife R w x y → SameDone R w (joins_if K given n t v s x) (joins_if L given n t' v' s' y)
    joins_so v v' s s' x y h sh rel.alive = breaks s [] (joins_if L given n t' v' s' y)
    joins_so v v' s s' x y h sh rel.joined = fails_so s s' (Fails JoinTwice) (Fails JoinTwice) (rel.fails JoinTwice) sh
    joins_so v v' s s' x y h sh (rel.ended r r' k) =
        finding_so R w (R.memory w) (K.join s.parts.memory v) (L.join s'.parts.memory v') s s' (λ m. answers (with_memory s m) t (Gives (Some r))) (λ m. answers (with_memory s' m) t' (Gives (Some r')))
        (F.join w s.parts.memory s'.parts.memory v v' sh.parts.memory h)
        (λ m m' mem. answers_so R w (with_memory s m) (with_memory s' m') t t' (Gives (Some r)) (Gives (Some r')) (memory_so R w s s' m m' sh mem) th (rel.gives (Some r) (Some r') (both r r' k)))

    pub serves_so : (service : Service VA) (other : Service VB) (s : State SA VA MA) (s' : State SB VB MB) → ((form : Form) (v : VA) (v' : VB) → service ≡ Put form v → R.value w v v' → AsDefined IsOne (K.bytes s.parts.memory form v) (L.bytes s'.parts.memory form v')) →
        ((v : VA) (v' : VB) (holder : ℕ) → R.value w v v' → holder ≤ n + 1 → AsDefined (R.memory w) (K.hold s.parts.memory v holder) (L.hold s'.parts.memory v' holder)) → SameService R w service other → Shows R w s s' → SameDone R w (serves K given n t service s) (serves L given n t' other s')
    serves_so service other s s' puts holds (rel.put form v v' h) sh =
        finding_so R w IsOne (K.bytes s.parts.memory form v) (L.bytes s'.parts.memory form v') s s' (λ x. done K given n t (record s { output = s.output ++ x })) (λ x. done L given n t' (record s' { output = s'.output ++ x }))
        (puts form v v' refl h) (λ x y e. put_so s s' x y sh e)
    serves_so service other s s' puts holds rel.get_byte sh =
        subst (λ i. SameDone R w (takes K given n t (slice_get given.input s.taken) s) (takes L given n t' (slice_get given.input i) s')) sh.counts.taken (takes_so (slice_get given.input s.taken) s s' sh)
    serves_so service other s s' puts holds rel.end_of_input sh =
        subst (λ i. SameDone R w (tells K given n t (flag (nat_le (length given.input) s.taken)) s) (tells L given n t' (flag (nat_le (length given.input) i)) s')) sh.counts.taken (tells_so (flag (nat_le (length given.input) s.taken)) s s' sh)
    serves_so service other s s' puts holds (rel.acquire v v' h) sh = held_so (n + 1) v v' s s' (holds v v' (n + 1) h (as_much n)) (done K given n t) (done L given n t') h sh done_so
    serves_so service other s s' puts holds (rel.release v v' h) sh =
        holding_so v v' s s' (held_by K given n t 0 v s (done K given n t)) (held_by L given n t' 0 v' s' (done L given n t')) h sh (held_so 0 v v' s s' (holds v v' 0 h (none_more n)) (done K given n t) (done L given n t') h sh done_so)
    serves_so service other s s' puts holds (rel.wait v u v' u' alertable h k) sh = waits_so t.status t'.status v u v' u' alertable s s' (λ holder few. holds v v' holder h few) th.status h k sh
    serves_so service other s s' puts holds (rel.signal v v' h) sh = done_so (signalled K v s) (signalled L v' s') (signalled_so v v' s s' h sh)
    serves_so service other s s' puts holds (rel.broadcast v v' h) sh = done_so (broadcasted K v s) (broadcasted L v' s') (broadcasted_so v v' s s' h sh)
    serves_so service other s s' puts holds (rel.join v v' alertable h) sh =
        if_so R w (alertable && t.alerted) (alertable && t'.alerted) (is_alerted K given n t s) (finding s (K.life s.parts.memory v) (joins_if K given n t v s)) (is_alerted L given n t' s') (finding s' (L.life s'.parts.memory v') (joins_if L given n t' v' s'))
        (marked_and alertable) (alerted_so s s' sh)
        (finding_so R w (SameLife R w) (K.life s.parts.memory v) (L.life s'.parts.memory v') s s' (joins_if K given n t v s) (joins_if L given n t' v' s')
        (F.life w s.parts.memory s'.parts.memory v v' sh.parts.memory h) (λ x y k. joins_so v v' s s' x y h sh k))
    serves_so service other s s' puts holds rel.my_self sh = answers_so R w s s' t t' (Gives (Some t.cell)) (Gives (Some t'.cell)) sh th (rel.gives (Some t.cell) (Some t'.cell) (both t.cell t'.cell th.cell))
    serves_so service other s s' puts holds (rel.alert v v' h) sh =
        finding_so R w IsOne (K.number_of s.parts.memory v) (L.number_of s'.parts.memory v') s s' (λ k. done K given n t (changing alert_marked k s)) (λ k. done L given n t' (changing alert_marked k s'))
        (F.number_of w s.parts.memory s'.parts.memory v v' sh.parts.memory h)
        (λ i j e. subst (λ k. SameDone R w (done K given n t (changing alert_marked i s)) (done L given n t' (changing alert_marked k s'))) e
        (done_so (changing alert_marked i s) (changing alert_marked i s') (changing_so R w alert_marked alert_marked i s s' (marked_so R w) sh)))
    serves_so service other s s' puts holds rel.test_alert sh =
        subst (λ b. SameDone R w (tells K given n t (flag t.alerted) (changing alert_cleared n s)) (tells L given n t' (flag b) (changing alert_cleared n s'))) th.alerted
        (tells_so (flag t.alerted) (changing alert_cleared n s) (changing alert_cleared n s') (changing_so R w alert_cleared alert_cleared n s s' (cleared_so R w) sh))
