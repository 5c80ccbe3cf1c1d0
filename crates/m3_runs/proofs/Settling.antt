-- From the same action on, two threads come to the same end of their turns.
use Rattle.std.proofs.Common.{refl, ◌≡◌, ℕ, zero, suc, List, [], ◌∷◌, Option, arith, subst}
use Rattle.m3_base.specs.declared.outcomes.FaultKind.{FaultKind}
use Rattle.m3_base.specs.declared.outcomes.Outcome.{Outcome}
use Rattle.m3_base.specs.declared.outcomes.Outcome.TheVariants as outcome
use Rattle.m3_runs.specs.Languages.{New, Action, Service, Status, Answer, Move, Thread, Language, Leaves, Gives}
use Rattle.m3_runs.specs.States.{State, thread_at, status_at, status_at_service, come_to, Given}
use Rattle.m3_runs.specs.Services.{Done, Comes_to}
use Rattle.m3_runs.specs.Runs as run
use Rattle.m3_runs.specs.Runs.{Settled, Stands, Over, Failed, Broken, Settles, Result, Goes, Ends, Undefined, result_kept, thread_ended, settled, Finishes}
use Rattle.m3_runs.specs.Keeping.{Keeps}
use Rattle.m3_runs.specs.Follows as rel
use Rattle.m3_runs.specs.Follows.{Each, Both, neither, both, AsDefined, undefined, defined, Standing, SameNew, SameService, SameAction, SameAnswer, SameMove, SameStatus, SameThread, SameCounts, Shows, Room, Invariant, Follows}
use Rattle.m3_runs.proofs.Rows.{each_mapped, both_mapped, at_each, updated_each, without_each}
use Rattle.m3_runs.proofs.Serving as serving
use Rattle.m3_runs.proofs.Serving.{SameDone}

-- ---- later moments

module _ {W SA VA MA SB VB MB : Type 0} (R : Standing W SA VA MA SB VB MB) (w w' : W) (value : (v : VA) (v' : VB) → R.value w v v' → R.value w' v v') (stack : (ss : List SA) (ss' : List SB) → R.stack w ss ss' → R.stack w' ss ss') where
  values_stay : (vs : List VA) (vs' : List VB) → Each (R.value w) vs vs' → Each (R.value w') vs vs'
  values_stay vs vs' h = each_mapped (R.value w) (R.value w') vs vs' value h

  new_stays : (new : New VA) (new' : New VB) → SameNew R w new new' → SameNew R w' new new'
  new_stays new new' (rel.cell kind vs vs' h) = rel.cell kind vs vs' (values_stay vs vs' h)
  new_stays new new' (rel.concatenated t u t' u' h k) = rel.concatenated t u t' u' (value t t' h) (value u u' k)
  new_stays new new' (rel.byte_text v v' h) = rel.byte_text v v' (value v v' h)
  new_stays new new' (rel.subtext t i n t' i' n' h k l) = rel.subtext t i n t' i' n' (value t t' h) (value i i' k) (value n n' l)
  new_stays new new' (rel.thread_cell number) = rel.thread_cell number

  service_stays : (service : Service VA) (other : Service VB) → SameService R w service other → SameService R w' service other
  service_stays service other (rel.put form v v' h) = rel.put form v v' (value v v' h)
  service_stays service other rel.get_byte = rel.get_byte
  service_stays service other rel.end_of_input = rel.end_of_input
  service_stays service other (rel.join v v' alertable h) = rel.join v v' alertable (value v v' h)
  service_stays service other (rel.acquire v v' h) = rel.acquire v v' (value v v' h)
  service_stays service other (rel.release v v' h) = rel.release v v' (value v v' h)
  service_stays service other (rel.wait v u v' u' alertable h k) = rel.wait v u v' u' alertable (value v v' h) (value u u' k)
  service_stays service other (rel.signal v v' h) = rel.signal v v' (value v v' h)
  service_stays service other (rel.broadcast v v' h) = rel.broadcast v v' (value v v' h)
  service_stays service other rel.my_self = rel.my_self
  service_stays service other (rel.alert v v' h) = rel.alert v v' (value v v' h)
  service_stays service other rel.test_alert = rel.test_alert

  action_stays : (a : Action VA) (a' : Action VB) → SameAction R w a a' → SameAction R w' a a'
  action_stays a a' (rel.calls p v v' vs vs' h hs) = rel.calls p v v' vs vs' (value v v' h) (values_stay vs vs' hs)
  action_stays a a' (rel.makes new new' h) = rel.makes new new' (new_stays new new' h)
  action_stays a a' (rel.forks v v' h) = rel.forks v v' (value v v' h)
  action_stays a a' (rel.serves service other h) = rel.serves service other (service_stays service other h)
  action_stays a a' rel.passes = rel.passes

  status_stays : (st : Status VA) (st' : Status VB) → SameStatus R w st st' → SameStatus R w' st st'
  status_stays st st' rel.ready = rel.ready
  status_stays st st' (rel.wants v v' h) = rel.wants v v' (value v v' h)
  status_stays st st' (rel.waits v u v' u' place alertable h k) = rel.waits v u v' u' place alertable (value v v' h) (value u u' k)
  status_stays st st' (rel.joins v v' alertable h) = rel.joins v v' alertable (value v v' h)

  thread_stays : (t : Thread SA VA) (t' : Thread SB VB) → SameThread R w t t' → SameThread R w' t t'
  thread_stays t t' h = record { action = action_stays t.action t'.action h.action; status = status_stays t.status t'.status h.status; alerted = h.alerted; cell = value t.cell t'.cell h.cell; stack = stack t.stack t'.stack h.stack }

  pub threads_stay : (ts : List (Option (Thread SA VA))) (ts' : List (Option (Thread SB VB))) → Each (Both (SameThread R w)) ts ts' → Each (Both (SameThread R w')) ts ts'
  threads_stay ts ts' h = each_mapped (Both (SameThread R w)) (Both (SameThread R w')) ts ts' (λ x y. both_mapped (SameThread R w) (SameThread R w') x y thread_stays) h

-- ---- where threads come to

module _ {W SA VA MA SB VB MB : Type 0} (R : Standing W SA VA MA SB VB MB) (w : W) where
  service_status : (service : Service VA) (other : Service VB) → SameService R w service other → SameStatus R w (status_at_service service) (status_at_service other)
  service_status service other (rel.put form v v' h) = rel.ready
  service_status service other rel.get_byte = rel.ready
  service_status service other rel.end_of_input = rel.ready
  service_status service other (rel.join v v' alertable h) = rel.joins v v' alertable h
  service_status service other (rel.acquire v v' h) = rel.wants v v' h
  service_status service other (rel.release v v' h) = rel.ready
  service_status service other (rel.wait v u v' u' alertable h k) = rel.ready
  service_status service other (rel.signal v v' h) = rel.ready
  service_status service other (rel.broadcast v v' h) = rel.ready
  service_status service other rel.my_self = rel.ready
  service_status service other (rel.alert v v' h) = rel.ready
  service_status service other rel.test_alert = rel.ready

  pub action_status : (a : Action VA) (a' : Action VB) → SameAction R w a a' → SameStatus R w (status_at a) (status_at a')
  action_status a a' (rel.calls p v v' vs vs' h hs) = rel.ready
  action_status a a' (rel.makes new new' h) = rel.ready
  action_status a a' (rel.forks v v' h) = rel.ready
  action_status a a' (rel.serves service other h) = service_status service other h
  action_status a a' rel.passes = rel.ready

  come_so : (a : Action VA) (a' : Action VB) (ss : List SA) (ss' : List SB) → SameAction R w a a' → R.stack w ss ss' → (t : Thread SA VA) (t' : Thread SB VB) → SameThread R w t t' → SameThread R w (come_to a ss t) (come_to a' ss' t')
  come_so a a' ss ss' h st t t' th = record { action = h; status = action_status a a' h; alerted = th.alerted; cell = th.cell; stack = st }

  pub data SameSettled : Settled SA VA MA → Settled SB VB MB → Type 0 where
    stands : (a : Action VA) (a' : Action VB) (ss : List SA) (ss' : List SB) (m : MA) (m' : MB) → SameAction R w a a' → R.stack w ss ss' → R.memory w m m' → SameSettled (Stands a ss m) (Stands a' ss' m')
    over : (a : Answer VA) (a' : Answer VB) (m : MA) (m' : MB) → SameAnswer R w a a' → R.memory w m m' → SameSettled (Over a m) (Over a' m')
    failed : (kind : FaultKind) (file line : ℕ) → SameSettled (Failed kind file line) (Failed kind file line)
    broken : (to' : Settled SB VB MB) → SameSettled Broken to'

module _ {W SA VA MA SB VB MB : Type 0} (R : Standing W SA VA MA SB VB MB) where
  -- where a turn leads on the one side, and on the other
  pub data SameResult : Result SA VA MA → Result SB VB MB → Type 0 where
    goes : (w : W) (u : State SA VA MA) (u' : State SB VB MB) → Shows R w u u' → SameResult (Goes u) (Goes u')
    ends : (u : State SA VA MA) (u' : State SB VB MB) (o : Outcome) → u.output ≡ u'.output → u.points ≡ u'.points → SameResult (Ends u o) (Ends u' o)
    undefined_so : (r' : Result SB VB MB) → SameResult Undefined r'

-- what holds where a thread's lowest activation is left
over_known : {S V M : Type 0} (L : Language S V M) (given : Given) (I : Invariant S V M) → Keeps L given I → (u : State S V M) (n : ℕ) (rest : List S) (move : Move S V M) (to : Settled S V M) (a : Answer V) (m : M) → I.within u n rest move → Settles L rest move to → to ≡ Over a m → I.within u n [] (Leaves a m)
over_known L given I A u n rest move to a m known (run.stands ss action s m') e = absurd (let bad : Stands action (s ∷ ss) m' ≡ Over a m = e in cc)
over_known L given I A u n rest move to a m known (run.over b i) e =
    let q : Over b i ≡ Over a m = e in
    let x : b ≡ a = cc in
    let y : i ≡ m = cc in
    subst (λ z. I.within u n [] (Leaves a z)) y (subst (λ z. I.within u n [] (Leaves z i)) x known)
over_known L given I A u n rest move to a m known (run.back s ss b i next _ going later) e = over_known L given I A u n ss next to a m (A.goes u n s ss b i next known going) later e
over_known L given I A u n rest move to a m known (run.faults ss kind file line) e = absurd (let bad : Failed kind file line ≡ Over a m = e in cc)
over_known L given I A u n rest move to a m known (run.breaks ss) e = absurd (let bad : Broken ≡ Over a m = e in cc)

module _ {W SA VA MA SB VB MB : Type 0} (R : Standing W SA VA MA SB VB MB) (K : Language SA VA MA) (L : Language SB VB MB) (I : Invariant SA VA MA) (J : Invariant SB VB MB) (room : Room R) (F : Follows R K L I J room) (given : Given) (A : Keeps K given I) (B : Keeps L given J) where
  record SettlesSo (w : W) (rest : List SA) (move : Move SA VA MA) (to' : Settled SB VB MB) : Type 0 where
    world : W
    later : R.later w world
    to : Settled SA VA MA
    settles : Settles K rest move to
    same : SameSettled R world to to'

  settles_so : (w : W) (u : State SA VA MA) (u' : State SB VB MB) (n : ℕ) (rest : List SA) (rest' : List SB) (move : Move SA VA MA) (move' : Move SB VB MB) (to' : Settled SB VB MB) → I.within u n rest move → J.within u' n rest' move' →
      SameMove R w rest rest' move move' → Settles L rest' move' to' → SettlesSo w rest move to'
  settles_so w u u' n rest rest' move move' to' known known' (rel.acts a a' s s' m m' act st mem) (run.stands _ _ _ _) = record {
    world = w;
    later = F.same_moment w;
    to = Stands a (s ∷ rest) m;
    settles = run.stands rest a s m;
    same = stands a a' (s ∷ rest) (s' ∷ rest') m m' act st mem;
  }
  settles_so w u u' n [] rest' move move' to' known known' (rel.leaves a a' m m' answer st mem) (run.over _ _) = record {
    world = w;
    later = F.same_moment w;
    to = Over a m;
    settles = run.over a m;
    same = over a a' m m' answer mem;
  }
  settles_so w u u' n (s ∷ ss) rest' move move' to' known known' (rel.leaves a a' m m' answer st mem) (run.over _ _) = absurd (let e = F.as_deep w (s ∷ ss) [] st in omega (arith, e))
  settles_so w u u' n [] rest' move move' to' known known' (rel.leaves a a' m m' answer st mem) (run.back s' ss' _ _ next' _ going settles) = absurd (let e = F.as_deep w [] (s' ∷ ss') st in omega (arith, e))
  settles_so w u u' n (s ∷ ss) rest' move move' to' known known' (rel.leaves a a' m m' answer st mem) (run.back s' ss' _ _ next' _ going settles) =
      let h = F.goes w s s' ss ss' a a' m m' next' u u' n known known' st answer mem going in
      let k = settles_so h.world u u' n ss ss' h.move next' to' (A.goes u n s ss a m h.move known h.goes) (B.goes u' n s' ss' a' m' next' known' going) h.same settles in
      record {
        world = k.world;
        later = F.later_still w h.world k.world h.later k.later;
        to = k.to;
        settles = run.back s ss a m h.move k.to h.goes k.settles;
        same = k.same;
      }
  settles_so w u u' n rest rest' move move' to' known known' (rel.faults kind file line) (run.faults _ _ _ _) = record {
    world = w;
    later = F.same_moment w;
    to = Failed kind file line;
    settles = run.faults rest kind file line;
    same = failed kind file line;
  }
  settles_so w u u' n rest rest' move move' to' known known' (rel.breaks _) h = record { world = w; later = F.same_moment w; to = Broken; settles = run.breaks rest; same = broken to' }

  module _ (w : W) (s : State SA VA MA) (s' : State SB VB MB) (n : ℕ) (threads : Each (Both (SameThread R w)) s.parts.threads s'.parts.threads) (counts : SameCounts R s s') where
    kept_so : (o : Option MA) (o' : Option MB) → AsDefined (R.memory w) o o' → SameResult R (result_kept K s n o) (result_kept L s' n o')
    kept_so o o' (undefined _) = undefined_so (result_kept L s' n o')
    kept_so o o' (defined m m' mem) = goes w _ _ (record {
      parts = record { threads = without_each (SameThread R w) n s.parts.threads s'.parts.threads threads; memory = mem };
      counts = record { output = counts.output; taken = counts.taken; points = counts.points; running = counts.running; waits = counts.waits };
    })

    ended_so : (o : Option VA) (o' : Option VB) (m : MA) (m' : MB) (t : Option (Thread SA VA)) (t' : Option (Thread SB VB)) → I.within s n [] (Leaves (Gives o) m) → J.within s' n [] (Leaves (Gives o') m') → Both (R.value w) o o' → R.memory w m m' → Both (SameThread R w) t t' →
        SameResult R (thread_ended K s n o m t) (thread_ended L s' n o' m' t')
    ended_so o o' m m' t t' known known' neither mem h = undefined_so (thread_ended L s' n o' m' t')
    ended_so o o' m m' t t' known known' (both v v' k) mem neither = undefined_so Undefined
    ended_so o o' m m' t t' known known' (both v v' k) mem (both x y h) = kept_so (K.end_with m x.cell v) (L.end_with m' y.cell v') (F.end_with w s s' n m m' x.cell v y.cell v' known known' mem h.cell k)

    stands_so : (a : Action VA) (a' : Action VB) (ss : List SA) (ss' : List SB) (m : MA) (m' : MB) → SameAction R w a a' → R.stack w ss ss' → R.memory w m m' → SameResult R (settled K s n (Stands a ss m)) (settled L s' n (Stands a' ss' m'))
    stands_so a a' ss ss' m m' h st mem = goes w _ _ (record {
      parts = record { threads = updated_each (SameThread R w) (come_to a ss) (come_to a' ss') n s.parts.threads s'.parts.threads (come_so R w a a' ss ss' h st) threads; memory = mem };
      counts = record { output = counts.output; taken = counts.taken; points = counts.points; running = counts.running; waits = counts.waits };
    })

  settled_so : (w : W) (s : State SA VA MA) (s' : State SB VB MB) (n : ℕ) (to : Settled SA VA MA) (to' : Settled SB VB MB) → ((a : Answer VA) (m : MA) → to ≡ Over a m → I.within s n [] (Leaves a m)) → ((a' : Answer VB) (m' : MB) → to' ≡ Over a' m' → J.within s' n [] (Leaves a' m')) →
      Each (Both (SameThread R w)) s.parts.threads s'.parts.threads → SameCounts R s s' → SameSettled R w to to' → SameResult R (settled K s n to) (settled L s' n to')
  settled_so w s s' n to to' known known' ts counts (stands a a' ss ss' m m' h st mem) = stands_so w s s' n ts counts a a' ss ss' m m' h st mem
  settled_so w s s' zero to to' known known' ts counts (over a a' m m' (rel.gives v v' h) mem) = ends _ _ outcome.Done counts.output counts.points
  settled_so w s s' (suc n) to to' known known' ts counts (over a a' m m' (rel.gives v v' h) mem) =
      ended_so w s s' (suc n) ts counts v v' m m' (thread_at s.parts.threads (suc n)) (thread_at s'.parts.threads (suc n)) (known (Gives v) m refl) (known' (Gives v') m' refl) h mem (at_each (SameThread R w) s.parts.threads s'.parts.threads (suc n) ts)
  settled_so w s s' zero to to' known known' ts counts (over a a' m m' (rel.raises e v u v' u' h k) mem) = ends _ _ (outcome.Uncaught e) counts.output counts.points
  settled_so w s s' (suc n) to to' known known' ts counts (over a a' m m' (rel.raises e v u v' u' h k) mem) = ends _ _ (outcome.Uncaught e) counts.output counts.points
  settled_so w s s' zero to to' known known' ts counts (over a a' m m' (rel.fails kind) mem) = undefined_so _
  settled_so w s s' (suc n) to to' known known' ts counts (over a a' m m' (rel.fails kind) mem) = undefined_so _
  settled_so w s s' n to to' known known' ts counts (failed kind file line) = ends _ _ (outcome.Fault kind file line) counts.output counts.points
  settled_so w s s' n to to' known known' ts counts (broken _) = undefined_so _

  broken_so : (s : State SA VA MA) (n : ℕ) (r' : Result SB VB MB) → SameResult R (settled K s n Broken) r'
  broken_so s zero r' = undefined_so r'
  broken_so s (suc n) r' = undefined_so r'

  -- ---- the rest of a turn

  pub record FinishesSo (n : ℕ) (done : Done SA VA MA) (r' : Result SB VB MB) : Type 0 where
    pub result : Result SA VA MA
    pub finishes : Finishes K n done result
    pub same : SameResult R result r'

  pub finishes_so : (w : W) (n : ℕ) (done : Done SA VA MA) (done' : Done SB VB MB) (r' : Result SB VB MB) → ((s : State SA VA MA) (stack : List SA) (move : Move SA VA MA) → done ≡ Comes_to s stack move → I.within s n stack move) →
      ((s' : State SB VB MB) (stack' : List SB) (move' : Move SB VB MB) → done' ≡ Comes_to s' stack' move' → J.within s' n stack' move') → SameDone R w done done' → Finishes L n done' r' → FinishesSo n done r'
  finishes_so w n done done' r' known known' (serving.comes s s' stack stack' move move' ts counts h) (run.comes _ _ _ to' settles) =
      let k = settles_so w s s' n stack stack' move move' to' (known s stack move refl) (known' s' stack' move' refl) h settles in
      let ts' = threads_stay R w k.world (λ v v'. F.value_stays w k.world v v' k.later) (λ ss ss'. F.stack_stays w k.world ss ss' k.later) s.parts.threads s'.parts.threads ts in
      record { result = settled K s n k.to; finishes = run.comes s stack move k.to k.settles; same = settled_so k.world s s' n k.to to' (λ a m e. over_known K given I A s n stack move k.to a m (known s stack move refl) k.settles e) (λ a m e. over_known L given J B s' n stack' move' to' a m (known' s' stack' move' refl) settles e) ts' counts k.same }
  finishes_so w n done done' r' known known' (serving.rests s s' sh) (run.rests _) = record { result = Goes s; finishes = run.rests s; same = goes w s s' sh }
  finishes_so w n done done' r' known known' (serving.stops s s' o counts) (run.stops _ _) = record { result = Ends s o; finishes = run.stops s o; same = ends s s' o counts.output counts.points }
  finishes_so w n done done' r' known known' (serving.breaks s stack _) h = record { result = settled K s n Broken; finishes = run.comes s stack _ Broken (run.breaks stack); same = broken_so s n r' }
