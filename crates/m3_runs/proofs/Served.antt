-- What a service changes.
use Rattle.std.proofs.Common.{◌≡◌, ℕ, zero, suc, ◌+◌, ◌≤◌, Bool, true, false, List, [], ◌∷◌, ◌++◌, length, Option, Some, None, refl, arith}
use Rattle.std.specs.Prelude.{◌==◌, ◌&&◌, nat_le, map, slice_get, if◌then◌else◌}
use Rattle.std.specs.Option.{option_map}
use Rattle.m3_base.specs.declared.outcomes.FaultKind.TheVariants.{Index, NotHeld, JoinTwice}
use Rattle.m3_runs.specs.Languages as asked
use Rattle.m3_runs.specs.Languages.{Service, Answer, Gives, Raises, Fails, Status, Ready, Wants, Waits, Joins, Thread, Life, Alive, Ended, Joined, Language}
use Rattle.m3_runs.specs.States.{Given, State, updated, with_memory, with_threads, changing}
use Rattle.m3_runs.specs.Services.{Done, Rests, answers, undefined, finding, flag, alert_cleared, alert_marked, woken, asleep, Sleeper, woken_on, woken_by, longest_from, signalled, broadcasted, done, tells, is_alerted, takes, held_by, holding, falls_asleep, waits_at, joins_if, serves, sleeps_on_at}
use Rattle.m3_runs.specs.Follows.{Each, none, more, Both, neither, both}
use Rattle.m3_runs.specs.Served as served
use Rattle.m3_runs.specs.Served.{SameButWaiting, Wrote, Left, ServedSo, ServesSo, answered, slept, not_defined}

-- ---- threads

module _ {S V : Type 0} where
  itself : (t : Thread S V) → SameButWaiting t t
  itself t = record { action = refl; cell = refl; stack = refl }

  one_stays : (t : Option (Thread S V)) → Both SameButWaiting t t
  one_stays None = neither
  one_stays (Some t) = both t t (itself t)

  all_stay : (ts : List (Option (Thread S V))) → Each (Both SameButWaiting) ts ts
  all_stay [] = none
  all_stay (t ∷ ts) = more t t ts ts (one_stays t) (all_stay ts)

  one_changes : (f : Thread S V → Thread S V) → ((t : Thread S V) → SameButWaiting t (f t)) → (t : Option (Thread S V)) → Both SameButWaiting t (option_map f t)
  one_changes f h None = neither
  one_changes f h (Some t) = both t (f t) (h t)

  change : (f : Thread S V → Thread S V) → ((t : Thread S V) → SameButWaiting t (f t)) → (n : ℕ) (ts : List (Option (Thread S V))) → Each (Both SameButWaiting) ts (updated f n ts)
  change f h n [] = none
  change f h zero (t ∷ ts) = more t (option_map f t) ts ts (one_changes f h t) (all_stay ts)
  change f h (suc n) (t ∷ ts) = more t t ts (updated f n ts) (one_stays t) (change f h n ts)

  change_all : (f : Thread S V → Thread S V) → ((t : Thread S V) → SameButWaiting t (f t)) → (ts : List (Option (Thread S V))) → Each (Both SameButWaiting) ts (map (option_map f) ts)
  change_all f h [] = none
  change_all f h (t ∷ ts) = more t (option_map f t) ts (map (option_map f) ts) (one_changes f h t) (change_all f h ts)

none_more : (n : ℕ) → 0 ≤ n + 1
none_more n = omega arith

as_much : (n : ℕ) → n + 1 ≤ n + 1
as_much n = omega arith

module _ {S V M : Type 0} (L : Language S V M) (given : Given) (n : ℕ) (t : Thread S V) where
  abbrev So : State S V M → Done S V M → Type 0
  So = ServedSo L n t

  stays : (s : State S V M) → Left L n s s
  stays s = record { threads = all_stay s.parts.threads; memory = served.nothing }

  changes : (f : Thread S V → Thread S V) → ((t : Thread S V) → SameButWaiting t (f t)) → (k : ℕ) (s : State S V M) → Left L n s (changing f k s)
  changes f h k s = record { threads = change f h k s.parts.threads; memory = served.nothing }

  if_so : (s : State S V M) (b : Bool) (d e : Done S V M) → So s d → So s e → So s (if b then d else e)
  if_so s true d e h k = h
  if_so s false d e h k = k

  found_so : {A : Type 0} (s u : State S V M) (o : Option A) (go : A → Done S V M) → ((x : A) → o ≡ Some x → So s (go x)) → So s (finding u o go)
  found_so s u None go h = not_defined u
  found_so s u (Some x) go h = h x refl

  woke : (u : Thread S V) → SameButWaiting u (woken u)
  woke u = record { action = refl; cell = refl; stack = refl }

  woke_if : (b : Bool) (u : Thread S V) → SameButWaiting u (if b then woken u else u)
  woke_if true u = woke u
  woke_if false u = itself u

  signalled_by : (o : Option Sleeper) (s : State S V M) → Left L n s (woken_by L o s)
  signalled_by None s = stays s
  signalled_by (Some sleeper) s = changes woken woke sleeper.number s

  alerted_so : (s : State S V M) → So s (is_alerted L given n t s)
  alerted_so s = answered (changing alert_cleared n s) (Raises L.alerted (L.number 0) (L.number 0)) (changes alert_cleared (λ u. record { action = refl; cell = refl; stack = refl }) n s)

  takes_so : (o : Option ℕ) (s : State S V M) → So s (takes L given n t o s)
  takes_so None s = answered s (Fails Index) (stays s)
  takes_so (Some byte) s = answered (record s { taken = s.taken + 1 }) (Gives (Some (L.number byte))) (record { threads = all_stay s.parts.threads; memory = served.nothing })

  -- a mutex gets a holder, and then there is an answer
  held_so : (holder : ℕ) (v : V) (s : State S V M) (go : State S V M → Done S V M) → holder ≤ n + 1 → ((m : M) → L.hold s.parts.memory v holder ≡ Some m → So s (go (with_memory s m))) → So s (held_by L given n t holder v s go)
  held_so holder v s go few h = found_so s s (L.hold s.parts.memory v holder) (λ m. go (with_memory s m)) h

  written : (s : State S V M) (holder : ℕ) (v : V) (m : M) → holder ≤ n + 1 → L.hold s.parts.memory v holder ≡ Some m → Left L n s (with_memory s m)
  written s holder v m few e = record { threads = all_stay s.parts.threads; memory = served.holder v holder m few e }

  holding_so : (v : V) (s : State S V M) (go : Done S V M) → So s go → So s (holding L given n t v s go)
  holding_so v s go h =
      found_so s s (L.holder s.parts.memory v) (λ i. if i == n + 1 then go else answers s t (Fails NotHeld)) (λ i e. if_so s (i == n + 1) go (answers s t (Fails NotHeld)) h (answered s (Fails NotHeld) (stays s)))

  sleeps_so : (v u : V) (alertable : Bool) (s : State S V M) (m : M) → L.hold s.parts.memory v 0 ≡ Some m → So s (falls_asleep L given n t v u alertable (with_memory s m))
  sleeps_so v u alertable s m e = slept _ (record { threads = change (asleep v u s.waits alertable) (λ x. record { action = refl; cell = refl; stack = refl }) n s.parts.threads; memory = served.holder v 0 m (none_more n) e })

  first_so : (v u : V) (alertable : Bool) (s : State S V M) → So s (holding L given n t v s (if alertable && t.alerted then is_alerted L given n t s else held_by L given n t 0 v s (falls_asleep L given n t v u alertable)))
  first_so v u alertable s =
      let yields = held_by L given n t 0 v s (falls_asleep L given n t v u alertable) in
      holding_so v s (if alertable && t.alerted then is_alerted L given n t s else yields)
      (if_so s (alertable && t.alerted) (is_alerted L given n t s) yields (alerted_so s) (held_so 0 v s (falls_asleep L given n t v u alertable) (none_more n) (sleeps_so v u alertable s)))

  woken_so : (v : V) (alertable : Bool) (s : State S V M) (m : M) → L.hold s.parts.memory v (n + 1) ≡ Some m → So s (if alertable && t.alerted then is_alerted L given n t (with_memory s m) else done L given n t (with_memory s m))
  woken_so v alertable s m e =
      if_so s (alertable && t.alerted) (is_alerted L given n t (with_memory s m)) (done L given n t (with_memory s m))
      (answered _ (Raises L.alerted (L.number 0) (L.number 0)) (record { threads = change alert_cleared (λ u. record { action = refl; cell = refl; stack = refl }) n s.parts.threads; memory = served.holder v (n + 1) m (as_much n) e }))
      (answered (with_memory s m) (Gives None) (written s (n + 1) v m (as_much n) e))

  waits_so : (st : Status V) (v u : V) (alertable : Bool) (s : State S V M) → So s (waits_at L given n t st v u alertable s)
  waits_so Ready v u alertable s = first_so v u alertable s
  waits_so (Wants m) v u alertable s = held_so (n + 1) v s (λ x. if alertable && t.alerted then is_alerted L given n t x else done L given n t x) (as_much n) (woken_so v alertable s)
  waits_so (Waits m c place a) v u alertable s = first_so v u alertable s
  waits_so (Joins m a) v u alertable s = first_so v u alertable s

  joins_so : (v : V) (s : State S V M) (x : Life V) → So s (joins_if L given n t v s x)
  joins_so v s Alive = not_defined s
  joins_so v s Joined = answered s (Fails JoinTwice) (stays s)
  joins_so v s (Ended result) =
      found_so s s (L.join s.parts.memory v) (λ m. answers (with_memory s m) t (Gives (Some result)))
      (λ m e. answered (with_memory s m) (Gives (Some result)) (record { threads = all_stay s.parts.threads; memory = served.join v m e }))

  serves_one : (s : State S V M) (service : Service V) → So s (serves L given n t service s)
  serves_one s (asked.Put form v) =
      found_so s s (L.bytes s.parts.memory form v) (λ bytes. done L given n t (record s { output = s.output ++ bytes })) (λ bytes e. answered (record s { output = s.output ++ bytes }) (Gives None) (record { threads = all_stay s.parts.threads; memory = served.nothing }))
  serves_one s asked.GetByte = takes_so (slice_get given.input s.taken) s
  serves_one s asked.EndOfInput = answered s (Gives (Some (L.number (flag (nat_le (length given.input) s.taken))))) (stays s)
  serves_one s (asked.Acquire v) = held_so (n + 1) v s (done L given n t) (as_much n) (λ m e. answered (with_memory s m) (Gives None) (written s (n + 1) v m (as_much n) e))
  serves_one s (asked.Release v) = holding_so v s (held_by L given n t 0 v s (done L given n t)) (held_so 0 v s (done L given n t) (none_more n) (λ m e. answered (with_memory s m) (Gives None) (written s 0 v m (none_more n) e)))
  serves_one s (asked.Wait v u alertable) = waits_so t.status v u alertable s
  serves_one s (asked.Signal v) = answered (signalled L v s) (Gives None) (signalled_by (longest_from L v 0 s.parts.threads) s)
  serves_one s (asked.Broadcast v) = answered (broadcasted L v s) (Gives None) (record { threads = change_all (woken_on L v) (λ u. woke_if (sleeps_on_at L v u.status) u) s.parts.threads; memory = served.nothing })
  serves_one s (asked.Join v alertable) =
      if_so s (alertable && t.alerted) (is_alerted L given n t s) (finding s (L.life s.parts.memory v) (joins_if L given n t v s)) (alerted_so s) (found_so s s (L.life s.parts.memory v) (joins_if L given n t v s) (λ x e. joins_so v s x))
  serves_one s asked.MySelf = answered s (Gives (Some t.cell)) (stays s)
  serves_one s (asked.Alert v) =
      found_so s s (L.number_of s.parts.memory v) (λ k. done L given n t (changing alert_marked k s)) (λ k e. answered (changing alert_marked k s) (Gives None) (changes alert_marked (λ u. record { action = refl; cell = refl; stack = refl }) k s))
  serves_one s asked.TestAlert =
      answered (changing alert_cleared n s) (Gives (Some (L.number (flag t.alerted)))) (changes alert_cleared (λ u. record { action = refl; cell = refl; stack = refl }) n s)

pub serves_so : {S V M : Type 0} (L : Language S V M) → ServesSo L
serves_so L given n t s service = serves_one L given n t s service
