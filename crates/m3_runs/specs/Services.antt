-- What services do: output and input, mutexes, conditions, threads and alerts.
use Rattle.std.specs.Prelude.{ℕ, suc, ◌+◌, ◌==◌, ◌&&◌, nat_le, Bool, true, false, if◌then◌else◌, List, [], ◌∷◌, ◌++◌, length, map, slice_get, Option, Some, None}
use Rattle.std.specs.Option.{option_map}
use Rattle.m3_base.specs.declared.outcomes.Outcome.{Outcome}
use Rattle.m3_base.specs.declared.outcomes.FaultKind.TheVariants.{Index, NotHeld, JoinTwice}
use Rattle.m3_runs.specs.Languages.{Form, Service, Put, GetByte, EndOfInput, Join, Acquire, Release, Wait, Signal, Broadcast, MySelf, Alert, TestAlert, Answer, Gives, Raises, Fails, Move, Leaves, Breaks, Status, Wants, Waits, Thread, Life, Alive, Ended, Joined, Language}
use Rattle.m3_runs.specs.States.{Given, State, with_memory, with_threads, changing}

-- What an action leaves: these activations go on from a move; the thread rests, for it fell
-- asleep; or the run stops.
pub data Done (S V M : Type 0) : Type 0 where
  Comes_to : State S V M → (stack : List S) → Move S V M → Done S V M
  Rests : State S V M → Done S V M
  Stops : State S V M → Outcome → Done S V M

-- what it does isn't defined
abbrev pub undefined : {S V M : Type 0} → State S V M → Done S V M
undefined s = Comes_to s [] Breaks

-- the thread's activations are told an answer
abbrev pub answers : {S V M : Type 0} → State S V M → Thread S V → Answer V → Done S V M
answers s t answer = Comes_to s t.stack (Leaves answer s.parts.memory)

-- something is needed that is there, or what happens isn't defined
abbrev pub finding : {S V M A : Type 0} → State S V M → Option A → (A → Done S V M) → Done S V M
finding s None go = undefined s
finding s (Some x) go = go x

abbrev pub flag : Bool → ℕ
flag true = 1
flag false = 0

-- ---- alerts

abbrev pub alert_cleared : {S V : Type 0} → Thread S V → Thread S V
alert_cleared t = record t { alerted = false }

abbrev pub alerted_at : {V : Type 0} → Status V → Status V
alerted_at (Waits mutex condition place true) = Wants mutex
alerted_at status = status

-- an alert sets the mark, and wakes a thread whose sleep is alertable
abbrev pub alert_marked : {S V : Type 0} → Thread S V → Thread S V
alert_marked t = record t { alerted = true; status = alerted_at t.status }

-- ---- conditions

-- a woken thread wants its mutex again
abbrev pub woken_at : {V : Type 0} → Status V → Status V
woken_at (Waits mutex condition place alertable) = Wants mutex
woken_at status = status

abbrev pub woken : {S V : Type 0} → Thread S V → Thread S V
woken t = record t { status = woken_at t.status }

-- a thread sleeps on a condition, at this place in the queues
abbrev pub asleep : {S V : Type 0} → V → V → ℕ → Bool → Thread S V → Thread S V
asleep mutex condition place alertable t =
    record t { status = Waits mutex condition place alertable }

-- a thread that sleeps, by its number, and its place in the queues
pub record Sleeper : Type 0 where
  pub number : ℕ
  pub place : ℕ

abbrev pub earlier : Option Sleeper → Option Sleeper → Option Sleeper
earlier None other = other
earlier (Some a) None = Some a
earlier (Some a) (Some b) = if nat_le a.place b.place then Some a else Some b

module _ {S V M : Type 0} (L : Language S V M) where
  abbrev pub sleeps_on_at : V → Status V → Bool
  sleeps_on_at condition (Waits mutex other place alertable) = L.is_same other condition
  sleeps_on_at condition _ = false

  abbrev pub place_at : Status V → ℕ
  place_at (Waits mutex condition place alertable) = place
  place_at _ = 0

  abbrev pub sleeper_if : V → ℕ → Option (Thread S V) → Option Sleeper
  sleeper_if condition n None = None
  sleeper_if condition n (Some t) =
      let sleeper : Sleeper = record { number = n; place = place_at t.status } in
      if sleeps_on_at condition t.status then Some sleeper else None

  -- who sleeps longest on a condition, of the threads from one number on
  abbrev pub longest_from : V → ℕ → List (Option (Thread S V)) → Option Sleeper
  longest_from condition n [] = None
  longest_from condition n (t ∷ ts) =
      earlier (sleeper_if condition n t) (longest_from condition (suc n) ts)

  -- a Signal wakes that one, and does nothing where nobody sleeps
  abbrev pub woken_by : Option Sleeper → State S V M → State S V M
  woken_by None s = s
  woken_by (Some sleeper) s = changing woken sleeper.number s

  abbrev pub signalled : V → State S V M → State S V M
  signalled condition s = woken_by (longest_from condition 0 s.parts.threads) s

  -- a Broadcast wakes all that sleep there
  abbrev pub woken_on : V → Thread S V → Thread S V
  woken_on condition t = if sleeps_on_at condition t.status then woken t else t

  abbrev pub broadcasted : V → State S V M → State S V M
  broadcasted condition s = with_threads s (map (option_map (woken_on condition)) s.parts.threads)

  module _ (given : Given) (n : ℕ) (t : Thread S V) where
    -- the service has no value, or this number for one
    abbrev pub done : State S V M → Done S V M
    done s = answers s t (Gives None)

    abbrev pub tells : ℕ → State S V M → Done S V M
    tells k s = answers s t (Gives (Some (L.number k)))

    -- the mark is cleared, and the exception Alerted raised
    abbrev pub is_alerted : State S V M → Done S V M
    is_alerted s =
        answers (changing alert_cleared n s) t (Raises L.alerted (L.number 0) (L.number 0))

    -- ---- output and input

    abbrev pub puts : Form → V → State S V M → Done S V M
    puts form v s =
        finding s (L.bytes s.parts.memory form v)
        (λ bytes. done (record s { output = s.output ++ bytes }))

    -- the next byte of the input, or the fault Index where none is left
    abbrev pub takes : Option ℕ → State S V M → Done S V M
    takes None s = answers s t (Fails Index)
    takes (Some byte) s = tells byte (record s { taken = s.taken + 1 })

    -- ---- mutexes

    -- the mutex has this holder
    abbrev pub held_by : ℕ → V → State S V M → (State S V M → Done S V M) → Done S V M
    held_by holder mutex s go =
        finding s (L.hold s.parts.memory mutex holder) (λ memory. go (with_memory s memory))

    -- the thread holds the mutex, or the fault is NotHeld
    abbrev pub holding : V → State S V M → Done S V M → Done S V M
    holding mutex s go =
        finding s (L.holder s.parts.memory mutex)
        (λ holder. if holder == n + 1 then go else answers s t (Fails NotHeld))

    -- ---- Wait

    abbrev pub falls_asleep : V → V → Bool → State S V M → Done S V M
    falls_asleep mutex condition alertable s =
        let counted = record s { waits = s.waits + 1 } in
        Rests (changing (asleep mutex condition s.waits alertable) n counted)

    -- first the mutex is let go; once woken it is held again
    abbrev pub waits_at : Status V → V → V → Bool → State S V M → Done S V M
    waits_at (Wants m) mutex condition alertable s =
        held_by (n + 1) mutex s (λ s. if alertable && t.alerted then is_alerted s else done s)
    waits_at _ mutex condition alertable s =
        let yields = held_by 0 mutex s (falls_asleep mutex condition alertable) in
        holding mutex s (if alertable && t.alerted then is_alerted s else yields)

    -- ---- Join

    -- a thread that lives can't be joined yet; one that was joined can't be joined again
    abbrev pub joins_if : V → State S V M → Life V → Done S V M
    joins_if thread s Alive = undefined s
    joins_if thread s Joined = answers s t (Fails JoinTwice)
    joins_if thread s (Ended result) =
        finding s (L.join s.parts.memory thread)
        (λ memory. answers (with_memory s memory) t (Gives (Some result)))

    -- THE TABLE OF SERVICES: what a service of thread n, which is t, makes of a state
    abbrev pub serves : Service V → State S V M → Done S V M
    serves (Put form v) s = puts form v s
    serves GetByte s = takes (slice_get given.input s.taken) s
    serves EndOfInput s = tells (flag (nat_le (length given.input) s.taken)) s
    serves (Acquire mutex) s = held_by (n + 1) mutex s done
    serves (Release mutex) s = holding mutex s (held_by 0 mutex s done)
    serves (Wait mutex condition alertable) s = waits_at t.status mutex condition alertable s
    serves (Signal condition) s = done (signalled condition s)
    serves (Broadcast condition) s = done (broadcasted condition s)
    serves (Join thread alertable) s =
        if alertable && t.alerted then is_alerted s
        else finding s (L.life s.parts.memory thread) (joins_if thread s)
    serves MySelf s = answers s t (Gives (Some t.cell))
    serves (Alert thread) s =
        finding s (L.number_of s.parts.memory thread) (λ k. done (changing alert_marked k s))
    serves TestAlert s = tells (flag t.alerted) (changing alert_cleared n s)
