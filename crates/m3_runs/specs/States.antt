-- The state of a run between two turns.
use Rattle.std.specs.Prelude.{ℕ, zero, suc, false, List, [], ◌∷◌, map, Option, Some, None}
use Rattle.std.specs.Option.{option_map}
use Rattle.m3_runs.specs.Languages.{Action, Serves, Service, Acquire, Join, Status, Ready, Wants, Joins, Thread, Begun, Parts, Language}

-- what a run is given: how many points it may pass, how many threads may not have ended at once,
-- and the bytes of its input
pub record Given : Type 0 where
  pub points : ℕ
  pub threads : ℕ
  pub input : List ℕ

-- threads and memory; the bytes that were put, how many of the input were taken, how many points
-- were passed, which thread went last, and how often one fell asleep
pub record State (S V M : Type 0) : Type 0 where
  pub parts : Parts S V M
  pub output : List ℕ
  pub taken : ℕ
  pub points : ℕ
  pub running : ℕ
  pub waits : ℕ

-- ---- threads by their numbers

abbrev pub thread_at : {T : Type 0} → List (Option T) → ℕ → Option T
thread_at [] n = None
thread_at (t ∷ ts) zero = t
thread_at (t ∷ ts) (suc n) = thread_at ts n

-- the thread of a number is changed, where it is there
abbrev pub updated : {T : Type 0} → (T → T) → ℕ → List (Option T) → List (Option T)
updated change n [] = []
updated change zero (t ∷ ts) = option_map change t ∷ ts
updated change (suc n) (t ∷ ts) = t ∷ updated change n ts

-- the thread of a number has ended
abbrev pub without : {T : Type 0} → ℕ → List (Option T) → List (Option T)
without n [] = []
without zero (t ∷ ts) = None ∷ ts
without (suc n) (t ∷ ts) = t ∷ without n ts

-- how many have not ended
abbrev pub counted : {T : Type 0} → Option T → ℕ → ℕ
counted None n = n
counted (Some t) n = suc n

abbrev pub living : {T : Type 0} → List (Option T) → ℕ
living [] = 0
living (t ∷ ts) = counted t (living ts)

-- ---- changes of a state

abbrev pub with_parts : {S V M : Type 0} → State S V M → Parts S V M → State S V M
with_parts s parts = record s { parts = parts }

abbrev pub with_memory : {S V M : Type 0} → State S V M → M → State S V M
with_memory s memory = with_parts s (record s.parts { memory = memory })

abbrev pub with_threads : {S V M : Type 0} → State S V M → List (Option (Thread S V)) → State S V M
with_threads s threads = with_parts s (record s.parts { threads = threads })

-- the thread of a number is changed
abbrev pub changing : {S V M : Type 0} → (Thread S V → Thread S V) → ℕ → State S V M → State S V M
changing change n s = with_threads s (updated change n s.parts.threads)

-- ---- points

-- what a thread waits for that comes to an action
abbrev pub status_at_service : {V : Type 0} → Service V → Status V
status_at_service (Acquire mutex) = Wants mutex
status_at_service (Join thread alertable) = Joins thread alertable
status_at_service _ = Ready

abbrev pub status_at : {V : Type 0} → Action V → Status V
status_at (Serves service) = status_at_service service
status_at _ = Ready

-- a thread with these activations comes to an action
abbrev pub come_to : {S V : Type 0} → Action V → List S → Thread S V → Thread S V
come_to action stack t = record t { action = action; status = status_at action; stack = stack }

-- a thread that begins, with its cell
abbrev pub beginning : {S V : Type 0} → V → Begun S V → Thread S V
beginning cell b = record {
  action = b.action;
  status = status_at b.action;
  alerted = false;
  cell = cell;
  stack = b.lowest ∷ [];
}

-- THE START of a program: its main thread alone, before its first turn
abbrev pub start : {S V M : Type 0} → Language S V M → State S V M
start L = record {
  parts = record { threads = Some (beginning L.main_cell L.main) ∷ []; memory = L.memory };
  output = [];
  taken = 0;
  points = 0;
  running = 0;
  waits = 0;
}

-- ---- what is shown

-- the variables that each activation of a thread shows, the newest first; none where it has ended
abbrev pub shown_by : {S V M : Type 0} → Language S V M → M → Option (Thread S V)
    → List (List (ℕ × V))
shown_by L memory None = []
shown_by L memory (Some t) = map (L.shows memory) t.stack

-- THE SHOWN STATE: thread by thread
abbrev pub shown : {S V M : Type 0} → Language S V M → State S V M → List (List (List (ℕ × V)))
shown L s = map (shown_by L s.parts.memory) s.parts.threads
