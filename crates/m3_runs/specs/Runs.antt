-- THE RUN OF A PROGRAM in any language: turns, one after the other.
use Rattle.std.specs.Prelude.{◌≡◌, ℕ, zero, suc, ◌+◌, ◌≤◌, ◌<◌, Bool, true, false, List, [], ◌∷◌, ◌++◌, length, Option, Some, None}
use Rattle.m3_base.specs.declared.outcomes.Entry.{Entry}
use Rattle.m3_base.specs.declared.outcomes.FaultKind.{FaultKind}
use Rattle.m3_base.specs.declared.outcomes.Outcome.{Outcome}
use Rattle.m3_base.specs.declared.outcomes.Outcome.TheVariants as outcome
use Rattle.m3_runs.specs.Languages.{Action, Calls, Makes, Forks, Serves, Passes, New, ThreadCell, Service, Answer, Gives, Raises, Fails, Move, Acts, Leaves, Faults, Breaks, Begins, Overflows, Thread, Begun, Parts, Language}
use Rattle.m3_runs.specs.States.{Given, State, thread_at, without, living, with_parts, with_memory, with_threads, changing, come_to, beginning}
use Rattle.m3_runs.specs.Choice.{lowest, choice, all_known}
use Rattle.m3_runs.specs.Services.{Done, Comes_to, Rests, Stops, answers, finding, serves}

-- ---- schedules

-- past its last entry a schedule names no thread and asks for no collection
abbrev pub first_entry : List Entry → Entry
first_entry [] = record { to = None; collect = false }
first_entry (entry ∷ entries) = entry

abbrev pub later_entries : List Entry → List Entry
later_entries [] = []
later_entries (entry ∷ entries) = entries

-- what is left of a schedule after so many turns
abbrev pub entries_after : ℕ → List Entry → List Entry
entries_after zero schedule = schedule
entries_after (suc n) schedule = entries_after n (later_entries schedule)

-- ---- where a turn leads

-- a thread stands at its next point, with these activations; or it is over; or it faulted, or what
-- it does isn't defined
pub data Settled (S V M : Type 0) : Type 0 where
  Stands : Action V → (stack : List S) → M → Settled S V M
  Over : Answer V → M → Settled S V M
  Failed : FaultKind → (file line : ℕ) → Settled S V M
  Broken : Settled S V M

-- a turn leads to a state, or to an outcome in one, or it isn't defined
pub data Result (S V M : Type 0) : Type 0 where
  Goes : State S V M → Result S V M
  Ends : State S V M → Outcome → Result S V M
  Undefined : Result S V M

-- a point is passed
abbrev pub passed : {S V M : Type 0} → State S V M → State S V M
passed s = record s { points = s.points + 1 }

-- this thread goes
abbrev pub runs_on : {S V M : Type 0} → ℕ → State S V M → State S V M
runs_on n s = record s { running = n }

module _ {S V M : Type 0} (L : Language S V M) where
  -- From a move of the newest activation on, over these older ones: where it is left, the next one
  -- is told so and goes on.
  pub data Settles : List S → Move S V M → Settled S V M → Type 0 where
    stands : (rest : List S) (action : Action V) (s : S) (m : M)
        → Settles rest (Acts action s m) (Stands action (s ∷ rest) m)
    over : (answer : Answer V) (m : M) → Settles [] (Leaves answer m) (Over answer m)
    back : (s : S) (rest : List S) (answer : Answer V) (m : M) (move : Move S V M)
        (to : Settled S V M)
        → L.goes s answer m move → Settles rest move to → Settles (s ∷ rest) (Leaves answer m) to
    faults : (rest : List S) (kind : FaultKind) (file line : ℕ)
        → Settles rest (Faults kind file line) (Failed kind file line)
    breaks : (rest : List S) → Settles rest Breaks Broken

  -- ---- the action at a point

  -- a thread is added, with its cell, where the closure can be applied
  abbrev pub forked : State S V M → Thread S V → (cell : V) → Option (Begun S V) → Done S V M
  forked s t cell begun = finding s begun (λ b.
      answers (with_threads s (s.parts.threads ++ Some (beginning cell b) ∷ [])) t
      (Gives (Some cell)))

  -- THE TABLE OF ACTIONS of thread n, which is t. What is made may be made after a collection, so
  -- the thread is looked at again behind it.
  pub data Does (given : Given) (n : ℕ) (t : Thread S V) (s : State S V M)
      : Action V → Done S V M → Type 0 where
    passes : Does given n t s Passes (answers s t (Gives None))
    begins : (procedure : ℕ) (environment : V) (formals : List V) (move : Move S V M)
        → L.enters t.stack procedure environment formals s.parts.memory (Begins move)
        → Does given n t s (Calls procedure environment formals) (Comes_to s t.stack move)
    overflows : (procedure : ℕ) (environment : V) (formals : List V)
        → L.enters t.stack procedure environment formals s.parts.memory Overflows
        → Does given n t s (Calls procedure environment formals) (Stops s outcome.StackFull)
    makes : (new : New V) (v : V) (parts : Parts S V M) (after : Thread S V)
        → L.makes s.parts n new (Some v) parts → thread_at parts.threads n ≡ Some after
        → Does given n t s (Makes new) (answers (with_parts s parts) after (Gives (Some v)))
    finds_no_room : (new : New V) (parts : Parts S V M)
        → L.makes s.parts n new None parts
        → Does given n t s (Makes new) (Stops (with_parts s parts) outcome.HeapFull)
    too_many : (closure : V) → given.threads ≤ living s.parts.threads
        → Does given n t s (Forks closure) (Stops s outcome.ThreadsFull)
    forks : (closure : V) (v : V) (parts : Parts S V M) (after : Thread S V) (moved : V)
        → living s.parts.threads < given.threads
        → L.makes s.parts n (ThreadCell (length s.parts.threads)) (Some v) parts
        → thread_at parts.threads n ≡ Some after → after.action ≡ Forks moved
        → Does given n t s (Forks closure)
        (forked (with_parts s parts) after v (L.begins parts.memory moved))
    finds_no_cell : (closure : V) (parts : Parts S V M)
        → living s.parts.threads < given.threads
        → L.makes s.parts n (ThreadCell (length s.parts.threads)) None parts
        → Does given n t s (Forks closure) (Stops (with_parts s parts) outcome.HeapFull)
    served : (service : Service V)
        → Does given n t s (Serves service) (serves L given n t service s)

  -- ---- a turn

  -- a forked thread is over, and its cell has its result
  abbrev pub result_kept : State S V M → ℕ → Option M → Result S V M
  result_kept s n None = Undefined
  result_kept s n (Some memory) =
      Goes (with_parts s (record { threads = without n s.parts.threads; memory = memory }))

  abbrev pub thread_ended : State S V M → ℕ → Option V → M → Option (Thread S V) → Result S V M
  thread_ended s n None memory t = Undefined
  thread_ended s n (Some v) memory None = Undefined
  thread_ended s n (Some v) memory (Some t) = result_kept s n (L.end_with memory t.cell v)

  -- where the turn of thread n leads: the program is done with its main thread
  abbrev pub settled : State S V M → ℕ → Settled S V M → Result S V M
  settled s n (Stands action stack m) = Goes (with_memory (changing (come_to action stack) n s) m)
  settled s zero (Over (Gives v) m) = Ends (with_memory s m) outcome.Done
  settled s (suc n) (Over (Gives v) m) =
      thread_ended s (suc n) v m (thread_at s.parts.threads (suc n))
  settled s n (Over (Raises exception number tidy) m) =
      Ends (with_memory s m) (outcome.Uncaught exception)
  settled s n (Over (Fails kind) m) = Undefined
  settled s n (Failed kind file line) = Ends s (outcome.Fault kind file line)
  settled s n Broken = Undefined

  -- the rest of a turn, behind the action of thread n
  pub data Finishes (n : ℕ) : Done S V M → Result S V M → Type 0 where
    comes : (s : State S V M) (stack : List S) (move : Move S V M) (to : Settled S V M)
        → Settles stack move to → Finishes n (Comes_to s stack move) (settled s n to)
    rests : (s : State S V M) → Finishes n (Rests s) (Goes s)
    stops : (s : State S V M) (o : Outcome) → Finishes n (Stops s o) (Ends s o)

  -- thread n carries out its action, and goes on up to its next point
  pub data Carries_out (given : Given) (n : ℕ) (s : State S V M) : Result S V M → Type 0 where
    carries_out : (t : Thread S V) (done : Done S V M) (r : Result S V M)
        → thread_at s.parts.threads n ≡ Some t → Does given n t s t.action done → Finishes n done r
        → Carries_out given n s r

  -- the heap is collected where the entry asks for it
  pub data Collected_if (parts : Parts S V M) : Bool → Parts S V M → Type 0 where
    left : Collected_if parts false parts
    made : (after : Parts S V M) → L.collects parts after → Collected_if parts true after

  -- of each thread it is known whether it may go
  abbrev pub IsKnown : State S V M → Bool → Type 0
  IsKnown s known = all_known L s.parts.memory s.parts.threads ≡ known

  -- A TURN. If no thread may go, that is a deadlock; if the points are used up, the run is spent.
  -- Else a point is passed, the heap is collected if the entry says so, and the thread that is
  -- chosen carries out its action.
  pub data Turns (given : Given) (s : State S V M) (entry : Entry) : Result S V M → Type 0 where
    unknown : IsKnown s false → Turns given s entry Undefined
    nobody : IsKnown s true → lowest L s.parts ≡ None
        → Turns given s entry (Ends s outcome.Deadlock)
    spent : (k : ℕ) → IsKnown s true → lowest L s.parts ≡ Some k → given.points ≤ s.points
        → Turns given s entry (Ends s outcome.Spent)
    goes : (k n : ℕ) (parts : Parts S V M) (r : Result S V M)
        → IsKnown s true → lowest L s.parts ≡ Some k → s.points < given.points
        → Collected_if s.parts entry.collect parts → choice L parts entry.to s.running ≡ Some n
        → Carries_out given n (runs_on n (passed (with_parts s parts))) r
        → Turns given s entry r

  -- ---- a run

  -- THE RUN from a state on, under a schedule, after so many turns: each takes one entry, and
  -- after an outcome nothing changes
  pub data Runs (given : Given) : State S V M → List Entry →
      (turns : ℕ) → Result S V M → Type 0 where
    stays : (s : State S V M) (schedule : List Entry) → Runs given s schedule 0 (Goes s)
    turn : (s u : State S V M) (schedule : List Entry) (turns : ℕ) (r : Result S V M)
        → Turns given s (first_entry schedule) (Goes u)
        → Runs given u (later_entries schedule) turns r
        → Runs given s schedule (suc turns) r
    ends : (s u : State S V M) (schedule : List Entry) (turns : ℕ) (o : Outcome)
        → Turns given s (first_entry schedule) (Ends u o)
        → Runs given s schedule (suc turns) (Ends u o)
    breaks_off : (s : State S V M) (schedule : List Entry) (turns : ℕ)
        → Turns given s (first_entry schedule) Undefined
        → Runs given s schedule (suc turns) Undefined
