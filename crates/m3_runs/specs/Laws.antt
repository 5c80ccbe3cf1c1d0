-- Laws of runs.
use Rattle.std.specs.Prelude.{◌≡◌, ◌↔◌, ℕ, ◌+◌, ◌≤◌, ◌<◌, Bool, true, false, List, ◌++◌, length, Option, Some, None}
use Rattle.m3_base.specs.declared.outcomes.Entry.{Entry}
use Rattle.m3_runs.specs.Languages.{Answer, Move, Entered, New, Thread, Parts, Language}
use Rattle.m3_runs.specs.States.{Given, State, thread_at}
use Rattle.m3_runs.specs.Choice.{may_go, lowest, choice}
use Rattle.m3_runs.specs.Services.{Sleeper, sleeps_on_at, place_at, longest_from}
use Rattle.m3_runs.specs.Runs.{Result, Goes, Ends, Undefined, Runs, entries_after}

module _ {S V M : Type 0} (L : Language S V M) where
  -- A language is determined where each activation has one next move, and what is made or
  -- collected leaves one state.
  pub record IsDetermined : Type 0 where
    pub enters : (ss : List S) (p : ℕ) (environment : V) (formals : List V) (m : M)
        (e e' : Entered S V M)
        → L.enters ss p environment formals m e → L.enters ss p environment formals m e' → e ≡ e'
    pub goes : (s : S) (a : Answer V) (m : M) (move move' : Move S V M) → L.goes s a m move
        → L.goes s a m move' → move ≡ move'
    pub made : (parts : Parts S V M) (n : ℕ) (new : New V) (v v' : Option V)
        (after after' : Parts S V M)
        → L.makes parts n new v after → L.makes parts n new v' after' → v ≡ v'
    pub makes : (parts : Parts S V M) (n : ℕ) (new : New V) (v v' : Option V)
        (after after' : Parts S V M)
        → L.makes parts n new v after → L.makes parts n new v' after' → after ≡ after'
    pub collects : (parts after after' : Parts S V M) → L.collects parts after
        → L.collects parts after' → after ≡ after'

  -- ---- who goes

  abbrev pub NoneGoes : Parts S V M → Type 0
  NoneGoes parts = (n : ℕ) → may_go L parts n ≡ false

  -- the entry names a thread that may go
  abbrev pub entry_goes : Parts S V M → Option ℕ → Bool
  entry_goes parts None = false
  entry_goes parts (Some n) = may_go L parts n

  -- thread n may go, and none with a lower number may
  pub record IsLowest (parts : Parts S V M) (n : ℕ) : Type 0 where
    pub goes : may_go L parts n ≡ true
    pub lower : (m : ℕ) → m < n → may_go L parts m ≡ false

  -- the thread that the entry names if it may, else the running one if it may, else the one with
  -- the lowest number of those that may, and none exactly where no thread may go
  pub record IsChoice (parts : Parts S V M) (entry : Option ℕ) (running : ℕ) (chosen : Option ℕ)
      : Type 0 where
    pub named : (n : ℕ) → entry ≡ Some n → may_go L parts n ≡ true → chosen ≡ Some n
    pub stays : entry_goes parts entry ≡ false → may_go L parts running ≡ true
        → chosen ≡ Some running
    pub lowest : entry_goes parts entry ≡ false → may_go L parts running ≡ false → (n : ℕ)
        → chosen ≡ Some n → IsLowest parts n
    pub none : (chosen ≡ None) ↔ NoneGoes parts

  -- The choice is that, and the test before a turn finds nobody exactly where no thread may go.
  pub record ChoosesSo (parts : Parts S V M) (entry : Option ℕ) (running : ℕ) : Type 0 where
    pub chosen : IsChoice parts entry running (choice L parts entry running)
    pub nobody : (lowest L parts ≡ None) ↔ NoneGoes parts

  abbrev pub Chooses : Type 0
  Chooses = (parts : Parts S V M) (entry : Option ℕ) (running : ℕ) → ChoosesSo parts entry running

  -- ---- sleepers

  -- thread n sleeps on a condition, at this place in the queues
  pub record SleepsOn (threads : List (Option (Thread S V))) (condition : V) (n place : ℕ)
      : Type 0 where
    pub thread : Thread S V
    pub there : thread_at threads n ≡ Some thread
    pub sleeps : sleeps_on_at L condition thread.status ≡ true
    pub placed : place_at L thread.status ≡ place

  -- that one sleeps there, and nobody who does has a lower place; or nobody sleeps there
  abbrev pub SleepsLongest : List (Option (Thread S V)) → V → Option Sleeper → Type 0
  SleepsLongest threads condition None = (n place : ℕ) → SleepsOn threads condition n place → ⊥
  SleepsLongest threads condition (Some sleeper) =
      SleepsOn threads condition sleeper.number sleeper.place
      × ((n place : ℕ) → SleepsOn threads condition n place → sleeper.place ≤ place)

  -- A Signal wakes that one.
  abbrev pub WakesLongest : Type 0
  WakesLongest = (threads : List (Option (Thread S V))) (condition : V)
      → SleepsLongest threads condition (longest_from L condition 0 threads)

  -- ---- runs

  module _ (given : Given) where
    -- A run of a determined language is one.
    abbrev pub HasOneRun : Type 0
    HasOneRun =
        (s : State S V M) (schedule : List Entry) (turns : ℕ) (r r' : Result S V M) →
        Runs L given s schedule turns r → Runs L given s schedule turns r' → r ≡ r'

    -- what follows a result, by so many turns of a schedule
    abbrev pub RunsFrom : Result S V M → List Entry → ℕ → Result S V M → Type 0
    RunsFrom (Goes u) schedule turns r = Runs L given u schedule turns r
    RunsFrom (Ends u o) schedule turns r = r ≡ Ends u o
    RunsFrom Undefined schedule turns r = r ≡ Undefined

    pub record GoesThrough (s : State S V M) (schedule : List Entry) (turns more : ℕ)
        (r : Result S V M) : Type 0 where
      pub middle : Result S V M
      pub first : Runs L given s schedule turns middle
      pub rest : RunsFrom middle (entries_after turns schedule) more r

    -- A run of more turns goes on from where a run of fewer turns came, with the entries that are
    -- left then; and what ended stays so: AN OUTCOME IS FINAL.
    abbrev pub GoesOn : Type 0
    GoesOn =
        (s : State S V M) (schedule : List Entry) (turns more : ℕ) (r : Result S V M) →
        Runs L given s schedule (turns + more) r ↔ GoesThrough s schedule turns more r

    -- Entries behind those that the turns take change nothing.
    abbrev pub IgnoresLaterEntries : Type 0
    IgnoresLaterEntries =
        (s : State S V M) (schedule later : List Entry) (turns : ℕ) (r : Result S V M) →
        turns ≤ length schedule →
        Runs L given s schedule turns r ↔ Runs L given s (schedule ++ later) turns r

    -- what a result has put, where it is defined
    abbrev pub PutsMore : List ℕ → Result S V M → Type 0
    PutsMore before (Goes u) = (bytes : List ℕ) × (u.output ≡ before ++ bytes)
    PutsMore before (Ends u o) = (bytes : List ℕ) × (u.output ≡ before ++ bytes)
    PutsMore before Undefined = Unit {0}

    -- The output only grows, at its end.
    abbrev pub OutputGrows : Type 0
    OutputGrows =
        (s : State S V M) (schedule : List Entry) (turns : ℕ) (r : Result S V M) →
        Runs L given s schedule turns r → PutsMore s.output r

    -- Each turn passes one point, and no run that goes on has passed more than it may: THE BUDGET
    -- ENDS EVERY RUN.
    pub record WithinBudget (s u : State S V M) (turns : ℕ) : Type 0 where
      pub counted : u.points ≡ s.points + turns
      pub within : u.points ≤ given.points

    abbrev pub BudgetEnds : Type 0
    BudgetEnds =
        (s u : State S V M) (schedule : List Entry) (turns : ℕ) → s.points ≤ given.points →
        Runs L given s schedule turns (Goes u) → WithinBudget s u turns
