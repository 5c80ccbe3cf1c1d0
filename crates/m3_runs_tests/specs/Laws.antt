-- What the runs of both languages keep to, and that they are the same.
use Rattle.std.specs.Prelude.{ℕ, List}
use Rattle.m3_base.specs.declared.outcomes.Entry.{Entry}
use Rattle.m3_runs.specs.States.{Given, start}
use Rattle.m3_runs.specs.Runs.{Result, Runs}
use Rattle.m3_runs.specs.Follows.{anything, Shows}
use Rattle.m3_runs.specs.Answers.{Answers, ShownTheSame}
use Rattle.m3_runs.specs.Laws as law
use Rattle.m3_runs_tests.specs.Code.{Code}
use Rattle.m3_runs_tests.specs.Meaning.{Tagged, Activation}
use Rattle.m3_runs_tests.specs.Named.{Named_state, named}
use Rattle.m3_runs_tests.specs.Moving as moving
use Rattle.m3_runs_tests.specs.Moving.{Moving_state, Machine, moving}
use Rattle.m3_runs_tests.specs.Sound.{Sound, World, standing, room}

abbrev pub MovingResult : Type 0
MovingResult = Result (Activation moving.Frame) (Tagged ℕ) moving.Memory

-- THE THEOREM: what a run over moving cells does, the run over named cells does, under every
-- schedule of switches and collections.
abbrev pub MovesUnseen : Type 0
MovesUnseen =
    (c : Code) (k : Machine) (given : Given) → Sound c k.places k.limit →
    (w : World c k.places k.limit) (s : Named_state) (s' : Moving_state) →
    (schedule : List Entry) (turns : ℕ) (r' : MovingResult) →
    Shows (standing c k.places k.limit) w s s' → Runs (moving c k) given s' schedule turns r' →
    Answers (standing c k.places k.limit) (named c k.limit) (moving c k)
    (room c k.places k.limit k.depth) given s schedule turns r'

-- The same of a program from its start.
abbrev pub ProgramsMoveUnseen : Type 0
ProgramsMoveUnseen =
    (c : Code) (k : Machine) (given : Given) → Sound c k.places k.limit →
    (schedule : List Entry) (turns : ℕ) (r' : MovingResult) →
    Runs (moving c k) given (start (moving c k)) schedule turns r' →
    Answers (standing c k.places k.limit) (named c k.limit) (moving c k)
    (room c k.places k.limit k.depth) given
    (start (named c k.limit)) schedule turns r'

-- States that show one another show the same variables.
abbrev pub ShowsTheSame : Type 0
ShowsTheSame = (c : Code) (k : Machine) → Sound c k.places k.limit
    → ShownTheSame (standing c k.places k.limit) (named c k.limit) (moving c k) anything anything

abbrev pub Chooses : Type 0
Chooses = (c : Code) (k : Machine) → law.Chooses (named c k.limit) × law.Chooses (moving c k)

abbrev pub WakesLongest : Type 0
WakesLongest = (c : Code) (k : Machine)
    → law.WakesLongest (named c k.limit) × law.WakesLongest (moving c k)

abbrev pub HasOneRun : Type 0
HasOneRun = (c : Code) (limit : ℕ) (given : Given) → law.HasOneRun (named c limit) given

abbrev pub GoesOn : Type 0
GoesOn = (c : Code) (k : Machine) (given : Given)
    → law.GoesOn (named c k.limit) given × law.GoesOn (moving c k) given

abbrev pub IgnoresLaterEntries : Type 0
IgnoresLaterEntries = (c : Code) (k : Machine) (given : Given)
    → law.IgnoresLaterEntries (named c k.limit) given × law.IgnoresLaterEntries (moving c k) given

abbrev pub OutputGrows : Type 0
OutputGrows = (c : Code) (k : Machine) (given : Given)
    → law.OutputGrows (named c k.limit) given × law.OutputGrows (moving c k) given

abbrev pub BudgetEnds : Type 0
BudgetEnds = (c : Code) (k : Machine) (given : Given)
    → law.BudgetEnds (named c k.limit) given × law.BudgetEnds (moving c k) given
