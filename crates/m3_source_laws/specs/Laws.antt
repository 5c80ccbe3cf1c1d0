-- What the run of a checked program keeps to, whatever the program.
use Rattle.std.specs.Prelude.{◌≡◌}
use Rattle.m3_runs.specs.Languages.{Answer}
use Rattle.m3_runs.specs.States.{Given}
use Rattle.m3_runs.specs.Laws as law
use Rattle.m3_values.specs.Programs.{Program}
use Rattle.m3_values.specs.Places.{Thing}
use Rattle.m3_values.specs.Store.{Store}
use Rattle.m3_source_meaning.specs.Programs.{Activity, Moves, language}

-- ---- runs

abbrev pub HasOneRun : Type 0
HasOneRun = (p : Program) (given : Given) → law.HasOneRun (language p) given

abbrev pub GoesOn : Type 0
GoesOn = (p : Program) (given : Given) → law.GoesOn (language p) given

abbrev pub OutputGrows : Type 0
OutputGrows = (p : Program) (given : Given) → law.OutputGrows (language p) given

abbrev pub BudgetEnds : Type 0
BudgetEnds = (p : Program) (given : Given) → law.BudgetEnds (language p) given

-- an activation has one next move, whatever it is told
pub record HasOneMove (p : Program) (s : Activity) (answer : Answer Thing) (store : Store)
    : Type 0 where
  pub move : Moves
  pub goes : (language p).goes s answer store move
  pub only : (other : Moves) → (language p).goes s answer store other → other ≡ move

-- EVERY TURN ENDS, and in one way
abbrev pub EveryTurnEnds : Type 0
EveryTurnEnds =
    (p : Program) (s : Activity) (answer : Answer Thing) (store : Store) →
    HasOneMove p s answer store
