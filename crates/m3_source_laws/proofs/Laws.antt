-- The laws.
use Rattle.std.proofs.Common.{refl, sym}
use Rattle.m3_runs.proofs.Once.{runs_once}
use Rattle.m3_runs.proofs.Courses as courses
use Rattle.m3_runs.proofs.Growing as growing
use Rattle.m3_source_meaning.specs.Programs.{language, goes_on}
use Rattle.m3_source_meaning.proofs.Determined.{determined}
use Rattle.m3_source_laws.specs.Laws.{HasOneRun, GoesOn, OutputGrows, BudgetEnds, EveryTurnEnds}

-- ---- runs

pub one_run : HasOneRun
one_run p given = runs_once (language p) (determined p) given

pub goes_further : GoesOn
goes_further p given = courses.goes_on (language p) given

pub output_grows : OutputGrows
output_grows p given = growing.output_grows (language p) given

pub budget_ends : BudgetEnds
budget_ends p given = growing.budget_ends (language p) given

pub every_turn_ends : EveryTurnEnds
every_turn_ends p s answer store = record { move = goes_on p s answer store; goes = refl; only = λ other goes. sym goes }
