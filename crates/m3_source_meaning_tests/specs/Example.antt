-- IO.PutInt(1 + 2); IO.PutInt(4 DIV 0)
use Rattle.std.specs.Prelude.{◌≡◌, pos, List, [], ◌∷◌}
use Rattle.std.specs.Fmt.{signed_decimal}
use Rattle.m3_base.specs.declared.outcomes.Outcome.TheVariants.{Fault}
use Rattle.m3_base.specs.declared.outcomes.FaultKind.TheVariants.{DivZero}
use Rattle.m3_core.specs.declared.exprs.Operator.TheVariants.{Plus, Div}
use Rattle.m3_core.specs.declared.stmts.CoreStmt.{CoreStmt}
use Rattle.m3_runs.specs.States.{Given, State, start}
use Rattle.m3_runs.specs.Runs.{Ends, Runs}
use Rattle.m3_values.specs.Programs.{Program}
use Rattle.m3_values.specs.Places.{Thing}
use Rattle.m3_values.specs.Store.{Store}
use Rattle.m3_source_meaning.specs.Programs.{Activity, language}
use Rattle.m3_source_typing.specs.Procedures.{IsProcedure}
use Rattle.m3_source_meaning_tests.specs.Trees.{number, operation, operations, put, program, main_body}

abbrev pub first : CoreStmt
first = put 2 (operations 2 (number 1) (operation Plus 2 (number 2) ∷ []))

abbrev pub second : CoreStmt
second = put 3 (operations 3 (number 4) (operation Div 3 (number 0) ∷ []))

abbrev pub body : List CoreStmt
body = first ∷ second ∷ []

abbrev pub example : Program
example = program body

-- it puts 3, and then faults at the operator of its third line
pub record PutsThree (given : Given) : Type 0 where
  pub state : State Activity Thing Store
  pub runs : Runs (language example) given (start (language example)) [] 2
      (Ends state (Fault DivZero 0 3))
  pub output : state.output ≡ signed_decimal (pos 3)

abbrev pub ExamplePutsThree : Type 0
ExamplePutsThree = PutsThree (record { points = 5; threads = 1; input = [] })

-- its body is well typed
abbrev pub ExampleIsWellTyped : Type 0
ExampleIsWellTyped = (s : Store) → IsProcedure example s 0 (main_body body)
