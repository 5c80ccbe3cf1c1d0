-- A body makes the texts of two bytes and the text of both, and puts that one.
use Rattle.std.specs.Prelude.{◌≡◌, pos, List, [], ◌∷◌, Some, None}
use Rattle.m3_base.specs.declared.outcomes.Outcome.TheVariants.{Done}
use Rattle.m3_mid.specs.declared.calls.Service.TheVariants.{ByteText, Concatenate, Put}
use Rattle.m3_mid.specs.declared.ops.MidOp.{MidOp}
use Rattle.m3_mid.specs.declared.ops.MidOp.TheVariants as op
use Rattle.m3_mid.specs.declared.ops.Operand.TheVariants.{Temp, Number}
use Rattle.m3_runs.specs.States.{Given, State}
use Rattle.m3_runs.specs.Runs.{Ends}
use Rattle.m3_mid_programs.specs.Linked.{Procedure}
use Rattle.m3_mid_programs.specs.Values.{Value}
use Rattle.m3_mid_programs.specs.Activations.{Memory, Activity}
use Rattle.m3_mid_programs.specs.Programs.{MidRuns}
use Rattle.m3_mid_programs_tests.specs.Example.{to, at, proc, returns, linked_of}

abbrev pub spelling_ops : List MidOp
spelling_ops =
    op.Service ByteText (to (Number (pos 72) ∷ [])) (Some 0) None (at 2) (to [])
    ∷ op.Service ByteText (to (Number (pos 105) ∷ [])) (Some 1) None (at 3) (to [])
    ∷ op.Service Concatenate (to (Temp 0 ∷ Temp 1 ∷ [])) (Some 2) None (at 4) (to [])
    ∷ op.Service Put (to (Temp 2 ∷ [])) None None (at 5) (to [])
    ∷ []

abbrev pub spelling : Procedure
spelling = record {
  code = proc [] 0 spelling_ops returns;
  formals = [];
  result = None;
  body = 3;
  frame = 3;
}

-- it puts both bytes in its fifth turn, and is done
pub record PutsBytes (given : Given) : Type 0 where
  pub state : State Activity Value Memory
  pub runs : MidRuns (linked_of (spelling ∷ [])) given [] 5 (Ends state Done)
  pub output : state.output ≡ 72 ∷ 105 ∷ []

abbrev pub ExamplePutsText : Type 0
ExamplePutsText = PutsBytes (record { points = 9; threads = 1; input = [] })
