-- A body calls a procedure inside it, which finds 37 in the body's frame and raises an exception with
-- that argument. The body puts the argument, and which exception it was.
use Rattle.std.specs.Prelude.{◌≡◌, pos, List, [], ◌∷◌, ◌++◌, Some, None}
use Rattle.std.specs.Fmt.{signed_decimal}
use Rattle.m3_base.specs.declared.outcomes.Outcome.TheVariants.{Done}
use Rattle.m3_mid.specs.declared.calls.Callee.TheVariants.{Inner}
use Rattle.m3_mid.specs.declared.calls.Service.TheVariants.{PutNumber}
use Rattle.m3_mid.specs.declared.ops.MemoryWord.TheVariants.{Slot, Environment, At}
use Rattle.m3_mid.specs.declared.ops.MidOp.{MidOp}
use Rattle.m3_mid.specs.declared.ops.MidOp.TheVariants as op
use Rattle.m3_mid.specs.declared.ops.Operand.TheVariants.{Temp, Number}
use Rattle.m3_mid.specs.declared.procs.End.TheVariants.{Raise}
use Rattle.m3_runs.specs.States.{Given, State}
use Rattle.m3_runs.specs.Runs.{Ends}
use Rattle.m3_mid_programs.specs.Linked.{Procedure}
use Rattle.m3_mid_programs.specs.Values.{Value}
use Rattle.m3_mid_programs.specs.Activations.{Memory, Activity}
use Rattle.m3_mid_programs.specs.Programs.{MidRuns}
use Rattle.m3_mid_programs_tests.specs.Example.{to, at, shared, proc, returns, linked_of}

-- the exception in temporary 1, its argument as a number in 2 and as a reference in 3
abbrev pub handling_ops : List MidOp
handling_ops =
    op.Store (Slot 0) (Number (pos 37))
    ∷ op.FrameAddress 0
    ∷ op.Call (Inner 1 0) (to []) None (Some (record { exception = 1; number = 2; tidy = 3 })) (to [])
    ∷ op.Service PutNumber (to (Temp 2 ∷ [])) None None (at 5) (to [])
    ∷ op.Service PutNumber (to (Temp 1 ∷ [])) None None (at 6) (to [])
    ∷ []

abbrev pub handling : Procedure
handling = record {
  code = proc (shared ∷ []) 0 handling_ops returns;
  formals = [];
  result = None;
  body = 4;
  frame = 7;
}

-- slot 0 of the frame around is its word 3
abbrev pub raising_ops : List MidOp
raising_ops = op.Load 0 Environment ∷ op.Load 1 (At 0 (pos 3)) ∷ []

abbrev pub raising : Procedure
raising = record {
  code = proc [] 0 raising_ops (Raise (Number (pos 5)) (Temp 1) (Number (pos 0)));
  formals = [];
  result = None;
  body = 3;
  frame = 3;
}

-- it puts the argument in its third turn and the exception in its fourth, and is done
pub record PutsBoth (given : Given) : Type 0 where
  pub state : State Activity Value Memory
  pub runs : MidRuns (linked_of (handling ∷ raising ∷ [])) given [] 4 (Ends state Done)
  pub output : state.output ≡ signed_decimal (pos 37) ++ signed_decimal (pos 5)

abbrev pub ExamplePutsRaised : Type 0
ExamplePutsRaised = PutsBoth (record { points = 9; threads = 1; input = [] })
