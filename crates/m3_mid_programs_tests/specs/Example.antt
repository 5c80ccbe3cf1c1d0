-- A program of two procedures: a body calls one with 20, which stores two words, 21 and 20, at the
-- address that the body gives for them, and the body puts the first.
use Rattle.std.specs.Prelude.{◌≡◌, ℕ, pos, ◌+◌, ◌*◌, ◌^◌, ◌==◌, true, false, List, [], ◌∷◌, Some, None}
use Rattle.std.specs.Borrow.{Bor}
use Rattle.std.specs.Fmt.{signed_decimal}
use Rattle.m3_base.specs.declared.outcomes.Outcome.TheVariants.{Done}
use Rattle.m3_base.specs.declared.places.Pos.{Pos}
use Rattle.m3_mid.specs.declared.calls.Actual.TheVariants as actual
use Rattle.m3_mid.specs.declared.calls.Callee.TheVariants.{Outermost}
use Rattle.m3_mid.specs.declared.calls.Service.TheVariants.{PutNumber}
use Rattle.m3_mid.specs.declared.ops.MemoryWord.TheVariants.{Slot, At}
use Rattle.m3_mid.specs.declared.ops.MidOp.{MidOp}
use Rattle.m3_mid.specs.declared.ops.MidOp.TheVariants as op
use Rattle.m3_mid.specs.declared.ops.Operand.TheVariants.{Temp, Number}
use Rattle.m3_mid.specs.declared.ops.WordOperator.TheVariants.{Add}
use Rattle.m3_mid.specs.declared.procs.End.{End}
use Rattle.m3_mid.specs.declared.procs.End.TheVariants.{Return}
use Rattle.m3_mid.specs.declared.procs.Kind.TheVariants as kind
use Rattle.m3_mid.specs.declared.procs.Proc.{Proc}
use Rattle.m3_mid.specs.declared.procs.Slot as slots
use Rattle.m3_runs.specs.States.{Given, State}
use Rattle.m3_runs.specs.Runs.{Ends}
use Rattle.m3_mid_meaning.specs.Memory.{Around}
use Rattle.m3_mid_programs.specs.Linked.{Procedure, Linked}
use Rattle.m3_mid_programs.specs.Values.{Value}
use Rattle.m3_mid_programs.specs.Activations.{Memory, Activity}
use Rattle.m3_mid_programs.specs.Programs.{MidRuns}

abbrev pub to : {A : Type 0} → A → Bor A
to x = record { ref_ptr = (0, 0); now = x }

-- a place by its line
abbrev pub at : ℕ → Pos
at line = record { file = 0; line = line; col = 1 }

abbrev pub returns : End
returns = Return None

abbrev pub shared : slots.Slot
shared = record { kind = kind.Number; is_shared = true }

abbrev pub own : slots.Slot
own = record { kind = kind.Number; is_shared = false }

-- one block, in a frame with such slots, the first ones of which are formals
abbrev pub proc : List slots.Slot → (formals : ℕ) → List MidOp → End → Proc
proc frame formals ops end = record {
  temps = to (kind.Number ∷ kind.Number ∷ kind.Number ∷ kind.Number ∷ []);
  slots = to frame;
  formals = formals;
  blocks = to (record { ops = to ops; end = end } ∷ []);
  start = 0;
  loops = to [];
}

-- ---- the body of the module: slots 0 and 1 are where it wants the result

abbrev pub body_ops : List MidOp
body_ops =
    op.SlotAddress 0 0
    ∷ op.Call (Outermost 1) (to (actual.Word (Number (pos 20)) ∷ actual.Word (Temp 0) ∷ [])) None None (to [])
    ∷ op.Load 1 (Slot 0)
    ∷ op.Service PutNumber (to (Temp 1 ∷ [])) None None (at 7) (to [])
    ∷ []

-- ---- the procedure: slot 0 is its formal, and slot 1 the address for its result

abbrev pub pair_ops : List MidOp
pair_ops =
    op.Load 0 (Slot 0)
    ∷ op.Load 1 (Slot 1)
    ∷ op.Arith 2 Add (Temp 0) (Number (pos 1))
    ∷ op.Store (At 1 (pos 0)) (Temp 2)
    ∷ op.Store (At 1 (pos 1)) (Temp 0)
    ∷ []

-- ---- the program

abbrev pub body : Procedure
body = record {
  code = proc (shared ∷ shared ∷ []) 0 body_ops returns;
  formals = [];
  result = None;
  body = 5;
  frame = 10;
}

abbrev pub pair : Procedure
pair = record {
  code = proc (own ∷ own ∷ []) 2 pair_ops returns;
  formals = 1 ∷ [];
  result = Some 2;
  body = 5;
  frame = 5;
}

abbrev pub around : Around
around = record {
  frame = 0;
  globals = 2 ^ 32;
  texts = λ n. 0;
  constants = λ n. 0;
  constant_words = λ address. None;
  is_below = λ t u. t == u;
  methods = λ t n. None;
  dimensions = λ t. 0;
}

abbrev pub linked_of : List Procedure → Linked
linked_of procedures = record {
  procedures = procedures;
  order = 0 ∷ [];
  around = around;
  cells = λ kind. None;
  kinds = λ cell. None;
  text_cell = 0;
  thread_cell = 1;
  stacks = λ slot. 2 ^ 40 * (slot + 1);
  stack_words = 1024;
  lowest = 3;
  memory = record { words = λ place. None; types = λ place. None };
  alerted = 0;
}

abbrev pub example : Linked
example = linked_of (body ∷ pair ∷ [])

-- it puts 21 in its third turn, and is done
pub record Puts (given : Given) : Type 0 where
  pub state : State Activity Value Memory
  pub runs : MidRuns example given [] 3 (Ends state Done)
  pub output : state.output ≡ signed_decimal (pos 21)

abbrev pub ExamplePuts21 : Type 0
ExamplePuts21 = Puts (record { points = 5; threads = 1; input = [] })
