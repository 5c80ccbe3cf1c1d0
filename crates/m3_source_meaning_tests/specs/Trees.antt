-- Trees written by hand.
use Rattle.std.specs.Prelude.{ℕ, pos, true, List, [], ◌∷◌, None}
use Rattle.std.specs.Borrow.{Bor}
use Rattle.m3_base.specs.declared.places.Pos.{Pos}
use Rattle.m3_types.specs.declared.nodes.TypeId.{TypeId}
use Rattle.m3_types.specs.declared.nodes.Raises.TheVariants.{Any}
use Rattle.m3_types.specs.declared.nodes.TypeNode.TheVariants as node
use Rattle.m3_core.specs.declared.calls.Actual.TheOpen as layer
use Rattle.m3_core.specs.declared.calls.BuiltinCall.{BuiltinCall, roll-BuiltinCall}
use Rattle.m3_core.specs.declared.calls.Routine.TheVariants as routine
use Rattle.m3_core.specs.declared.exprs.CoreExpr.{CoreExpr, roll-CoreExpr}
use Rattle.m3_core.specs.declared.exprs.Operation.{Operation, roll-Operation}
use Rattle.m3_core.specs.declared.exprs.Operator.{Operator}
use Rattle.m3_core.specs.declared.program.ProcDef.{ProcDef}
use Rattle.m3_core.specs.declared.stmts.CoreStmt.{CoreStmt, roll-CoreStmt}
use Rattle.m3_core.specs.declared.stmts.CoreStmt.TheOpen as statement
use Rattle.m3_values.specs.Programs.{Program}
use Rattle.m3_source_meaning.specs.Trees.{Tree, StatementTree}

abbrev pub to : {A : Type 0} → A → Bor A
to x = record { ref_ptr = (0, 0); now = x }

-- a place by its line
abbrev pub at : ℕ → Pos
at line = record { file = 0; line = line; col = 1 }

abbrev pub integer : TypeId
integer = record { 0 = 0 }

-- ---- nodes

abbrev pub number_node : ℕ → Tree layer.CoreExpr-F
number_node n = layer.Number (at 1) integer (pos n)

abbrev pub number : ℕ → CoreExpr
number n = roll-CoreExpr (number_node n)

abbrev pub operation_node : Operator → (line : ℕ) → CoreExpr → Tree layer.Operation-F
operation_node operator line right =
    record { operator = operator; pos = at line; right = to right; kind = integer }

abbrev pub operation : Operator → (line : ℕ) → CoreExpr → Operation
operation operator line right = roll-Operation (operation_node operator line right)

abbrev pub operations_node : (line : ℕ) → CoreExpr → List Operation → Tree layer.CoreExpr-F
operations_node line first rest = layer.Operations (at line) (to first) (to rest)

abbrev pub operations : (line : ℕ) → CoreExpr → List Operation → CoreExpr
operations line first rest = roll-CoreExpr (operations_node line first rest)

abbrev pub put_node : (line : ℕ) → CoreExpr → Tree layer.BuiltinCall-F
put_node line e = record {
  pos = at line;
  routine = routine.PutInt;
  actuals = to (e ∷ []);
  order = to (0 ∷ []);
  kind = None;
}

abbrev pub put_call : (line : ℕ) → CoreExpr → BuiltinCall
put_call line e = roll-BuiltinCall (put_node line e)

abbrev pub builtin_node : (line : ℕ) → BuiltinCall → StatementTree statement.CoreStmt-F
builtin_node line call = statement.Builtin (at line) (to call)

-- IO.PutInt(e)
abbrev pub put : (line : ℕ) → CoreExpr → CoreStmt
put line e = roll-CoreStmt (builtin_node line (put_call line e))

-- ---- programs

abbrev pub main_body : List CoreStmt → ProcDef
main_body body = record {
  name = to [];
  unit = 0;
  kind = record { 0 = 1 };
  formals = to [];
  result = None;
  raises = None;
  locals = to [];
  level = 0;
  outer = None;
  body = to body;
  pos = at 1;
  name_pos = at 1;
  end = at 9;
  is_module = true;
}

-- a program of one module body
abbrev pub program : List CoreStmt → Program
program body = record {
  nodes = node.Integer ∷ node.Procedure (to []) None Any ∷ [];
  reveals = [];
  procedures = main_body body ∷ [];
  globals = [];
  exceptions = [];
  texts = [];
  constants = [];
  order = 0 ∷ [];
  alerted = 0;
}
