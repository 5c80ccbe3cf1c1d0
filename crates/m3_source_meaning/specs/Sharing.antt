-- WHICH VARIABLES ARE SHARED: those that somebody else than their activation can reach. A place of
-- a variable gets out where it is passed as an actual, or where WITH binds a name to it, which may
-- pass it on; and a procedure inside the variable's own reaches the variable by its name. Nothing
-- else makes a place of a variable known to others: no reference leads to one, and no place is a
-- value. So no other activation reads or writes a variable of which none of this is so.
use Rattle.std.specs.Prelude.{ℕ, suc, ◌==◌, ◌&&◌, ◌||◌, not, Bool, true, false, List, [], ◌∷◌, ◌++◌, length, map, Option, Some, None, nat_lt}
use Rattle.std.specs.Option.{option_map_or, option_and_then}
use Rattle.std.specs.List.{list_any, filter, range_with_len}
use Rattle.m3_core.specs.declared.calls.Actual.TheFolds as expression_folds
use Rattle.m3_core.specs.declared.calls.Actual.TheOpen as layer
use Rattle.m3_core.specs.declared.calls.BuiltinCall.{BuiltinCall}
use Rattle.m3_core.specs.declared.chains.Chain.{Chain}
use Rattle.m3_core.specs.declared.exprs.CoreExpr.{CoreExpr}
use Rattle.m3_core.specs.declared.program.ProcDef.{ProcDef}
use Rattle.m3_core.specs.declared.stmts.Bound.{Bound}
use Rattle.m3_core.specs.declared.stmts.Bound.TheVariants as bind
use Rattle.m3_core.specs.declared.stmts.WithBinding.{WithBinding}
use Rattle.m3_core.specs.declared.stmts.CoreStmt.{CoreStmt}
use Rattle.m3_core.specs.declared.stmts.CoreStmt.TheFolds as statement_folds
use Rattle.m3_core.specs.declared.stmts.CoreStmt.TheOpen as statement
use Rattle.m3_values.specs.Programs.{Program, procedure_at}

-- a name of a variable of the procedure at a level, and whether a place of it gets out
pub record Use : Type 0 where
  pub level : ℕ
  pub variable : ℕ
  pub gets_out : Bool

abbrev pub Uses : Type 0
Uses = List Use

-- the names in a chain, and the variable of which it is a place, if it is one of a procedure
pub record Named : Type 0 where
  pub uses : Uses
  pub root : Option Use

abbrev pub all_of : List Uses → Uses
all_of [] = []
all_of (us ∷ uses) = us ++ all_of uses

abbrev pub use_of : (level variable : ℕ) → Use
use_of level x = record { level = level; variable = x; gets_out = false }

-- its place gets out
abbrev pub out_of : Option Use → Uses
out_of None = []
out_of (Some u) = record u { gets_out = true } ∷ []

abbrev pub taken : Named → Uses
taken n = n.uses ++ out_of n.root

-- ---- expressions

abbrev pub Over : (Type 0 → Type 0 → Type 0 → Type 0 → Type 0 → Type 0 → Type 0 → Type 0 → Type 0
    → Type 0 → Type 0) → Type 0
Over Node = Node Uses Named Uses Uses Uses Uses Named Uses Uses Uses

abbrev pub actual_uses : Over layer.Actual-F → Uses
actual_uses (layer.Actual::Value formal kind e) = e.now
actual_uses (layer.Place formal kind place checks_shape) = taken place.now

abbrev pub base_uses : Over layer.Base-F → Named
base_uses (layer.Global x kind) = record { uses = []; root = None }
base_uses (layer.Local level x kind) =
    record { uses = use_of level x ∷ []; root = Some (use_of level x) }
base_uses (layer.Alias level x kind) = record { uses = use_of level x ∷ []; root = None }
base_uses (layer.Inner chain) = chain.now
base_uses (layer.Subarray array start count kind) =
    record { uses = array.now.uses ++ start.now ++ count.now; root = array.now.root }
base_uses (layer.Base::Value e) = record { uses = e.now; root = None }

abbrev pub step_uses : Over layer.Step-F → Uses
step_uses (layer.Element index kind) = index.now
step_uses (layer.Call actuals kind) = all_of actuals.now
step_uses (layer.MethodCall owner method actuals kind) = all_of actuals.now
step_uses _ = []

abbrev pub chain_uses : Over layer.Chain-F → Named
chain_uses c = record c.base { uses = c.base.uses ++ all_of c.steps.now }

abbrev pub element_uses : Over layer.SetElement-F → Uses
element_uses (layer.One e) = e.now
element_uses (layer.Range first last) = first.now ++ last.now

abbrev pub call_uses : Over layer.BuiltinCall-F → Uses
call_uses c = all_of c.actuals.now

abbrev pub binding_uses : Over layer.Binding-F → Uses
binding_uses b = b.value.now

abbrev pub field_uses : Over layer.FieldValue-F → Uses
field_uses f = f.value.now

abbrev pub operation_uses : Over layer.Operation-F → Uses
operation_uses o = o.right.now

abbrev pub expression_uses : Over layer.CoreExpr-F → Uses
expression_uses (layer.Chain chain) = chain.now.uses
expression_uses (layer.Builtin call) = call.now
expression_uses (layer.Prefixed at kind operators operand) = operand.now
expression_uses (layer.Operations at first rest) = first.now ++ all_of rest.now
expression_uses (layer.SetOf at kind elements) = all_of elements.now
expression_uses (layer.ArrayOf at kind elements is_filled) = all_of elements.now
expression_uses (layer.RecordOf at kind fields) = all_of fields.now
expression_uses (layer.New at kind made sizes bindings) = all_of sizes.now ++ all_of bindings.now
expression_uses (layer.Convert at kind check operand) = operand.now
expression_uses (layer.TypeTest at kind operand tested) = operand.now
expression_uses (layer.ArrayLimit at kind limit array) = array.now.uses
expression_uses _ = []

abbrev pub in_expression : CoreExpr → Uses
in_expression = expression_folds.fold-CoreExpr Uses Named Uses Uses Uses Uses Named Uses Uses Uses
    actual_uses base_uses step_uses expression_uses element_uses call_uses chain_uses
    binding_uses field_uses operation_uses

abbrev pub in_chain : Chain → Named
in_chain = expression_folds.fold-Chain Uses Named Uses Uses Uses Uses Named Uses Uses Uses
    actual_uses base_uses step_uses expression_uses element_uses call_uses chain_uses
    binding_uses field_uses operation_uses

abbrev pub in_call : BuiltinCall → Uses
in_call = expression_folds.fold-BuiltinCall Uses Named Uses Uses Uses Uses Named Uses Uses Uses
    actual_uses base_uses step_uses expression_uses element_uses call_uses chain_uses
    binding_uses field_uses operation_uses

-- ---- statements

abbrev pub OverStatement : (Type 0 → Type 0 → Type 0 → Type 0 → Type 0 → Type 0 → Type 0) → Type 0
OverStatement Node = Node Uses Uses Uses Uses Uses Uses

abbrev pub arm_uses : OverStatement statement.Arm-F → Uses
arm_uses a = in_expression a.condition.now ++ all_of a.body.now

abbrev pub branch_uses : OverStatement statement.CaseBranch-F → Uses
branch_uses b = all_of b.body.now

abbrev pub else_uses : OverStatement statement.Else-F → Uses
else_uses e = all_of e.body.now

abbrev pub handler_uses : OverStatement statement.Handler-F → Uses
handler_uses h = all_of h.body.now

abbrev pub type_branch_uses : OverStatement statement.TypeBranch-F → Uses
type_branch_uses b = all_of b.body.now

abbrev pub bound_uses : Bound → Uses
bound_uses (bind.Place c) = taken (in_chain c.now)
bound_uses (bind.Value e) = in_expression e.now

abbrev pub in_bindings : List WithBinding → Uses
in_bindings bs = all_of (map (λ (b : WithBinding). bound_uses b.bound) bs)

abbrev pub statement_uses : OverStatement statement.CoreStmt-F → Uses
statement_uses (statement.Assign at target e checks_shape) =
    (in_chain target.now).uses ++ in_expression e.now
statement_uses (statement.Call at call) = (in_chain call.now).uses
statement_uses (statement.Builtin at call) = in_call call.now
statement_uses (statement.Change at is_decrement target amount) =
    (in_chain target.now).uses ++ option_map_or (λ e. in_expression e.now) amount []
statement_uses (statement.Block at variables initial body) = all_of initial.now ++ all_of body.now
statement_uses (statement.Case at e branches otherwise) =
    in_expression e.now ++ all_of branches.now ++ otherwise
statement_uses (statement.Exit at) = []
statement_uses (statement.Eval at e) = in_expression e.now
statement_uses (statement.For at variable first last step body) =
    in_expression first.now ++ in_expression last.now
    ++ option_map_or (λ e. in_expression e.now) step [] ++ all_of body.now
statement_uses (statement.If at arms otherwise) = all_of arms.now ++ otherwise
statement_uses (statement.Loop at body) = all_of body.now
statement_uses (statement.Raise at exception argument) =
    option_map_or (λ e. in_expression e.now) argument []
statement_uses (statement.Repeat at body condition) =
    all_of body.now ++ in_expression condition.now
statement_uses (statement.Return at e) = option_map_or (λ e. in_expression e.now) e []
statement_uses (statement.TryExcept at body handlers otherwise) =
    all_of body.now ++ all_of handlers.now ++ otherwise
statement_uses (statement.TryFinally at body last) = all_of body.now ++ all_of last.now
statement_uses (statement.TypeCase at e branches otherwise) =
    in_expression e.now ++ all_of branches.now ++ otherwise
statement_uses (statement.While at condition body) =
    in_expression condition.now ++ all_of body.now
statement_uses (statement.With at bindings body) = in_bindings bindings.now ++ all_of body.now

abbrev pub in_statement : CoreStmt → Uses
in_statement = statement_folds.fold-CoreStmt Uses Uses Uses Uses Uses Uses
    statement_uses arm_uses branch_uses else_uses handler_uses type_branch_uses

abbrev pub in_body : ProcDef → Uses
in_body q = all_of (map in_statement q.body.now)

-- ---- procedures

module _ (p : Program) where
  abbrev pub level_of : ℕ → ℕ
  level_of q = option_map_or (λ (d : ProcDef). d.level) (procedure_at p q) 0

  abbrev pub outer_of : ℕ → Option ℕ
  outer_of q = option_and_then (λ (d : ProcDef). d.outer) (procedure_at p q)

  -- the procedure at a level around another one, or that one itself
  abbrev pub owner_to : (limit : ℕ) → (procedure level : ℕ) → Option ℕ
  owner_to ℕ.zero q level = None
  owner_to (suc limit) q level = elim (nat_lt level (level_of q)) [
    | true ↦ option_and_then (λ o. owner_to limit o level) (outer_of q)
    | false ↦ Some q
  ]

  abbrev pub is_owner : (procedure : ℕ) → Option ℕ → Bool
  is_owner q None = false
  is_owner q (Some o) = o == q

  -- in the body of `inside` this shares the variable x of the procedure q
  abbrev pub shares_in : (q x inside : ℕ) → Use → Bool
  shares_in q x inside u =
      (u.variable == x) && (u.gets_out || not (u.level == level_of inside))
      && is_owner q (owner_to (length p.procedures) inside u.level)

  abbrev pub body_shares : (q x inside : ℕ) → Bool
  body_shares q x inside =
      list_any (shares_in q x inside) (option_map_or in_body (procedure_at p inside) [])

  -- THE VARIABLE IS SHARED
  abbrev pub is_shared : (procedure variable : ℕ) → Bool
  is_shared q x = list_any (body_shares q x) (range_with_len 0 (length p.procedures))

  abbrev pub variable_count : ℕ → ℕ
  variable_count q =
      option_map_or (λ (d : ProcDef). length (d.formals.now ++ d.locals.now)) (procedure_at p q) 0

  -- all variables of a procedure that are
  abbrev pub shared_by : ℕ → List ℕ
  shared_by q = filter (is_shared q) (range_with_len 0 (variable_count q))
