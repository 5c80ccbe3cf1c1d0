-- The meaning of a tree is that of its root over the meanings of its parts: one equation for each
-- kind of node.
use Rattle.std.proofs.Common.{◌≡◌}
use Rattle.m3_core.specs.declared.calls.Actual.TheFolds as folds
use Rattle.m3_core.specs.declared.calls.Actual.TheOpen as layer
use Rattle.m3_core.specs.declared.calls.Actual.{Actual, roll-Actual}
use Rattle.m3_core.specs.declared.chains.Base.{Base, roll-Base}
use Rattle.m3_core.specs.declared.chains.Step.{Step, roll-Step}
use Rattle.m3_core.specs.declared.exprs.CoreExpr.{CoreExpr, roll-CoreExpr}
use Rattle.m3_core.specs.declared.exprs.SetElement.{SetElement, roll-SetElement}
use Rattle.m3_core.specs.declared.calls.BuiltinCall.{BuiltinCall, roll-BuiltinCall}
use Rattle.m3_core.specs.declared.chains.Chain.{Chain, roll-Chain}
use Rattle.m3_core.specs.declared.exprs.Binding.{Binding, roll-Binding}
use Rattle.m3_core.specs.declared.exprs.FieldValue.{FieldValue, roll-FieldValue}
use Rattle.m3_core.specs.declared.exprs.Operation.{Operation, roll-Operation}
use Rattle.m3_core.specs.declared.stmts.CoreStmt.TheFolds as statement_folds
use Rattle.m3_core.specs.declared.stmts.CoreStmt.TheOpen as statement_layer
use Rattle.m3_core.specs.declared.stmts.CoreStmt.{CoreStmt, roll-CoreStmt}
use Rattle.m3_core.specs.declared.stmts.Arm.{Arm, roll-Arm}
use Rattle.m3_core.specs.declared.stmts.CaseBranch.{CaseBranch, roll-CaseBranch}
use Rattle.m3_core.specs.declared.stmts.Else.{Else, roll-Else}
use Rattle.m3_core.specs.declared.stmts.Handler.{Handler, roll-Handler}
use Rattle.m3_core.specs.declared.stmts.TypeBranch.{TypeBranch, roll-TypeBranch}
use Rattle.m3_values.specs.Programs.{Program}
use Rattle.m3_source_meaning.specs.Trees.{Tree, StatementTree}
use Rattle.m3_source_meaning.specs.Meanings.{Acts}
use Rattle.m3_source_meaning.specs.Phrases.{Here, Expression, Chained, Based, Stepped, Operated, Adding, Valued, Passing, Served}
use Rattle.m3_source_meaning.specs.Branches.{Otherwise, Conditional, Labelled, Typed}
use Rattle.m3_source_meaning.specs.Exceptions.{Handling}
use Rattle.m3_source_meaning.specs.Expressions.{actual_of, base_of, step_of, expression_of, set_element_of, routine_of, chain_of, binding_of, field_of, operation_of, expression, chain, routine}
use Rattle.m3_source_meaning.specs.Statements.{statement_of, arm_of, branch_of, else_of, handler_of, type_branch_of, statement}

module _ (p : Program) (here : Here) where
  abbrev pub actual : Actual → Passing
  actual = folds.fold-Actual Passing Based Stepped Expression Adding Served Chained Valued Valued Operated
      (actual_of p here) (base_of p here) (step_of p here) (expression_of p here) (set_element_of p here) (routine_of p here) (chain_of p here) (binding_of p here) (field_of p here) (operation_of p here)

  abbrev pub base : Base → Based
  base = folds.fold-Base Passing Based Stepped Expression Adding Served Chained Valued Valued Operated
      (actual_of p here) (base_of p here) (step_of p here) (expression_of p here) (set_element_of p here) (routine_of p here) (chain_of p here) (binding_of p here) (field_of p here) (operation_of p here)

  abbrev pub step : Step → Stepped
  step = folds.fold-Step Passing Based Stepped Expression Adding Served Chained Valued Valued Operated
      (actual_of p here) (base_of p here) (step_of p here) (expression_of p here) (set_element_of p here) (routine_of p here) (chain_of p here) (binding_of p here) (field_of p here) (operation_of p here)

  abbrev pub set_element : SetElement → Adding
  set_element = folds.fold-SetElement Passing Based Stepped Expression Adding Served Chained Valued Valued Operated
      (actual_of p here) (base_of p here) (step_of p here) (expression_of p here) (set_element_of p here) (routine_of p here) (chain_of p here) (binding_of p here) (field_of p here) (operation_of p here)

  abbrev pub binding : Binding → Valued
  binding = folds.fold-Binding Passing Based Stepped Expression Adding Served Chained Valued Valued Operated
      (actual_of p here) (base_of p here) (step_of p here) (expression_of p here) (set_element_of p here) (routine_of p here) (chain_of p here) (binding_of p here) (field_of p here) (operation_of p here)

  abbrev pub field : FieldValue → Valued
  field = folds.fold-FieldValue Passing Based Stepped Expression Adding Served Chained Valued Valued Operated
      (actual_of p here) (base_of p here) (step_of p here) (expression_of p here) (set_element_of p here) (routine_of p here) (chain_of p here) (binding_of p here) (field_of p here) (operation_of p here)

  abbrev pub operation : Operation → Operated
  operation = folds.fold-Operation Passing Based Stepped Expression Adding Served Chained Valued Valued Operated
      (actual_of p here) (base_of p here) (step_of p here) (expression_of p here) (set_element_of p here) (routine_of p here) (chain_of p here) (binding_of p here) (field_of p here) (operation_of p here)

  pub actual_is : (node : Tree layer.Actual-F) → actual (roll-Actual node) ≡ actual_of p here
      (folds.map-Actual Actual Base Step CoreExpr SetElement BuiltinCall Chain Binding FieldValue Operation Passing Based Stepped Expression Adding Served Chained Valued Valued Operated actual base step (expression p here) set_element (routine p here) (chain p here) binding field operation node)
  actual_is = folds.fold-roll-Actual Passing Based Stepped Expression Adding Served Chained Valued Valued Operated
      (actual_of p here) (base_of p here) (step_of p here) (expression_of p here) (set_element_of p here) (routine_of p here) (chain_of p here) (binding_of p here) (field_of p here) (operation_of p here)

  pub base_is : (node : Tree layer.Base-F) → base (roll-Base node) ≡ base_of p here
      (folds.map-Base Actual Base Step CoreExpr SetElement BuiltinCall Chain Binding FieldValue Operation Passing Based Stepped Expression Adding Served Chained Valued Valued Operated actual base step (expression p here) set_element (routine p here) (chain p here) binding field operation node)
  base_is = folds.fold-roll-Base Passing Based Stepped Expression Adding Served Chained Valued Valued Operated
      (actual_of p here) (base_of p here) (step_of p here) (expression_of p here) (set_element_of p here) (routine_of p here) (chain_of p here) (binding_of p here) (field_of p here) (operation_of p here)

  pub step_is : (node : Tree layer.Step-F) → step (roll-Step node) ≡ step_of p here
      (folds.map-Step Actual Base Step CoreExpr SetElement BuiltinCall Chain Binding FieldValue Operation Passing Based Stepped Expression Adding Served Chained Valued Valued Operated actual base step (expression p here) set_element (routine p here) (chain p here) binding field operation node)
  step_is = folds.fold-roll-Step Passing Based Stepped Expression Adding Served Chained Valued Valued Operated
      (actual_of p here) (base_of p here) (step_of p here) (expression_of p here) (set_element_of p here) (routine_of p here) (chain_of p here) (binding_of p here) (field_of p here) (operation_of p here)

  pub expression_is : (node : Tree layer.CoreExpr-F) → expression p here (roll-CoreExpr node) ≡ expression_of p here
      (folds.map-CoreExpr Actual Base Step CoreExpr SetElement BuiltinCall Chain Binding FieldValue Operation Passing Based Stepped Expression Adding Served Chained Valued Valued Operated actual base step (expression p here) set_element (routine p here) (chain p here) binding field operation node)
  expression_is = folds.fold-roll-CoreExpr Passing Based Stepped Expression Adding Served Chained Valued Valued Operated
      (actual_of p here) (base_of p here) (step_of p here) (expression_of p here) (set_element_of p here) (routine_of p here) (chain_of p here) (binding_of p here) (field_of p here) (operation_of p here)

  pub set_element_is : (node : Tree layer.SetElement-F) → set_element (roll-SetElement node) ≡ set_element_of p here
      (folds.map-SetElement Actual Base Step CoreExpr SetElement BuiltinCall Chain Binding FieldValue Operation Passing Based Stepped Expression Adding Served Chained Valued Valued Operated actual base step (expression p here) set_element (routine p here) (chain p here) binding field operation node)
  set_element_is = folds.fold-roll-SetElement Passing Based Stepped Expression Adding Served Chained Valued Valued Operated
      (actual_of p here) (base_of p here) (step_of p here) (expression_of p here) (set_element_of p here) (routine_of p here) (chain_of p here) (binding_of p here) (field_of p here) (operation_of p here)

  pub routine_is : (node : Tree layer.BuiltinCall-F) → routine p here (roll-BuiltinCall node) ≡ routine_of p here
      (folds.map-BuiltinCall Actual Base Step CoreExpr SetElement BuiltinCall Chain Binding FieldValue Operation Passing Based Stepped Expression Adding Served Chained Valued Valued Operated actual base step (expression p here) set_element (routine p here) (chain p here) binding field operation node)
  routine_is = folds.fold-roll-BuiltinCall Passing Based Stepped Expression Adding Served Chained Valued Valued Operated
      (actual_of p here) (base_of p here) (step_of p here) (expression_of p here) (set_element_of p here) (routine_of p here) (chain_of p here) (binding_of p here) (field_of p here) (operation_of p here)

  pub chain_is : (node : Tree layer.Chain-F) → chain p here (roll-Chain node) ≡ chain_of p here
      (folds.map-Chain Actual Base Step CoreExpr SetElement BuiltinCall Chain Binding FieldValue Operation Passing Based Stepped Expression Adding Served Chained Valued Valued Operated actual base step (expression p here) set_element (routine p here) (chain p here) binding field operation node)
  chain_is = folds.fold-roll-Chain Passing Based Stepped Expression Adding Served Chained Valued Valued Operated
      (actual_of p here) (base_of p here) (step_of p here) (expression_of p here) (set_element_of p here) (routine_of p here) (chain_of p here) (binding_of p here) (field_of p here) (operation_of p here)

  pub binding_is : (node : Tree layer.Binding-F) → binding (roll-Binding node) ≡ binding_of p here
      (folds.map-Binding Actual Base Step CoreExpr SetElement BuiltinCall Chain Binding FieldValue Operation Passing Based Stepped Expression Adding Served Chained Valued Valued Operated actual base step (expression p here) set_element (routine p here) (chain p here) binding field operation node)
  binding_is = folds.fold-roll-Binding Passing Based Stepped Expression Adding Served Chained Valued Valued Operated
      (actual_of p here) (base_of p here) (step_of p here) (expression_of p here) (set_element_of p here) (routine_of p here) (chain_of p here) (binding_of p here) (field_of p here) (operation_of p here)

  pub field_is : (node : Tree layer.FieldValue-F) → field (roll-FieldValue node) ≡ field_of p here
      (folds.map-FieldValue Actual Base Step CoreExpr SetElement BuiltinCall Chain Binding FieldValue Operation Passing Based Stepped Expression Adding Served Chained Valued Valued Operated actual base step (expression p here) set_element (routine p here) (chain p here) binding field operation node)
  field_is = folds.fold-roll-FieldValue Passing Based Stepped Expression Adding Served Chained Valued Valued Operated
      (actual_of p here) (base_of p here) (step_of p here) (expression_of p here) (set_element_of p here) (routine_of p here) (chain_of p here) (binding_of p here) (field_of p here) (operation_of p here)

  pub operation_is : (node : Tree layer.Operation-F) → operation (roll-Operation node) ≡ operation_of p here
      (folds.map-Operation Actual Base Step CoreExpr SetElement BuiltinCall Chain Binding FieldValue Operation Passing Based Stepped Expression Adding Served Chained Valued Valued Operated actual base step (expression p here) set_element (routine p here) (chain p here) binding field operation node)
  operation_is = folds.fold-roll-Operation Passing Based Stepped Expression Adding Served Chained Valued Valued Operated
      (actual_of p here) (base_of p here) (step_of p here) (expression_of p here) (set_element_of p here) (routine_of p here) (chain_of p here) (binding_of p here) (field_of p here) (operation_of p here)

  abbrev pub arm : Arm → Conditional
  arm = statement_folds.fold-Arm Acts Conditional Labelled Otherwise Handling Typed (statement_of p here) (arm_of p here) (branch_of p here) (else_of p here) (handler_of p here) (type_branch_of p here)

  abbrev pub branch : CaseBranch → Labelled
  branch = statement_folds.fold-CaseBranch Acts Conditional Labelled Otherwise Handling Typed (statement_of p here) (arm_of p here) (branch_of p here) (else_of p here) (handler_of p here) (type_branch_of p here)

  abbrev pub otherwise : Else → Otherwise
  otherwise = statement_folds.fold-Else Acts Conditional Labelled Otherwise Handling Typed (statement_of p here) (arm_of p here) (branch_of p here) (else_of p here) (handler_of p here) (type_branch_of p here)

  abbrev pub handler : Handler → Handling
  handler = statement_folds.fold-Handler Acts Conditional Labelled Otherwise Handling Typed (statement_of p here) (arm_of p here) (branch_of p here) (else_of p here) (handler_of p here) (type_branch_of p here)

  abbrev pub type_branch : TypeBranch → Typed
  type_branch = statement_folds.fold-TypeBranch Acts Conditional Labelled Otherwise Handling Typed (statement_of p here) (arm_of p here) (branch_of p here) (else_of p here) (handler_of p here) (type_branch_of p here)

  pub statement_is : (node : StatementTree statement_layer.CoreStmt-F) → statement p here (roll-CoreStmt node) ≡ statement_of p here
      (statement_folds.map-CoreStmt CoreStmt Arm CaseBranch Else Handler TypeBranch Acts Conditional Labelled Otherwise Handling Typed (statement p here) arm branch otherwise handler type_branch node)
  statement_is = statement_folds.fold-roll-CoreStmt Acts Conditional Labelled Otherwise Handling Typed (statement_of p here) (arm_of p here) (branch_of p here) (else_of p here) (handler_of p here) (type_branch_of p here)

  pub arm_is : (node : StatementTree statement_layer.Arm-F) → arm (roll-Arm node) ≡ arm_of p here
      (statement_folds.map-Arm CoreStmt Arm CaseBranch Else Handler TypeBranch Acts Conditional Labelled Otherwise Handling Typed (statement p here) arm branch otherwise handler type_branch node)
  arm_is = statement_folds.fold-roll-Arm Acts Conditional Labelled Otherwise Handling Typed (statement_of p here) (arm_of p here) (branch_of p here) (else_of p here) (handler_of p here) (type_branch_of p here)

  pub branch_is : (node : StatementTree statement_layer.CaseBranch-F) → branch (roll-CaseBranch node) ≡ branch_of p here
      (statement_folds.map-CaseBranch CoreStmt Arm CaseBranch Else Handler TypeBranch Acts Conditional Labelled Otherwise Handling Typed (statement p here) arm branch otherwise handler type_branch node)
  branch_is = statement_folds.fold-roll-CaseBranch Acts Conditional Labelled Otherwise Handling Typed (statement_of p here) (arm_of p here) (branch_of p here) (else_of p here) (handler_of p here) (type_branch_of p here)

  pub otherwise_is : (node : StatementTree statement_layer.Else-F) → otherwise (roll-Else node) ≡ else_of p here
      (statement_folds.map-Else CoreStmt Arm CaseBranch Else Handler TypeBranch Acts Conditional Labelled Otherwise Handling Typed (statement p here) arm branch otherwise handler type_branch node)
  otherwise_is = statement_folds.fold-roll-Else Acts Conditional Labelled Otherwise Handling Typed (statement_of p here) (arm_of p here) (branch_of p here) (else_of p here) (handler_of p here) (type_branch_of p here)

  pub handler_is : (node : StatementTree statement_layer.Handler-F) → handler (roll-Handler node) ≡ handler_of p here
      (statement_folds.map-Handler CoreStmt Arm CaseBranch Else Handler TypeBranch Acts Conditional Labelled Otherwise Handling Typed (statement p here) arm branch otherwise handler type_branch node)
  handler_is = statement_folds.fold-roll-Handler Acts Conditional Labelled Otherwise Handling Typed (statement_of p here) (arm_of p here) (branch_of p here) (else_of p here) (handler_of p here) (type_branch_of p here)

  pub type_branch_is : (node : StatementTree statement_layer.TypeBranch-F) → type_branch (roll-TypeBranch node) ≡ type_branch_of p here
      (statement_folds.map-TypeBranch CoreStmt Arm CaseBranch Else Handler TypeBranch Acts Conditional Labelled Otherwise Handling Typed (statement p here) arm branch otherwise handler type_branch node)
  type_branch_is = statement_folds.fold-roll-TypeBranch Acts Conditional Labelled Otherwise Handling Typed (statement_of p here) (arm_of p here) (branch_of p here) (else_of p here) (handler_of p here) (type_branch_of p here)
