-- The uses of variables in a tree are those of its root over the uses in its parts: one equation
-- for each kind of node.
use Rattle.std.proofs.Common.{◌≡◌}
use Rattle.m3_core.specs.declared.calls.Actual.TheFolds as folds
use Rattle.m3_core.specs.declared.calls.Actual.TheOpen as layer
use Rattle.m3_core.specs.declared.calls.Actual.{Actual, roll-Actual}
use Rattle.m3_core.specs.declared.chains.Base.{Base, roll-Base}
use Rattle.m3_core.specs.declared.chains.Step.{Step, roll-Step}
use Rattle.m3_core.specs.declared.exprs.CoreExpr.{CoreExpr, roll-CoreExpr}
use Rattle.m3_core.specs.declared.exprs.SetElement.{SetElement, roll-SetElement}
use Rattle.m3_core.specs.declared.calls.BuiltinCall.{BuiltinCall, roll-BuiltinCall}
use Rattle.m3_core.specs.declared.chains.Chain.{Chain, roll-Chain}
use Rattle.m3_core.specs.declared.exprs.Binding.{Binding, roll-Binding}
use Rattle.m3_core.specs.declared.exprs.FieldValue.{FieldValue, roll-FieldValue}
use Rattle.m3_core.specs.declared.exprs.Operation.{Operation, roll-Operation}
use Rattle.m3_core.specs.declared.stmts.CoreStmt.TheFolds as statement_folds
use Rattle.m3_core.specs.declared.stmts.CoreStmt.TheOpen as statement_layer
use Rattle.m3_core.specs.declared.stmts.CoreStmt.{CoreStmt, roll-CoreStmt}
use Rattle.m3_core.specs.declared.stmts.Arm.{Arm, roll-Arm}
use Rattle.m3_core.specs.declared.stmts.CaseBranch.{CaseBranch, roll-CaseBranch}
use Rattle.m3_core.specs.declared.stmts.Else.{Else, roll-Else}
use Rattle.m3_core.specs.declared.stmts.Handler.{Handler, roll-Handler}
use Rattle.m3_core.specs.declared.stmts.TypeBranch.{TypeBranch, roll-TypeBranch}
use Rattle.m3_source_meaning.specs.Trees.{Tree, StatementTree}
use Rattle.m3_source_meaning.specs.Sharing as sharing
use Rattle.m3_source_meaning.specs.Sharing.{Uses, Named, actual_uses, base_uses, step_uses, expression_uses, element_uses, call_uses, chain_uses, binding_uses, field_uses, operation_uses, in_expression, in_chain, in_call, statement_uses, arm_uses, branch_uses, else_uses, handler_uses, type_branch_uses, in_statement}

abbrev pub actual : Actual → Uses
actual = folds.fold-Actual Uses Named Uses Uses Uses Uses Named Uses Uses Uses
    actual_uses base_uses step_uses expression_uses element_uses call_uses chain_uses binding_uses field_uses operation_uses

abbrev pub base : Base → Named
base = folds.fold-Base Uses Named Uses Uses Uses Uses Named Uses Uses Uses
    actual_uses base_uses step_uses expression_uses element_uses call_uses chain_uses binding_uses field_uses operation_uses

abbrev pub step : Step → Uses
step = folds.fold-Step Uses Named Uses Uses Uses Uses Named Uses Uses Uses
    actual_uses base_uses step_uses expression_uses element_uses call_uses chain_uses binding_uses field_uses operation_uses

abbrev pub set_element : SetElement → Uses
set_element = folds.fold-SetElement Uses Named Uses Uses Uses Uses Named Uses Uses Uses
    actual_uses base_uses step_uses expression_uses element_uses call_uses chain_uses binding_uses field_uses operation_uses

abbrev pub binding : Binding → Uses
binding = folds.fold-Binding Uses Named Uses Uses Uses Uses Named Uses Uses Uses
    actual_uses base_uses step_uses expression_uses element_uses call_uses chain_uses binding_uses field_uses operation_uses

abbrev pub field : FieldValue → Uses
field = folds.fold-FieldValue Uses Named Uses Uses Uses Uses Named Uses Uses Uses
    actual_uses base_uses step_uses expression_uses element_uses call_uses chain_uses binding_uses field_uses operation_uses

abbrev pub operation : Operation → Uses
operation = folds.fold-Operation Uses Named Uses Uses Uses Uses Named Uses Uses Uses
    actual_uses base_uses step_uses expression_uses element_uses call_uses chain_uses binding_uses field_uses operation_uses

-- a node with the uses in its parts
abbrev pub over_actual : Tree layer.Actual-F → sharing.Over layer.Actual-F
over_actual node = folds.map-Actual Actual Base Step CoreExpr SetElement BuiltinCall Chain Binding FieldValue Operation Uses Named Uses Uses Uses Uses Named Uses Uses Uses actual base step in_expression set_element in_call in_chain binding field operation node

pub actual_is : (node : Tree layer.Actual-F) → actual (roll-Actual node) ≡ actual_uses (over_actual node)
actual_is = folds.fold-roll-Actual Uses Named Uses Uses Uses Uses Named Uses Uses Uses
    actual_uses base_uses step_uses expression_uses element_uses call_uses chain_uses binding_uses field_uses operation_uses

-- a node with the uses in its parts
abbrev pub over_base : Tree layer.Base-F → sharing.Over layer.Base-F
over_base node = folds.map-Base Actual Base Step CoreExpr SetElement BuiltinCall Chain Binding FieldValue Operation Uses Named Uses Uses Uses Uses Named Uses Uses Uses actual base step in_expression set_element in_call in_chain binding field operation node

pub base_is : (node : Tree layer.Base-F) → base (roll-Base node) ≡ base_uses (over_base node)
base_is = folds.fold-roll-Base Uses Named Uses Uses Uses Uses Named Uses Uses Uses
    actual_uses base_uses step_uses expression_uses element_uses call_uses chain_uses binding_uses field_uses operation_uses

-- a node with the uses in its parts
abbrev pub over_step : Tree layer.Step-F → sharing.Over layer.Step-F
over_step node = folds.map-Step Actual Base Step CoreExpr SetElement BuiltinCall Chain Binding FieldValue Operation Uses Named Uses Uses Uses Uses Named Uses Uses Uses actual base step in_expression set_element in_call in_chain binding field operation node

pub step_is : (node : Tree layer.Step-F) → step (roll-Step node) ≡ step_uses (over_step node)
step_is = folds.fold-roll-Step Uses Named Uses Uses Uses Uses Named Uses Uses Uses
    actual_uses base_uses step_uses expression_uses element_uses call_uses chain_uses binding_uses field_uses operation_uses

-- a node with the uses in its parts
abbrev pub over_expression : Tree layer.CoreExpr-F → sharing.Over layer.CoreExpr-F
over_expression node = folds.map-CoreExpr Actual Base Step CoreExpr SetElement BuiltinCall Chain Binding FieldValue Operation Uses Named Uses Uses Uses Uses Named Uses Uses Uses actual base step in_expression set_element in_call in_chain binding field operation node

pub expression_is : (node : Tree layer.CoreExpr-F) → in_expression (roll-CoreExpr node) ≡ expression_uses (over_expression node)
expression_is = folds.fold-roll-CoreExpr Uses Named Uses Uses Uses Uses Named Uses Uses Uses
    actual_uses base_uses step_uses expression_uses element_uses call_uses chain_uses binding_uses field_uses operation_uses

-- a node with the uses in its parts
abbrev pub over_set_element : Tree layer.SetElement-F → sharing.Over layer.SetElement-F
over_set_element node = folds.map-SetElement Actual Base Step CoreExpr SetElement BuiltinCall Chain Binding FieldValue Operation Uses Named Uses Uses Uses Uses Named Uses Uses Uses actual base step in_expression set_element in_call in_chain binding field operation node

pub set_element_is : (node : Tree layer.SetElement-F) → set_element (roll-SetElement node) ≡ element_uses (over_set_element node)
set_element_is = folds.fold-roll-SetElement Uses Named Uses Uses Uses Uses Named Uses Uses Uses
    actual_uses base_uses step_uses expression_uses element_uses call_uses chain_uses binding_uses field_uses operation_uses

-- a node with the uses in its parts
abbrev pub over_call : Tree layer.BuiltinCall-F → sharing.Over layer.BuiltinCall-F
over_call node = folds.map-BuiltinCall Actual Base Step CoreExpr SetElement BuiltinCall Chain Binding FieldValue Operation Uses Named Uses Uses Uses Uses Named Uses Uses Uses actual base step in_expression set_element in_call in_chain binding field operation node

pub call_is : (node : Tree layer.BuiltinCall-F) → in_call (roll-BuiltinCall node) ≡ call_uses (over_call node)
call_is = folds.fold-roll-BuiltinCall Uses Named Uses Uses Uses Uses Named Uses Uses Uses
    actual_uses base_uses step_uses expression_uses element_uses call_uses chain_uses binding_uses field_uses operation_uses

-- a node with the uses in its parts
abbrev pub over_chain : Tree layer.Chain-F → sharing.Over layer.Chain-F
over_chain node = folds.map-Chain Actual Base Step CoreExpr SetElement BuiltinCall Chain Binding FieldValue Operation Uses Named Uses Uses Uses Uses Named Uses Uses Uses actual base step in_expression set_element in_call in_chain binding field operation node

pub chain_is : (node : Tree layer.Chain-F) → in_chain (roll-Chain node) ≡ chain_uses (over_chain node)
chain_is = folds.fold-roll-Chain Uses Named Uses Uses Uses Uses Named Uses Uses Uses
    actual_uses base_uses step_uses expression_uses element_uses call_uses chain_uses binding_uses field_uses operation_uses

-- a node with the uses in its parts
abbrev pub over_binding : Tree layer.Binding-F → sharing.Over layer.Binding-F
over_binding node = folds.map-Binding Actual Base Step CoreExpr SetElement BuiltinCall Chain Binding FieldValue Operation Uses Named Uses Uses Uses Uses Named Uses Uses Uses actual base step in_expression set_element in_call in_chain binding field operation node

pub binding_is : (node : Tree layer.Binding-F) → binding (roll-Binding node) ≡ binding_uses (over_binding node)
binding_is = folds.fold-roll-Binding Uses Named Uses Uses Uses Uses Named Uses Uses Uses
    actual_uses base_uses step_uses expression_uses element_uses call_uses chain_uses binding_uses field_uses operation_uses

-- a node with the uses in its parts
abbrev pub over_field : Tree layer.FieldValue-F → sharing.Over layer.FieldValue-F
over_field node = folds.map-FieldValue Actual Base Step CoreExpr SetElement BuiltinCall Chain Binding FieldValue Operation Uses Named Uses Uses Uses Uses Named Uses Uses Uses actual base step in_expression set_element in_call in_chain binding field operation node

pub field_is : (node : Tree layer.FieldValue-F) → field (roll-FieldValue node) ≡ field_uses (over_field node)
field_is = folds.fold-roll-FieldValue Uses Named Uses Uses Uses Uses Named Uses Uses Uses
    actual_uses base_uses step_uses expression_uses element_uses call_uses chain_uses binding_uses field_uses operation_uses

-- a node with the uses in its parts
abbrev pub over_operation : Tree layer.Operation-F → sharing.Over layer.Operation-F
over_operation node = folds.map-Operation Actual Base Step CoreExpr SetElement BuiltinCall Chain Binding FieldValue Operation Uses Named Uses Uses Uses Uses Named Uses Uses Uses actual base step in_expression set_element in_call in_chain binding field operation node

pub operation_is : (node : Tree layer.Operation-F) → operation (roll-Operation node) ≡ operation_uses (over_operation node)
operation_is = folds.fold-roll-Operation Uses Named Uses Uses Uses Uses Named Uses Uses Uses
    actual_uses base_uses step_uses expression_uses element_uses call_uses chain_uses binding_uses field_uses operation_uses

abbrev pub arm : Arm → Uses
arm = statement_folds.fold-Arm Uses Uses Uses Uses Uses Uses
    statement_uses arm_uses branch_uses else_uses handler_uses type_branch_uses

abbrev pub branch : CaseBranch → Uses
branch = statement_folds.fold-CaseBranch Uses Uses Uses Uses Uses Uses
    statement_uses arm_uses branch_uses else_uses handler_uses type_branch_uses

abbrev pub otherwise : Else → Uses
otherwise = statement_folds.fold-Else Uses Uses Uses Uses Uses Uses
    statement_uses arm_uses branch_uses else_uses handler_uses type_branch_uses

abbrev pub handler : Handler → Uses
handler = statement_folds.fold-Handler Uses Uses Uses Uses Uses Uses
    statement_uses arm_uses branch_uses else_uses handler_uses type_branch_uses

abbrev pub type_branch : TypeBranch → Uses
type_branch = statement_folds.fold-TypeBranch Uses Uses Uses Uses Uses Uses
    statement_uses arm_uses branch_uses else_uses handler_uses type_branch_uses

abbrev pub over_statement : StatementTree statement_layer.CoreStmt-F → sharing.OverStatement statement_layer.CoreStmt-F
over_statement node = statement_folds.map-CoreStmt CoreStmt Arm CaseBranch Else Handler TypeBranch Uses Uses Uses Uses Uses Uses in_statement arm branch otherwise handler type_branch node

pub statement_is : (node : StatementTree statement_layer.CoreStmt-F) → in_statement (roll-CoreStmt node) ≡ statement_uses (over_statement node)
statement_is = statement_folds.fold-roll-CoreStmt Uses Uses Uses Uses Uses Uses
    statement_uses arm_uses branch_uses else_uses handler_uses type_branch_uses

abbrev pub over_arm : StatementTree statement_layer.Arm-F → sharing.OverStatement statement_layer.Arm-F
over_arm node = statement_folds.map-Arm CoreStmt Arm CaseBranch Else Handler TypeBranch Uses Uses Uses Uses Uses Uses in_statement arm branch otherwise handler type_branch node

pub arm_is : (node : StatementTree statement_layer.Arm-F) → arm (roll-Arm node) ≡ arm_uses (over_arm node)
arm_is = statement_folds.fold-roll-Arm Uses Uses Uses Uses Uses Uses
    statement_uses arm_uses branch_uses else_uses handler_uses type_branch_uses

abbrev pub over_branch : StatementTree statement_layer.CaseBranch-F → sharing.OverStatement statement_layer.CaseBranch-F
over_branch node = statement_folds.map-CaseBranch CoreStmt Arm CaseBranch Else Handler TypeBranch Uses Uses Uses Uses Uses Uses in_statement arm branch otherwise handler type_branch node

pub branch_is : (node : StatementTree statement_layer.CaseBranch-F) → branch (roll-CaseBranch node) ≡ branch_uses (over_branch node)
branch_is = statement_folds.fold-roll-CaseBranch Uses Uses Uses Uses Uses Uses
    statement_uses arm_uses branch_uses else_uses handler_uses type_branch_uses

abbrev pub over_otherwise : StatementTree statement_layer.Else-F → sharing.OverStatement statement_layer.Else-F
over_otherwise node = statement_folds.map-Else CoreStmt Arm CaseBranch Else Handler TypeBranch Uses Uses Uses Uses Uses Uses in_statement arm branch otherwise handler type_branch node

pub otherwise_is : (node : StatementTree statement_layer.Else-F) → otherwise (roll-Else node) ≡ else_uses (over_otherwise node)
otherwise_is = statement_folds.fold-roll-Else Uses Uses Uses Uses Uses Uses
    statement_uses arm_uses branch_uses else_uses handler_uses type_branch_uses

abbrev pub over_handler : StatementTree statement_layer.Handler-F → sharing.OverStatement statement_layer.Handler-F
over_handler node = statement_folds.map-Handler CoreStmt Arm CaseBranch Else Handler TypeBranch Uses Uses Uses Uses Uses Uses in_statement arm branch otherwise handler type_branch node

pub handler_is : (node : StatementTree statement_layer.Handler-F) → handler (roll-Handler node) ≡ handler_uses (over_handler node)
handler_is = statement_folds.fold-roll-Handler Uses Uses Uses Uses Uses Uses
    statement_uses arm_uses branch_uses else_uses handler_uses type_branch_uses

abbrev pub over_type_branch : StatementTree statement_layer.TypeBranch-F → sharing.OverStatement statement_layer.TypeBranch-F
over_type_branch node = statement_folds.map-TypeBranch CoreStmt Arm CaseBranch Else Handler TypeBranch Uses Uses Uses Uses Uses Uses in_statement arm branch otherwise handler type_branch node

pub type_branch_is : (node : StatementTree statement_layer.TypeBranch-F) → type_branch (roll-TypeBranch node) ≡ type_branch_uses (over_type_branch node)
type_branch_is = statement_folds.fold-roll-TypeBranch Uses Uses Uses Uses Uses Uses
    statement_uses arm_uses branch_uses else_uses handler_uses type_branch_uses
