-- The nodes of the checked tree, whose parts are trees.
use Rattle.m3_core.specs.declared.calls.Actual.{Actual}
use Rattle.m3_core.specs.declared.calls.BuiltinCall.{BuiltinCall}
use Rattle.m3_core.specs.declared.chains.Base.{Base}
use Rattle.m3_core.specs.declared.chains.Chain.{Chain}
use Rattle.m3_core.specs.declared.chains.Step.{Step}
use Rattle.m3_core.specs.declared.exprs.Binding.{Binding}
use Rattle.m3_core.specs.declared.exprs.CoreExpr.{CoreExpr}
use Rattle.m3_core.specs.declared.exprs.FieldValue.{FieldValue}
use Rattle.m3_core.specs.declared.exprs.Operation.{Operation}
use Rattle.m3_core.specs.declared.exprs.SetElement.{SetElement}
use Rattle.m3_core.specs.declared.stmts.Arm.{Arm}
use Rattle.m3_core.specs.declared.stmts.CaseBranch.{CaseBranch}
use Rattle.m3_core.specs.declared.stmts.CoreStmt.{CoreStmt}
use Rattle.m3_core.specs.declared.stmts.Else.{Else}
use Rattle.m3_core.specs.declared.stmts.Handler.{Handler}
use Rattle.m3_core.specs.declared.stmts.TypeBranch.{TypeBranch}

abbrev pub Tree : (Type 0 → Type 0 → Type 0 → Type 0 → Type 0 → Type 0 → Type 0 → Type 0 → Type 0
    → Type 0 → Type 0) → Type 0
Tree Node = Node Actual Base Step CoreExpr SetElement BuiltinCall Chain Binding FieldValue Operation

abbrev pub StatementTree : (Type 0 → Type 0 → Type 0 → Type 0 → Type 0 → Type 0 → Type 0) → Type 0
StatementTree Node = Node CoreStmt Arm CaseBranch Else Handler TypeBranch
