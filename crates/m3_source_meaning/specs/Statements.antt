-- STATEMENTS: one line for each form of the checked tree, from the meanings of its parts. What the
-- words of a line mean is said in Assignment, Blocks, Branches, Loops and Exceptions.
use Rattle.std.specs.Prelude.{List, map}
use Rattle.std.specs.Option.{option_map}
use Rattle.m3_core.specs.declared.exprs.CoreExpr.{CoreExpr}
use Rattle.m3_core.specs.declared.stmts.CoreStmt.{CoreStmt}
use Rattle.m3_core.specs.declared.stmts.CoreStmt.TheFolds as folds
use Rattle.m3_core.specs.declared.stmts.CoreStmt.TheOpen as layer
use Rattle.m3_values.specs.Programs.{Program}
use Rattle.m3_source_meaning.specs.Meanings.{Evaluates, Acts, done, ◌>>=◌}
use Rattle.m3_source_meaning.specs.Phrases.{Here, Expression}
use Rattle.m3_source_meaning.specs.Expressions.{expression, chain, routine}
use Rattle.m3_source_meaning.specs.Assignment.{assignment, change}
use Rattle.m3_source_meaning.specs.Blocks.{in_turn, block, with}
use Rattle.m3_source_meaning.specs.Branches.{Otherwise, Conditional, Labelled, Typed, if_else, case_value, type_case}
use Rattle.m3_source_meaning.specs.Loops.{loop, while, repeat, for, exit_loop}
use Rattle.m3_source_meaning.specs.Exceptions.{Handling, raise, return, try_except, try_finally}

-- a node of the tree whose parts are known by their meanings
abbrev pub Over : (Type 0 → Type 0 → Type 0 → Type 0 → Type 0 → Type 0 → Type 0) → Type 0
Over Node = Node Acts Conditional Labelled Otherwise Handling Typed

module _ (p : Program) (here : Here) where
  -- what was evaluated isn't wanted
  abbrev pub dropped : {A : Type 0} → Evaluates A → Acts
  dropped e = e >>= (λ x. done)

  abbrev pub value : CoreExpr → Expression
  value e = expression p here e

  -- ---- parts of statements

  abbrev pub arm_of : Over layer.Arm-F → Conditional
  arm_of a = record { condition = value a.condition.now; body = in_turn a.body.now }

  abbrev pub branch_of : Over layer.CaseBranch-F → Labelled
  branch_of b = record { ranges = b.ranges.now; body = in_turn b.body.now }

  abbrev pub else_of : Over layer.Else-F → Otherwise
  else_of e = record { is_written = e.is_written; body = in_turn e.body.now }

  abbrev pub handler_of : Over layer.Handler-F → Handling
  handler_of h =
      record { exceptions = h.exceptions.now; variable = h.variable; body = in_turn h.body.now }

  abbrev pub type_branch_of : Over layer.TypeBranch-F → Typed
  type_branch_of b =
      record { types = b.types.now; variable = b.variable; body = in_turn b.body.now }

  -- ---- statements

  abbrev pub statement_of : Over layer.CoreStmt-F → Acts
  statement_of (layer.Assign at target e checks_shape) =
      assignment (chain p here target.now) (value e.now) checks_shape
  statement_of (layer.Call at call) = dropped (chain p here call.now).thing
  statement_of (layer.Builtin at call) = dropped (routine p here call.now).value
  statement_of (layer.Change at is_decrement target amount) =
      change p here is_decrement at (chain p here target.now) (option_map (λ e. value e.now) amount)
  statement_of (layer.Block at variables initial body) =
      block p here variables.now initial.now body.now
  statement_of (layer.Case at e branches otherwise) =
      (value e.now).value >>= case_value at branches.now otherwise
  statement_of (layer.Exit at) = exit_loop
  statement_of (layer.Eval at e) = dropped (value e.now).value
  statement_of (layer.For at variable first last step body) =
      for p here variable (value first.now) (value last.now) (option_map (λ e. value e.now) step)
      (in_turn body.now)
  statement_of (layer.If at arms otherwise) = if_else arms.now otherwise
  statement_of (layer.Loop at body) = loop (in_turn body.now)
  statement_of (layer.Raise at exception argument) =
      raise exception (option_map (λ e. value e.now) argument)
  statement_of (layer.Repeat at body condition) =
      repeat (in_turn body.now) (value condition.now)
  statement_of (layer.Return at e) = return (option_map (λ e. value e.now) e)
  statement_of (layer.TryExcept at body handlers otherwise) =
      try_except p here (in_turn body.now) handlers.now otherwise
  statement_of (layer.TryFinally at body last) =
      try_finally p here (in_turn body.now) (in_turn last.now)
  statement_of (layer.TypeCase at e branches otherwise) =
      (value e.now).value >>= type_case p here at branches.now otherwise
  statement_of (layer.While at condition body) = while (value condition.now) (in_turn body.now)
  statement_of (layer.With at bindings body) = with p here bindings.now (in_turn body.now)

  -- THE MEANING OF A STATEMENT in an activation
  abbrev pub statement : CoreStmt → Acts
  statement = folds.fold-CoreStmt Acts Conditional Labelled Otherwise Handling Typed
      statement_of arm_of branch_of else_of handler_of type_branch_of

  abbrev pub statements : List CoreStmt → Acts
  statements ss = in_turn (map statement ss)
