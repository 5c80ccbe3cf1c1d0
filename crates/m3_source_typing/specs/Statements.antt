-- WELL TYPED STATEMENTS: one rule for each form of the checked tree that has one yet.
use Rattle.std.specs.Prelude.{◌≡◌, ◌==◌, ◌<◌, ℕ, Bool, true, false, List, [], ◌∷◌, Option, Some, None}
use Rattle.std.specs.Borrow.{Bor}
use Rattle.m3_base.specs.declared.places.Pos.{Pos}
use Rattle.m3_types.specs.declared.nodes.TypeId.{TypeId}
use Rattle.m3_core.specs.declared.calls.BuiltinCall.{BuiltinCall}
use Rattle.m3_core.specs.declared.chains.Base.{Base}
use Rattle.m3_core.specs.declared.chains.Chain.{Chain, roll-Chain}
use Rattle.m3_core.specs.declared.chains.Step.{Step}
use Rattle.m3_core.specs.declared.exprs.CoreExpr.{CoreExpr}
use Rattle.m3_core.specs.declared.program.VarDef.{VarDef}
use Rattle.m3_core.specs.declared.stmts.Arm.{Arm, roll-Arm}
use Rattle.m3_core.specs.declared.stmts.Bound.TheVariants as bind
use Rattle.m3_core.specs.declared.stmts.CaseBranch.{CaseBranch, roll-CaseBranch}
use Rattle.m3_core.specs.declared.stmts.CoreStmt.{CoreStmt, roll-CoreStmt}
use Rattle.m3_core.specs.declared.stmts.CoreStmt.TheOpen as statement
use Rattle.m3_core.specs.declared.stmts.Else.{Else, roll-Else}
use Rattle.m3_core.specs.declared.stmts.Handler.{Handler, roll-Handler}
use Rattle.m3_core.specs.declared.stmts.LabelRange.{LabelRange}
use Rattle.m3_core.specs.declared.stmts.TypeBranch.{TypeBranch, roll-TypeBranch}
use Rattle.m3_core.specs.declared.stmts.WithBinding.{WithBinding}
use Rattle.m3_values.specs.Programs.{Program}
use Rattle.m3_values.specs.Constants.{default_of}
use Rattle.m3_values.specs.Store.{Store}
use Rattle.m3_source_meaning.specs.Phrases.{Here}
use Rattle.m3_source_meaning.specs.Designators.{is_shared_here}
use Rattle.m3_source_meaning.specs.Assignment.{declared, type_of_variable}
use Rattle.m3_source_meaning.specs.Travelling.{argument_type}
use Rattle.m3_source_typing.specs.ValueTypes.{class_of, HasType, HasFixedSizes}
use Rattle.m3_source_typing.specs.Sound.{Owned, Alias, Scope, Leaving}
use Rattle.m3_source_typing.specs.Operators.{is_ordinal, is_references, is_truth}
use Rattle.m3_source_typing.specs.Expressions.{Given, PlaceOf, IsRoutine, IsChain, IsExpression}

-- the same, inside a loop
abbrev pub inside : Leaving → Leaving
inside a = record a { in_loop = true }

-- the same, where one variable more is made
abbrev pub and_kind : (x t : ℕ) → Owned → Owned
and_kind x t own =
    record own { kind = λ y. elim (x == y) [ true ↦ Some t | false ↦ own.kind y ] }

abbrev pub and_variable : (x t : ℕ) → Scope → Scope
and_variable x t own = record own { holds = and_kind x t own.holds }

-- the same, where one name more stands for a place
abbrev pub and_name : (x : ℕ) → Alias → Scope → Scope
and_name x a own =
    record own { names = λ y. elim (x == y) [ true ↦ Some a | false ↦ own.names y ] }

-- what is assigned has the shape of the variable: its type says that, or the shape is checked
abbrev pub IsChecked : Program → (checks_shape : Bool) → ℕ → Type 0
IsChecked p true t = Unit {0}
IsChecked p false t = HasFixedSizes p t

-- the amount of INC or DEC, or the step of FOR
abbrev pub IsAmount : Program → Here → Scope → Option (Bor CoreExpr) → Type 0
IsAmount p here own None = Unit {0}
IsAmount p here own (Some e) =
    (t : ℕ) × IsExpression p here own e.now t × (is_ordinal p t ≡ true)

-- the argument of RAISE or the value of RETURN, where there is to be one
abbrev pub IsOptional : Program → Here → Scope → Option (Bor CoreExpr) → Option ℕ → Type 0
IsOptional p here own None None = Unit {0}
IsOptional p here own (Some e) (Some t) = IsExpression p here own e.now t
IsOptional p here own _ _ = ⊥

-- each of these exceptions has an argument of the type
abbrev pub HaveArgument : Program → List ℕ → ℕ → Type 0
HaveArgument p [] t = Unit {0}
HaveArgument p (e ∷ es) t = (argument_type p e ≡ Some t) × HaveArgument p es t

-- the variable of a branch of a TYPECASE has the type of the branch, or of the expression where the
-- branch has several
abbrev pub branch_type : (expression_type : ℕ) → List TypeId → ℕ
branch_type t (only ∷ []) = only.0
branch_type t _ = t

abbrev pub AreReferences : Program → List TypeId → Type 0
AreReferences p [] = Unit {0}
AreReferences p (t ∷ ts) = (is_references (class_of p t.0) ≡ true) × AreReferences p ts

-- what a variable holds that is made without an initial value is one of its type
abbrev pub HasDefault : Program → ℕ → Type 0
HasDefault p t = (s : Store) → HasType p s (default_of p t) t

-- A variable or a name that a phrase makes is one of its procedure, which nobody else can reach and
-- which isn't made yet.
pub record IsNew (p : Program) (here : Here) (own : Scope) (x : ℕ) : Type 0 where
  pub within : x < own.holds.count
  pub alone : is_shared_here p here x ≡ false
  pub unmade : own.holds.kind x ≡ None
  pub unnamed : own.names x ≡ None

-- variables that are made with their defaults, and what is made then
pub data AreMade (p : Program) (here : Here) : Scope → List ℕ → Scope → Type 0 where
  none_made : (own : Scope) → AreMade p here own [] own
  one_made : (own inner : Scope) (x : ℕ) (v : VarDef) (xs : List ℕ)
      → declared p here x ≡ Some v → IsNew p here own x → HasDefault p (type_of_variable v.kind)
      → AreMade p here (and_variable x (type_of_variable v.kind) own) xs inner
      → AreMade p here own (x ∷ xs) inner

-- the names of a WITH, which stand for new variables that hold values, or for places, and what is
-- made then
pub data AreBound (p : Program) (here : Here) : Scope → List WithBinding → Scope → Type 0 where
  none_bound : (own : Scope) → AreBound p here own [] own
  value_bound : (own inner : Scope) (x : ℕ) (e : Bor CoreExpr) (t : ℕ) (bs : List WithBinding)
      → IsExpression p here own e.now t → IsNew p here own x
      → AreBound p here (and_variable x t own) bs inner
      → AreBound p here own (record { variable = x; bound = bind.Value e } ∷ bs) inner
  place_bound : (own inner : Scope) (x : ℕ) (c : Bor Chain) (b : Bool) (t : ℕ)
      (bs : List WithBinding) → IsChain p here own c.now (PlaceOf b t) → IsNew p here own x
      → AreBound p here
      (and_name x (record { known = own.holds; is_variable = b; kind = t }) own) bs inner
      → AreBound p here own (record { variable = x; bound = bind.Place c } ∷ bs) inner

-- in an activation of whose own variables these are made, and have these types
module _ (p : Program) (here : Here) where
  mutual
    -- THE STATEMENT IS WELL TYPED, where it may be left so
    pub data IsStatement : Scope → Leaving → CoreStmt → Type 0 where
      assign : (own : Scope) (a : Leaving) (at : Pos) (target : Bor Chain) (e : Bor CoreExpr)
          (checks_shape : Bool) (t : ℕ) → IsChain p here own target.now (PlaceOf true t)
          → IsExpression p here own e.now t → IsChecked p checks_shape t
          → IsStatement own a (roll-CoreStmt (statement.Assign at target e checks_shape))
      -- INC and DEC, of a variable whose type the chain names
      change : (own : Scope) (a : Leaving) (at : Pos) (is_decrement : Bool) (begins : Pos)
          (base : Base) (row : Bor (List Step)) (kind : TypeId) (target : Bor Chain)
          (e : Option (Bor CoreExpr))
          → target.now
          ≡ roll-Chain (record { pos = begins; base = base; steps = row; kind = Some kind })
          → IsChain p here own target.now (PlaceOf true kind.0) → is_ordinal p kind.0 ≡ true
          → IsAmount p here own e
          → IsStatement own a (roll-CoreStmt (statement.Change at is_decrement target e))
      evaluate : (own : Scope) (a : Leaving) (at : Pos) (e : Bor CoreExpr) (t : ℕ)
          → IsExpression p here own e.now t
          → IsStatement own a (roll-CoreStmt (statement.Eval at e))
      -- a call as a statement; what it gives isn't wanted
      call : (own : Scope) (a : Leaving) (at : Pos) (c : Bor Chain) (g : Given)
          → IsChain p here own c.now g → IsStatement own a (roll-CoreStmt (statement.Call at c))
      -- the call of a routine
      builtin : (own : Scope) (a : Leaving) (at : Pos) (c : Bor BuiltinCall) (t : Option ℕ)
          → IsRoutine p here own c.now t
          → IsStatement own a (roll-CoreStmt (statement.Builtin at c))
      exit : (own : Scope) (a : Leaving) (at : Pos) → a.in_loop ≡ true
          → IsStatement own a (roll-CoreStmt (statement.Exit at))
      block : (own inner : Scope) (a : Leaving) (at : Pos) (variables : Bor (List ℕ))
          (initial body : Bor (List CoreStmt)) → AreMade p here own variables.now inner
          → AreStatements inner a initial.now → AreStatements inner a body.now
          → IsStatement own a (roll-CoreStmt (statement.Block at variables initial body))
      with : (own inner : Scope) (a : Leaving) (at : Pos) (bindings : Bor (List WithBinding))
          (body : Bor (List CoreStmt)) → AreBound p here own bindings.now inner
          → AreStatements inner a body.now
          → IsStatement own a (roll-CoreStmt (statement.With at bindings body))
      conditional : (own : Scope) (a : Leaving) (at : Pos) (arms : Bor (List Arm))
          (otherwise : Else) → AreArms own a arms.now → IsElse own a otherwise
          → IsStatement own a (roll-CoreStmt (statement.If at arms otherwise))
      -- which labels there are doesn't matter for this: a number without one is a fault
      case : (own : Scope) (a : Leaving) (at : Pos) (e : Bor CoreExpr)
          (branches : Bor (List CaseBranch)) (otherwise : Else) (t : ℕ)
          → IsExpression p here own e.now t → is_ordinal p t ≡ true
          → AreBranches own a branches.now → IsElse own a otherwise
          → IsStatement own a (roll-CoreStmt (statement.Case at e branches otherwise))
      type_case : (own : Scope) (a : Leaving) (at : Pos) (e : Bor CoreExpr)
          (branches : Bor (List TypeBranch)) (otherwise : Else) (t : ℕ)
          → IsExpression p here own e.now t → is_references (class_of p t) ≡ true
          → AreTypeBranches own a t branches.now → IsElse own a otherwise
          → IsStatement own a (roll-CoreStmt (statement.TypeCase at e branches otherwise))
      loop : (own : Scope) (a : Leaving) (at : Pos) (body : Bor (List CoreStmt))
          → AreStatements own (inside a) body.now
          → IsStatement own a (roll-CoreStmt (statement.Loop at body))
      while : (own : Scope) (a : Leaving) (at : Pos) (condition : Bor CoreExpr)
          (body : Bor (List CoreStmt)) (t : ℕ) → IsExpression p here own condition.now t
          → is_truth p t ≡ true → AreStatements own (inside a) body.now
          → IsStatement own a (roll-CoreStmt (statement.While at condition body))
      repeat : (own : Scope) (a : Leaving) (at : Pos) (body : Bor (List CoreStmt))
          (condition : Bor CoreExpr) (t : ℕ) → AreStatements own (inside a) body.now
          → IsExpression p here own condition.now t → is_truth p t ≡ true
          → IsStatement own a (roll-CoreStmt (statement.Repeat at body condition))
      -- FOR: the variable has the type of the first value and the last one
      count : (own : Scope) (a : Leaving) (at : Pos) (x : ℕ) (first last : Bor CoreExpr)
          (step : Option (Bor CoreExpr)) (body : Bor (List CoreStmt)) (t : ℕ)
          → IsExpression p here own first.now t → IsExpression p here own last.now t
          → is_ordinal p t ≡ true → IsAmount p here own step → IsNew p here own x
          → AreStatements (and_variable x t own) (inside a) body.now
          → IsStatement own a (roll-CoreStmt (statement.For at x first last step body))
      raise : (own : Scope) (a : Leaving) (at : Pos) (exception : ℕ) (e : Option (Bor CoreExpr))
          → IsOptional p here own e (argument_type p exception)
          → IsStatement own a (roll-CoreStmt (statement.Raise at exception e))
      return : (own : Scope) (a : Leaving) (at : Pos) (e : Option (Bor CoreExpr))
          → IsOptional p here own e a.result
          → IsStatement own a (roll-CoreStmt (statement.Return at e))
      except : (own : Scope) (a : Leaving) (at : Pos) (body : Bor (List CoreStmt))
          (handlers : Bor (List Handler)) (otherwise : Else) → AreStatements own a body.now
          → AreHandlers own a handlers.now → IsElse own a otherwise
          → IsStatement own a (roll-CoreStmt (statement.TryExcept at body handlers otherwise))
      finally : (own : Scope) (a : Leaving) (at : Pos) (body last : Bor (List CoreStmt))
          → AreStatements own a body.now → AreStatements own a last.now
          → IsStatement own a (roll-CoreStmt (statement.TryFinally at body last))

    pub data AreStatements : Scope → Leaving → List CoreStmt → Type 0 where
      no_statements : (own : Scope) (a : Leaving) → AreStatements own a []
      one_statement : (own : Scope) (a : Leaving) (s : CoreStmt) (ss : List CoreStmt)
          → IsStatement own a s → AreStatements own a ss → AreStatements own a (s ∷ ss)

    -- conditions with their statements
    pub data AreArms : Scope → Leaving → List Arm → Type 0 where
      no_arms : (own : Scope) (a : Leaving) → AreArms own a []
      one_arm : (own : Scope) (a : Leaving) (condition : Bor CoreExpr)
          (body : Bor (List CoreStmt)) (arms : List Arm) (t : ℕ)
          → IsExpression p here own condition.now t → is_truth p t ≡ true
          → AreStatements own a body.now → AreArms own a arms
          → AreArms own a (roll-Arm (record { condition = condition; body = body }) ∷ arms)

    pub data IsElse : Scope → Leaving → Else → Type 0 where
      otherwise : (own : Scope) (a : Leaving) (is_written : Bool) (body : Bor (List CoreStmt))
          → AreStatements own a body.now
          → IsElse own a (roll-Else (record { is_written = is_written; body = body }))

    pub data AreBranches : Scope → Leaving → List CaseBranch → Type 0 where
      no_branches : (own : Scope) (a : Leaving) → AreBranches own a []
      one_branch : (own : Scope) (a : Leaving) (ranges : Bor (List LabelRange))
          (body : Bor (List CoreStmt)) (bs : List CaseBranch) → AreStatements own a body.now
          → AreBranches own a bs
          → AreBranches own a (roll-CaseBranch (record { ranges = ranges; body = body }) ∷ bs)

    -- branches of a TYPECASE whose expression has a type
    pub data AreTypeBranches : Scope → Leaving → ℕ → List TypeBranch → Type 0 where
      no_types : (own : Scope) (a : Leaving) (t : ℕ) → AreTypeBranches own a t []
      types : (own : Scope) (a : Leaving) (t : ℕ) (ts : Bor (List TypeId))
          (body : Bor (List CoreStmt)) (bs : List TypeBranch) → AreReferences p ts.now
          → AreStatements own a body.now → AreTypeBranches own a t bs
          → AreTypeBranches own a t
          (roll-TypeBranch (record { types = ts; variable = None; body = body }) ∷ bs)
      types_with_variable : (own : Scope) (a : Leaving) (t : ℕ) (ts : Bor (List TypeId))
          (x : ℕ) (body : Bor (List CoreStmt)) (bs : List TypeBranch) → AreReferences p ts.now
          → IsNew p here own x
          → AreStatements (and_variable x (branch_type t ts.now) own) a body.now
          → AreTypeBranches own a t bs
          → AreTypeBranches own a t
          (roll-TypeBranch (record { types = ts; variable = Some x; body = body }) ∷ bs)

    pub data AreHandlers : Scope → Leaving → List Handler → Type 0 where
      no_handlers : (own : Scope) (a : Leaving) → AreHandlers own a []
      handler : (own : Scope) (a : Leaving) (exceptions : Bor (List ℕ))
          (body : Bor (List CoreStmt)) (hs : List Handler) → AreStatements own a body.now
          → AreHandlers own a hs
          → AreHandlers own a
          (roll-Handler (record { exceptions = exceptions; variable = None; body = body }) ∷ hs)
      handler_with_variable : (own : Scope) (a : Leaving) (exceptions : Bor (List ℕ)) (x t : ℕ)
          (body : Bor (List CoreStmt)) (hs : List Handler) → HaveArgument p exceptions.now t
          → IsNew p here own x → AreStatements (and_variable x t own) a body.now
          → AreHandlers own a hs
          → AreHandlers own a
          (roll-Handler (record { exceptions = exceptions; variable = Some x; body = body }) ∷ hs)
