-- Expressions in which no type stands.
use Rattle.std.specs.Prelude.{◌⊎◌, Bool, List, [], ◌∷◌, ◌++◌}
use Rattle.std.proofs.Common.{Bor}
use Rattle.m3_base.specs.declared.places.Pos.{Pos}
use Rattle.m3_syntax.specs.declared.expressions.Actual.{Actual}
use Rattle.m3_syntax.specs.declared.expressions.Actual.TheVariants as act
use Rattle.m3_syntax.specs.declared.expressions.Element.{Element}
use Rattle.m3_syntax.specs.declared.expressions.Expr.{Expr}
use Rattle.m3_syntax.specs.declared.expressions.Expr.TheVariants as e
use Rattle.m3_syntax.specs.declared.expressions.Operation.{Operation}
use Rattle.m3_syntax.specs.declared.expressions.PrefixSign.{PrefixSign}
use Rattle.m3_syntax.specs.declared.expressions.Selector.{Selector}
use Rattle.m3_syntax.specs.declared.expressions.Selector.TheVariants as sel
use Rattle.m3_syntax.specs.declared.expressions.TypeExp.{TypeExp}
use Rattle.m3_syntax.specs.declared.names.Name.{Name}
use Rattle.m3_read_grammar.specs.Tokens.{Row}
use Rattle.m3_read_grammar.specs.Ranks.{Rank}
use Rattle.m3_read_grammar.specs.Expressions.{IsExpr}

mutual
  -- a type stands somewhere in the expression
  pub data HasType : Expr → Type 0 where
    in_first : (pos : Pos) (first : Bor Expr) (rest : Bor (List Operation)) → HasType first.now → HasType (e.Operations pos first rest)
    in_rest : (pos : Pos) (first : Bor Expr) (rest : Bor (List Operation)) → HaveType rest.now → HasType (e.Operations pos first rest)
    in_negation : (pos : Pos) (words : Bor (List Pos)) (operand : Bor Expr) → HasType operand.now → HasType (e.Not pos words operand)
    in_signed : (pos : Pos) (signs : Bor (List PrefixSign)) (operand : Bor Expr) → HasType operand.now → HasType (e.Signed pos signs operand)
    in_operand : (pos : Pos) (operand : Bor Expr) (selectors : Bor (List Selector)) → HasType operand.now → HasType (e.Selected pos operand selectors)
    in_selectors : (pos : Pos) (operand : Bor Expr) (selectors : Bor (List Selector)) → SelectByType selectors.now → HasType (e.Selected pos operand selectors)
    in_parenthesis : (pos : Pos) (inner : Bor Expr) → HasType inner.now → HasType (e.Parenthesis pos inner)
    in_constructor : (pos brace : Pos) (kind : Bor TypeExp) (elements : Bor (List Element)) (is_filled : Bool) → HasType (e.Constructor pos kind brace elements is_filled)

  pub data HaveType : List Operation → Type 0 where
    operation_before : {before : List Operation} (operation : Operation) → HaveType before → HaveType (before ++ operation ∷ [])
    operation_last : (before : List Operation) (operation : Operation) → HasType operation.right.now → HaveType (before ++ operation ∷ [])

  pub data SelectByType : List Selector → Type 0 where
    selector_before : {before : List Selector} (selector : Selector) → SelectByType before → SelectByType (before ++ selector ∷ [])
    selector_last : (before : List Selector) {selector : Selector} → SelectsByType selector → SelectByType (before ++ selector ∷ [])

  pub data SelectsByType : Selector → Type 0 where
    in_indexes : (pos : Pos) (indexes : Bor (List Expr)) → IndexByType indexes.now → SelectsByType (sel.Index pos indexes)
    in_actuals : (pos : Pos) (actuals : Bor (List Actual)) → PassType actuals.now → SelectsByType (sel.Call pos actuals)

  pub data IndexByType : List Expr → Type 0 where
    index_before : {before : List Expr} (index : Expr) → IndexByType before → IndexByType (before ++ index ∷ [])
    index_last : (before : List Expr) {index : Expr} → HasType index → IndexByType (before ++ index ∷ [])

  pub data PassType : List Actual → Type 0 where
    actual_before : {before : List Actual} (actual : Actual) → PassType before → PassType (before ++ actual ∷ [])
    actual_last : (before : List Actual) {actual : Actual} → PassesType actual → PassType (before ++ actual ∷ [])

  pub data PassesType : Actual → Type 0 where
    in_value : (value : Bor Expr) → HasType value.now → PassesType (act.Value value)
    in_bound : (name : Name) (value : Bor Expr) → HasType value.now → PassesType (act.Named name value)
    a_type : (kind : Bor TypeExp) → PassesType (act.«Type» kind)

-- the row spells the expression, unless a type stands in it
abbrev pub Spells : Rank → Row → Row → Expr → Type 0
Spells rank before after expr = IsExpr rank before after expr ⊎ HasType expr
