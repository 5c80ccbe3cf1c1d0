-- Rows with commas between their items, as the loops that read them leave them: none yet, or some and a comma.
use Rattle.std.proofs.Common.{◌≡◌, ◌≢◌, List, []}
use Rattle.m3_syntax.specs.declared.expressions.Actual.{Actual}
use Rattle.m3_syntax.specs.declared.expressions.Expr.{Expr}
use Rattle.m3_syntax.specs.declared.tokens.Sign.TheVariants.{Comma}
use Rattle.m3_read_grammar.specs.Tokens.{Row, IsSign}
use Rattle.m3_read_grammar.specs.Expressions.{IsExprs, IsActuals}
use Rattle.m3_read_grammar.specs.Plain.{IndexByType, PassType}

pub data IndexesBegun (before after : Row) (indexes : List Expr) : Type 0 where
  no_index : after ≡ before → indexes ≡ [] → IndexesBegun before after indexes
  index_comma : (comma : Row) → IsExprs before comma indexes → IsSign Comma comma after → IndexesBegun before after indexes
  index_type : IndexByType indexes → IndexesBegun before after indexes

pub data ActualsBegun (before after : Row) (actuals : List Actual) : Type 0 where
  no_actual : after ≡ before → actuals ≡ [] → ActualsBegun before after actuals
  actual_comma : (comma : Row) → IsActuals before comma actuals → actuals ≢ [] → IsSign Comma comma after → ActualsBegun before after actuals
  actual_type : PassType actuals → ActualsBegun before after actuals
