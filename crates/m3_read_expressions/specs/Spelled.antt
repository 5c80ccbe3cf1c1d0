-- What the readers of phrases have read, in the words of the grammar: unless reading has stopped, the tokens
-- that were taken spell what was found. Nothing is said of what has a type in it.
use Rattle.std.specs.Prelude.{◌≡◌, ◌⊎◌, List, Option, None, Some}
use Rattle.m3_base.specs.declared.places.Pos.{Pos}
use Rattle.m3_syntax.specs.declared.expressions.Actual.{Actual}
use Rattle.m3_syntax.specs.declared.expressions.Expr.{Expr}
use Rattle.m3_syntax.specs.declared.expressions.Operation.{Operation}
use Rattle.m3_syntax.specs.declared.expressions.Selector.{Selector}
use Rattle.m3_syntax.specs.declared.tokens.Sign.TheVariants as s
use Rattle.m3_read_grammar.specs.declared.operators.Level.{Level}
use Rattle.m3_read_grammar.specs.Ranks.{Rank, e7, e8}
use Rattle.m3_read_grammar.specs.Tokens.{Row, IsAt, IsSign}
use Rattle.m3_read_grammar.specs.Expressions.{IsOperations, IsSelectors, IsSelector, IsExprs, IsActuals, IsActual}
use Rattle.m3_read_grammar.specs.Plain.{Spells, HaveType, SelectByType, SelectsByType, IndexByType, PassType, PassesType}
use Rattle.m3_read_cursor.specs.declared.reader.Reader.{Reader}
use Rattle.m3_read_expressions.specs.declared.settings.Found.{Found}
use Rattle.m3_read_expressions.specs.declared.settings.Found.TheVariants as found

-- the row spells what was found, where that is an expression
abbrev pub FoundSpells : Rank → Row → Row → Found → Type 0
FoundSpells rank before after (found.Value expr) = Spells rank before after expr.now
FoundSpells rank before after (found.TypeExp kind) = Unit {0}

pub record ReadsFound (rank : Rank) (old new : Reader) (found : Found) : Type 0 where
  pub spelled : new.stop ≡ None → FoundSpells rank old.rest.now new.rest.now found

pub record ReadsExpr (rank : Rank) (old new : Reader) (expr : Expr) : Type 0 where
  pub spelled : new.stop ≡ None → Spells rank old.rest.now new.rest.now expr

pub record ReadsOperations (level : Level) (old new : Reader) (operations : List Operation) : Type 0 where
  pub spelled : new.stop ≡ None → IsOperations level old.rest.now new.rest.now operations ⊎ HaveType operations

-- the row is the selector, or nothing where none is here
abbrev pub SelectorSpells : Row → Row → Option Selector → Type 0
SelectorSpells before after None = after ≡ before
SelectorSpells before after (Some selector) = IsSelector before after selector ⊎ SelectsByType selector

pub record ReadsSelector (old new : Reader) (selector : Option Selector) : Type 0 where
  pub spelled : new.stop ≡ None → SelectorSpells old.rest.now new.rest.now selector

pub record ReadsSelectors (old new : Reader) (selectors : List Selector) : Type 0 where
  pub spelled : new.stop ≡ None → IsSelectors old.rest.now new.rest.now selectors ⊎ SelectByType selectors

-- indexes, with the bracket that closes them
pub data IndexesSpell (before after : Row) (indexes : List Expr) : Type 0 where
  indexed : (close : Row) → IsExprs before close indexes → IsSign s.CloseBracket close after → IndexesSpell before after indexes
  by_type : IndexByType indexes → IndexesSpell before after indexes

pub record ReadsIndexes (old new : Reader) (indexes : List Expr) : Type 0 where
  pub spelled : new.stop ≡ None → IndexesSpell old.rest.now new.rest.now indexes

-- actuals, with the parenthesis that closes them
pub data ActualsSpell (before after : Row) (actuals : List Actual) : Type 0 where
  passed : (close : Row) → IsActuals before close actuals → IsSign s.CloseParen close after → ActualsSpell before after actuals
  with_type : PassType actuals → ActualsSpell before after actuals

pub record ReadsActuals (old new : Reader) (actuals : List Actual) : Type 0 where
  pub spelled : new.stop ≡ None → ActualsSpell old.rest.now new.rest.now actuals

pub record ReadsActual (old new : Reader) (actual : Actual) : Type 0 where
  pub spelled : new.stop ≡ None → IsActual old.rest.now new.rest.now actual ⊎ PassesType actual

-- An operand from a place on goes on with its selectors.
pub record Continues (place : Pos) (operand : Expr) (old new : Reader) (expr : Expr) : Type 0 where
  pub spelled : new.stop ≡ None → (before : Row) → IsAt place before → Spells e8 before old.rest.now operand → Spells e7 before new.rest.now expr
