-- The operators between operands: the tokens that they are, and how loosely they bind.
use Rattle.std.specs.Prelude.{Option, None, Some}
use Rattle.m3_syntax.specs.declared.expressions.Operator.{Operator}
use Rattle.m3_syntax.specs.declared.expressions.Operator.TheVariants as op
use Rattle.m3_syntax.specs.declared.tokens.TokenKind.{TokenKind}
use Rattle.m3_syntax.specs.declared.tokens.TokenKind.TheVariants.{Keyword, Symbol}
use Rattle.m3_syntax.specs.declared.tokens.Word.{Word}
use Rattle.m3_syntax.specs.declared.tokens.Word.TheVariants as w
use Rattle.m3_syntax.specs.declared.tokens.Sign.{Sign}
use Rattle.m3_syntax.specs.declared.tokens.Sign.TheVariants as s
use Rattle.m3_read_grammar.specs.declared.operators.Level.{Level}
use Rattle.m3_read_grammar.specs.declared.operators.Level.TheVariants.{Disjunction, Conjunction, Relation, Sum, Product}

abbrev pub operator_of_word : Word → Option Operator
operator_of_word w.Or = Some op.Or
operator_of_word w.And = Some op.And
operator_of_word w.In = Some op.In
operator_of_word w.Div = Some op.Div
operator_of_word w.Mod = Some op.Mod
operator_of_word _ = None

abbrev pub operator_of_sign : Sign → Option Operator
operator_of_sign s.Equal = Some op.Equal
operator_of_sign s.Hash = Some op.NotEqual
operator_of_sign s.Less = Some op.Less
operator_of_sign s.LessEqual = Some op.LessEqual
operator_of_sign s.Greater = Some op.Greater
operator_of_sign s.GreaterEqual = Some op.GreaterEqual
operator_of_sign s.Plus = Some op.Plus
operator_of_sign s.Minus = Some op.Minus
operator_of_sign s.Ampersand = Some op.Concatenate
operator_of_sign s.Star = Some op.Times
operator_of_sign s.Slash = Some op.Slash
operator_of_sign _ = None

-- the operator that a token is
abbrev pub operator_of : TokenKind → Option Operator
operator_of (Keyword word) = operator_of_word word
operator_of (Symbol sign) = operator_of_sign sign
operator_of _ = None

abbrev pub level_of : Operator → Level
level_of op.Or = Disjunction
level_of op.And = Conjunction
level_of op.Equal = Relation
level_of op.NotEqual = Relation
level_of op.Less = Relation
level_of op.LessEqual = Relation
level_of op.Greater = Relation
level_of op.GreaterEqual = Relation
level_of op.In = Relation
level_of op.Plus = Sum
level_of op.Minus = Sum
level_of op.Concatenate = Sum
level_of op.Times = Product
level_of op.Slash = Product
level_of op.Div = Product
level_of op.Mod = Product
