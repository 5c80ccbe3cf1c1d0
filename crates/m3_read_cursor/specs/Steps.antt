-- What a step takes that may be here or not.
use Rattle.std.specs.Prelude.{◌≡◌, true, false, Option, None, Some}
use Rattle.m3_syntax.specs.declared.expressions.Operator.{Operator}
use Rattle.m3_syntax.specs.declared.expressions.PrefixSign.{PrefixSign}
use Rattle.m3_syntax.specs.declared.names.Name.{Name}
use Rattle.m3_syntax.specs.declared.tokens.Sign.TheVariants as s
use Rattle.m3_syntax.specs.declared.tokens.TokenKind.{TokenKind}
use Rattle.m3_read_grammar.specs.declared.operators.Level.{Level}
use Rattle.m3_read_grammar.specs.Operators.{operator_of, level_of}
use Rattle.m3_read_grammar.specs.Tokens.{Row, IsAt, IsToken, IsSign, IsName}

-- an operator of this level
pub data IsInfix (level : Level) (before after : Row) (operator : Operator) : Type 0 where
  is_infix : (kind : TokenKind) → IsToken kind before after → operator_of kind ≡ Some operator → level_of operator ≡ level → IsInfix level before after operator

-- a sign before an operand
pub data IsPrefixSign (before after : Row) (sign : PrefixSign) : Type 0 where
  plus : IsAt sign.pos before → IsSign s.Plus before after → sign.is_minus ≡ false → IsPrefixSign before after sign
  minus : IsAt sign.pos before → IsSign s.Minus before after → sign.is_minus ≡ true → IsPrefixSign before after sign

-- a name and `:=`, or nothing
abbrev pub BindingSpells : Row → Row → Option Name → Type 0
BindingSpells before after None = after ≡ before
BindingSpells before after (Some name) = (sign : Row) × IsName before sign name × IsSign s.Assign sign after

-- a name, or nothing
abbrev pub NameSpells : Row → Row → Option Name → Type 0
NameSpells before after None = after ≡ before
NameSpells before after (Some name) = IsName before after name
