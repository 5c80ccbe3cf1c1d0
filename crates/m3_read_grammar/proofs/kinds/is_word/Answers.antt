use Rattle.std.proofs.Common.{rules, sym, ap, ◌∙◌}
use denote.Enum.Bare.{same_true}
use Rattle.m3_syntax.specs.contracts.tokens.Word.{the_type}
use Rattle.m3_syntax.specs.declared.tokens.TokenKind.TheVariants.{Keyword}
use Rattle.m3_read_grammar.proofs.kinds.is_word.Goals as goal

pub returns-in-Keyword : goal.returns-in-Keyword
returns-in-Keyword c = λ t. c.in-Keyword.is ∙ ap (λ word. Keyword word) (same_true the_type (search rules) _ _ (sym c.eq.ensures ∙ t))
