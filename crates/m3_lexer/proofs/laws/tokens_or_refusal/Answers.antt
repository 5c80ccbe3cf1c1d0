use Rattle.m3_lexer.proofs.RunLaws.{tokens_or_refusal_lem}
use Rattle.m3_lexer.proofs.laws.tokens_or_refusal.Goals as goal

pub returns : goal.returns
returns c = tokens_or_refusal_lem
