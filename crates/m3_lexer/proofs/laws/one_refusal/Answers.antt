use Rattle.m3_lexer.proofs.RunLaws.{one_refusal_lem}
use Rattle.m3_lexer.proofs.laws.one_refusal.Goals as goal

pub returns : goal.returns
returns c = one_refusal_lem
