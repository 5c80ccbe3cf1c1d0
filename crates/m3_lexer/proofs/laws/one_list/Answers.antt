use Rattle.m3_lexer.proofs.RunLaws.{one_list_lem}
use Rattle.m3_lexer.proofs.laws.one_list.Goals as goal

pub returns : goal.returns
returns c = one_list_lem
