use Rattle.m3_plain.proofs.Parsings.{begins_is}
use Rattle.m3_plain.proofs.parsing.begins.Goals as goal

pub returns-in-len1-up : goal.returns-in-len1-up
returns-in-len1-up c = begins_is c.is.result c.args.tokens.now c.args.kind c.in-len1-up.len_at_least c.is.ensures.yes c.is.ensures.no
