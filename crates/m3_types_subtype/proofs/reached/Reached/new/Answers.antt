use Rattle.std.proofs.Common.{sym, subst}
use Rattle.m3_types_subtype.specs.Reaching.{IsVisited}
use Rattle.m3_types_subtype.proofs.Adding.{kept_empty}
use Rattle.m3_types_subtype.proofs.reached.Reached.new.Goals as goal

pub returns-clause-kept : goal.returns-clause-kept
returns-clause-kept c = subst (IsVisited c.new.result) (sym c.new-2.ensures.items) (kept_empty c.new.result c.new.ensures.empty)
