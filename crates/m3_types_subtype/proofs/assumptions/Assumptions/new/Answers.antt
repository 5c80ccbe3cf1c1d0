use Rattle.std.proofs.Common.{sym, subst}
use Rattle.m3_types_subtype.specs.Classes.{parent_of}
use Rattle.m3_types_subtype.specs.Assumptions.{IsKept}
use Rattle.m3_types_subtype.proofs.Keeping.{kept_none}
use Rattle.m3_types_subtype.proofs.assumptions.Assumptions.new.Goals as goal

pub returns-clause-kept : goal.returns-clause-kept
returns-clause-kept c = subst (IsKept (parent_of c.new.result.parents)) (sym c.new-2.ensures.items) (kept_none (parent_of c.new.result.parents) c.new.ensures)
