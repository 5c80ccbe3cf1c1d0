use Rattle.m3_types_subtype.specs.Subtypes.{same}
use Rattle.m3_types_subtype.proofs.direct.directly.Goals as goal

pub returns-clause-yes : goal.returns-clause-yes
returns-clause-yes c = λ t. same (c.in_ok-same_types.ensures.0 t)
