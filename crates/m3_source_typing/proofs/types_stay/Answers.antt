use Rattle.m3_source_typing.proofs.Expressions.{types_stay}
use Rattle.m3_source_typing.proofs.types_stay.Goals as goal

pub returns : goal.returns
returns d = types_stay
