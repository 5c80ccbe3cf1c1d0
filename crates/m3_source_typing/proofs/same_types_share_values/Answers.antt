use Rattle.m3_source_typing.proofs.Sameness.{same_types_share_values}
use Rattle.m3_source_typing.proofs.same_types_share_values.Goals as goal

pub returns : goal.returns
returns d = same_types_share_values
