use Rattle.m3_source_laws.proofs.Laws.{output_grows}
use Rattle.m3_source_laws.proofs.output_grows.Goals as goal

pub returns : goal.returns
returns d = output_grows
