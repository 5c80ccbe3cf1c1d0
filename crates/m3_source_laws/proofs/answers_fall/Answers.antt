use Rattle.m3_source_laws.proofs.Turns.{answers_fall}
use Rattle.m3_source_laws.proofs.answers_fall.Goals as goal

pub returns : goal.returns
returns d = answers_fall
