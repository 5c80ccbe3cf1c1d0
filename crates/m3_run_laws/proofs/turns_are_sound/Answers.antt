use Rattle.m3_run_laws.proofs.Moving.{runs_sound}
use Rattle.m3_run_laws.proofs.turns_are_sound.Goals as goal

pub returns : goal.returns
returns c = λ p input allowed from schedule d small begins at within leads. runs_sound p input allowed from schedule d small begins at within leads
