use Rattle.m3_mid_meaning.proofs.Stepwise.{stepwise}
use Rattle.m3_mid_meaning.proofs.laws.step_by_step.Goals as goal

pub returns : goal.returns
returns c p around s answers o = stepwise p around s answers o
