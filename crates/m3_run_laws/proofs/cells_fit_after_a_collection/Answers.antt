use Rattle.m3_run_laws.proofs.Agreeing.{room_after}
use Rattle.m3_run_laws.proofs.cells_fit_after_a_collection.Goals as goal

pub returns : goal.returns
returns c = λ p s t u kind words answer collected asked. room_after p s t u kind words answer collected asked
