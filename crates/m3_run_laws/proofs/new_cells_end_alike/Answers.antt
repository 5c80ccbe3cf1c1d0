use Rattle.m3_run_laws.proofs.Agreeing.{end_alike}
use Rattle.m3_run_laws.proofs.new_cells_end_alike.Goals as goal

pub returns : goal.returns
returns c = end_alike
