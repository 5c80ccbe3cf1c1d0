use Rattle.m3_mid_meaning.specs.Runs.{start_of}
use Rattle.m3_mid_meaning.proofs.Longer.{one_end}
use Rattle.m3_mid_meaning.proofs.laws.one_run.Goals as goal

pub returns : goal.returns
returns c p around memory answers o o' = one_end p around p.start (start_of p around memory) answers o o'
