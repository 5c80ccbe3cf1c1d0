use Rattle.m3_mid_programs.proofs.Reading.{cells_read_the_same}
use Rattle.m3_mid_programs.proofs.cells_read_the_same.Goals as goal

pub returns : goal.returns
returns d = cells_read_the_same
