use Rattle.m3_mid_programs.proofs.Cells.{cells_write_the_same}
use Rattle.m3_mid_programs.proofs.cells_write_the_same.Goals as goal

pub returns : goal.returns
returns d = cells_write_the_same
