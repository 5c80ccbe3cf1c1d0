use Rattle.m3_tables.specs.Tables.{section_of_row, number_of_row}
use Rattle.m3_tables.proofs.KeepingLemmas.{row_kept}
use Rattle.m3_tables.proofs.row.Row.keeps_its_form.Goals as goal

pub returns : goal.returns
returns c = row_kept (section_of_row c.args.self.now) (number_of_row c.args.self.now) c.args.self.now.good
