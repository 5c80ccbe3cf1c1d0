use Rattle.std.proofs.Common.{sym, ◌∙◌}
use Rattle.m3_image.specs.Views.{program_view}
use Rattle.m3_image.proofs.RowLemmas.{tables_is, none_or, whole_count}
use Rattle.m3_image.proofs.program.Program.sound_rows.Goals as goal

pub returns-in-Some : goal.returns-in-Some
returns-in-Some c = let t = tables_is (program_view c.args.self.now) c.requires.directory c.requires.points in cc

pub returns-in-None : goal.returns-in-None
returns-in-None c =
    let t = tables_is (program_view c.args.self.now) c.requires.directory c.requires.points in
    let none = none_or c.first_unsuited.result c.args.front.fault c.in-None.ensures in
    let rest = whole_count c.args.self.now.tables.now (sym c.requires.front.fault ∙ none.1) in
    (cc, c.requires.front.bytes, c.requires.front.rows ∙ rest)
