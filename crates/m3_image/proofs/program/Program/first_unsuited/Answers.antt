use Rattle.std.proofs.Common.{sym, arith}
use Rattle.m3_tables.specs.Tables.{row_count}
use Rattle.m3_image.specs.Programs.{row_suits}
use Rattle.m3_image.specs.Views.{program_view}
use Rattle.m3_image_sections.proofs.FirstLemmas.{first_zero, first_stop, first_more}
use Rattle.m3_image.proofs.program.Program.first_unsuited.Goals as goal

pub loop-n-init : goal.loop-n-init
loop-n-init c = first_zero (row_suits (program_view c.args.self.now))

pub returns-then-not-suits_at : goal.returns-then-not-suits_at
returns-then-not-suits_at c =
    sym (first_stop (row_suits (program_view c.args.self.now)) (row_count c.args.rows) c.loop-n.n (omega (arith, c.len-count.ensures)) c.loop-n.invariant (sym c.if-not-suits_at.ensures))

pub loop-n-preserved : goal.loop-n-preserved
loop-n-preserved c = first_more (row_suits (program_view c.args.self.now)) c.loop-n.n c.loop-n.invariant (sym c.if-not-suits_at.ensures)
