use Rattle.std.proofs.Common.{length, sym, arith}
use Rattle.m3_image.specs.Programs.{target_fits}
use Rattle.m3_image.specs.Views.{program_view}
use Rattle.m3_image_sections.proofs.FirstLemmas.{first_zero, first_stop, first_more}
use Rattle.m3_image.proofs.program.Program.first_bad_target.Goals as goal

pub loop-pc-init : goal.loop-pc-init
loop-pc-init c = first_zero (target_fits (program_view c.args.self.now))

pub returns-then-not-target_fits : goal.returns-then-not-target_fits
returns-then-not-target_fits c =
    let p = program_view c.args.self.now in
    sym (first_stop (target_fits p) (length p.code) c.loop-pc.pc (omega (arith, c.len-count.ensures)) c.loop-pc.invariant (sym c.if-not-target_fits.ensures))

pub loop-pc-preserved : goal.loop-pc-preserved
loop-pc-preserved c = first_more (target_fits (program_view c.args.self.now)) c.loop-pc.pc c.loop-pc.invariant (sym c.if-not-target_fits.ensures)
