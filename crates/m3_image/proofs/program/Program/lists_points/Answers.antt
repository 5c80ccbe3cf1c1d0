use Rattle.std.proofs.Common.{sym, ◌∙◌, arith}
use Rattle.m3_image.specs.Views.{program_view}
use Rattle.m3_image.proofs.RowLemmas.{lists_zero, lists_skip, lists_step, lists_stop, lists_end}
use Rattle.m3_image.proofs.program.Program.lists_points.Goals as goal

pub loop-pc-init : goal.loop-pc-init
loop-pc-init c = (omega arith, lists_zero (program_view c.args.self.now))

pub loop-pc-preserved-then-not-is_point_at : goal.loop-pc-preserved-then-not-is_point_at
loop-pc-preserved-then-not-is_point_at c =
    let p = program_view c.args.self.now in
    (omega arith, sym (lists_skip p c.loop-pc.row c.loop-pc.pc (omega (arith, c.len-count.ensures)) (sym c.if-not-is_point_at.ensures)) ∙ c.loop-pc.invariant.1)

pub returns-then-not-lists : goal.returns-then-not-lists
returns-then-not-lists c =
    let p = program_view c.args.self.now in
    sym (lists_stop p c.loop-pc.row c.loop-pc.pc c.requires (sym c.if-not-is_point_at.ensures) (sym c.if-not-lists.ensures)) ∙ c.loop-pc.invariant.1

pub loop-pc-preserved : goal.loop-pc-preserved
loop-pc-preserved c =
    let p = program_view c.args.self.now in
    (omega arith, sym (lists_step p c.loop-pc.row c.loop-pc.pc c.requires (sym c.if-not-is_point_at.ensures) (sym c.if-not-lists.ensures)) ∙ c.loop-pc.invariant.1)

pub returns : goal.returns
returns c =
    let p = program_view c.args.self.now in
    c.ends_before.ensures ∙ sym (lists_end p c.loop-pc.row c.loop-pc.pc c.requires (omega (arith, c.len-count.ensures))) ∙ c.loop-pc.invariant.1
