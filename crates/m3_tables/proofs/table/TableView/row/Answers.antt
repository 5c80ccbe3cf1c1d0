use Rattle.std.proofs.Common.{◌+◌, ◌-◌, ◌/◌, ◌<◌, arith}
use Rattle.m3_tables.specs.Sections.{instruction_in}
use Rattle.m3_tables.proofs.SectionLemmas.{instructions_below, instructions_above}
use Rattle.m3_tables.proofs.table.TableView.row.Goals as goal

pub loop-low-preserved-then-found-instr-2 : goal.loop-low-preserved-then-found-instr-2
loop-low-preserved-then-found-instr-2 c =
    let inside = c.loop-low.invariant.0 in
    (inside, instructions_below c.args.self.now.section.bytes.now c.args.self.now.rows (c.loop-low.low + (c.loop-low.high - c.loop-low.low) / 2) c.args.instr c.args.self.now.good (omega arith) (omega arith), c.loop-low.invariant.2)

pub loop-low-preserved : goal.loop-low-preserved
loop-low-preserved c =
    let inside = c.loop-low.invariant.0 in
    let middle = c.loop-low.low + (c.loop-low.high - c.loop-low.low) / 2 in
    let ne = c.if-found-instr.false in
    let above : c.args.instr < instruction_in c.args.self.now.section.bytes.now middle = omega arith in
    (omega arith, c.loop-low.invariant.1, instructions_above c.args.self.now.section.bytes.now c.args.self.now.rows middle c.args.instr c.args.self.now.good above)
