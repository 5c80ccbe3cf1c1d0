use Rattle.std.proofs.Common.{rules}
use Rattle.m3_image_decoded.specs.Ready.{image_of}
use Rattle.m3_isa.specs.Effects.{at_hand}
use Rattle.m3_run_loop.specs.Leading.{program_in}
use Rattle.m3_run_loop.proofs.Deeds.{goes_tested}
use Rattle.m3_run_loop.proofs.turns.Turn.test_near.Goals as goal

pub returns-in-Ok-clause-goes : goal.returns-in-Ok-clause-goes
returns-in-Ok-clause-goes g c =
    let m = c.args.memory.now in
    let to = c.give.result in
    goes_tested (program_in (image_of c.args.self.image.now).program m) c.args.self.stack c.args.i (at_hand c.args.r.now c.args.at.pc c.args.at.fp) (at_hand c.give.new.r to.pc to.fp)
    m.threads m.outside.globals.items (g.S.Store.heap m.outside.heap.store) c.in-Ok.is_of c.requires.operation (search rules) (search rules)
