use Rattle.m3_image_decoded.specs.Ready.{image_of}
use Rattle.m3_isa.specs.Effects.{at_hand}
use Rattle.m3_run_loop.specs.Leading.{program_in}
use Rattle.m3_run_loop.proofs.Deeds.{goes_over}
use Rattle.m3_run_loop.proofs.turns.Turn.point_near.Goals as goal

pub returns : goal.returns
returns g c =
    let m = c.args.memory.now in
    let to = c.next.result in
    goes_over (program_in (image_of c.args.self.image.now).program m) c.args.self.stack c.args.i (at_hand c.args.r.now c.args.at.pc c.args.at.fp) (at_hand c.args.r.now to.pc to.fp)
    m.threads m.outside.globals.items (g.S.Store.heap m.outside.heap.store) c.requires (let pc = c.next.ensures.pc in let fp = c.next.ensures.fp in cc)
