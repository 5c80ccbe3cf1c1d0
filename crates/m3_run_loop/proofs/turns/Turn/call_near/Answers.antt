use Rattle.std.proofs.Common.{sym, ◌∙◌}
use Rattle.m3_image_decoded.specs.Ready.{image_of}
use Rattle.m3_run_loop.specs.Leading.{program_in}
use Rattle.m3_run_loop.proofs.Deeds.{goes_into}
use Rattle.m3_run_loop.proofs.turns.Turn.call_near.Goals as goal

pub returns-in-Ok-enter-clause-goes : goal.returns-in-Ok-enter-clause-goes
returns-in-Ok-enter-clause-goes g c =
    let m = c.args.memory.now in
    let n = c.enter.new.memory in
    goes_into (program_in (image_of c.args.self.image.now).program m) c.args.self.stack c.args.i c.args.r.now c.args.at c.in-Ok-enter.to c.in-Ok.number
    m.threads n.threads m.outside.globals.items n.outside.globals.items n.outside.constants.items (g.S.Store.heap m.outside.heap.store) (g.S.Store.heap n.outside.heap.store)
    c.enter.ensures.keeps.0 (sym c.requires.callee ∙ c.in-Ok.is) (sym c.in-Ok-enter.ensures.place) c.in-Ok-enter.ensures.framed
