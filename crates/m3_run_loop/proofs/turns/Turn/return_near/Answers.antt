use Rattle.std.specs.Prelude.{List, length}
use Rattle.std.proofs.Common.{sym, ap, ◌∙◌}
use Rattle.m3_isa.specs.declared.instructions.Instr.{Instr}
use Rattle.m3_image_decoded.specs.Ready.{image_of}
use Rattle.m3_threads.specs.Spaces.{held}
use Rattle.m3_run_memory.specs.Addresses.{outside_of}
use Rattle.m3_run_meaning.specs.Calls.{returning}
use Rattle.m3_run_loop.specs.Leading.{program_in}
use Rattle.m3_run_loop.proofs.Deeds.{goes_back}
use Rattle.m3_run_loop.proofs.turns.Turn.return_near.Goals as goal

pub returns-in-Ok : goal.returns-in-Ok
returns-in-Ok g c =
    let m = c.args.memory.now in
    let heap = g.S.Store.heap m.outside.heap.store in
    let memory = held m.threads (outside_of m.outside.globals.items m.outside.constants.items heap.cells) in
    goes_back (program_in (image_of c.args.self.image.now).program m) c.args.self.stack c.args.i c.args.r.now c.args.at c.in-Ok.to m.threads m.outside.globals.items heap c.requires
    (sym (ap (λ n. returning n c.args.at memory) (ap (λ (code : List Instr). length code) c.code.ensures.value)) ∙ c.in-Ok.ensures.found)
