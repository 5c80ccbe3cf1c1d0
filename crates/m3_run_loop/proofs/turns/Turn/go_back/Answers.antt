use Rattle.std.specs.Prelude.{◌-◌}
use Rattle.std.proofs.Common.{refl, ap, arith}
use Rattle.m3_isa.specs.Effects.{at_hand}
use Rattle.m3_isa.specs.Instructions.{is_point}
use Rattle.m3_isa.specs.declared.instructions.Op.{Op}
use Rattle.m3_image_decoded.specs.Ready.{image_of}
use Rattle.m3_run_loop.specs.Leading.{program_in}
use Rattle.m3_run_loop.proofs.Leading.{stood_on, renumber}
use Rattle.m3_run_loop.proofs.turns.Turn.go_back.Goals as goal

pub returns-in-Some-clause-strides : goal.returns-in-Some-clause-strides
returns-in-Some-clause-strides g c = λ k next st.
    let m = c.args.memory.now in
    let p = program_in (image_of c.args.self.image.now).program m in
    let f = c.args.fuel.now in
    let heap = g.S.Store.heap m.outside.heap.store in
    let old = at_hand c.args.r.now c.args.at.now.pc c.args.at.now.fp in
    let to = c.in-Some.to in
    let new = at_hand c.args.r.now to.pc to.fp in
    let over = stood_on p k c.args.self.stack f.limit (f.left - f.floor) f.points c.args.i.now old new m.threads m.threads m.outside.globals.items m.outside.globals.items heap heap st next
    (ap (λ (o : Op). is_point o) c.requires.operation) (omega (arith, c.requires.some)) c.in-Some.ensures in
    renumber p m.outside.constants.items k c.args.self.stack f.limit 0 1 (f.left - f.floor - 1) f.points (f.points - f.points) (f.left - (f.left - 1)) (f.left - 1 - f.floor) f.points new m.threads m.outside.globals.items heap
    refl (omega arith) (omega (arith, c.requires.some)) (omega arith) refl over
