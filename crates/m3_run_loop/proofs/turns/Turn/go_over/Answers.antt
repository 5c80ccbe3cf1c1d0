use Rattle.std.specs.Prelude.{◌≤◌, ◌-◌}
use Rattle.std.proofs.Common.{refl, sym, ap, subst, arith}
use Rattle.m3_isa.specs.Effects.{at_hand}
use Rattle.m3_isa.specs.Instructions.{is_point}
use Rattle.m3_isa.specs.declared.instructions.Op.{Op}
use Rattle.m3_threads.specs.Going.{status_at_of}
use Rattle.m3_image_decoded.specs.Ready.{image_of}
use Rattle.m3_run_loop.specs.Leading.{program_in, Standing, further}
use Rattle.m3_run_loop.specs.declared.strides.Fuel.{Fuel}
use Rattle.m3_run_loop.proofs.Leading.{stood_past, renumber}
use Rattle.m3_run_loop.proofs.turns.Turn.go_over.Goals as goal

pub returns-clause-strides : goal.returns-clause-strides
returns-clause-strides g c = λ k next st.
    let m = c.args.memory.now in
    let p = program_in (image_of c.args.self.image.now).program m in
    let f = c.args.fuel.now in
    let heap = g.S.Store.heap m.outside.heap.store in
    let i = c.args.i.now in
    let old = at_hand c.args.r.now c.args.at.now.pc c.args.at.now.fp in
    let to = c.point_near.result in
    let new = at_hand c.args.r.now to.pc to.fp in
    let points : 1 ≤ f.points = c.if-not-may_pass.ensures.points refl in
    let left : f.limit ≤ f.left = c.if-not-may_pass.ensures.left refl in
    let some : 1 ≤ f.limit = omega (arith, st.within, c.requires.some) in
    let over = stood_past p k c.args.self.stack f.limit (f.left - f.floor) f.points i old new m.threads m.threads m.outside.globals.items m.outside.globals.items heap heap st next
    (ap (λ (o : Op). is_point o) c.requires.operation) (ap (λ (o : Op). status_at_of o i.a i.b) c.requires.operation) points some c.point_near.ensures in
    subst (λ (x : Fuel). Standing p (further k (f.points - x.points) (f.left - (x.left - 1))) c.args.self.stack x.limit (x.left - 1 - x.floor) x.points new m.threads m.outside.globals.items heap) (sym c.pass.ensures)
    (renumber p m.outside.constants.items k c.args.self.stack f.limit 1 1 (f.limit - 1) (f.points - 1) (f.points - (f.points - 1)) (f.left - (f.left - 1)) (f.left - 1 - (f.left - f.limit)) (f.points - 1) new m.threads m.outside.globals.items heap
    refl (omega (arith, points)) (omega (arith, c.requires.some)) (omega (arith, left, some)) refl over)
