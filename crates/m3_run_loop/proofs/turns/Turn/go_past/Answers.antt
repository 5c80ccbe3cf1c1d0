use Rattle.std.specs.Prelude.{◌≤◌, ◌-◌}
use Rattle.std.proofs.Common.{refl, sym, subst, arith}
use Rattle.m3_isa.specs.Effects.{at_hand}
use Rattle.m3_image_decoded.specs.Ready.{image_of}
use Rattle.m3_run_loop.specs.Leading.{program_in, Standing, further}
use Rattle.m3_run_loop.specs.declared.strides.Fuel.{Fuel}
use Rattle.m3_run_loop.proofs.Leading.{stood_past, renumber}
use Rattle.m3_run_loop.proofs.turns.Turn.go_past.Goals as goal

pub returns-in-Some-clause-strides : goal.returns-in-Some-clause-strides
returns-in-Some-clause-strides g c = λ k next st.
    let m = c.args.memory.now in
    let n = c.pass_near.new.memory in
    let p = program_in (image_of c.args.self.image.now).program m in
    let q = program_in (image_of c.args.self.image.now).program n in
    let f = c.args.fuel.now in
    let heap = g.S.Store.heap m.outside.heap.store in
    let heap' = g.S.Store.heap n.outside.heap.store in
    let old = at_hand c.args.r.now c.args.at.now.pc c.args.at.now.fp in
    let to = c.in-Some.to in
    let new = at_hand c.pass_near.new.r to.pc to.fp in
    let passed = c.in-Some.ensures.passed in
    let some : 1 ≤ f.limit = omega (arith, st.within, c.requires.some) in
    let over = stood_past p k c.args.self.stack f.limit (f.left - f.floor) f.points c.args.i.now old new m.threads n.threads m.outside.globals.items n.outside.globals.items heap heap' st next
    c.requires.operation passed.0 passed.1 some c.in-Some.ensures.goes in
    subst (λ (x : Fuel). Standing q (further k (f.points - x.points) (f.left - (x.left - 1))) c.args.self.stack x.limit (x.left - 1 - x.floor) x.points new n.threads n.outside.globals.items heap') (sym passed.3)
    (renumber p n.outside.constants.items k c.args.self.stack f.limit 1 1 (f.limit - 1) (f.points - 1) (f.points - (f.points - 1)) (f.left - (f.left - 1)) (f.left - 1 - (f.left - f.limit)) (f.points - 1) new n.threads n.outside.globals.items heap'
    c.pass_near.ensures.keeps.constants (omega (arith, passed.1)) (omega (arith, c.requires.some)) (omega (arith, passed.2, some)) refl over)
