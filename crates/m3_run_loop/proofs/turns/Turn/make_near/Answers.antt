use Rattle.std.specs.Prelude.{ℕ, List, Some}
use Rattle.std.proofs.Common.{subst, sym, rules}
use Rattle.m3_heap.specs.Heap.{Allots}
use Rattle.m3_image_decoded.specs.Ready.{image_of}
use Rattle.m3_isa.specs.Effects.{at_hand}
use Rattle.m3_run_loop.specs.Leading.{program_in, Goes_on}
use Rattle.m3_run_loop.proofs.Deeds.{goes_made}
use Rattle.m3_run_loop.proofs.turns.Turn.make_near.Goals as goal

pub returns-in-Some-clause-goes : goal.returns-in-Some-clause-goes
returns-in-Some-clause-goes g c =
    let m = c.args.memory.now in
    let n = c.allocate.new.self in
    let to = c.give.result in
    let p = program_in (image_of c.args.self.image.now).program m in
    let old = at_hand c.args.r.now c.args.at.pc c.args.at.fp in
    let new = at_hand c.give.new.r to.pc to.fp in
    let heap = g.S.Store.heap m.outside.heap.store in
    let heap' = g.S.Store.heap n.heap.store in
    subst (λ (gs : List ℕ). Goes_on p c.args.self.stack c.args.i old m.threads m.outside.globals.items heap new m.threads gs heap') (sym c.allocate.ensures.globals)
    (goes_made p c.args.self.stack c.args.i old new m.threads m.outside.globals.items heap heap' c.in_ok-words.words c.in-Some.cell c.requires.operation (search rules)
    (subst (λ (kind : ℕ). Allots heap kind c.in_ok-words.words (Some c.in-Some.cell) heap') (search rules) c.in-Some.ensures.allots) (g.met.S.Store.sound n.heap.store).laws (search rules))
