use Rattle.std.proofs.Common.{ℕ, List, length, [], ◌∷◌, ap, ◌∙◌, arith, rules}
use Rattle.m3_tables.specs.Views.{numbers_of}
use Rattle.m3_image_decoded.specs.Ready.{image_of}
use Rattle.m3_roots.proofs.VisitLemmas.{keeps_twice, part_more}
use Rattle.m3_roots.proofs.StepCounts.{cost_more}
use Rattle.m3_roots.proofs.tidy.visit_globals.Goals as goal

pub loop-number-preserved : goal.loop-number-preserved
loop-number-preserved g c =
    let first = g.S.Store.heap c.args.store.now in
    let before = g.S.Store.heap c.loop-number.store in
    let after = g.S.Store.heap c.visit_global.new.store in
    let rest = numbers_of c.next.new.self in
    let part = rw c.in-Some.ensures.steps at c.loop-number.invariant.part in
    let number = c.in-Some.number in
    record {
      open_still = search rules;
      heap = keeps_twice first before after c.loop-number.invariant.heap c.if-not-visit_global.ensures.heap;
      fitting = search rules;
      part = part_more first before after (image_of c.args.image.now).program.globals.pointers c.args.globals.now (number ∷ []) rest c.loop-number.globals c.visit_global.new.globals c.loop-number.invariant.heap part c.if-not-visit_global.ensures.heap c.if-not-visit_global.ensures.visited;
      cost = cost_more first before after c.args.steps.now c.loop-number.steps c.visit_global.new.steps 1 (length (numbers_of c.loop-number.number-iterator)) (length rest) (length (image_of c.args.image.now).program.globals.pointers) c.loop-number.invariant.heap c.if-not-visit_global.ensures.cost (ap (λ (ns : List ℕ). length ns) c.in-Some.ensures.steps ∙ (omega arith)) c.loop-number.invariant.cost;
    }
