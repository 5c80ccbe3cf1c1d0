use Rattle.std.proofs.Common.{ℕ, List, length, [], ◌∷◌, ◌++◌, ap, ◌∙◌, arith, rules}
use Rattle.m3_tables.specs.Views.{numbers_of}
use Rattle.m3_roots.specs.ThreadWords.{place_from, places_from}
use Rattle.m3_roots.proofs.VisitLemmas.{keeps_twice, part_more}
use Rattle.m3_roots.proofs.StepCounts.{cost_more}
use Rattle.m3_roots.proofs.visits.visit_numbers.Goals as goal

pub loop-number-preserved : goal.loop-number-preserved
loop-number-preserved g c =
    let first = g.S.Store.heap c.args.store.now in
    let before = g.S.Store.heap c.loop-number.store in
    let after = g.S.Store.heap c.visit_at.new.store in
    let words = c.loop-number.r ++ c.loop-number.stack in
    let rest = numbers_of c.next.new.self in
    let part = rw c.in-Some.ensures.steps at c.loop-number.invariant.part in
    let number = c.in-Some.number in
    let all = numbers_of c.args.numbers in
    record {
      open_still = search rules;
      heap = keeps_twice first before after c.loop-number.invariant.heap c.if-not-visit_at.ensures.heap;
      fitting = search rules;
      part = part_more first before after (places_from c.args.first all) (c.args.r.now ++ c.args.stack.now) (place_from c.args.first number ∷ []) (places_from c.args.first rest) words (c.visit_at.new.r ++ c.visit_at.new.stack) c.loop-number.invariant.heap part c.if-not-visit_at.ensures.heap c.if-not-visit_at.ensures.visited;
      cost = cost_more first before after c.args.steps.now c.loop-number.steps c.visit_at.new.steps 1 (length (numbers_of c.loop-number.number-iterator)) (length rest) (length all) c.loop-number.invariant.heap c.if-not-visit_at.ensures.cost (ap (λ (ns : List ℕ). length ns) c.in-Some.ensures.steps ∙ (omega arith)) c.loop-number.invariant.cost;
    }
