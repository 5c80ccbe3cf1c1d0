use Rattle.std.proofs.Common.{ℕ, List, ap, ◌∙◌, ◌+◌, ◌<◌, [], ◌∷◌, ◌++◌, length, get_or, drop, rules, arith}
use Rattle.std.proofs.lemmas.List.{drop_more}
use Rattle.m3_roots.specs.ThreadWords.{place_from, places_from}
use Rattle.m3_roots.proofs.VisitLemmas.{keeps_twice, part_more}
use Rattle.m3_roots.proofs.StepCounts.{cost_more}
use Rattle.m3_roots.proofs.visits.visit_list.Goals as goal

pub loop-number-preserved : goal.loop-number-preserved
loop-number-preserved g c =
    let first = g.S.Store.heap c.args.store.now in
    let before = g.S.Store.heap c.loop-number.store in
    let after = g.S.Store.heap c.visit_at.new.store in
    let words = c.loop-number.r ++ c.loop-number.stack in
    let index = c.loop-number.number-index in
    let all = c.args.numbers.now in
    let rest = drop (index + 1) all in
    let lt : index < length all = omega arith in
    let part = rw (drop_more all index 0 lt) at c.loop-number.invariant.part in
    let number = get_or all index 0 in
    record {
      open_still = search rules;
      heap = keeps_twice first before after c.loop-number.invariant.heap c.if-not-visit_at.ensures.heap;
      fitting = search rules;
      part = part_more first before after (places_from c.args.first all) (c.args.r.now ++ c.args.stack.now) (place_from c.args.first number ∷ []) (places_from c.args.first rest) words (c.visit_at.new.r ++ c.visit_at.new.stack) c.loop-number.invariant.heap part c.if-not-visit_at.ensures.heap c.if-not-visit_at.ensures.visited;
      cost = cost_more first before after c.args.steps.now c.loop-number.steps c.visit_at.new.steps 1 (length (drop index all)) (length rest) (length all) c.loop-number.invariant.heap c.if-not-visit_at.ensures.cost (ap (λ (ns : List ℕ). length ns) (drop_more all index 0 lt) ∙ (omega arith)) c.loop-number.invariant.cost;
    }
