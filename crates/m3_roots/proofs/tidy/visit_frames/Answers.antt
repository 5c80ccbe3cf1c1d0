use Rattle.std.proofs.Common.{◌++◌}
use Rattle.m3_image_decoded.specs.Ready.{image_of}
use Rattle.m3_roots.specs.RowMeaning.{newest_arguments, tidy_below}
use Rattle.m3_roots.proofs.VisitLemmas.{visit_then, stops_first}
use Rattle.m3_roots.proofs.StepCounts.{cost_both, cost_first}
use Rattle.m3_roots.proofs.tidy.visit_frames.Goals as goal

pub returns-then-visit_arguments-clause-visited : goal.returns-then-visit_arguments-clause-visited
returns-then-visit_arguments-clause-visited g c = λ rows.
    (let p = (image_of c.args.image.now).program in
    let frames = c.args.frames.now in
    let first = g.S.Store.heap c.args.store.now in
    let mid = g.S.Store.heap c.visit_arguments.new.store in
    visit_then c.visit_each.result first mid (newest_arguments p frames) (tidy_below p frames) (c.args.r.now ++ c.args.stack.now) (c.visit_arguments.new.r ++ c.visit_arguments.new.stack) (c.visit_each.new.r ++ c.visit_each.new.stack) (g.S.Store.heap c.visit_each.new.store).moves
    c.if-visit_arguments.ensures.heap (c.if-visit_arguments.ensures.visited rows) (c.visit_each.ensures.visited rows))

pub returns-else-visit_arguments-clause-visited : goal.returns-else-visit_arguments-clause-visited
returns-else-visit_arguments-clause-visited g c = λ rows.
    (let p = (image_of c.args.image.now).program in
    let frames = c.args.frames.now in
    let first = g.S.Store.heap c.args.store.now in
    rw c.if-visit_arguments.false (stops_first first.cells (newest_arguments p frames) (tidy_below p frames) (c.args.r.now ++ c.args.stack.now) first.moves (c.if-visit_arguments.ensures.visited rows)))

pub returns-then-visit_arguments-clause-cost : goal.returns-then-visit_arguments-clause-cost
returns-then-visit_arguments-clause-cost g c = λ rows.
    (let p = (image_of c.args.image.now).program in
    let frames = c.args.frames.now in
    let first = g.S.Store.heap c.args.store.now in
    let mid = g.S.Store.heap c.visit_arguments.new.store in
    let last = g.S.Store.heap c.visit_each.new.store in
    cost_both first mid last c.args.steps.now c.visit_arguments.new.steps c.visit_each.new.steps (newest_arguments p frames) (tidy_below p frames) c.if-visit_arguments.ensures.heap (c.if-visit_arguments.ensures.cost rows) (c.visit_each.ensures.cost rows))

pub returns-else-visit_arguments-clause-cost : goal.returns-else-visit_arguments-clause-cost
returns-else-visit_arguments-clause-cost g c = λ rows.
    (let p = (image_of c.args.image.now).program in
    let frames = c.args.frames.now in
    cost_first (g.S.Store.heap c.args.store.now) (g.S.Store.heap c.visit_arguments.new.store) c.args.steps.now c.visit_arguments.new.steps (newest_arguments p frames) (tidy_below p frames) (c.if-visit_arguments.ensures.cost rows))
