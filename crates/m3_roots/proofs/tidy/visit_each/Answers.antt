use Rattle.std.proofs.Common.{length, ap, ◌∙◌, arith, ◌+◌, ◌<◌, List, ◌++◌, get_or, drop, subst, rules}
use Rattle.std.proofs.lemmas.List.{drop_more, length-append}
use Rattle.m3_tables.specs.Numbers.{word_in}
use Rattle.m3_image_decoded.specs.Ready.{image_of}
use Rattle.m3_run_frames.specs.declared.frame.Frame.{Frame}
use Rattle.m3_roots.specs.RowMeaning.{tidy_of_frame, tidy_below}
use Rattle.m3_roots.specs.Visiting.{VisitsPart}
use Rattle.m3_roots.proofs.StepLemmas.{no_frame, each_at}
use Rattle.m3_roots.proofs.VisitLemmas.{keeps_twice, part_more, part_stops}
use Rattle.m3_roots.proofs.StepCounts.{cost_more}
use Rattle.m3_roots.proofs.tidy.visit_each.Goals as goal

pub returns-then-not-visit_frame-clause-visited : goal.returns-then-not-visit_frame-clause-visited
returns-then-not-visit_frame-clause-visited g c = λ rows.
    (let p = (image_of c.args.image.now).program in
    let frames = c.args.frames.now in
    let i = c.loop-frame.frame-index in
    let f = get_or frames i no_frame in
    let first = g.S.Store.heap c.args.store.now in
    let mid = g.S.Store.heap c.loop-frame.store in
    let words = c.args.r.now ++ c.args.stack.now in
    let now = c.loop-frame.r ++ c.loop-frame.stack in
    let part = subst (λ (fs : List Frame). VisitsPart first.cells (tidy_below p frames) words first.moves (tidy_below p fs) now mid.moves) (drop_more frames i no_frame c.loop-frame-test.true) (c.loop-frame.invariant.part rows) in
    let row = each_at (λ (h : Frame). h.row < word_in p.tables) frames i no_frame c.loop-frame-test.true rows in
    part_stops first mid (tidy_below p frames) words (tidy_of_frame p f) (tidy_below p (drop (i + 1) frames)) now c.loop-frame.invariant.heap part (c.if-not-visit_frame.ensures.visited row))

pub loop-frame-preserved : goal.loop-frame-preserved
loop-frame-preserved g c =
    let first = g.S.Store.heap c.args.store.now in
    let mid = g.S.Store.heap c.loop-frame.store in
    let new = g.S.Store.heap c.visit_frame.new.store in
    record {
      open_still = search rules;
      heap = keeps_twice first mid new c.loop-frame.invariant.heap c.if-not-visit_frame.ensures.heap;
      fitting = search rules;
      part = λ rows. (
          let p = (image_of c.args.image.now).program in
          let frames = c.args.frames.now in
          let i = c.loop-frame.frame-index in
          let f = get_or frames i no_frame in
          let words = c.args.r.now ++ c.args.stack.now in
          let now = c.loop-frame.r ++ c.loop-frame.stack in
          let part = subst (λ (fs : List Frame). VisitsPart first.cells (tidy_below p frames) words first.moves (tidy_below p fs) now mid.moves) (drop_more frames i no_frame c.loop-frame-test.true) (c.loop-frame.invariant.part rows) in
          let row = each_at (λ (h : Frame). h.row < word_in p.tables) frames i no_frame c.loop-frame-test.true rows in
          part_more first mid new (tidy_below p frames) words (tidy_of_frame p f) (tidy_below p (drop (i + 1) frames)) now (c.visit_frame.new.r ++ c.visit_frame.new.stack) c.loop-frame.invariant.heap part c.if-not-visit_frame.ensures.heap (c.if-not-visit_frame.ensures.visited row));
      cost = λ rows. (
          let p = (image_of c.args.image.now).program in
          let frames = c.args.frames.now in
          let i = c.loop-frame.frame-index in
          let f = get_or frames i no_frame in
          let rest = tidy_below p (drop (i + 1) frames) in
          let parts = ap (λ (fs : List Frame). length (tidy_below p fs)) (drop_more frames i no_frame c.loop-frame-test.true) ∙ length-append (tidy_of_frame p f) rest in
          let row = each_at (λ (h : Frame). h.row < word_in p.tables) frames i no_frame c.loop-frame-test.true rows in
          cost_more first mid new c.args.steps.now c.loop-frame.steps c.visit_frame.new.steps (length (tidy_of_frame p f)) (length (tidy_below p (drop i frames))) (length rest) (length (tidy_below p frames)) c.loop-frame.invariant.heap (c.if-not-visit_frame.ensures.cost row) parts (c.loop-frame.invariant.cost rows));
    }

pub returns-then-not-visit_frame-clause-cost : goal.returns-then-not-visit_frame-clause-cost
returns-then-not-visit_frame-clause-cost g c = λ rows. (
    let p = (image_of c.args.image.now).program in
    let frames = c.args.frames.now in
    let i = c.loop-frame.frame-index in
    let f = get_or frames i no_frame in
    let rest = tidy_below p (drop (i + 1) frames) in
    let parts = ap (λ (fs : List Frame). length (tidy_below p fs)) (drop_more frames i no_frame c.loop-frame-test.true) ∙ length-append (tidy_of_frame p f) rest in
    let row = each_at (λ (h : Frame). h.row < word_in p.tables) frames i no_frame c.loop-frame-test.true rows in
    let first = g.S.Store.heap c.args.store.now in
    let mid = g.S.Store.heap c.loop-frame.store in
    let new = g.S.Store.heap c.visit_frame.new.store in
    let all = cost_more first mid new c.args.steps.now c.loop-frame.steps c.visit_frame.new.steps (length (tidy_of_frame p f)) (length (tidy_below p (drop i frames))) (length rest) (length (tidy_below p frames)) c.loop-frame.invariant.heap (c.if-not-visit_frame.ensures.cost row) parts (c.loop-frame.invariant.cost rows) in
    omega (arith, all))
