use Rattle.std.proofs.Common.{arith}
use Rattle.std.proofs.lemmas.List.{take_all}
use Rattle.m3_roots.proofs.StepLemmas.{no_frame, each_at, EndsBy, ends_more}
use Rattle.m3_roots.proofs.lists.end_of.Goals as goal

pub loop-frame-preserved : goal.loop-frame-preserved
loop-frame-preserved c = λ n small all.
    (let frames = c.args.frames.now in
    let i = c.loop-frame.frame-index in
    let before = c.loop-frame.invariant n small all in
    let ends = each_at (EndsBy n) frames i no_frame c.loop-frame-test.true all in
    let later = c.later_end-end.ensures in
    (later.within n small ends before.0, ends_more c.loop-frame.end c.later_end-end.result frames i no_frame c.loop-frame-test.true later.later (later.frame n small ends) before.1))

pub returns : goal.returns
returns c = λ n small all.
    (let so_far = c.loop-frame.invariant n small all in
    (so_far.0, rw (take_all c.loop-frame.frame-index c.args.frames.now (omega arith)) at so_far.1))
