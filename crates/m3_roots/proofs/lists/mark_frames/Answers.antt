use Rattle.std.proofs.Common.{◌≡◌, ◌+◌, ◌<◌, List, [], get_or, drop, subst, arith}
use Rattle.std.proofs.lemmas.List.{drop_more, drop_all}
use Rattle.m3_tables.specs.Numbers.{word_in}
use Rattle.m3_image_decoded.specs.Ready.{image_of}
use Rattle.m3_run_frames.specs.declared.frame.Frame.{Frame}
use Rattle.m3_roots.specs.Marking.{MarksPart}
use Rattle.m3_roots.specs.RowActs.{frame_acts, acts_below}
use Rattle.m3_roots.proofs.PartLemmas.{marks_more, marks_stop, marks_all}
use Rattle.m3_roots.proofs.StepLemmas.{no_frame, each_at}
use Rattle.m3_roots.proofs.lists.mark_frames.Goals as goal

pub returns-then-not-mark_frame : goal.returns-then-not-mark_frame
returns-then-not-mark_frame c = λ rows.
    (let p = (image_of c.args.image.now).program in
    let frames = c.args.frames.now in
    let i = c.loop-frame.frame-index in
    let f = get_or frames i no_frame in
    let rest = drop (i + 1) frames in
    let old = c.args.marks.now in
    let mid = c.loop-frame.marks in
    let part = subst (λ (fs : List Frame). MarksPart old mid (acts_below p frames) (acts_below p fs)) (drop_more frames i no_frame c.loop-frame-test.true) (c.loop-frame.invariant rows) in
    let row = each_at (λ (g : Frame). g.row < word_in p.tables) frames i no_frame c.loop-frame-test.true rows in
    marks_stop old mid c.mark_frame.new.marks (acts_below p frames) (frame_acts p f) (acts_below p rest) part (c.if-not-mark_frame.ensures row))

pub loop-frame-preserved : goal.loop-frame-preserved
loop-frame-preserved c = λ rows.
    (let p = (image_of c.args.image.now).program in
    let frames = c.args.frames.now in
    let i = c.loop-frame.frame-index in
    let f = get_or frames i no_frame in
    let rest = drop (i + 1) frames in
    let old = c.args.marks.now in
    let mid = c.loop-frame.marks in
    let part = subst (λ (fs : List Frame). MarksPart old mid (acts_below p frames) (acts_below p fs)) (drop_more frames i no_frame c.loop-frame-test.true) (c.loop-frame.invariant rows) in
    let row = each_at (λ (g : Frame). g.row < word_in p.tables) frames i no_frame c.loop-frame-test.true rows in
    marks_more old mid c.mark_frame.new.marks (acts_below p frames) (frame_acts p f) (acts_below p rest) part (c.if-not-mark_frame.ensures row))

pub returns : goal.returns
returns c = λ rows.
    (let p = (image_of c.args.image.now).program in
    let frames = c.args.frames.now in
    let old = c.args.marks.now in
    let new = c.loop-frame.marks in
    let none : drop c.loop-frame.frame-index frames ≡ [] = drop_all c.loop-frame.frame-index frames (omega arith) in
    marks_all old new (acts_below p frames) (subst (λ (fs : List Frame). MarksPart old new (acts_below p frames) (acts_below p fs)) none (c.loop-frame.invariant rows)))
