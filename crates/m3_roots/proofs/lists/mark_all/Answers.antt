use Rattle.std.proofs.Common.{List, map}
use Rattle.m3_image_decoded.specs.Ready.{image_of}
use Rattle.m3_roots.specs.RowMeaning.{newest_arguments}
use Rattle.m3_roots.specs.Marking.{Act, Lists}
use Rattle.m3_roots.specs.RowActs.{acts_below}
use Rattle.m3_roots.proofs.PartLemmas.{marks_then, marks_fail}
use Rattle.m3_roots.proofs.lists.mark_all.Goals as goal

pub returns-then-mark_arguments : goal.returns-then-mark_arguments
returns-then-mark_arguments c = λ rows.
    (let p = (image_of c.args.image.now).program in
    let frames = c.args.frames.now in
    let xs : List Act = map Lists (newest_arguments p frames) in
    let ys : List Act = acts_below p frames in
    marks_then c.args.marks.now c.mark_arguments.new.marks c.mark_frames.new.marks xs ys c.mark_frames.result (c.if-mark_arguments.ensures rows) (c.mark_frames.ensures rows))

pub returns-else-mark_arguments : goal.returns-else-mark_arguments
returns-else-mark_arguments c = λ rows.
    (let p = (image_of c.args.image.now).program in
    let frames = c.args.frames.now in
    let xs : List Act = map Lists (newest_arguments p frames) in
    let ys : List Act = acts_below p frames in
    rw c.if-mark_arguments.false (marks_fail c.args.marks.now c.mark_arguments.new.marks xs ys (c.if-mark_arguments.ensures rows)))
