use Rattle.std.specs.Prelude.{drop}
use Rattle.m3_image_decoded.specs.Ready.{image_of}
use Rattle.m3_roots.specs.RowMeaning.{HaveRows}
use Rattle.m3_roots.specs.Marking.{MarksPart}
use Rattle.m3_roots.specs.RowActs.{acts_below}
use Rattle.m3_roots.proofs.lists.mark_frames.Given as goal

abbrev pub invariant-loop-frame : goal.invariant-loop-frame
invariant-loop-frame l =
    let p = (image_of l.image).program in
    HaveRows p l.frames → MarksPart l.initial.marks l.marks (acts_below p l.frames) (acts_below p (drop l.frame-index l.frames))
