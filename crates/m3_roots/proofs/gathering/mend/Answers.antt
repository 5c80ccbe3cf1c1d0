use Rattle.std.proofs.Common.{◌++◌}
use Rattle.m3_image_decoded.specs.Ready.{image_of}
use Rattle.m3_roots.proofs.GoodLemmas.{IsGood, good_of}
use Rattle.m3_roots.proofs.GatherLemmas.{rows_of, mends_if}
use Rattle.m3_roots.proofs.gathering.mend.Goals as goal

pub returns-clause-mended : goal.returns-clause-mended
returns-clause-mended g c = λ base fp pc cells old before after last framed gathers count grew.
    (let p = (image_of c.args.image.now).program in
    let good : IsGood p = good_of _ _ (image_of c.args.image.now) c.image.ensures c.image-2.ensures c.keeps_its_form.ensures c.keeps_together.ensures in
    let frames = c.args.frames.now in
    let stack = c.args.stack.now in
    let rows = rows_of p good.sound good.procs base stack fp pc frames framed in
    mends_if c.put_together.result p good.sound good.procs base fp pc stack cells frames old before (c.args.r.now ++ stack) after last (c.put_together.new.r ++ c.put_together.new.stack) framed gathers count grew (c.put_together.ensures.leaves rows))

pub returns-clause-cost : goal.returns-clause-cost
returns-clause-cost g c = λ base fp pc framed.
    (let p = (image_of c.args.image.now).program in
    let good : IsGood p = good_of _ _ (image_of c.args.image.now) c.image.ensures c.image-2.ensures c.keeps_its_form.ensures c.keeps_together.ensures in
    c.put_together.ensures.cost (rows_of p good.sound good.procs base c.args.stack.now fp pc c.args.frames.now framed))
