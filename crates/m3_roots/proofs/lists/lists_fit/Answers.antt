use Rattle.std.proofs.Common.{◌≡◌, ◌+◌, ◌<◌, ◌^◌, length, arith}
use Rattle.m3_image_decoded.specs.Ready.{image_of}
use Rattle.m3_roots.proofs.GoodLemmas.{IsGood, good_of}
use Rattle.m3_roots.proofs.WithinLemmas.{frames_sit, all_end}
use Rattle.m3_roots.proofs.ListLemmas.{tells_fit, fit_if, unfit_if}
use Rattle.m3_roots.proofs.GatherLemmas.{rows_of}
use Rattle.m3_roots.proofs.lists.lists_fit.Goals as goal

pub returns-clause-fit : goal.returns-clause-fit
returns-clause-fit c = λ base fp pc stack framed marks result.
    (let p = (image_of c.args.image.now).program in
    let good : IsGood p = good_of _ _ (image_of c.args.image.now) c.image.ensures c.image-2.ensures c.keeps_its_form.ensures c.keeps_together.ensures in
    let frames = c.args.frames.now in
    let rows = rows_of p good.sound good.procs base stack fp pc frames framed in
    let sits = frames_sit p good.sound good.procs base stack fp pc frames framed in
    let small : length stack < 2 ^ 64 = omega arith in
    let ends = c.end_of.ensures (length stack) small (all_end p (length stack) frames sits) in
    let low = ends.0 in
    let e = c.end_of.result in
    let end = c.min-end.result in
    let is : end ≡ e + 16 = omega arith in
    let len = c.clear.ensures.length in
    let told = tells_fit p good.sound good.procs base fp pc stack frames c.clear.new.marks c.mark_all.new.marks e end c.mark_all.result framed is (omega arith) c.clear.ensures.cleared ends.1 (c.mark_all.ensures rows) in
    fit_if p frames c.mark_all.result told result)

pub returns-clause-unfit : goal.returns-clause-unfit
returns-clause-unfit c = λ base fp pc stack framed marks result.
    (let p = (image_of c.args.image.now).program in
    let good : IsGood p = good_of _ _ (image_of c.args.image.now) c.image.ensures c.image-2.ensures c.keeps_its_form.ensures c.keeps_together.ensures in
    let frames = c.args.frames.now in
    let rows = rows_of p good.sound good.procs base stack fp pc frames framed in
    let sits = frames_sit p good.sound good.procs base stack fp pc frames framed in
    let small : length stack < 2 ^ 64 = omega arith in
    let ends = c.end_of.ensures (length stack) small (all_end p (length stack) frames sits) in
    let low = ends.0 in
    let e = c.end_of.result in
    let end = c.min-end.result in
    let is : end ≡ e + 16 = omega arith in
    let len = c.clear.ensures.length in
    let told = tells_fit p good.sound good.procs base fp pc stack frames c.clear.new.marks c.mark_all.new.marks e end c.mark_all.result framed is (omega arith) c.clear.ensures.cleared ends.1 (c.mark_all.ensures rows) in
    unfit_if p frames c.mark_all.result told result)
