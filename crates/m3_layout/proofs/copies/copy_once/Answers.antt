use Rattle.std.proofs.Common.{◌≤◌, ◌<◌, ◌^◌, ◌+◌, ◌-◌, ◌∙◌, length, arith, length-drop, drop}
use Rattle.m3_layout.proofs.Copying.{read_first, read_fits, copied_more}
use Rattle.m3_layout.proofs.copies.copy_once.Goals as goal

pub overflow_sub-pointer : goal.overflow_sub-pointer
overflow_sub-pointer c =
    let run = c.args.run in
    let init = c.args.offsets.now.items in
    let l : run.start + c.loop-i.i < length init = omega arith in
    let r = read_first _ init _ run.start c.loop-i.i c.index-pointer.result.now c.loop-i.invariant l c.index-pointer.ensures in
    (read_fits (λ p. (run.at ≤ p) × (p - run.at + c.args.at < 2 ^ 64)) init run.start run.end c.loop-i.i c.index-pointer.result.now c.requires.within c.loop-i-test.true r c.requires.fits).0

pub overflow_add-pointer : goal.overflow_add-pointer
overflow_add-pointer c =
    let run = c.args.run in
    let init = c.args.offsets.now.items in
    let l : run.start + c.loop-i.i < length init = omega arith in
    let r = read_first _ init _ run.start c.loop-i.i c.index-pointer.result.now c.loop-i.invariant l c.index-pointer.ensures in
    let h : c.index-pointer.result.now - run.at + c.args.at < 2 ^ 64 = (read_fits (λ p. (run.at ≤ p) × (p - run.at + c.args.at < 2 ^ 64)) init run.start run.end c.loop-i.i c.index-pointer.result.now c.requires.within c.loop-i-test.true r c.requires.fits).1 in
    omega (arith, h)

pub loop-i-preserved : goal.loop-i-preserved
loop-i-preserved c =
    let run = c.args.run in
    let init = c.args.offsets.now.items in
    let l : run.start + c.loop-i.i < length init = omega arith in
    let k : c.loop-i.i < length (drop run.start init) = omega (arith, length-drop run.start init) in
    let r = read_first _ init _ run.start c.loop-i.i c.index-pointer.result.now c.loop-i.invariant l c.index-pointer.ensures in
    c.in_ok-push.ensures.items ∙ copied_more _ c.loop-i.offsets.items init (drop run.start init) c.loop-i.i c.index-pointer.result.now c.loop-i.invariant k r
