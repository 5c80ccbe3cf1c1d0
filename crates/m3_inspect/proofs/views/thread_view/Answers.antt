use Rattle.std.proofs.Common.{◌≡◌}
use Rattle.m3_threads.specs.All.{base_of, words_of, thread_named}
use Rattle.m3_image_decoded.specs.Ready.{image_of}
use Rattle.m3_roots.proofs.ThreadSteps.{told}
use Rattle.m3_inspect.proofs.ThreadLemmas.{shows_by, matched}
use Rattle.m3_inspect.proofs.views.thread_view.Goals as goal

pub returns : goal.returns
returns c = λ t named number. (
    let i = image_of c.args.image.now in
    let all = c.args.threads.now in
    let found = thread_named all c.args.thread in
    let base = c.in-Some.base in
    let regs = c.in-Some-regs.regs.now in
    let stack = c.in-Some-words.stack.now in
    let frames = c.in-Some-2.frames.items in
    let b : base ≡ base_of t = told base_of found t base named c.in-Some.ensures in
    let r = told (λ u. u.regs) found t regs named c.in-Some-regs.ensures in
    let s = told (words_of all) found t stack named c.in-Some-words.ensures in
    let framed = matched _ _ c.in_ok-frames.field-0 c.in-Some-2.frames c.in-Some-2.is c.in_ok-frames.ensures in
    shows_by _ i all t c.args.thread base stack regs c.deref.result.now frames c.args.cells.now.keys c.frame_views.new.cells.keys _ c.image-whole.ensures c.deref.ensures.value number b s r framed c.in_ok-frames-2.ensures.frames c.in_ok-frames-2.ensures.cells)
