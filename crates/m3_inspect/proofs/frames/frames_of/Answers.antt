use Rattle.std.proofs.Common.{rules, ◌≡◌, ◌+◌, ◌-◌, List, [], ◌∷◌, ◌++◌, sym, subst, arith}
use Rattle.m3_image_decoded.specs.Ready.{image_of}
use Rattle.m3_run_frames.specs.declared.frame.Frame.{Frame}
use Rattle.m3_roots.proofs.GoodLemmas.{fault_free}
use Rattle.m3_roots.proofs.FrameLemmas.{Listed, listed_first, listed_more, listed_stop, none_first}
use Rattle.m3_inspect.proofs.frames.frames_of.Goals as goal

pub returns-in_default : goal.returns-in_default
returns-in_default c =
    none_first (image_of c.args.image.now).program c.args.base c.args.stack.now c.args.regs.now.fp c.args.regs.now.pc (c.args.regs.now.fp - c.args.base) (omega arith) c.in_default.ensures

pub loop-newer-init : goal.loop-newer-init
loop-newer-init c =
    let p = (image_of c.args.image.now).program in
    let fault = fault_free _ (image_of c.args.image.now) c.image.ensures c.keeps_its_form.ensures in
    let first = c.args.regs.now.fp - c.args.base in
    let at : c.args.regs.now.fp ≡ c.args.base + first = omega arith in
    let none : c.new-frames.result.items ≡ [] = c.new-frames.ensures.items in
    subst (λ (fs : List Frame). Listed p c.args.base c.args.stack.now c.args.regs.now.fp c.args.regs.now.pc fs c.in-Some.newer) (sym none) (listed_first p fault c.args.base c.args.stack.now c.args.regs.now.fp c.args.regs.now.pc first c.in-Some.newer at c.in-Some.ensures)

pub returns-in_default-older_frame : goal.returns-in_default-older_frame
returns-in_default-older_frame c =
    listed_stop (image_of c.args.image.now).program c.args.base c.args.stack.now c.args.regs.now.fp c.args.regs.now.pc c.loop-newer.frames.items c.loop-newer.newer c.loop-newer.invariant c.loop-newer-test.true c.in_default-older_frame.ensures

pub loop-newer-preserved : goal.loop-newer-preserved
loop-newer-preserved c =
    let p = (image_of c.args.image.now).program in
    let fault = fault_free _ (image_of c.args.image.now) c.image.ensures c.keeps_its_form.ensures in
    let front = c.loop-newer.frames.items in
    let newer = c.loop-newer.newer in
    let older = c.in-Some-older_frame.older in
    let items : c.push.new.self.items ≡ front ++ newer ∷ [] = search rules in
    subst (λ (fs : List Frame). Listed p c.args.base c.args.stack.now c.args.regs.now.fp c.args.regs.now.pc fs older) (sym items) (listed_more p fault c.args.base c.args.stack.now c.args.regs.now.fp c.args.regs.now.pc front newer older c.loop-newer.invariant c.loop-newer-test.true c.in-Some-older_frame.ensures)
