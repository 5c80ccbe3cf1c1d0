use Rattle.std.proofs.Common.{◌≡◌, true, ◌∙◌, ◌+◌, ◌-◌, List, [], ◌∷◌, ◌++◌, length, ap, sym, subst, arith, length-append}
use Rattle.std.specs.Result.{is_ok}
use Rattle.m3_image_decoded.specs.Ready.{image_of}
use Rattle.m3_run_frames.specs.declared.frame.Frame.{Frame}
use Rattle.m3_roots.proofs.GoodLemmas.{fault_free}
use Rattle.m3_roots.proofs.FrameLemmas.{Listed, listed_first, listed_more, listed_stop, none_first}
use Rattle.m3_roots.proofs.StepLemmas.{pushed}
use Rattle.m3_roots.proofs.walk.list_frames.Goals as goal

pub returns-in_default-clause-none : goal.returns-in_default-clause-none
returns-in_default-clause-none c = λ room result.
    none_first (image_of c.args.image.now).program c.args.base c.args.stack.now c.args.regs.now.fp c.args.regs.now.pc (c.args.regs.now.fp - c.args.base) (omega arith) c.in_default.ensures

pub loop-newer-init : goal.loop-newer-init
loop-newer-init c =
    let p = (image_of c.args.image.now).program in
    let fault = fault_free _ (image_of c.args.image.now) c.image.ensures c.keeps_its_form.ensures in
    let first = c.args.regs.now.fp - c.args.base in
    let at : c.args.regs.now.fp ≡ c.args.base + first = omega arith in
    let f = c.in-Some.newer in
    let none : c.clear.new.self.items ≡ [] = c.clear.ensures.items in
    let few : length c.clear.new.self.items ≡ 0 = ap (length {A = Frame}) none in
    let within = c.in-Some.ensures.within in
    record {
      listed = subst (λ (fs : List Frame). Listed p c.args.base c.args.stack.now c.args.regs.now.fp c.args.regs.now.pc fs f) (sym none) (listed_first p fault c.args.base c.args.stack.now c.args.regs.now.fp c.args.regs.now.pc first f at c.in-Some.ensures);
      few = omega arith;
      room = omega arith;
    }

pub returns-in_default-older_frame-clause-none : goal.returns-in_default-older_frame-clause-none
returns-in_default-older_frame-clause-none c = λ room result.
    listed_stop (image_of c.args.image.now).program c.args.base c.args.stack.now c.args.regs.now.fp c.args.regs.now.pc c.loop-newer.frames.items c.loop-newer.newer c.loop-newer.invariant.listed c.loop-newer-test.true c.in_default-older_frame.ensures

pub loop-newer-preserved : goal.loop-newer-preserved
loop-newer-preserved c =
    let p = (image_of c.args.image.now).program in
    let fault = fault_free _ (image_of c.args.image.now) c.image.ensures c.keeps_its_form.ensures in
    let front = c.loop-newer.frames.items in
    let newer = c.loop-newer.newer in
    let older = c.in-Some-older_frame.older in
    let h = c.in-Some-older_frame.ensures in
    let ok : is_ok c.push.result ≡ true = c.if-is_err.ensures.negation in
    let items : c.push.new.self.items ≡ front ++ newer ∷ [] = pushed (is_ok c.push.result) c.push.new.self.items (front ++ newer ∷ []) front ok c.push.ensures.items in
    let count : length c.push.new.self.items ≡ length front + 1 = ap (length {A = Frame}) items ∙ length-append front (newer ∷ []) in
    let few = c.loop-newer.invariant.few in
    let room = c.loop-newer.invariant.room in
    let more = c.push.ensures.capacity in
    let below = h.below in
    record {
      listed = subst (λ (fs : List Frame). Listed p c.args.base c.args.stack.now c.args.regs.now.fp c.args.regs.now.pc fs older) (sym items) (listed_more p fault c.args.base c.args.stack.now c.args.regs.now.fp c.args.regs.now.pc front newer older c.loop-newer.invariant.listed c.loop-newer-test.true h);
      few = omega arith;
      room = omega arith;
    }
