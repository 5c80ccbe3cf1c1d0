use Rattle.std.proofs.Common.{◌≡◌, ◌≤◌, ◌+◌, ℕ, List, ◌++◌, length, refl, sym, ap, subst, arith}
use Rattle.m3_threads.specs.All.{base_of, words_of}
use Rattle.m3_image_decoded.specs.Ready.{image_of}
use Rattle.m3_run_frames.specs.declared.frame.Frame.{Frame}
use Rattle.m3_roots.specs.Moving.{MovesWords}
use Rattle.m3_roots.specs.Gathering.{Gathers}
use Rattle.m3_roots.specs.Collected.{AreFrames}
use Rattle.m3_roots.specs.RowMeaning.{derived_words}
use Rattle.m3_roots.specs.Steps.{derived_listed}
use Rattle.m3_roots.proofs.GoodLemmas.{fault_free}
use Rattle.m3_roots.proofs.FrameLemmas.{frames_once}
use Rattle.m3_roots.proofs.ThreadSteps.{in_hand, frames_to, gathered_in_hand, mends_thread}
use Rattle.m3_roots.proofs.collecting.mend_thread.Goals as goal

pub returns-clause-mended : goal.returns-clause-mended
returns-clause-mended g c = λ t frames cells words before after last named room framed gathers count on.
    (let p = (image_of c.args.image.now).program in
    let all = c.args.threads.now in
    let fault = fault_free _ (image_of c.args.image.now) c.image.ensures c.keeps_its_form.ensures in
    let told = c.in-Some.ensures.framed t named in
    let regs = c.in-Some.regs in
    let stack = c.stack_mut-stack.result.now in
    let hand = in_hand all c.args.thread t regs stack named told.0 c.stack_mut-stack.ensures.value c.mend-fits.ensures.long in
    let there = c.deref.result.now in
    let mine = subst (λ (fs : List Frame). AreFrames p all t fs) (sym c.deref.ensures.value) told.1 in
    let same : frames ≡ there = frames_once p fault (base_of t) (words_of all t) t.regs.fp t.regs.pc frames there framed mine in
    let place = frames_to p all t (base_of t) stack regs there refl hand.words_are hand.regs_are mine in
    let in_stack = ap (length {A = ℕ}) hand.words_are in
    let gathered = subst (λ (fs : List Frame). Gathers p cells fs words before (regs.r ++ stack) after) same (gathered_in_hand p cells all c.args.thread t regs stack frames words before after hand gathers) in
    let r = c.mend-fits.new.r in
    let new_stack = c.mend-fits.new.stack in
    let m = c.mend-fits.ensures.mended (base_of t) regs.fp regs.pc cells words before after last place gathered (omega arith) on in
    (m.0, mends_thread p last all c.set_regs.new.threads c.args.thread t regs stack r new_stack frames words hand c.mend-fits.auto.stack (c.set_regs.ensures.set t named) (subst (λ (fs : List Frame). MovesWords p last fs words (r ++ new_stack)) (sym same) m.1)))

pub returns-clause-cost : goal.returns-clause-cost
returns-clause-cost g c = λ t frames named framed.
    (let p = (image_of c.args.image.now).program in
    let all = c.args.threads.now in
    let fault = fault_free _ (image_of c.args.image.now) c.image.ensures c.keeps_its_form.ensures in
    let told = c.in-Some.ensures.framed t named in
    let regs = c.in-Some.regs in
    let stack = c.stack_mut-stack.result.now in
    let hand = in_hand all c.args.thread t regs stack named told.0 c.stack_mut-stack.ensures.value c.mend-fits.ensures.long in
    let there = c.deref.result.now in
    let mine = subst (λ (fs : List Frame). AreFrames p all t fs) (sym c.deref.ensures.value) told.1 in
    let same : there ≡ frames = frames_once p fault (base_of t) (words_of all t) t.regs.fp t.regs.pc there frames mine framed in
    let place = frames_to p all t (base_of t) stack regs there refl hand.words_are hand.regs_are mine in
    subst (λ (fs : List Frame). c.mend-fits.new.steps ≤ c.args.steps.now + derived_listed (derived_words p fs)) same (c.mend-fits.ensures.cost (base_of t) regs.fp regs.pc place))

pub returns-in_default-clause-cost : goal.returns-in_default-clause-cost
returns-in_default-clause-cost g c = λ t frames named framed. omega arith
