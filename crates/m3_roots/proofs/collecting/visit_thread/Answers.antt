use Rattle.std.proofs.Common.{ℕ, ◌≡◌, List, length, refl, ap, subst, arith}
use Rattle.m3_threads.specs.All.{base_of, words_of}
use Rattle.m3_image_decoded.specs.Ready.{image_of}
use Rattle.m3_roots.proofs.ThreadSteps.{in_hand, frames_to, gathers_thread_if, stops_thread_if}
use Rattle.m3_run_frames.specs.declared.frame.Frame.{Frame}
use Rattle.m3_roots.specs.Steps.{VisitCosts, rows_list}
use Rattle.m3_roots.proofs.GoodLemmas.{fault_free}
use Rattle.m3_roots.proofs.FrameLemmas.{frames_once}
use Rattle.m3_roots.proofs.collecting.visit_thread.Goals as goal

pub returns-clause-gathered : goal.returns-clause-gathered
returns-clause-gathered g c = λ t named room.
    (let p = (image_of c.args.image.now).program in
    let all = c.args.threads.now in
    let h = g.S.Store.heap c.args.store.now in
    let framed = c.in-Some.ensures.framed t named in
    let regs = c.in-Some.regs in
    let stack = c.stack_mut-stack.result.now in
    let hand = in_hand all c.args.thread t regs stack named framed.0 c.stack_mut-stack.ensures.value c.gather-fits.ensures.long.0 in
    let frames = c.frames_of.new.room.frames.items in
    let mine = framed.1 in
    let place = frames_to p all t (base_of t) stack regs frames refl hand.words_are hand.regs_are mine in
    let words = ap (length {A = ℕ}) hand.words_are in
    let many = (c.in-Some.ensures.room (length (words_of all t)) room).marks in
    let r = c.gather-fits.new.r in
    let after = c.gather-fits.new.stack in
    gathers_thread_if c.gather-fits.result p h.cells all c.set_regs.new.threads c.args.thread t regs stack r after frames h.moves (g.S.Store.heap c.gather-fits.new.store).moves hand mine c.gather-fits.ensures.long.1 c.gather-fits.auto.stack
    (c.set_regs.ensures.set t named) (c.gather-fits.ensures.gathered (base_of t) regs.fp regs.pc place (omega arith)))

pub returns-clause-stopped : goal.returns-clause-stopped
returns-clause-stopped g c = λ t named room.
    (let p = (image_of c.args.image.now).program in
    let all = c.args.threads.now in
    let h = g.S.Store.heap c.args.store.now in
    let framed = c.in-Some.ensures.framed t named in
    let regs = c.in-Some.regs in
    let stack = c.stack_mut-stack.result.now in
    let hand = in_hand all c.args.thread t regs stack named framed.0 c.stack_mut-stack.ensures.value c.gather-fits.ensures.long.0 in
    let frames = c.frames_of.new.room.frames.items in
    let mine = framed.1 in
    let place = frames_to p all t (base_of t) stack regs frames refl hand.words_are hand.regs_are mine in
    let words = ap (length {A = ℕ}) hand.words_are in
    let many = (c.in-Some.ensures.room (length (words_of all t)) room).marks in
    stops_thread_if c.gather-fits.result p h.cells all c.args.thread t regs stack frames h.moves hand mine (c.gather-fits.ensures.stopped (base_of t) regs.fp regs.pc place (omega arith)))

pub returns-clause-room : goal.returns-clause-room
returns-clause-room g c = λ stack room. c.gather-fits.ensures.room stack (c.in-Some.ensures.room stack room)

pub returns-clause-cost : goal.returns-clause-cost
returns-clause-cost g c = λ t frames named framed_so.
    (let p = (image_of c.args.image.now).program in
    let all = c.args.threads.now in
    let fault = fault_free _ (image_of c.args.image.now) c.image.ensures c.keeps_its_form.ensures in
    let framed = c.in-Some.ensures.framed t named in
    let regs = c.in-Some.regs in
    let stack = c.stack_mut-stack.result.now in
    let hand = in_hand all c.args.thread t regs stack named framed.0 c.stack_mut-stack.ensures.value c.gather-fits.ensures.long.0 in
    let there = c.frames_of.new.room.frames.items in
    let mine = framed.1 in
    let place = frames_to p all t (base_of t) stack regs there refl hand.words_are hand.regs_are mine in
    let same : there ≡ frames = frames_once p fault (base_of t) (words_of all t) t.regs.fp t.regs.pc there frames mine framed_so in
    subst (λ (fs : List Frame). VisitCosts (g.S.Store.heap c.args.store.now) (g.S.Store.heap c.gather-fits.new.store) c.args.steps.now c.gather-fits.new.steps (rows_list p fs)) same
    (c.gather-fits.ensures.cost (base_of t) regs.fp regs.pc place))

pub returns-in_default-clause-cost : goal.returns-in_default-clause-cost
returns-in_default-clause-cost g c = λ t frames named framed_so. omega arith
