use Rattle.std.specs.Prelude.{ℕ, ◌≡◌, ◌≤◌, ◌<◌, false, None, Some, slice_get}
use Rattle.std.proofs.Common.{sym, ap, subst, ◌∙◌, arith}
use Rattle.m3_isa.specs.Instructions.{is_point}
use Rattle.m3_image_sections.specs.Parts.{Program}
use Rattle.m3_run_meaning.specs.declared.progress.Progress.{Progress as Answer}
use Rattle.m3_run_meaning.specs.Runs.{turn_limit}
use Rattle.m3_run_state.specs.Seen.{state_of, program_of}
use Rattle.m3_machine.specs.Turns.{Comes_to}
use Rattle.m3_machine.proofs.Settling.{same_code, leaves, lasts, goes_to_act}
use Rattle.m3_machine.proofs.runs.settle.Goals as goal

pub returns-in_default-clause-comes : goal.returns-in_default-clause-comes
returns-in_default-clause-comes g c = λ p start k others known h.
    let m = c.args.parts.now in
    let b = h.between in
    let none : slice_get (program_of m).code b.thread.regs.pc ≡ None =
    ap (λ (n : ℕ). slice_get (program_of m).code n) (sym (c.pc.ensures b.thread b.running)) ∙ sym c.in_default.ensures.value in
    subst (λ (a : Answer). Comes_to p start k others m c.args.turn.now a) (sym c.trap.ensures)
    (leaves p k others m c.args.turn.now b (same_code (program_of m) p b.thread.regs.pc None known.program none), tt)

pub returns-then-is_point-clause-comes : goal.returns-then-is_point-clause-comes
returns-then-is_point-clause-comes g c = λ p start k others known h.
    let m = c.args.parts.now in
    let b = h.between in
    let next : slice_get (program_of m).code b.thread.regs.pc ≡ Some c.in-Some.i.now =
    ap (λ (n : ℕ). slice_get (program_of m).code n) (sym (c.pc.ensures b.thread b.running)) ∙ sym c.in-Some.ensures.value in
    c.settle_at_point.ensures.comes p start k others known b (same_code (program_of m) p b.thread.regs.pc (Some c.in-Some.i.now) known.program next)

pub returns-then-turn-turn_limit-clause-comes : goal.returns-then-turn-turn_limit-clause-comes
returns-then-turn-turn_limit-clause-comes g c = λ p start k others known h.
    let m = c.args.parts.now in
    let b = h.between in
    let next : slice_get (program_of m).code b.thread.regs.pc ≡ Some c.in-Some.i.now =
    ap (λ (n : ℕ). slice_get (program_of m).code n) (sym (c.pc.ensures b.thread b.running)) ∙ sym c.in-Some.ensures.value in
    let plain : is_point c.in-Some.i.now.op ≡ false = sym c.is_point.ensures ∙ c.if-is_point.false in
    let limit : c.turn_limit.result ≡ turn_limit p (state_of m) = subst (λ (q : Program). c.turn_limit.result ≡ turn_limit q (state_of m)) known.program (c.turn_limit.ensures.limit b.thread b.running) in
    let long : turn_limit p (state_of m) ≤ c.args.turn.now.done = omega (arith, limit, c.if-turn-turn_limit.true) in
    subst (λ (a : Answer). Comes_to p start k others m c.args.turn.now a) (sym c.trap-then-turn-turn_limit.ensures)
    (lasts p k others m c.args.turn.now c.in-Some.i.now b (same_code (program_of m) p b.thread.regs.pc (Some c.in-Some.i.now) known.program next) plain long, tt)

pub returns-clause-comes : goal.returns-clause-comes
returns-clause-comes g c = λ p start k others known h.
    let m = c.args.parts.now in
    let b = h.between in
    let next : slice_get (program_of m).code b.thread.regs.pc ≡ Some c.in-Some.i.now =
    ap (λ (n : ℕ). slice_get (program_of m).code n) (sym (c.pc.ensures b.thread b.running)) ∙ sym c.in-Some.ensures.value in
    let plain : is_point c.in-Some.i.now.op ≡ false = sym c.is_point.ensures ∙ c.if-is_point.false in
    let limit : c.turn_limit.result ≡ turn_limit p (state_of m) = subst (λ (q : Program). c.turn_limit.result ≡ turn_limit q (state_of m)) known.program (c.turn_limit.ensures.limit b.thread b.running) in
    let more : c.args.turn.now.done < turn_limit p (state_of m) = omega (arith, limit, c.if-turn-turn_limit.false) in
    goes_to_act p start k others m c.args.turn.now c.in-Some.i.now known.course h (same_code (program_of m) p b.thread.regs.pc (Some c.in-Some.i.now) known.program next) plain more
