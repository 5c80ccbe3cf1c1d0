use Rattle.std.specs.Prelude.{ℕ, ◌≡◌, [], length, Result, Ok}
use Rattle.std.specs.Int.{cast_unsigned, w32}
use Rattle.std.proofs.Common.{refl, sym, ap, subst, ◌∙◌, rules}
use Rattle.m3_base.specs.declared.outcomes.Outcome.{Outcome}
use Rattle.m3_base.specs.declared.outcomes.Outcome.TheVariants.{Done}
use Rattle.m3_isa.specs.Instructions.{is_point}
use Rattle.m3_isa.specs.Effects.{reg}
use Rattle.m3_isa.specs.declared.instructions.Op.TheVariants.{Call, Callr, Callm, Ret, Meth, Subt, New, Newo, Point, Fault, Unc, Endp, Endt, Cat, Tchr, Tsub, Getc, Eof, Self_, Fork}
use Rattle.m3_run_meaning.specs.declared.near.Place.{Place}
use Rattle.m3_run_meaning.specs.Act.{bytes_of}
use Rattle.m3_run_meaning.specs.Calls.{stack_of, place_of, calls, number_before, method_called}
use Rattle.m3_run_meaning.specs.Progress.{Ends, Follows, became}
use Rattle.m3_run_meaning.specs.State.{memory_of, can_set}
use Rattle.m3_run_state.specs.Seen.{state_of, program_of}
use Rattle.m3_machine.proofs.ActsBy.{acts_by, acts_rest, no_bytes_of_call, no_bytes_of_return, no_bytes_of_method, no_bytes_of_test, no_bytes_of_self, no_bytes_of_fault, no_bytes_of_get, no_bytes_of_uncaught}
use Rattle.m3_machine.proofs.acts.act_silently.Goals as goal

pub returns-in-Call-clause-does : goal.returns-in-Call-clause-does
returns-in-Call-clause-does g c = λ t may stands silent.
    let m = c.args.parts.now in
    let p = program_of m in
    let s = state_of m in
    let i = c.args.i in
    let progress = became c.call.result (state_of c.call.new.parts) in
    let number : c.cast_unsigned.result ≡ cast_unsigned w32 i.imm = search rules in
    acts_by p m.input.now t i s [] progress i.op Call c.in-Call.is
    (no_bytes_of_call p (Ok (cast_unsigned w32 i.imm)) (stack_of s.all t) t.regs (memory_of p s) (can_set s), subst (λ (r : Result ℕ Outcome). Follows p (calls p r (stack_of s.all t) t.regs (memory_of p s) (can_set s)) s progress) (ap (λ (n : ℕ). Ok n) number) (c.call.ensures.calls t may.running stands))

pub returns-in-Callr-clause-does : goal.returns-in-Callr-clause-does
returns-in-Callr-clause-does g c = λ t may stands silent.
    let m = c.args.parts.now in
    let p = program_of m in
    let s = state_of m in
    let i = c.args.i in
    let progress = became c.call-in-Callr.result (state_of c.call-in-Callr.new.parts) in
    acts_by p m.input.now t i s [] progress i.op Callr c.in-Callr.is
    (no_bytes_of_call p (number_before 3 (reg t.regs i.a)) (stack_of s.all t) t.regs (memory_of p s) (can_set s), subst (λ (r : Result ℕ Outcome). Follows p (calls p r (stack_of s.all t) t.regs (memory_of p s) (can_set s)) s progress) (c.before-callee.ensures ∙ ap (λ (w : ℕ). number_before 3 w) (c.word.ensures t may.running)) (c.call-in-Callr.ensures.calls t may.running stands))

pub returns-in-Callm-clause-does : goal.returns-in-Callm-clause-does
returns-in-Callm-clause-does g c = λ t may stands silent.
    let m = c.args.parts.now in
    let p = program_of m in
    let s = state_of m in
    let i = c.args.i in
    let progress = became c.call-in-Callm.result (state_of c.call-in-Callm.new.parts) in
    acts_by p m.input.now t i s [] progress i.op Callm c.in-Callm.is
    (no_bytes_of_call p (method_called p (cast_unsigned w32 i.imm) (place_of t.regs) (memory_of p s)) (stack_of s.all t) t.regs (memory_of p s) (can_set s), subst (λ (r : Result ℕ Outcome). Follows p (calls p r (stack_of s.all t) t.regs (memory_of p s) (can_set s)) s progress) (c.method_for-callee.ensures ∙ ap (λ (at : Place). method_called p (cast_unsigned w32 i.imm) at (memory_of p s)) stands) (c.call-in-Callm.ensures.calls t may.running stands))

pub returns-in-Ret-clause-does : goal.returns-in-Ret-clause-does
returns-in-Ret-clause-does g c = λ t may stands silent.
    let m = c.args.parts.now in
    let p = program_of m in
    let s = state_of m in
    let i = c.args.i in
    let progress = became c.return_back.result (state_of c.return_back.new.parts) in
    acts_by p m.input.now t i s [] progress i.op Ret c.in-Ret.is
    (no_bytes_of_return (length p.code) t.regs (memory_of p s), c.return_back.ensures.returns t may.running stands)

pub returns-in-Meth-clause-does : goal.returns-in-Meth-clause-does
returns-in-Meth-clause-does g c = λ t may stands silent.
    let m = c.args.parts.now in
    let p = program_of m in
    let s = state_of m in
    let i = c.args.i in
    let progress = became c.tell_method.result (state_of c.tell_method.new.parts) in
    acts_by p m.input.now t i s [] progress i.op Meth c.in-Meth.is
    (no_bytes_of_method p.types i t.regs (memory_of p s), c.tell_method.ensures.tells t may.running)

pub returns-in-Subt-clause-does : goal.returns-in-Subt-clause-does
returns-in-Subt-clause-does g c = λ t may stands silent.
    let m = c.args.parts.now in
    let p = program_of m in
    let s = state_of m in
    let i = c.args.i in
    let progress = became c.test_type.result (state_of c.test_type.new.parts) in
    let told = c.test_type.ensures.tests t may.running in
    acts_by p m.input.now t i s [] progress i.op Subt c.in-Subt.is
    (told.0, told.1, (no_bytes_of_test told.1.0 t.regs i.a ∙ sym (ap bytes_of told.1.2), told.2))

pub returns-in-New-clause-does : goal.returns-in-New-clause-does
returns-in-New-clause-does g c = λ t may stands silent.
    let m = c.args.parts.now in
    let p = program_of m in
    let s = state_of m in
    let i = c.args.i in
    let progress = became c.make_fixed.result (state_of c.make_fixed.new.self) in
    acts_by p m.input.now t i s [] progress i.op New c.in-New.is
    (refl, c.make_fixed.ensures.makes may.going)

pub returns-in-Newo-clause-does : goal.returns-in-Newo-clause-does
returns-in-Newo-clause-does g c = λ t may stands silent.
    let m = c.args.parts.now in
    let p = program_of m in
    let s = state_of m in
    let i = c.args.i in
    let progress = became c.make_open.result (state_of c.make_open.new.self) in
    acts_by p m.input.now t i s [] progress i.op Newo c.in-Newo.is
    (refl, c.make_open.ensures.makes may.going t may.running)

pub returns-in-Point-clause-does : goal.returns-in-Point-clause-does
returns-in-Point-clause-does g c = λ t may stands silent.
    let m = c.args.parts.now in
    let p = program_of m in
    let s = state_of m in
    let i = c.args.i in
    let progress = became c.go_on.result (state_of c.go_on.new.self) in
    acts_by p m.input.now t i s [] progress i.op Point c.in-Point.is
    (refl, c.go_on.ensures.goes t may.running)

pub returns-in-Fault-clause-does : goal.returns-in-Fault-clause-does
returns-in-Fault-clause-does g c = λ t may stands silent.
    let m = c.args.parts.now in
    let p = program_of m in
    let s = state_of m in
    let i = c.args.i in
    let progress = became c.fault.result s in
    acts_by p m.input.now t i s [] progress i.op Fault c.in-Fault.is
    (no_bytes_of_fault _ _, c.fault.ensures)

pub returns-in-Unc-clause-does : goal.returns-in-Unc-clause-does
returns-in-Unc-clause-does g c = λ t may stands silent.
    let m = c.args.parts.now in
    let p = program_of m in
    let s = state_of m in
    let i = c.args.i in
    let progress = became c.uncaught.result s in
    acts_by p m.input.now t i s [] progress i.op Unc c.in-Unc.is
    (no_bytes_of_uncaught _ _ _, c.uncaught.ensures t may.running)

pub returns-in-Endp-clause-does : goal.returns-in-Endp-clause-does
returns-in-Endp-clause-does g c = λ t may stands silent.
    let m = c.args.parts.now in
    let p = program_of m in
    let s = state_of m in
    let i = c.args.i in
    let progress = Ends s Done in
    acts_by p m.input.now t i s [] progress i.op Endp c.in-Endp.is
    (refl, refl)

pub returns-in-Endt-clause-does : goal.returns-in-Endt-clause-does
returns-in-Endt-clause-does g c = λ t may stands silent.
    let m = c.args.parts.now in
    let p = program_of m in
    let s = state_of m in
    let i = c.args.i in
    let progress = became c.end_thread.result (state_of c.end_thread.new.parts) in
    acts_by p m.input.now t i s [] progress i.op Endt c.in-Endt.is
    (refl, c.end_thread.ensures.ends may.few t may.running may.awake)

pub returns-in-Cat-clause-does : goal.returns-in-Cat-clause-does
returns-in-Cat-clause-does g c = λ t may stands silent.
    let m = c.args.parts.now in
    let p = program_of m in
    let s = state_of m in
    let i = c.args.i in
    let progress = became c.join_texts.result (state_of c.join_texts.new.self) in
    acts_by p m.input.now t i s [] progress i.op Cat c.in-Cat.is
    (refl, c.join_texts.ensures.cats may.going t may.running)

pub returns-in-Tchr-clause-does : goal.returns-in-Tchr-clause-does
returns-in-Tchr-clause-does g c = λ t may stands silent.
    let m = c.args.parts.now in
    let p = program_of m in
    let s = state_of m in
    let i = c.args.i in
    let progress = became c.make_char.result (state_of c.make_char.new.self) in
    acts_by p m.input.now t i s [] progress i.op Tchr c.in-Tchr.is
    (refl, c.make_char.ensures.makes may.going)

pub returns-in-Tsub-clause-does : goal.returns-in-Tsub-clause-does
returns-in-Tsub-clause-does g c = λ t may stands silent.
    let m = c.args.parts.now in
    let p = program_of m in
    let s = state_of m in
    let i = c.args.i in
    let progress = became c.make_part.result (state_of c.make_part.new.self) in
    acts_by p m.input.now t i s [] progress i.op Tsub c.in-Tsub.is
    (refl, c.make_part.ensures.subs may.going t may.running)

pub returns-in-Getc-clause-does : goal.returns-in-Getc-clause-does
returns-in-Getc-clause-does g c = λ t may stands silent.
    let m = c.args.parts.now in
    let p = program_of m in
    let s = state_of m in
    let i = c.args.i in
    let progress = became c.get_byte.result (state_of c.get_byte.new.parts) in
    acts_by p m.input.now t i s [] progress i.op Getc c.in-Getc.is
    (no_bytes_of_get m.input.now s.taken i t.regs, c.get_byte.ensures.gets t may.running)

pub returns-in-Eof-clause-does : goal.returns-in-Eof-clause-does
returns-in-Eof-clause-does g c = λ t may stands silent.
    let m = c.args.parts.now in
    let p = program_of m in
    let s = state_of m in
    let i = c.args.i in
    let progress = became c.tell_end.result (state_of c.tell_end.new.parts) in
    acts_by p m.input.now t i s [] progress i.op Eof c.in-Eof.is
    (refl, c.tell_end.ensures.tells t may.running)

pub returns-in-Self_-clause-does : goal.returns-in-Self_-clause-does
returns-in-Self_-clause-does g c = λ t may stands silent.
    let m = c.args.parts.now in
    let p = program_of m in
    let s = state_of m in
    let i = c.args.i in
    let progress = became c.tell_self.result (state_of c.tell_self.new.parts) in
    acts_by p m.input.now t i s [] progress i.op Self_ c.in-Self_.is
    (no_bytes_of_self (stack_of s.all t) i t.regs (memory_of p s), c.tell_self.ensures.tells t may.running)

pub returns-in-Fork-clause-does : goal.returns-in-Fork-clause-does
returns-in-Fork-clause-does g c = λ t may stands silent.
    let m = c.args.parts.now in
    let p = program_of m in
    let s = state_of m in
    let i = c.args.i in
    let progress = became c.start_thread.result (state_of c.start_thread.new.self) in
    acts_by p m.input.now t i s [] progress i.op Fork c.in-Fork.is
    (refl, c.start_thread.ensures.forks may.going (may.spare (ap is_point c.in-Fork.is)))

pub returns-in_default-clause-does : goal.returns-in_default-clause-does
returns-in_default-clause-does g c = λ t may stands silent.
    let m = c.args.parts.now in
    let p = program_of m in
    let s = state_of m in
    let i = c.args.i in
    let progress = became c.act_on_threads.result (state_of c.act_on_threads.new.parts) in
    acts_rest p m.input.now t i s progress i.op c.in_default.not-Call c.in_default.not-Callr c.in_default.not-Callm c.in_default.not-Ret c.in_default.not-Meth c.in_default.not-Subt c.in_default.not-New c.in_default.not-Newo c.in_default.not-Point c.in_default.not-Fault c.in_default.not-Unc c.in_default.not-Endp c.in_default.not-Endt c.in_default.not-Cat c.in_default.not-Tchr c.in_default.not-Tsub c.in_default.not-Getc c.in_default.not-Eof c.in_default.not-Self_ c.in_default.not-Fork may.acts silent
    (c.act_on_threads.ensures.acts may.few t may.running may.awake)
