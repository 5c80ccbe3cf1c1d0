use Rattle.std.specs.Prelude.{[]}
use Rattle.std.proofs.Common.{refl, subst}
use Rattle.m3_isa.specs.declared.instructions.Op.TheVariants.{Put, Putn, Putc}
use Rattle.m3_run_meaning.specs.Act.{bytes_of}
use Rattle.m3_run_meaning.specs.Acts.{puts_text, puts_number, puts_byte}
use Rattle.m3_run_meaning.specs.Progress.{Goes, became}
use Rattle.m3_run_meaning.specs.State.{State, memory_of, with_regs}
use Rattle.m3_isa.specs.Effects.{next}
use Rattle.m3_run_meaning.specs.Steps.{Acts}
use Rattle.m3_run_state.specs.Seen.{state_of, program_of}
use Rattle.m3_run_state.proofs.TextBytes.{put_none}
use Rattle.m3_machine.proofs.ActsBy.{acts_by, if_ok, counted, silent_of}
use Rattle.m3_machine.proofs.Cutting.{on_err, puts_to_fault}
use Rattle.m3_machine.proofs.acts.act_at.Goals as goal

pub returns-in-Put-clause-does : goal.returns-in-Put-clause-does
returns-in-Put-clause-does g c = if_ok c.put_text.result (λ progress puts t may stands few.
    let m = c.args.parts.now in
    let p = program_of m in
    let s = state_of m in
    let i = c.args.i in
    let bytes = bytes_of (puts_text i t.regs (memory_of p s)) in
    let one : State = record s { instructions = c.saturating_add-parts.result } in
    let after = became progress (state_of c.put_text.new.self) in
    let told = puts t may.running in (
      bytes,
      told.0,
      subst (λ (z : State). Acts p m.input.now t i z bytes after i.op) (counted s c.saturating_add-parts.result c.saturating_add-parts.ensures few)
          (acts_by p m.input.now t i one bytes after i.op Put c.in-Put.is (refl, told.1)),
    ))
    c.put_text.ensures.puts

pub returns-in-Putn-clause-does : goal.returns-in-Putn-clause-does
returns-in-Putn-clause-does g c = if_ok c.put_number.result (λ progress puts t may stands few.
    let m = c.args.parts.now in
    let p = program_of m in
    let s = state_of m in
    let i = c.args.i in
    let bytes = bytes_of (puts_number i t.regs) in
    let one : State = record s { instructions = c.saturating_add-parts.result } in
    let after = became progress (state_of c.put_number.new.parts) in
    let told = puts t may.running in (
      bytes,
      told.0,
      subst (λ (z : State). Acts p m.input.now t i z bytes after i.op) (counted s c.saturating_add-parts.result c.saturating_add-parts.ensures few)
          (acts_by p m.input.now t i one bytes after i.op Putn c.in-Putn.is (refl, told.1)),
    ))
    c.put_number.ensures.puts

pub returns-in-Putc-clause-does : goal.returns-in-Putc-clause-does
returns-in-Putc-clause-does g c = if_ok c.put_byte.result (λ progress puts t may stands few.
    let m = c.args.parts.now in
    let p = program_of m in
    let s = state_of m in
    let i = c.args.i in
    let bytes = bytes_of (puts_byte i t.regs) in
    let one : State = record s { instructions = c.saturating_add-parts.result } in
    let after = became progress (state_of c.put_byte.new.parts) in
    let told = puts t may.running in (
      bytes,
      told.0,
      subst (λ (z : State). Acts p m.input.now t i z bytes after i.op) (counted s c.saturating_add-parts.result c.saturating_add-parts.ensures few)
          (acts_by p m.input.now t i one bytes after i.op Putc c.in-Putc.is (refl, told.1)),
    ))
    c.put_byte.ensures.puts

pub returns-in_default-clause-does : goal.returns-in_default-clause-does
returns-in_default-clause-does g c = λ t may stands few.
    let m = c.args.parts.now in
    let p = program_of m in
    let s = state_of m in
    let i = c.args.i in
    let one : State = record s { instructions = c.saturating_add-parts.result } in
    let after = became c.act_silently.result (state_of c.act_silently.new.parts) in
    let silent = silent_of i.op c.in_default.not-Put c.in_default.not-Putn c.in_default.not-Putc in (
      [],
      put_none (g.O.Sink.taken c.args.out.now),
      subst (λ (z : State). Acts p m.input.now t i z [] after i.op) (counted s c.saturating_add-parts.result c.saturating_add-parts.ensures few)
          (c.act_silently.ensures.does t (record { running = may.running; awake = may.awake; acts = may.acts; few = may.few; spare = may.spare; going = record { unstuck = may.going.unstuck; depth = may.going.depth } }) stands silent),
    )

pub returns-in-Put-clause-cut : goal.returns-in-Put-clause-cut
returns-in-Put-clause-cut g c = on_err c.put_text.result (λ cut t may few.
    let m = c.args.parts.now in
    let p = program_of m in
    let s = state_of m in
    let i = c.args.i in
    let one : State = record s { instructions = c.saturating_add-parts.result } in
    let told = cut t may.running in
    puts_to_fault g.O.Sink p m.input.now t i _ one c.args.out.now c.put_text.new.out (puts_text i t.regs (memory_of p s)) told.0 (next t.regs) told.1
    (counted s c.saturating_add-parts.result c.saturating_add-parts.ensures few)
    (λ z h. acts_by p m.input.now t i one z (Goes (with_regs one (next t.regs))) i.op Put c.in-Put.is h) told.2)
    c.put_text.ensures.cut

pub returns-in-Putn-clause-cut : goal.returns-in-Putn-clause-cut
returns-in-Putn-clause-cut g c = on_err c.put_number.result (λ cut t may few.
    let m = c.args.parts.now in
    let p = program_of m in
    let s = state_of m in
    let i = c.args.i in
    let one : State = record s { instructions = c.saturating_add-parts.result } in
    puts_to_fault g.O.Sink p m.input.now t i _ one c.args.out.now c.put_number.new.out (puts_number i t.regs) (bytes_of (puts_number i t.regs)) (next t.regs) refl
    (counted s c.saturating_add-parts.result c.saturating_add-parts.ensures few)
    (λ z h. acts_by p m.input.now t i one z (Goes (with_regs one (next t.regs))) i.op Putn c.in-Putn.is h) (cut t may.running))
    c.put_number.ensures.cut

pub returns-in-Putc-clause-cut : goal.returns-in-Putc-clause-cut
returns-in-Putc-clause-cut g c = on_err c.put_byte.result (λ cut t may few.
    let m = c.args.parts.now in
    let p = program_of m in
    let s = state_of m in
    let i = c.args.i in
    let one : State = record s { instructions = c.saturating_add-parts.result } in
    puts_to_fault g.O.Sink p m.input.now t i _ one c.args.out.now c.put_byte.new.out (puts_byte i t.regs) (bytes_of (puts_byte i t.regs)) (next t.regs) refl
    (counted s c.saturating_add-parts.result c.saturating_add-parts.ensures few)
    (λ z h. acts_by p m.input.now t i one z (Goes (with_regs one (next t.regs))) i.op Putc c.in-Putc.is h) (cut t may.running))
    c.put_byte.ensures.cut
