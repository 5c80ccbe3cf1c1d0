use Rattle.std.specs.Prelude.{◌≡◌, ◌+◌, true, slice_get}
use Rattle.std.proofs.Common.{refl, ap, ◌∙◌, arith}
use Rattle.m3_isa.specs.Memory.{put}
use Rattle.m3_isa.specs.Effects.{answered}
use Rattle.m3_isa.specs.declared.registers.Regs.{Regs}
use Rattle.m3_threads.specs.All.{thread_named}
use Rattle.m3_run_meaning.specs.State.{State, memory_of, can_set, with_all, with_regs, Becomes}
use Rattle.m3_run_meaning.specs.Progress.{Goes}
use Rattle.m3_run_meaning.specs.NewTexts.{standing_at}
use Rattle.m3_run_state.specs.Seen.{Rest, state_of, program_of}
use Rattle.m3_run_state.proofs.NewCells.{HasBlank, blank_can_set}
use Rattle.m3_run_state.proofs.Filling.{put_there, still_running}
use Rattle.m3_run_state.proofs.Forking.{found_standing}
use Rattle.m3_run_state.proofs.parts.Parts.finish_fork.Goals as goal

pub returns-clause-stands : goal.returns-clause-stands
returns-clause-stands g c = λ few t begins running next.
    let m = c.args.self.now in
    let p = program_of m in
    let s = state_of m in
    let cell = c.args.cell in
    let number = c.args.number in
    let n = state_of c.set_word.new.self in
    let w = state_of c.stand_first.new.self in
    let rest = c.set_word.ensures.rest in
    let is-new = c.requires.new in
    let b : HasBlank s.heap.cells cell 1 4 = record { front = is-new.0; back = is-new.1; is = is-new.2; sound = (g.met.S.Store.sound m.memory.outside.heap.store).cells } in
    let can : can_set s (cell + 1) ≡ true = blank_can_set s cell 1 4 1 b m.memory.outside.few (omega arith) (omega arith) in
    let becomes : Becomes p s (put (memory_of p s) (cell + 1) number) n = record {
      others = c.set_word.ensures.others;
      words = λ x. put_there p p (program_of c.set_word.new.self) s n (cell + 1) number number x refl (ap (λ (r : Rest). r.program) rest) refl (c.set_word.ensures.set can x);
    } in
    let made : c.set_word.new.self.made ≡ m.made = ap (λ (r : Rest). r.made) rest in
    let stands = c.stand_first.ensures.stands (omega (arith, made, few)) begins (ap (λ (r : Rest). slice_get r.program.code c.args.first) rest ∙ next) in
    let found = found_standing begins number n.running n.all t (still_running s n t c.set_word.ensures.others running) in
    let gives = c.give.ensures.goes found.0 (ap (λ (x : State). thread_named x.all x.running) stands ∙ found.1) in
    let goes = gives ∙ ap (λ (x : State). Goes (with_regs x (answered found.0.regs c.args.a cell))) stands
    ∙ ap (λ (r : Regs). Goes (with_regs (with_all n (standing_at begins number n.all)) (answered r c.args.a cell))) found.2 in
    (n, becomes, goes)
