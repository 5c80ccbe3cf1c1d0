use Rattle.std.specs.Prelude.{ℕ, ◌≡◌, ◌+◌, Some, slice_get}
use Rattle.std.proofs.Common.{sym, ap, subst, ◌∙◌, arith}
use Rattle.m3_threads.specs.All.{thread_named}
use Rattle.m3_run_meaning.specs.State.{State}
use Rattle.m3_run_meaning.specs.Making.{HasNew}
use Rattle.m3_run_state.specs.Seen.{Rest, state_of, program_of}
use Rattle.m3_run_state.proofs.Forking.{found_forked, started}
use Rattle.m3_run_state.proofs.parts.Parts.begin_thread.Goals as goal

pub finish_fork-requires-clause-new : goal.finish_fork-requires-clause-new
finish_fork-requires-clause-new g c = subst (λ (x : State). HasNew 1 4 c.args.cell x) (sym c.fork.ensures.others) c.requires.new

pub returns-in-Some-clause-begins : goal.returns-in-Some-clause-begins
returns-in-Some-clause-begins g c = λ few t first begins running room is-first is-begun.
    let m = c.args.self.now in
    let s = state_of m in
    let f = state_of c.fork.new.self in
    let told = c.fork.ensures.forks (omega (arith, few)) room in
    let number : c.in-Some.number ≡ s.all.forks + 1 = cc in
    let entry = c.first_of_thread-first.ensures first is-first in
    let closure = c.word-closure.ensures t running in
    let rest = c.fork.ensures.rest in
    let one = c.fork.ensures.one in
    let same-running : f.running ≡ s.running = ap (λ (x : State). x.running) c.fork.ensures.others in
    let runs : thread_named f.all f.running ≡ Some t = ap (λ (n : ℕ). thread_named f.all n) same-running
    ∙ found_forked s.all f.all c.first_of_thread-first.result c.word-closure.result c.args.cell (s.all.forks + 1) s.running t told.0 running in
    let next = ap (λ (r : Rest). slice_get r.program.code c.first_of_thread-first.result) rest ∙ ap (λ (n : ℕ). slice_get (program_of m).code n) entry ∙ is-begun in
    let fin = c.finish_fork.ensures.stands (omega (arith, few, one)) t begins runs next in
    started (program_of m) (program_of c.fork.new.self) c.args.i c.args.cell first begins s f fin.0 t _ c.first_of_thread-first.result c.word-closure.result c.in-Some.number
    (ap (λ (r : Rest). r.program) rest) c.fork.ensures.others number entry closure told.0 fin.1 fin.2

pub returns-in-None-clause-begins : goal.returns-in-None-clause-begins
returns-in-None-clause-begins g c = λ few t first begins running room is-first is-begun.
    let told = c.fork.ensures.forks (omega (arith, few)) room in
    cc
