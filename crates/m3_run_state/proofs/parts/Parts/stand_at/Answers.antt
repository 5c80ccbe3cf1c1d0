use Rattle.std.specs.Prelude.{List}
use Rattle.std.proofs.Common.{sym, ap, arith, rules}
use Rattle.m3_threads.specs.declared.status.Thread.{Thread}
use Rattle.m3_threads.specs.Going.{status_at, with_status}
use Rattle.m3_run_meaning.specs.State.{with_all}
use Rattle.m3_run_state.specs.Seen.{state_of}
use Rattle.m3_run_state.proofs.Forking.{unchanged, none_there}
use Rattle.m3_run_state.proofs.parts.Parts.stand_at.Goals as goal

pub returns-then-not-may_count-clause-stands : goal.returns-then-not-may_count-clause-stands
returns-then-not-may_count-clause-stands g c = λ few.
    let none = c.may_count.ensures.none (search rules) in
    absurd (omega (arith, none, few))

pub returns-in-None-clause-stands : goal.returns-in-None-clause-stands
returns-in-None-clause-stands g c = λ few.
    let s = state_of c.args.self.now in
    let gone = none_there (λ (t : Thread). t.status) _ c.in-None.ensures in
    sym (ap (λ (ts : List Thread). with_all s (record s.all { threads = ts })) (unchanged (with_status (status_at c.args.i)) c.args.thread s.all.threads gone))
