use Rattle.std.specs.Prelude.{List}
use Rattle.std.proofs.Common.{sym, ap}
use Rattle.m3_threads.specs.declared.status.Thread.{Thread}
use Rattle.m3_run_meaning.specs.State.{regs_set, with_all}
use Rattle.m3_run_state.specs.Seen.{state_of}
use Rattle.m3_run_state.proofs.Forking.{unchanged, none_there}
use Rattle.m3_run_state.proofs.parts.Parts.set_regs.Goals as goal

pub returns-in_default-clause-set : goal.returns-in_default-clause-set
returns-in_default-clause-set g c =
    let s = state_of c.args.self.now in
    let gone = none_there (λ (t : Thread). t.regs) _ c.in_default.ensures.value in
    sym (ap (λ (ts : List Thread). with_all s (record s.all { threads = ts })) (unchanged (regs_set c.args.regs) s.running s.all.threads gone))
