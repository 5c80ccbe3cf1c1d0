use Rattle.std.proofs.Common.{[], length, refl, sym, ap, arith}
use Rattle.std.specs.Prelude.{slice_index_or}
use Rattle.std.specs.List.{length_refill}
use Rattle.m3_threads.specs.All.{Everyone}
use Rattle.m3_threads.specs.Lending.{rewritten}
use Rattle.m3_threads.proofs.Soundness.{sound-stack}
use Rattle.m3_threads.proofs.threads.Threads.words_in_mut.Goals as goal

pub invariant_of-self-lent : goal.invariant_of-self-lent
invariant_of-self-lent c = λ w.
    let s = c.self.inside in
    let stack = slice_index_or s.stacks.words c.args.slot [] in
    let allowed = ap (λ (v : Everyone). v.allowed) c.self.view_is in (
      sound-stack s.allowed s.stacks.depth s.forks s.waits s.list.items s.stacks.words c.args.slot (rewritten stack w) c.self.invariant.0 (omega (arith, c.requires, allowed))
          (sym (length_refill (length stack) stack w refl)),
      c.self.invariant.1,
    )
