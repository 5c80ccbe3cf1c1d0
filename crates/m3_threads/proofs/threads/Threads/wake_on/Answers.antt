use Rattle.std.proofs.Common.{IsSome, sym, subst, arith}
use Rattle.std.specs.Prelude.{find}
use Rattle.m3_threads.specs.All.{AreSoundThreads, is_named, thread_named}
use Rattle.m3_threads.specs.Actions.{woken_on}
use Rattle.m3_threads.proofs.Places.{named-map}
use Rattle.m3_threads.proofs.Soundness.{sound-map}
use Rattle.m3_threads.proofs.Changes.{may-wake_on}
use Rattle.m3_threads.proofs.threads.Threads.wake_on.Goals as goal

pub invariant_of-self : goal.invariant_of-self
invariant_of-self c =
    let s = c.self.inside in
    let st = s.stacks.words in
    let sound = sound-map s.allowed s.stacks.depth s.forks s.waits s.list.items st (woken_on c.args.condition) (may-wake_on c.args.condition) c.self.invariant.0 in (
      subst (λ ts. AreSoundThreads s.allowed s.stacks.depth s.forks s.waits ts st) (sym c.wake_sleepers.ensures.threads) sound,
      omega (arith, c.wake_sleepers.ensures.capacity, c.self.invariant.1),
    )

pub returns-clause-stays : goal.returns-clause-stays
returns-clause-stays c = λ n h.
    let s = c.self.inside in
    let f = woken_on c.args.condition in
    let there = subst (λ v. IsSome (thread_named v n)) (sym c.self.view_is) h in
    subst (λ ts. IsSome (find (is_named n) ts)) (sym c.wake_sleepers.ensures.threads)
    (named-map f n s.list.items (λ t. sym (may-wake_on c.args.condition t).number) there)
