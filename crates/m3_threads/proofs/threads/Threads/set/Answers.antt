use Rattle.std.proofs.Common.{ap, ◌∙◌}
use Rattle.std.specs.Prelude.{find}
use Rattle.m3_threads.specs.All.{is_named}
use Rattle.m3_threads.proofs.Places.{place_is}
use Rattle.m3_threads.proofs.Soundness.{sound-set}
use Rattle.m3_threads.proofs.threads.Threads.set.Goals as goal

pub invariant_of-self : goal.invariant_of-self
invariant_of-self c =
    let s = c.self.inside in
    let u = c.requires.0 in
    let e = ap (λ v. find (is_named c.args.number) v.threads) c.self.view_is ∙ c.requires.1 in
    let p = place_is c.args.number s.list.items c.deref.result.now c.in-Some.k u c.deref.ensures.value c.in-Some.ensures e in
    (sound-set s.allowed s.stacks.depth s.forks s.waits s.list.items _ c.in-Some.k c.args.t u c.self.invariant.0 p c.requires.2, c.self.invariant.1)
