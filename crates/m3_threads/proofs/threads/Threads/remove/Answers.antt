use Rattle.std.proofs.Common.{[], List, sym, ap, subst, ◌∙◌, arith}
use Rattle.std.specs.Prelude.{find, slice_set}
use Rattle.m3_threads.specs.declared.status.Thread.{Thread}
use Rattle.m3_threads.specs.All.{AreSoundThreads, is_named}
use Rattle.m3_threads.specs.Stacked.{Stacked}
use Rattle.m3_threads.proofs.Places.{place_is}
use Rattle.m3_threads.proofs.Soundness.{sound-end}
use Rattle.m3_threads.proofs.threads.Threads.remove.Goals as goal

pub invariant_of-self : goal.invariant_of-self
invariant_of-self c =
    let s = c.self.inside in
    let t = c.args.t in
    let n = t.number in
    let got = place_is n s.list.items c.deref.result.now c.in-Some.k t c.deref.ensures.value c.in-Some.ensures (ap (λ v. find (is_named n) v.threads) c.self.view_is ∙ c.requires) in
    let ends = sound-end s.allowed s.stacks.depth s.forks s.waits s.list.items s.stacks.words c.in-Some.k t c.self.invariant.0 got in
    let listed = subst (λ (ts : List Thread). AreSoundThreads s.allowed s.stacks.depth s.forks s.waits ts (slice_set s.stacks.words t.slot [])) (sym c.remove.ensures.items) ends in (
      subst (λ (x : Stacked). AreSoundThreads s.allowed x.depth s.forks s.waits c.remove.new.self.items x.words) (sym c.clear.ensures) listed,
      omega (arith, c.remove.ensures.capacity, c.self.invariant.1),
    )
