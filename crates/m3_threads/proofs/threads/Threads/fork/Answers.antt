use Rattle.std.proofs.Common.{◌≡◌, ◌<◌, ◌+◌, ◌++◌, ◌∷◌, [], false, List, length, sym, ap, subst, ◌∙◌, arith, length-set}
use Rattle.std.specs.Prelude.{slice_set}
use Rattle.std.specs.List.{list_any}
use Rattle.m3_threads.specs.declared.status.Thread.{Thread}
use Rattle.m3_threads.specs.All.{AreSoundThreads, HoldsOfEach}
use Rattle.m3_threads.specs.Actions.{IsLowestFree, started_stack, uses}
use Rattle.m3_threads.specs.Stacked.{Stacked}
use Rattle.m3_threads.proofs.Members.{unused}
use Rattle.m3_threads.proofs.Soundness.{sound-push}
use Rattle.m3_threads.proofs.StackWords.{length-started}
use Rattle.m3_threads.proofs.threads.Threads.fork.Goals as goal

pub lay_out_fork-requires-clause-blank : goal.lay_out_fork-requires-clause-blank
lay_out_fork-requires-clause-blank c =
    let s = c.self.inside in
    let slot = c.lowest_slot-slot.result in
    let free = subst (λ ts. IsLowestFree ts slot) c.deref.ensures.value c.lowest_slot-slot.ensures.lowest in
    c.self.invariant.0.blank slot (unused slot s.list.items free.free)

pub invariant_of-self : goal.invariant_of-self
invariant_of-self c =
    let s = c.self.inside in
    let depth = s.stacks.depth in
    let sound = c.self.invariant.0 in
    let slot = c.lowest_slot-slot.result in
    let t = c.started.result in
    let free = subst (λ ts. IsLowestFree ts slot) c.deref.ensures.value c.lowest_slot-slot.ensures.lowest in
    let same = ap (λ u. u.slot) c.started.ensures in
    let number = ap (λ u. u.number) c.started.ensures in
    let few : length s.list.items < s.allowed = omega (arith, sound.room, s.list.ok.0, c.len.ensures, c.if-len-self.false) in
    let below : t.slot < s.allowed = omega (arith, c.lowest_slot-slot.ensures.below) in
    let unused : list_any (uses t.slot) s.list.items ≡ false = ap (λ n. list_any (uses n) s.list.items) same ∙ free.free in
    let above : HoldsOfEach (λ v. v.number < t.number) s.list.items = λ j v g. let n = sound.numbers j v g in omega arith in
    let ws = slice_set (started_stack depth c.args.cell) 6 c.args.closure in
    let long = length-set (started_stack depth c.args.cell) 6 c.args.closure ∙ length-started depth c.args.cell in
    let pushed = sound-push s.allowed depth s.forks (s.forks + 1) s.waits s.list.items s.stacks.words t ws sound few below unused above (omega arith) (omega arith) (ap (λ u. u.status) c.started.ensures) long in
    let placed = subst (λ k. AreSoundThreads s.allowed depth (s.forks + 1) s.waits (s.list.items ++ t ∷ []) (slice_set s.stacks.words k ws)) same pushed in
    let listed = subst (λ (ts : List Thread). AreSoundThreads s.allowed depth (s.forks + 1) s.waits ts (slice_set s.stacks.words slot ws)) (sym c.push_reserved.ensures.items) placed in (
      subst (λ (x : Stacked). AreSoundThreads s.allowed x.depth (s.forks + 1) s.waits c.push_reserved.new.self.items x.words) (sym c.lay_out_fork.ensures) listed,
      omega (arith, c.push_reserved.ensures.capacity, c.self.invariant.1),
    )
