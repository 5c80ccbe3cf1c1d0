use Rattle.std.proofs.Common.{◌≡◌, ◌+◌, List, Some, sym, ap, subst, ◌∙◌}
use Rattle.std.specs.Prelude.{find, slice_get, slice_set}
use Rattle.m3_threads.specs.declared.status.Thread.{Thread}
use Rattle.m3_threads.specs.All.{Everyone, is_named, queue_place, updated, NamesRegisters}
use Rattle.m3_threads.specs.Actions.{asleep}
use Rattle.m3_threads.specs.PlacesInside.{IsPlaceOf}
use Rattle.m3_threads.proofs.Places.{place_is}
use Rattle.m3_threads.proofs.Soundness.{sound-sleep}
use Rattle.m3_threads.specs.contracts.threads.Threads.{the_view}
use Rattle.m3_threads.proofs.threads.Threads.sleep.Goals as goal

got : (c : goal.After-self-in-Some-1) → slice_get c.self.inside.list.items c.in-Some.k ≡ Some c.args.t
got c =
    let n = c.args.t.number in
    place_is n c.self.inside.list.items c.deref.result.now c.in-Some.k c.args.t c.deref.ensures.value c.in-Some.ensures (ap (λ v. find (is_named n) v.threads) c.self.view_is ∙ c.requires.there)

pub invariant_of-self : goal.invariant_of-self
invariant_of-self c =
    let s = c.self.inside in
    let asleep = c.asleep.ensures in (
      sound-sleep s.allowed s.stacks.depth s.forks s.waits s.list.items _ c.in-Some.k c.asleep.result c.args.t c.self.invariant.0 (got c) (sym (ap (λ u. u.slot) asleep)) (sym (ap (λ u. u.number) asleep)) (ap queue_place asleep)
          (subst (λ u. NamesRegisters u.status) (sym asleep) c.requires.registers),
      c.self.invariant.1,
    )

abbrev later : Everyone → List Thread → Everyone
later all threads = record all { waits = all.waits + 1; threads = threads }

pub returns-in-Some : goal.returns-in-Some
returns-in-Some c =
    let s = c.self.inside in
    let i = c.args.i in
    let n = c.args.t.number in
    let f = asleep i.a i.b s.waits c.args.alertable in
    let p : IsPlaceOf n s.list.items c.in-Some.k = subst (λ ts. IsPlaceOf n ts c.in-Some.k) c.deref.ensures.value c.in-Some.ensures in
    let view = the_view s in
    let threads = ap (slice_set s.list.items c.in-Some.k) c.asleep.ensures ∙ sym (p.change f c.args.t (got c)) in
    let more = λ (ts : List Thread). later view ts in
    ap more threads ∙ ap (λ (v : Everyone). later v (updated (asleep i.a i.b v.waits c.args.alertable) n v.threads)) c.self.view_is
