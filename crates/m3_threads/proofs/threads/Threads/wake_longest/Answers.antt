use Rattle.std.proofs.Common.{◌≡◌, IsSome, Some, refl, sym, ap, subst, ◌∙◌}
use Rattle.std.specs.Prelude.{find, slice_set}
use Rattle.std.proofs.lemmas.Option.{slice_get-get_or}
use Rattle.m3_threads.specs.All.{is_named, thread_named, updated}
use Rattle.m3_threads.specs.Actions.{woken, with_threads, wakened_by, SleepsLongest}
use Rattle.m3_threads.specs.PlacesInside.{IsLongestAt, MayBecome}
use Rattle.m3_threads.specs.contracts.threads.Threads.{the_view}
use Rattle.m3_threads.proofs.Places.{some_same, get_within, named-updated, place_rising}
use Rattle.m3_threads.proofs.Soundness.{sound-set}
use Rattle.m3_threads.proofs.Changes.{may-wake}
use Rattle.m3_threads.proofs.threads.Threads.wake_longest.Goals as goal

longest : (c : goal.After-self-1) → IsLongestAt c.args.condition c.self.inside.list.items c.in-Some.k
longest c = subst (λ ts. IsLongestAt c.args.condition ts c.in-Some.k) c.deref.ensures.value c.in-Some.ensures

-- the thread that is read is the one that sleeps longest
read : (c : goal.After-self-1) → c.index-t.result.now ≡ (longest c).0
read c =
    let l = longest c in
    let ts = c.self.inside.list.items in
    some_same (ap Some c.index-t.ensures ∙ sym (slice_get-get_or ts c.in-Some.k c.index-t.result.now (get_within ts c.in-Some.k l.0 l.1)) ∙ l.1)

now : (c : goal.After-self-1) → c.woken.result ≡ woken (longest c).0
now c = c.woken.ensures ∙ ap woken (read c)

pub invariant_of-self : goal.invariant_of-self
invariant_of-self c =
    let s = c.self.inside in
    let l = longest c in (
      sound-set s.allowed s.stacks.depth s.forks s.waits s.list.items _ c.in-Some.k c.woken.result l.0 c.self.invariant.0 l.1 (subst (MayBecome l.0) (sym (now c)) (may-wake l.0)),
      c.self.invariant.1,
    )

changed : (c : goal.After-self-1) → slice_set c.self.inside.list.items c.in-Some.k c.woken.result ≡ updated woken (longest c).0.number c.self.inside.list.items
changed c =
    let s = c.self.inside in
    let l = longest c in
    let place = place_rising s.list.items c.in-Some.k l.0 c.self.invariant.0.rising l.1 in
    ap (slice_set s.list.items c.in-Some.k) (now c) ∙ sym (place.change woken l.0 l.1)

pub returns-in-Some-clause-woken : goal.returns-in-Some-clause-woken
returns-in-Some-clause-woken c =
    let l = longest c in (
      Some l.0,
      subst (λ v. SleepsLongest c.args.condition v.threads (Some l.0)) c.self.view_is l.2,
      ap (with_threads (the_view c.self.inside)) (changed c) ∙ ap (λ v. with_threads v (wakened_by (Some l.0) v.threads)) c.self.view_is,
    )

pub returns-in-Some-clause-stays : goal.returns-in-Some-clause-stays
returns-in-Some-clause-stays c = λ n h.
    let there = subst (λ v. IsSome (thread_named v n)) (sym c.self.view_is) h in
    subst (λ ts. IsSome (find (is_named n) ts)) (sym (changed c)) (named-updated woken (longest c).0.number n c.self.inside.list.items (λ t. refl) there)
