use Rattle.std.proofs.Common.{◌≡◌, ◌<◌, Some, length, sym, ap, ◌∙◌, subst, arith}
use Rattle.std.proofs.lemmas.Option.{slice_get-get_or}
use Rattle.std.proofs.lemmas.Bool.{ltb-true}
use Rattle.std.specs.Prelude.{slice_get}
use Rattle.m3_isa.specs.declared.registers.Regs.{Regs}
use Rattle.m3_threads.specs.PlacesInside.{IsPlaceOf}
use Rattle.m3_threads.specs.All.{thread_named}
use Rattle.m3_threads.specs.Going.{of_thread}
use Rattle.m3_threads.specs.Actions.{with_threads}
use Rattle.m3_threads.specs.Lending.{with_regs, with_regs_of}
use Rattle.m3_threads.specs.contracts.threads.Threads.{the_view}
use Rattle.m3_threads.proofs.Lends.{same_loan}
use Rattle.m3_threads.proofs.Soundness.{sound-set}
use Rattle.m3_threads.proofs.Changes.{may-compute}
use Rattle.m3_threads.proofs.threads.Threads.regs_mut.Goals as goal
use Rattle.m3_threads.proofs.threads.Threads.regs_mut.Goals.{in-Some, in-None}

pub invariant_of-self-lent : goal.invariant_of-self-lent
invariant_of-self-lent c = λ w.
    let s = c.self.inside in
    let k = c.match-place_of.k in
    let t = c.in-Some-get_mut.t.now in
    let i = c.in-Some-get_mut.ensures.item in
    let within : k < length s.list.items = ltb-true k (length s.list.items) (sym i.0) in
    let got : slice_get s.list.items k ≡ Some t = slice_get-get_or s.list.items k t within ∙ ap Some (sym c.in-Some-get_mut.ensures.value) in
    (sound-set s.allowed s.stacks.depth s.forks s.waits s.list.items _ k (with_regs_of w t) t c.self.invariant.0 got (may-compute t w), c.self.invariant.1)

pub returns-in-Some-get_mut : goal.returns-in-Some-get_mut
returns-in-Some-get_mut c =
    let s = c.self.inside in
    let n = c.args.thread in
    let k = c.match-place_of.k in
    let t = c.in-Some-get_mut.t.now in
    let i = c.in-Some-get_mut.ensures.item in
    let within : k < length s.list.items = ltb-true k (length s.list.items) (sym i.0) in
    let got : slice_get s.list.items k ≡ Some t = slice_get-get_or s.list.items k t within ∙ ap Some (sym c.in-Some-get_mut.ensures.value) in
    let p : IsPlaceOf n s.list.items k =
    elim c.match-place_of.branch [
      | in-Some w ↦ subst (λ j. IsPlaceOf n s.list.items j) (sym w.k-is) (subst (λ ts. IsPlaceOf n ts w.in-Some.k) c.deref.ensures.value w.in-Some.ensures)
      | in-None w ↦ absurd (omega (arith, s.list.ok.0, w.k-is))
    ] in
    let e = λ (w : Regs). ap (with_threads (the_view s)) (sym (p.change (with_regs_of w) t got)) ∙ ap (λ v. with_regs v n w) c.self.view_is in
    let found = sym (ap (λ v. thread_named v n) c.self.view_is) ∙ p.found ∙ got in
    (same_loan e, record { writes_back = tt; value = sym (ap (of_thread (λ u. u.regs)) found) })
