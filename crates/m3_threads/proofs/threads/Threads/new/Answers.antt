use Rattle.std.proofs.Common.{◌≡◌, ℕ, ◌++◌, ◌∷◌, [], List, refl, sym, ap, subst, ◌∙◌, arith}
use Rattle.std.specs.Prelude.{slice_set, replicate}
use Rattle.std.proofs.lemmas.List.{length-replicate}
use Rattle.m3_threads.specs.declared.status.Thread.{Thread}
use Rattle.m3_threads.specs.All.{AreSoundThreads}
use Rattle.m3_threads.specs.Actions.{started_stack}
use Rattle.m3_threads.specs.Stacked.{Stacked}
use Rattle.m3_threads.proofs.Soundness.{sound-nobody, sound-push}
use Rattle.m3_threads.proofs.StackWords.{all-blank, length-started}
use Rattle.m3_threads.proofs.Hand.{stacked}
use Rattle.m3_threads.proofs.threads.Threads.new.Goals as goal

pub invariant_of-result : goal.invariant_of-result
invariant_of-result c =
    let a = c.args.threads in
    let s = c.args.stack in
    let t = c.started.result in
    let none : List (List ℕ) = replicate a [] in
    let first = started_stack s 4294967296 in
    let nobody = sound-nobody a s none c.requires.few (omega arith) (omega arith) (length-replicate a []) (λ slot. all-blank a slot) in
    let same = ap (λ u. u.slot) c.started.ensures in
    let number = ap (λ u. u.number) c.started.ensures in
    let one = sound-push a s 0 0 0 [] none t first nobody (omega arith) (omega arith) refl (λ j v g. cc) (omega arith) (omega arith) (ap (λ u. u.status) c.started.ensures) (length-started s 4294967296) in
    let placed = subst (λ k. AreSoundThreads a s 0 0 (t ∷ []) (slice_set none k first)) same one in
    let stacks : c.lay_out.new.self ≡ stacked s (slice_set none 0 first) =
    c.lay_out.ensures ∙ ap (λ (v : Stacked). stacked v.depth (slice_set v.words 0 (started_stack v.depth 4294967296))) c.in_ok-stacks.ensures in
    let threads = c.push_reserved.ensures.items ∙ ap (λ (us : List Thread). us ++ t ∷ []) c.in_ok-list.ensures.items in
    let listed = subst (λ (ts : List Thread). AreSoundThreads a s 0 0 ts (slice_set none 0 first)) (sym threads) placed in (
      subst (λ (x : Stacked). AreSoundThreads a x.depth 0 0 c.push_reserved.new.self.items x.words) (sym stacks) listed,
      omega (arith, c.push_reserved.ensures.capacity, c.in_ok-list.ensures.capacity),
    )
