use Rattle.std.proofs.Common.{[], sym, ap, ◌∙◌, ◌<◌, length, arith}
use Rattle.std.specs.Prelude.{slice_set, slice_index_or}
use Rattle.m3_threads.specs.PlacesInside.{contents}
use Rattle.m3_threads.specs.Stacked.{Stacked}
use Rattle.m3_threads.proofs.StackWords.{set_stack, count-contents}
use Rattle.m3_threads.proofs.Hand.{at-own}
use Rattle.m3_threads.proofs.stacks.Stacks.words.Goals as goal

pub returns-then-slot-self : goal.returns-then-slot-self
returns-then-slot-self c =
    let s = c.self.inside in
    let o = s.others.items in
    let count = count-contents o in
    let within : s.slot < length (contents o) = let w = c.self.invariant.within in omega (arith, count, w) in
    c.deref.ensures.value ∙ sym (at-own (contents o) s.slot s.near.items within) ∙ ap (λ st. slice_index_or st s.slot []) (sym (set_stack o s.slot s.near))
    ∙ ap (λ k. slice_index_or (contents (slice_set o s.slot s.near)) k []) (sym c.if-slot-self.true)
    ∙ ap (λ (v : Stacked). slice_index_or v.words c.args.slot []) c.self.view_is
