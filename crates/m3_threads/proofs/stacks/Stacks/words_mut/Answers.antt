use Rattle.std.proofs.Common.{ℕ, ◌+◌, ◌*◌, List, [], length, take, drop, ◌++◌, refl, sym, ap, ◌∙◌, arith}
use Rattle.std.specs.Prelude.{slice_set, slice_index_or}
use Rattle.std.specs.List.{length_refill}
use Rattle.std.specs.Vec.{with_items}
use Rattle.m3_threads.specs.Lending.{rewritten}
use Rattle.m3_threads.specs.LendingStacks.{with_words_of}
use Rattle.m3_threads.specs.PlacesInside.{contents}
use Rattle.m3_threads.specs.Stacked.{Stacked}
use Rattle.m3_threads.proofs.Hand.{stacked, changed, replaced, brought}
use Rattle.m3_threads.proofs.stacks.Stacks.words_mut.Goals as goal

pub invariant_of-self-lent : goal.invariant_of-self-lent
invariant_of-self-lent c = λ w.
    let s = c.self.inside in
    let b = brought s.depth s.others.items c.change.new.others.items s.near c.change.new.near s.slot s.base c.args.slot c.args.self.now.words c.self.invariant
    (ap (λ (v : Stacked). v.words) c.self.view_is) c.change.ensures.whole (omega (arith, c.change.new.others.ok.0, s.others.ok.0, c.change.ensures.same_length)) c.requires in
    let low = b.fits.0 in
    let high = b.fits.1 in
    let near = c.change.new.near in
    let long = sym (length_refill near.len near.items w near.ok.0) ∙ near.ok.0 in
    changed s.depth s.others.items c.change.new.others.items s.near near (with_items near w) s.slot s.base c.args.slot (1099511627776 * (c.args.slot + 1)) c.self.invariant c.change.ensures.whole
    c.change.ensures.blank b.same b.within refl (low, omega (arith, long, high))

pub returns : goal.returns
returns c =
    let s = c.self.inside in
    let b = brought s.depth s.others.items c.change.new.others.items s.near c.change.new.near s.slot s.base c.args.slot c.args.self.now.words c.self.invariant
    (ap (λ (v : Stacked). v.words) c.self.view_is) c.change.ensures.whole (omega (arith, c.change.new.others.ok.0, s.others.ok.0, c.change.ensures.same_length)) c.requires in
    let near = c.change.new.near in
    let all = contents (slice_set s.others.items s.slot s.near) in
    let own = b.near ∙ ap (λ (v : Stacked). slice_index_or v.words c.args.slot []) (sym c.self.view_is) in
    let left = λ (w : List ℕ). ap (λ n. take n (w ++ drop (length w) near.items)) near.ok.0 ∙ ap (λ ws. rewritten ws w) own in
    let ends = λ (w : List ℕ). ap (λ (ws : List (List ℕ)). stacked s.depth ws)
    (replaced s.others.items c.change.new.others.items s.near near (with_items near w) s.slot c.args.slot c.change.ensures.whole ∙ ap (slice_set all c.args.slot) (left w))
    ∙ ap (λ (v : Stacked). with_words_of v c.args.slot w) c.self.view_is in
    ((refl, ends), record { writes_back = tt; value = c.deref_mut.ensures.value ∙ b.near })
