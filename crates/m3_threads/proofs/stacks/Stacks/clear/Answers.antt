use Rattle.std.proofs.Common.{ℕ, ◌+◌, ◌*◌, List, [], length, refl, ap, ◌∙◌, arith}
use Rattle.std.specs.Prelude.{slice_set}
use Rattle.m3_threads.specs.PlacesInside.{contents}
use Rattle.m3_threads.specs.Stacked.{Stacked}
use Rattle.m3_threads.proofs.Hand.{stacked, changed, replaced, brought}
use Rattle.m3_threads.proofs.stacks.Stacks.clear.Goals as goal

pub invariant_of-self : goal.invariant_of-self
invariant_of-self c =
    let s = c.self.inside in
    let b = brought s.depth s.others.items c.change.new.others.items s.near c.change.new.near s.slot s.base c.args.slot c.args.self.now.words c.self.invariant
    (ap (λ (v : Stacked). v.words) c.self.view_is) c.change.ensures.whole (omega (arith, c.change.new.others.ok.0, s.others.ok.0, c.change.ensures.same_length)) c.requires in
    let low = b.fits.0 in
    let high = b.fits.1 in
    changed s.depth s.others.items c.change.new.others.items s.near c.change.new.near c.clear.new.self s.slot s.base c.args.slot (1099511627776 * (c.args.slot + 1)) c.self.invariant c.change.ensures.whole
    c.change.ensures.blank b.same b.within refl (omega (arith, low, c.clear.ensures.capacity), let none = ap (λ (ws : List ℕ). length ws) c.clear.ensures.items in omega (arith, none))

pub returns : goal.returns
returns c =
    let s = c.self.inside in
    let all = contents (slice_set s.others.items s.slot s.near) in
    ap (λ (ws : List (List ℕ)). stacked s.depth ws)
    (replaced s.others.items c.change.new.others.items s.near c.change.new.near c.clear.new.self s.slot c.args.slot c.change.ensures.whole ∙ ap (slice_set all c.args.slot) (c.clear.ensures.items))
    ∙ ap (λ (v : Stacked). stacked v.depth (slice_set v.words c.args.slot ([]))) c.self.view_is
