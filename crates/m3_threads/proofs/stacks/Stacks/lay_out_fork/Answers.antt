use Rattle.std.proofs.Common.{ℕ, ◌+◌, ◌*◌, List, length, refl, ap, ◌∙◌, arith, length-set}
use Rattle.std.specs.Prelude.{slice_set}
use Rattle.std.specs.Vec.{with_item}
use Rattle.m3_threads.specs.Actions.{started_stack}
use Rattle.m3_threads.specs.PlacesInside.{contents}
use Rattle.m3_threads.specs.Stacked.{Stacked}
use Rattle.m3_threads.proofs.StackWords.{length-started}
use Rattle.m3_threads.proofs.Hand.{stacked, changed, replaced, brought}
use Rattle.m3_threads.proofs.stacks.Stacks.lay_out_fork.Goals as goal

pub lay_out-requires-clause-blank : goal.lay_out-requires-clause-blank
lay_out-requires-clause-blank c =
    let s = c.self.inside in
    let b = brought s.depth s.others.items c.change.new.others.items s.near c.change.new.near s.slot s.base c.args.slot c.args.self.now.words c.self.invariant
    (ap (λ (v : Stacked). v.words) c.self.view_is) c.change.ensures.whole (omega (arith, c.change.new.others.ok.0, s.others.ok.0, c.change.ensures.same_length)) c.requires.within in
    b.near ∙ c.requires.blank

pub lay_out-requires-clause-room : goal.lay_out-requires-clause-room
lay_out-requires-clause-room c =
    let s = c.self.inside in
    let b = brought s.depth s.others.items c.change.new.others.items s.near c.change.new.near s.slot s.base c.args.slot c.args.self.now.words c.self.invariant
    (ap (λ (v : Stacked). v.words) c.self.view_is) c.change.ensures.whole (omega (arith, c.change.new.others.ok.0, s.others.ok.0, c.change.ensures.same_length)) c.requires.within in
    b.fits.0

pub invariant_of-self : goal.invariant_of-self
invariant_of-self c =
    let s = c.self.inside in
    let b = brought s.depth s.others.items c.change.new.others.items s.near c.change.new.near s.slot s.base c.args.slot c.args.self.now.words c.self.invariant
    (ap (λ (v : Stacked). v.words) c.self.view_is) c.change.ensures.whole (omega (arith, c.change.new.others.ok.0, s.others.ok.0, c.change.ensures.same_length)) c.requires.within in
    let low = b.fits.0 in
    let high = b.fits.1 in
    changed s.depth s.others.items c.change.new.others.items s.near c.change.new.near (with_item c.lay_out.new.words 6 c.args.closure) s.slot s.base c.args.slot (1099511627776 * (c.args.slot + 1)) c.self.invariant c.change.ensures.whole
    c.change.ensures.blank b.same b.within refl (omega (arith, low, c.lay_out.ensures.capacity), let long = length-set c.lay_out.new.words.items 6 c.args.closure ∙ ap (λ (ws : List ℕ). length ws) c.lay_out.ensures.words ∙ length-started s.depth c.args.cell in omega (arith, long))

pub returns : goal.returns
returns c =
    let s = c.self.inside in
    let all = contents (slice_set s.others.items s.slot s.near) in
    ap (λ (ws : List (List ℕ)). stacked s.depth ws)
    (replaced s.others.items c.change.new.others.items s.near c.change.new.near (with_item c.lay_out.new.words 6 c.args.closure) s.slot c.args.slot c.change.ensures.whole ∙ ap (slice_set all c.args.slot) (ap (λ (ws : List ℕ). slice_set ws 6 c.args.closure) c.lay_out.ensures.words))
    ∙ ap (λ (v : Stacked). stacked v.depth (slice_set v.words c.args.slot (slice_set (started_stack v.depth c.args.cell) 6 c.args.closure))) c.self.view_is
