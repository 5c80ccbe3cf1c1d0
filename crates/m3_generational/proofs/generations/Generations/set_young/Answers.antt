use Rattle.std.proofs.Common.{◌≡◌, Bool, false, cond, refl, sym, subst, ◌∙◌}
use Rattle.m3_heap.specs.Cells.{is_writable, with_word}
use Rattle.m3_heap.specs.CellWords.{layout_after}
use Rattle.m3_heap.specs.Heap.{HasOtherWords}
use Rattle.m3_generational.specs.Remembering.{Remembering, Fits}
use Rattle.m3_generational.specs.Inside.{heap_seen, cells_seen, AreResting, IsAsOpen}
use Rattle.m3_generational.specs.Collecting.{ArePlaced}
use Rattle.m3_generational.specs.declared.spaces.Spaces.{Spaces}
use Rattle.m3_heap.proofs.SemiLemmas.{rest-replace}
use Rattle.std.proofs.lemmas.Bool.{false≢true}
use Rattle.m3_generational.proofs.HeapLemmas.{is-closed, resting, SamePlaces, still-placed, stored, rest-stored, closed-sound, set-young-told}
use Rattle.m3_generational.proofs.FitLemmas.{fits-told, fits-again}
use Rattle.m3_generational.proofs.generations.Generations.set_young.Goals as goal

closed : (c : goal.After-replace) → c.self.inside.is_open ≡ false
closed c = is-closed c.self.inside c.args.self.now c.self.view_is c.requires.closed

rests : (c : goal.After-replace) → AreResting c.self.inside.spaces
rests c = resting c.self.inside c.self.invariant (closed c)

abbrev after : (c : goal.After-replace) → Spaces
after c = record c.self.inside.spaces { nursery = c.replace.new.self }

same : (c : goal.After-replace) → SamePlaces c.self.inside.spaces (after c)
same c = record { here_base = refl; here_size = refl; nursery_base = c.replace.ensures.base; nursery_size = c.replace.ensures.size; there_base = refl; there_size = refl }

placed : (c : goal.After-replace) → ArePlaced (after c)
placed c = still-placed c.self.inside.spaces (after c) (same c) c.self.invariant.placed

rested : (c : goal.After-replace) → AreResting (after c)
rested c =
    let s = c.self.inside.spaces in
    let put = rest-replace s.nursery c.replace.new.self c.args.at c.args.word c.replace.result (rests c).young c.replace.ensures.answer c.replace.ensures.base c.replace.ensures.size c.replace.ensures.cells in
    rest-stored s (after c) (rests c) (same c) ((rests c).old, refl) put

told : (c : goal.After-replace) → (c.replace.result ≡ is_writable (cells_seen c.self.inside.is_open c.self.inside.spaces) c.args.at) × (cells_seen c.self.inside.is_open (after c) ≡ cond c.replace.result (with_word (cells_seen c.self.inside.is_open c.self.inside.spaces) c.args.at c.args.word) (cells_seen c.self.inside.is_open c.self.inside.spaces))
told c =
    let i = c.self.inside in
    set-young-told i.is_open i.spaces (after c) c.args.at c.args.word c.replace.result (closed c) c.self.invariant.placed (rests c) c.requires.high c.replace.ensures.answer refl c.replace.ensures.cells

pub invariant_of-self : goal.invariant_of-self
invariant_of-self c =
    let P : Bool → Type 0 = λ b. IsAsOpen b (after c) in
    record { placed = placed c; marks = c.self.invariant.marks; as_open = subst P (sym (closed c)) (rested c); beyond = c.self.invariant.beyond; mode = λ opened. absurd (false≢true (sym (closed c) ∙ opened)) }

pub returns-clause-value : goal.returns-clause-value
returns-clause-value c = subst (λ (v : Remembering). c.replace.result ≡ is_writable v.heap.cells c.args.at) c.self.view_is (told c).0

pub returns-clause-cells : goal.returns-clause-cells
returns-clause-cells c =
    let i = c.self.inside in
    subst (λ (v : Remembering). cells_seen i.is_open (after c) ≡ cond c.replace.result (with_word v.heap.cells c.args.at c.args.word) v.heap.cells) c.self.view_is (told c).1

pub returns-clause-rest : goal.returns-clause-rest
returns-clause-rest c =
    let i = c.self.inside in
    let lay = layout_after i.spaces.nursery.cells c.replace.new.self.cells c.args.at c.args.word c.replace.result c.replace.ensures.cells in
    subst (λ (v : Remembering). HasOtherWords v.heap (heap_seen i.is_open (after c) i.left.value i.remembered i.asked i.minors i.fulls)) c.self.view_is
    (stored i.is_open i.spaces (after c) i.left.value i.remembered i.remembered i.asked i.minors i.fulls (closed c) c.self.invariant.placed (same c) refl lay)

pub returns-clause-fitting : goal.returns-clause-fitting
returns-clause-fitting c = λ shapes was.
    let i = c.self.inside in
    fits-again i.is_open shapes (after c) i.left.value i.remembered i.asked i.minors i.fulls (closed c) (placed c) (rested c)
    (fits-told i.is_open shapes i.spaces i.left.value i.remembered i.asked i.minors i.fulls (closed c) c.self.invariant.placed (rests c) (subst (λ (v : Remembering). Fits shapes v) (sym c.self.view_is) was))

pub returns-clause-sound : goal.returns-clause-sound
returns-clause-sound c =
    let i = c.self.inside in
    closed-sound i.is_open (after c) i.left.value i.remembered i.asked i.minors i.fulls (closed c) (placed c) (rested c)
