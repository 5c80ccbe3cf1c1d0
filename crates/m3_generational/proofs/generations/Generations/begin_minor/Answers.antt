use Rattle.std.proofs.Common.{◌≡◌, Bool, true, false, refl, sym, ap, ◌∙◌, ◌++◌}
use Rattle.std.proofs.lemmas.Bool.{false≢true}
use Rattle.m3_heap.specs.Moves.{staying}
use Rattle.m3_heap.specs.Heap.{Heap, is_minor, old_starts}
use Rattle.m3_generational.specs.Remembering.{Remembering}
use Rattle.m3_generational.specs.Inside.{heap_seen, cells_seen, moves_seen, AreCollecting}
use Rattle.m3_generational.specs.declared.spaces.Spaces.{Spaces}
use Rattle.m3_generational.proofs.HeapLemmas.{is-closed, resting}
use Rattle.m3_generational.proofs.BeginLemmas.{minor-begins, open-sound, opened-heap, is-minor-told}
use Rattle.m3_generational.proofs.generations.Generations.begin_minor.Goals as goal

closed : (c : goal.After-self-3-1) → c.self.inside.is_open ≡ false
closed c = is-closed c.self.inside c.args.self.now c.self.view_is c.requires.closed

abbrev after : (c : goal.After-self-3-1) → Spaces
after c = record c.self.inside.spaces { found = c.of.result; tenured = c.total-self-inside.result; is_minor = true }

begins : (c : goal.After-self-3-1) → AreCollecting (after c) × (cells_seen true (after c) ≡ c.self.inside.spaces.here.cells ++ c.self.inside.spaces.nursery.cells) × ((left : Spaces) → moves_seen true (after c) left ≡ staying (old_starts (c.self.inside.spaces.here.cells ++ c.self.inside.spaces.nursery.cells)))
begins c =
    let r = resting c.self.inside c.self.invariant (closed c) in
    let p = c.self.invariant.placed in
    minor-begins (after c) refl (record { bases = p.bases; nursery = p.nursery; same_size = p.same_size; quarter = p.quarter; least = p.least; most = p.most }) (record { old = r.old; young = r.young; room = r.room }) c.of.ensures c.total-self-inside.ensures.total

pub returns-clause-opened : goal.returns-clause-opened
returns-clause-opened c =
    let i = c.self.inside in
    let h : Bool → Heap = λ b. heap_seen b i.spaces i.left.value i.remembered i.asked i.minors i.fulls in
    let minor = ap (λ (v : Remembering). is_minor v.heap) c.self.view_is ∙ c.requires.minor in
    let old = is-minor-told i.is_open i.spaces i.left.value i.remembered i.asked i.minors i.fulls (closed c) minor in
    let ms = staying (old_starts (i.spaces.here.cells ++ i.spaces.nursery.cells)) in
    opened-heap i.spaces (after c) i.left.value i.remembered i.asked i.minors i.fulls ms refl refl refl (begins c).1 ((begins c).2 i.left.value)
    ∙ ap (λ b. record (h b) { is_open = true; moves = ms }) (sym (closed c))
    ∙ ap (λ b. record (h i.is_open) { is_open = true; moves = staying (old_starts (cells_seen b i.spaces)) }) (sym (closed c))
    ∙ ap (λ l. record (h i.is_open) { is_open = true; moves = staying l }) (sym old)
    ∙ ap (λ (v : Remembering). record v.heap { is_open = true; moves = staying v.heap.tenured }) c.self.view_is

pub invariant_of-self : goal.invariant_of-self
invariant_of-self c = record { placed = (begins c).0.keeping.placed; marks = c.self.invariant.marks; as_open = (begins c).0; beyond = λ shut. absurd (false≢true (sym shut)); mode = λ _. ap (λ (h : Heap). is_minor h) (returns-clause-opened c) ∙ c.requires.minor }

pub returns-clause-sound : goal.returns-clause-sound
returns-clause-sound c = let i = c.self.inside in open-sound (after c) i.left.value i.remembered i.asked i.minors i.fulls (begins c).0
