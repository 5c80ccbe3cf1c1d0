use Rattle.std.proofs.Common.{◌≡◌, [], true, false, refl, sym, ap, ◌∙◌}
use Rattle.std.proofs.lemmas.Bool.{false≢true}
use Rattle.m3_heap.specs.Moves.{staying}
use Rattle.m3_heap.specs.Heap.{Heap, is_minor}
use Rattle.m3_generational.specs.Remembering.{Remembering}
use Rattle.m3_generational.specs.Inside.{heap_seen, cells_seen, moves_seen, AreCollecting}
use Rattle.m3_generational.specs.declared.spaces.Spaces.{Spaces}
use Rattle.m3_generational.proofs.HeapLemmas.{is-closed, resting}
use Rattle.m3_generational.proofs.BeginLemmas.{full-begins, open-sound, opened-heap, is-full-told}
use Rattle.m3_generational.proofs.generations.Generations.begin_full.Goals as goal

closed : (c : goal.After-self-2-1) → c.self.inside.is_open ≡ false
closed c = is-closed c.self.inside c.args.self.now c.self.view_is c.requires.closed

abbrev after : (c : goal.After-self-2-1) → Spaces
after c = record c.self.inside.spaces { there = c.clear.new.self; is_minor = false }

begins : (c : goal.After-self-2-1) → AreCollecting (after c) × (cells_seen true (after c) ≡ cells_seen false c.self.inside.spaces) × ((left : Spaces) → moves_seen true (after c) left ≡ [])
begins c = full-begins c.self.inside.spaces c.clear.new.self c.self.invariant.placed (resting c.self.inside c.self.invariant (closed c)) c.clear.ensures.base c.clear.ensures.size c.clear.ensures.cells

pub returns-clause-opened : goal.returns-clause-opened
returns-clause-opened c =
    let i = c.self.inside in
    let h = heap_seen i.is_open i.spaces i.left.value i.remembered i.asked i.minors i.fulls in
    let full = ap (λ (v : Remembering). is_minor v.heap) c.self.view_is ∙ c.requires.full in
    let none = is-full-told i.is_open i.spaces i.left.value i.remembered i.asked i.minors i.fulls (closed c) full in
    opened-heap i.spaces (after c) i.left.value i.remembered i.asked i.minors i.fulls [] refl refl refl (begins c).1 ((begins c).2 i.left.value)
    ∙ ap (λ b. record (heap_seen b i.spaces i.left.value i.remembered i.asked i.minors i.fulls) { is_open = true; moves = [] }) (sym (closed c))
    ∙ ap (λ l. record h { is_open = true; moves = staying l }) (sym none)
    ∙ ap (λ (v : Remembering). record v.heap { is_open = true; moves = staying v.heap.tenured }) c.self.view_is

pub invariant_of-self : goal.invariant_of-self
invariant_of-self c = record { placed = (begins c).0.keeping.placed; marks = c.self.invariant.marks; as_open = (begins c).0; beyond = λ shut. absurd (false≢true (sym shut)); mode = λ _. ap (λ (h : Heap). is_minor h) (returns-clause-opened c) ∙ c.requires.full }

pub returns-clause-sound : goal.returns-clause-sound
returns-clause-sound c = let i = c.self.inside in open-sound (after c) i.left.value i.remembered i.asked i.minors i.fulls (begins c).0
