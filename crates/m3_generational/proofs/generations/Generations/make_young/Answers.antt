use Rattle.std.proofs.Common.{◌≡◌, ◌+◌, ◌*◌, ◌-◌, ◌∷◌, ◌++◌, [], ◌≤◌, Bool, Some, replicate, refl, sym, ap, subst, ◌∙◌, arith, false}
use Rattle.m3_heap.specs.Cells.{header_of, total_words, new_cell}
use Rattle.m3_heap.specs.Heap.{Allots}
use Rattle.m3_generational.specs.Remembering.{Remembering, Fits}
use Rattle.m3_generational.specs.Inside.{heap_seen, AreResting, IsAsOpen}
use Rattle.m3_generational.specs.Collecting.{ArePlaced}
use Rattle.m3_generational.specs.declared.spaces.Spaces.{Spaces}
use Rattle.std.proofs.lemmas.Bool.{false≢true}
use Rattle.m3_generational.proofs.HeapLemmas.{is-closed, resting, SamePlaces, still-placed, made-young, room-left, room-young, rest-young, closed-sound}
use Rattle.m3_generational.proofs.FitLemmas.{fits-told, fits-again}
use Rattle.m3_generational.proofs.generations.Generations.make_young.Goals as goal

closed : (c : goal.After-append_zeroed) → c.self.inside.is_open ≡ false
closed c = is-closed c.self.inside c.args.self.now c.self.view_is c.requires.closed

rests : (c : goal.After-append_zeroed) → AreResting c.self.inside.spaces
rests c = resting c.self.inside c.self.invariant (closed c)

room : (c : goal.After-append_zeroed) → c.args.words ≤ (heap_seen c.self.inside.is_open c.self.inside.spaces c.self.inside.left.value c.self.inside.remembered c.self.inside.asked c.self.inside.minors c.self.inside.fulls).free
room c = subst (λ (v : Remembering). c.args.words ≤ v.heap.free) (sym c.self.view_is) c.requires.room

all-room : (c : goal.After-append_zeroed) → total_words c.self.inside.spaces.here.cells + total_words c.self.inside.spaces.nursery.cells + c.args.words ≤ c.self.inside.spaces.here.size
all-room c =
    let i = c.self.inside in
    room-left i.is_open i.spaces i.left.value i.remembered i.asked i.minors i.fulls c.args.words (closed c) (rests c) c.requires.some (room c)

fits : (c : goal.After-append_zeroed) → c.args.words ≤ c.self.inside.spaces.nursery.size
fits c = subst (λ (v : Remembering). c.args.words ≤ v.heap.nursery) (sym c.self.view_is) c.requires.fits

abbrev after : (c : goal.After-append_zeroed) → Spaces
after c = record c.self.inside.spaces { nursery = c.append_zeroed.new.self }

same : (c : goal.After-append_zeroed) → SamePlaces c.self.inside.spaces (after c)
same c = record { here_base = refl; here_size = refl; nursery_base = c.append_zeroed.ensures.base; nursery_size = c.append_zeroed.ensures.size; there_base = refl; there_size = refl }

cells : (c : goal.After-append_zeroed) → c.append_zeroed.new.self.cells ≡ c.self.inside.spaces.nursery.cells ++ new_cell c.append_zeroed.result c.args.kind c.args.words ∷ []
cells c =
    let was = c.self.inside.spaces.nursery.cells in
    let head : c.from.result + c.args.words * 4294967296 ≡ header_of c.args.kind c.args.words = omega (arith, c.from.ensures) in
    c.append_zeroed.ensures.cells ∙ ap (λ h. was ++ record { start = c.append_zeroed.result; words = h ∷ replicate (c.args.words - 1) 0 } ∷ []) head

placed : (c : goal.After-append_zeroed) → ArePlaced (after c)
placed c = still-placed c.self.inside.spaces (after c) (same c) c.self.invariant.placed

rested : (c : goal.After-append_zeroed) → AreResting (after c)
rested c =
    let i = c.self.inside in
    rest-young c.self.inside.spaces (after c) c.args.kind c.args.words c.append_zeroed.result (rests c) (same c) (omega arith) c.requires.some (all-room c) (room-young i.is_open i.spaces i.left.value i.remembered i.asked i.minors i.fulls c.args.words (room c) (fits c) c.requires.some) c.append_zeroed.ensures.start refl (cells c)

pub invariant_of-self : goal.invariant_of-self
invariant_of-self c =
    let P : Bool → Type 0 = λ b. IsAsOpen b (after c) in
    record { placed = placed c; marks = c.self.invariant.marks; as_open = subst P (sym (closed c)) (rested c); beyond = c.self.invariant.beyond; mode = λ opened. absurd (false≢true (sym (closed c) ∙ opened)) }

pub returns-clause-allots : goal.returns-clause-allots
returns-clause-allots c =
    let i = c.self.inside in
    subst (λ (v : Remembering). Allots v.heap c.args.kind c.args.words (Some c.append_zeroed.result) (heap_seen i.is_open (after c) i.left.value i.remembered i.asked i.minors i.fulls)) c.self.view_is
    (made-young i.is_open i.spaces (after c) i.left.value i.remembered i.asked i.minors i.fulls c.args.kind c.args.words c.append_zeroed.result (closed c) c.self.invariant.placed (same c) c.requires.some (room c) (fits c) c.append_zeroed.ensures.start refl (cells c))

pub returns-clause-fitting : goal.returns-clause-fitting
returns-clause-fitting c = λ shapes was.
    let i = c.self.inside in
    fits-again i.is_open shapes (after c) i.left.value i.remembered i.asked i.minors i.fulls (closed c) (placed c) (rested c) (fits-told i.is_open shapes i.spaces i.left.value i.remembered i.asked i.minors i.fulls (closed c) c.self.invariant.placed (rests c) (subst (λ (v : Remembering). Fits shapes v) (sym c.self.view_is) was))

pub returns-clause-sound : goal.returns-clause-sound
returns-clause-sound c =
    let i = c.self.inside in
    closed-sound i.is_open (after c) i.left.value i.remembered i.asked i.minors i.fulls (closed c) (placed c) (rested c)
