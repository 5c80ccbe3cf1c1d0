use Rattle.std.proofs.Common.{◌≡◌, ◌+◌, ◌*◌, ◌-◌, ◌∷◌, ◌++◌, [], ◌<◌, ◌≤◌, Bool, Some, replicate, refl, sym, ap, subst, ◌∙◌, arith, false}
use Rattle.m3_heap.specs.Cells.{header_of, total_words, new_cell}
use Rattle.m3_heap.specs.Heap.{Allots}
use Rattle.m3_generational.specs.Remembering.{Remembering, Fits}
use Rattle.m3_generational.specs.Inside.{heap_seen, AreResting, IsAsOpen}
use Rattle.m3_generational.specs.Collecting.{ArePlaced}
use Rattle.m3_generational.specs.declared.spaces.Spaces.{Spaces}
use Rattle.std.proofs.lemmas.Bool.{false≢true}
use Rattle.m3_generational.proofs.HeapLemmas.{is-closed, resting, SamePlaces, still-placed, made-old, room-left, rest-old, closed-sound}
use Rattle.m3_heap.proofs.TracingLemmas.{total-append}
use Rattle.m3_generational.proofs.FitLemmas.{fits-told, fits-again, fits-push}
use Rattle.m3_generational.proofs.generations.Generations.make_old.Goals as goal

pub append_zeroed-requires-clause-room : goal.append_zeroed-requires-clause-room
append_zeroed-requires-clause-room c =
    let i = c.self.inside in
    let closed = is-closed i c.args.self.now c.self.view_is c.requires.closed in
    let room = subst (λ (v : Remembering). c.args.words ≤ v.heap.free) (sym c.self.view_is) c.requires.room in
    let all = room-left i.is_open i.spaces i.left.value i.remembered i.asked i.minors i.fulls c.args.words closed (resting i c.self.invariant closed) c.requires.some room in
    omega (arith, all)

closed : (c : goal.After-append_zeroed) → c.self.inside.is_open ≡ false
closed c = is-closed c.self.inside c.args.self.now c.self.view_is c.requires.closed

rests : (c : goal.After-append_zeroed) → AreResting c.self.inside.spaces
rests c = resting c.self.inside c.self.invariant (closed c)

room : (c : goal.After-append_zeroed) → c.args.words ≤ (heap_seen c.self.inside.is_open c.self.inside.spaces c.self.inside.left.value c.self.inside.remembered c.self.inside.asked c.self.inside.minors c.self.inside.fulls).free
room c = subst (λ (v : Remembering). c.args.words ≤ v.heap.free) (sym c.self.view_is) c.requires.room

all-room : (c : goal.After-append_zeroed) → total_words c.self.inside.spaces.here.cells + total_words c.self.inside.spaces.nursery.cells + c.args.words ≤ c.self.inside.spaces.here.size
all-room c =
    let i = c.self.inside in
    room-left i.is_open i.spaces i.left.value i.remembered i.asked i.minors i.fulls c.args.words (closed c) (rests c) c.requires.some (room c)

large : (c : goal.After-append_zeroed) → c.self.inside.spaces.nursery.size < c.args.words
large c = subst (λ (v : Remembering). v.heap.nursery < c.args.words) (sym c.self.view_is) c.requires.large

abbrev after : (c : goal.After-append_zeroed) → Spaces
after c = record c.self.inside.spaces { here = c.append_zeroed.new.self }

same : (c : goal.After-append_zeroed) → SamePlaces c.self.inside.spaces (after c)
same c = record { here_base = c.append_zeroed.ensures.base; here_size = c.append_zeroed.ensures.size; nursery_base = refl; nursery_size = refl; there_base = refl; there_size = refl }

cells : (c : goal.After-append_zeroed) → c.append_zeroed.new.self.cells ≡ c.self.inside.spaces.here.cells ++ new_cell c.append_zeroed.result c.args.kind c.args.words ∷ []
cells c =
    let was = c.self.inside.spaces.here.cells in
    let head : c.from.result + c.args.words * 4294967296 ≡ header_of c.args.kind c.args.words = omega (arith, c.from.ensures) in
    c.append_zeroed.ensures.cells ∙ ap (λ h. was ++ record { start = c.append_zeroed.result; words = h ∷ replicate (c.args.words - 1) 0 } ∷ []) head

placed : (c : goal.After-append_zeroed) → ArePlaced (after c)
placed c = still-placed c.self.inside.spaces (after c) (same c) c.self.invariant.placed

rested : (c : goal.After-append_zeroed) → AreResting (after c)
rested c =
    let i = c.self.inside in
    rest-old c.self.inside.spaces (after c) c.args.kind c.args.words c.append_zeroed.result (rests c) (same c) (omega arith) c.requires.some (all-room c) c.append_zeroed.ensures.start refl (cells c)

longer : (c : goal.After-append_zeroed) → total_words c.self.inside.spaces.here.cells ≤ total_words c.append_zeroed.new.self.cells
longer c = let total = ap total_words (cells c) ∙ total-append c.self.inside.spaces.here.cells (new_cell c.append_zeroed.result c.args.kind c.args.words ∷ []) in omega (arith, total)

pub invariant_of-self : goal.invariant_of-self
invariant_of-self c =
    let P : Bool → Type 0 = λ b. IsAsOpen b (after c) in
    record { placed = placed c; marks = c.self.invariant.marks ∙ sym c.append_zeroed.ensures.size; as_open = subst P (sym (closed c)) (rested c); beyond = λ _ place past. c.self.invariant.beyond (closed c) place (omega (arith, past, longer c)); mode = λ opened. absurd (false≢true (sym (closed c) ∙ opened)) }

pub returns-clause-allots : goal.returns-clause-allots
returns-clause-allots c =
    let i = c.self.inside in
    subst (λ (v : Remembering). Allots v.heap c.args.kind c.args.words (Some c.append_zeroed.result) (heap_seen i.is_open (after c) i.left.value i.remembered i.asked i.minors i.fulls)) c.self.view_is
    (made-old i.is_open i.spaces (after c) i.left.value i.remembered i.asked i.minors i.fulls c.args.kind c.args.words c.append_zeroed.result (closed c) (rests c) (c.self.invariant.beyond (closed c)) (same c) c.requires.some (room c) (large c) c.append_zeroed.ensures.start refl (cells c))

pub returns-clause-fitting : goal.returns-clause-fitting
returns-clause-fitting c = λ shapes was.
    let i = c.self.inside in
    fits-again i.is_open shapes (after c) i.left.value i.remembered i.asked i.minors i.fulls (closed c) (placed c) (rested c)
    (fits-push shapes i.spaces.here.cells c.append_zeroed.new.self.cells i.remembered i.spaces.here.base c.append_zeroed.new.self.base c.append_zeroed.result c.args.kind c.args.words c.append_zeroed.ensures.base (cells c)
    (fits-told i.is_open shapes i.spaces i.left.value i.remembered i.asked i.minors i.fulls (closed c) c.self.invariant.placed (rests c) (subst (λ (v : Remembering). Fits shapes v) (sym c.self.view_is) was)))

pub returns-clause-sound : goal.returns-clause-sound
returns-clause-sound c =
    let i = c.self.inside in
    closed-sound i.is_open (after c) i.left.value i.remembered i.asked i.minors i.fulls (closed c) (placed c) (rested c)
