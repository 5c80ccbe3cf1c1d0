use Rattle.std.proofs.Common.{◌≡◌, ◌∙◌, refl, arith, true, false}
use Rattle.m3_heap.specs.Cells.{total_words}
use Rattle.m3_heap.specs.Moves.{kept_starts}
use Rattle.m3_heap.specs.Reach.{HasBadPointer}
use Rattle.m3_heap.specs.Heap.{Heap, SameSizes, CountsOne, ChangesHalves, KeepsReached, MovesCells, MakesRoom, CostsTrace}
use Rattle.m3_heap.specs.CollectorHalves.{semi_heap}
use Rattle.m3_heap.proofs.SemiLemmas.{is-opened, in-motion, semi-sound}
use Rattle.m3_heap.proofs.FinishLemmas.{IsFinished, finished-good, finished-reached, finished-moved, finished-cost, finished-room, finished-count, finished-rest, changes, told, swapped-semi}
use Rattle.m3_heap.proofs.halves.Halves.finish.Given as given
use Rattle.m3_heap.proofs.halves.Halves.finish.Goals as goal

opens : (g : given.Over) (c : goal.After-self-5-1 g) → c.self.inside.is_open ≡ true
opens g c = is-opened c.self.inside c.args.self.now c.self.view_is c.requires.open

finished : (g : given.Over) (c : goal.After-self-5-1 g) → IsFinished (g.M.Maps.shapes c.args.maps.now) c.self.inside.pair.here c.self.inside.pair.there c.trace-is_traced.new.pair.here c.trace-is_traced.new.pair.there
finished g c = record {
  before = in-motion c.self.inside c.self.invariant (opens g c);
  tracing = c.if-not-is_traced.ensures.tracing;
  grows = c.if-not-is_traced.ensures.grows;
  scans = c.if-not-is_traced.ensures.traced;
}

-- as many words were copied as the kept cells have
copied : (g : given.Over) (c : goal.After-self-5-1 g) → c.total-self-inside.result ≡ total_words c.trace-is_traced.new.pair.there.cells
copied g c = c.total-self-inside.ensures.total

pub invariant_of-self-2 : goal.invariant_of-self-2
invariant_of-self-2 g c =
    swapped-semi c.self.inside c.swap.new.x c.swap.new.y c.trace-is_traced.new.pair.here c.trace-is_traced.new.pair.there c.total-self-inside.result c.one_more-self-inside.result c.self.invariant c.if-not-is_traced.ensures.grows
    (finished-rest (g.M.Maps.shapes c.args.maps.now) c.self.inside.pair.here c.self.inside.pair.there c.trace-is_traced.new.pair.here c.trace-is_traced.new.pair.there (finished g c))
    (omega (arith, copied g c)) c.swap.ensures.x_after c.swap.ensures.y_after

shows : (g : given.Over) (c : goal.After-self-5-1 g) → (R : Heap → Heap → Type 0) → R (semi_heap true c.self.inside.pair.here c.self.inside.pair.there c.self.inside.copied c.self.inside.asked c.self.inside.fulls) (semi_heap false c.trace-is_traced.new.pair.there c.trace-is_traced.new.pair.here c.total-self-inside.result 0 c.one_more-self-inside.result)
    → R c.args.self.now (semi_heap false c.swap.new.x c.swap.new.y c.total-self-inside.result 0 c.one_more-self-inside.result)
shows g c R h = told c.self.inside c.args.self.now c.swap.new.x c.swap.new.y c.trace-is_traced.new.pair.here c.trace-is_traced.new.pair.there c.total-self-inside.result c.one_more-self-inside.result c.self.view_is (opens g c) c.swap.ensures.x_after c.swap.ensures.y_after R h

pub returns-clause-good : goal.returns-clause-good
returns-clause-good g c =
    let shapes = g.M.Maps.shapes c.args.maps.now in
    λ _ bad. shows g c (λ old _. HasBadPointer shapes old.cells (kept_starts old.moves) → ⊥)
    (finished-good shapes c.self.inside.pair.here c.self.inside.pair.there c.trace-is_traced.new.pair.here c.trace-is_traced.new.pair.there (finished g c)) bad

pub returns-clause-reached : goal.returns-clause-reached
returns-clause-reached g c =
    let shapes = g.M.Maps.shapes c.args.maps.now in
    shows g c (λ old new. KeepsReached shapes old new)
    (finished-reached shapes c.self.inside.pair.here c.self.inside.pair.there c.trace-is_traced.new.pair.here c.trace-is_traced.new.pair.there c.self.inside.copied c.self.inside.asked c.self.inside.fulls c.total-self-inside.result 0 c.one_more-self-inside.result (finished g c) (copied g c))

pub returns-clause-moved : goal.returns-clause-moved
returns-clause-moved g c =
    let shapes = g.M.Maps.shapes c.args.maps.now in
    shows g c (λ old new. MovesCells shapes old new)
    (finished-moved shapes c.self.inside.pair.here c.self.inside.pair.there c.trace-is_traced.new.pair.here c.trace-is_traced.new.pair.there c.self.inside.copied c.self.inside.asked c.self.inside.fulls c.total-self-inside.result 0 c.one_more-self-inside.result (finished g c) (copied g c))

pub returns-clause-cost : goal.returns-clause-cost
returns-clause-cost g c =
    let shapes = g.M.Maps.shapes c.args.maps.now in
    shows g c (λ old new. CostsTrace shapes old new c.args.steps.now c.trace-is_traced.new.steps)
    (finished-cost shapes c.self.inside.pair.here c.self.inside.pair.there c.trace-is_traced.new.pair.here c.trace-is_traced.new.pair.there c.self.inside.copied c.self.inside.asked c.self.inside.fulls c.total-self-inside.result 0 c.one_more-self-inside.result c.args.steps.now c.trace-is_traced.new.steps (finished g c) (copied g c) c.if-not-is_traced.ensures.cost)

pub returns-clause-sound : goal.returns-clause-sound
returns-clause-sound g c = semi-sound _ (invariant_of-self-2 g c)

pub returns-clause-room : goal.returns-clause-room
returns-clause-room g c =
    shows g c (λ old new. MakesRoom old new)
    (finished-room c.self.inside.pair.here c.self.inside.pair.there c.trace-is_traced.new.pair.here c.trace-is_traced.new.pair.there c.self.inside.copied c.self.inside.asked c.self.inside.fulls c.total-self-inside.result 0 c.one_more-self-inside.result
    (c.if-not-is_traced.ensures.grows.kept_size ∙ c.self.invariant.same_size))

pub returns-clause-counted : goal.returns-clause-counted
returns-clause-counted g c =
    shows g c (λ old new. CountsOne old new)
    (finished-count c.self.inside.pair.here c.self.inside.pair.there c.trace-is_traced.new.pair.here c.trace-is_traced.new.pair.there c.self.inside.copied c.self.inside.asked c.self.inside.fulls c.total-self-inside.result 0 c.one_more-self-inside.result c.one_more-self-inside.ensures)

pub returns-clause-halves : goal.returns-clause-halves
returns-clause-halves g c =
    shows g c (λ old new. ChangesHalves old new)
    (changes c.self.inside c.trace-is_traced.new.pair.here c.trace-is_traced.new.pair.there c.self.inside.copied c.self.inside.asked c.self.inside.fulls c.total-self-inside.result 0 c.one_more-self-inside.result c.self.invariant c.if-not-is_traced.ensures.grows)

pub returns-clause-sizes : goal.returns-clause-sizes
returns-clause-sizes g c =
    shows g c (λ old new. SameSizes old new) (record { size = c.if-not-is_traced.ensures.grows.kept_size ∙ c.self.invariant.same_size; nursery = refl })

pub returns-clause-of_halves : goal.returns-clause-of_halves
returns-clause-of_halves g c = refl
