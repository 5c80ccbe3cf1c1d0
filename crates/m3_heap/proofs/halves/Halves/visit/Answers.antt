use Rattle.std.proofs.Common.{◌≡◌, true, refl, sym, ap, ◌∙◌, arith}
use Rattle.m3_heap.specs.Cells.{total_words}
use Rattle.m3_heap.specs.Moves.{kept_words, with_kept, forwarded}
use Rattle.m3_heap.specs.Heap.{Heap}
use Rattle.m3_heap.specs.CollectorHalves.{IsSemi, AreMoving, semi_heap, moves_seen}
use Rattle.m3_heap.specs.CollectorTracing.{Keeps, old_cells, moves}
use Rattle.m3_heap.proofs.SemiLemmas.{is-opened, in-motion, visited, IsVisited, after-visit, if-both, words-told, visited-semi, semi-sound}
use Rattle.m3_heap.proofs.halves.Halves.visit.Given as given
use Rattle.m3_heap.proofs.halves.Halves.visit.Goals as goal

opens : (g : given.Over) (c : goal.After-forward g) → c.self.inside.is_open ≡ true
opens g c = is-opened c.self.inside c.args.self.now c.self.view_is c.requires.open

moving : (g : given.Over) (c : goal.After-forward g) → AreMoving c.self.inside.pair.here c.self.inside.pair.there
moving g c = in-motion c.self.inside c.self.invariant (opens g c)

after : (g : given.Over) (c : goal.After-forward g) → IsVisited c.self.inside.pair.here c.self.inside.pair.there c.forward.new.self.here c.forward.new.self.there
after g c = after-visit c.self.inside.pair.here c.self.inside.pair.there c.forward.new.self.here c.forward.new.self.there c.args.word c.forward.result (moving g c) c.forward.ensures.kept c.forward.ensures.left_stays c.forward.ensures.kept_stays

pub returns-clause-kept : goal.returns-clause-kept
returns-clause-kept g c =
    let here = c.self.inside.pair.here in
    let there = c.self.inside.pair.there in
    let left = c.forward.new.self.here in
    let kept = c.forward.new.self.there in
    let n = c.self.inside.copied in
    let a = c.self.inside.asked in
    let f = c.self.inside.fulls in
    let w = c.args.word in
    if-both (Keeps here there left kept w) (λ to. to ≡ forwarded (moves left kept) w) (λ to. semi_heap c.self.inside.is_open left kept n a f ≡ record c.args.self.now { moves = with_kept c.args.self.now.moves w to })
    c.forward.result c.forward.ensures.kept c.forward.ensures.value
    (λ to keeps is.
    ap (λ b. semi_heap b left kept n a f) (opens g c)
    ∙ visited here there left kept w to n a f keeps is
    ∙ ap (λ b. record (semi_heap b here there n a f) { moves = with_kept (moves_seen b here there n) w to }) (sym (opens g c))
    ∙ ap (λ (h : Heap). record h { moves = with_kept h.moves w to }) c.self.view_is)

pub returns-clause-cost : goal.returns-clause-cost
returns-clause-cost g c =
    let here = c.self.inside.pair.here in
    let there = c.self.inside.pair.there in
    let left = c.forward.new.self.here in
    let kept = c.forward.new.self.there in
    let seen : old_cells here there ≡ c.args.self.now.cells = ap (λ b. (semi_heap b here there c.self.inside.copied c.self.inside.asked c.self.inside.fulls).cells) (sym (opens g c)) ∙ ap (λ (h : Heap). h.cells) c.self.view_is in
    let list : moves here there ≡ c.args.self.now.moves = ap (λ b. moves_seen b here there c.self.inside.copied) (sym (opens g c)) ∙ ap (λ (h : Heap). h.moves) c.self.view_is in
    let was : kept_words c.args.self.now.cells c.args.self.now.moves ≡ total_words there.cells =
    ap (λ cs. kept_words cs c.args.self.now.moves) (sym seen) ∙ ap (λ ms. kept_words (old_cells here there) ms) (sym list) ∙ words-told here there (moving g c).tracing in
    let now : kept_words c.args.self.now.cells (moves_seen c.self.inside.is_open left kept c.self.inside.copied) ≡ total_words kept.cells =
    ap (λ cs. kept_words cs (moves_seen c.self.inside.is_open left kept c.self.inside.copied)) (sym seen) ∙ ap (λ b. kept_words (old_cells here there) (moves_seen b left kept c.self.inside.copied)) (opens g c)
    ∙ ap (λ cs. kept_words cs (moves left kept)) (sym (after g c).same_cells) ∙ words-told left kept (after g c).moving.tracing in
    omega (arith, c.forward.ensures.cost, c.tick.ensures)

settled : (g : given.Over) (c : goal.After-forward g) → IsSemi (record { pair = record { here = c.forward.new.self.here; there = c.forward.new.self.there }; is_open = c.self.inside.is_open; copied = c.self.inside.copied; asked = c.self.inside.asked; fulls = c.self.inside.fulls })
settled g c = visited-semi c.self.inside c.forward.new.self.here c.forward.new.self.there c.self.invariant (opens g c) (after g c)

pub returns-clause-sound : goal.returns-clause-sound
returns-clause-sound g c = semi-sound _ (settled g c)

pub returns-clause-of_halves : goal.returns-clause-of_halves
returns-clause-of_halves g c = refl
