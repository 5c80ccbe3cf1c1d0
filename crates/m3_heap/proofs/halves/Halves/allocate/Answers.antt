use Rattle.std.proofs.Common.{◌≡◌, ◌+◌, ◌*◌, ◌-◌, ◌<◌, ◌∷◌, ◌++◌, [], Bool, None, Some, replicate, refl, sym, ap, subst, ◌∙◌, arith, inl, inr, ⊎_elim}
use Rattle.m3_heap.specs.Cells.{header_of, total_words, new_cell}
use Rattle.m3_heap.specs.Heap.{Heap, Allots, first_base, second_base}
use Rattle.m3_heap.specs.CollectorHalves.{IsSemi, AreAtRest, IsAsOpen, cells_seen, semi_heap}
use Rattle.m3_heap.proofs.SemiLemmas.{is-closed, at-rest, few-copied, semi-sound, rest-push, allotted, refused}
use Rattle.m3_heap.proofs.TracingLemmas.{total-append}
use Rattle.m3_heap.proofs.halves.Halves.allocate.Goals as goal

after : (c : goal.After-self-1) → IsSemi (record { pair = record { here = c.self.inside.pair.here; there = c.self.inside.pair.there }; is_open = c.self.inside.is_open; copied = c.self.inside.copied; asked = c.args.words; fulls = c.self.inside.fulls })
after c = let was = c.self.invariant in record { bases = was.bases; same_size = was.same_size; small = was.small; as_open = was.as_open }

pub returns-then-words-free-clause-sound : goal.returns-then-words-free-clause-sound
returns-then-words-free-clause-sound c = semi-sound _ (after c)

pub returns-then-words-free-clause-of_halves : goal.returns-then-words-free-clause-of_halves
returns-then-words-free-clause-of_halves c = refl

pub returns-then-words-free-clause-allots : goal.returns-then-words-free-clause-allots
returns-then-words-free-clause-allots c =
    let i = c.self.inside in
    let closed = is-closed i c.args.self.now c.self.view_is c.requires.closed in
    let full : i.pair.here.size - total_words (cells_seen i.is_open i.pair.here i.pair.there) < c.args.words = subst (λ b. i.pair.here.size - total_words (cells_seen b i.pair.here i.pair.there) < c.args.words) (sym closed) (omega (arith, c.free.ensures)) in
    subst (λ (h : Heap). Allots h c.args.kind c.args.words None (semi_heap i.is_open i.pair.here i.pair.there i.copied c.args.words i.fulls)) c.self.view_is
    (refused i.pair.here i.pair.there i.is_open i.copied i.asked i.fulls c.args.kind c.args.words full)

cells : (c : goal.After-append_zeroed) → c.append_zeroed.new.self.cells ≡ c.self.inside.pair.here.cells ++ new_cell (c.self.inside.pair.here.base + total_words c.self.inside.pair.here.cells) c.args.kind c.args.words ∷ []
cells c =
    let here = c.self.inside.pair.here in
    let count = c.args.words in
    let head : c.from.result + c.args.words * 4294967296 ≡ header_of c.args.kind count = omega (arith, c.from.ensures) in
    c.append_zeroed.ensures.cells
    ∙ ap (λ at. here.cells ++ record { start = at; words = (c.from.result + c.args.words * 4294967296) ∷ replicate (count - 1) 0 } ∷ []) c.append_zeroed.ensures.start
    ∙ ap (λ h. here.cells ++ record { start = here.base + total_words here.cells; words = h ∷ replicate (count - 1) 0 } ∷ []) head

rest : (c : goal.After-append_zeroed) → AreAtRest c.append_zeroed.new.self
rest c =
    let here = c.self.inside.pair.here in
    let kind = c.args.kind in
    let count = c.args.words in
    rest-push here c.append_zeroed.new.self kind count (at-rest c.self.inside c.self.invariant (is-closed c.self.inside c.args.self.now c.self.view_is c.requires.closed))
    (omega arith) c.requires.some (omega (arith, c.free.ensures)) c.append_zeroed.ensures.base c.append_zeroed.ensures.size (cells c)

pub invariant_of-self-2 : goal.invariant_of-self-2
invariant_of-self-2 c =
    let was = c.self.invariant in
    let new = c.append_zeroed.ensures in
    let P : Bool → Type 0 = λ b. IsAsOpen b c.append_zeroed.new.self c.self.inside.pair.there c.self.inside.copied in
    let closed = is-closed c.self.inside c.args.self.now c.self.view_is c.requires.closed in
    let total = ap total_words (cells c) in
    record {
      bases = ⊎_elim
          (λ (p : (c.self.inside.pair.here.base ≡ first_base) × (c.self.inside.pair.there.base ≡ second_base)). inl (new.base ∙ p.0, p.1))
          (λ (p : (c.self.inside.pair.here.base ≡ second_base) × (c.self.inside.pair.there.base ≡ first_base)). inr (new.base ∙ p.0, p.1))
          was.bases;
      same_size = was.same_size ∙ sym new.size;
      small = omega (arith, new.size, was.small);
      as_open = subst P (sym closed) (rest c, omega (arith, few-copied c.self.inside was closed, total, total-append c.self.inside.pair.here.cells (new_cell (c.self.inside.pair.here.base + total_words c.self.inside.pair.here.cells) c.args.kind c.args.words ∷ [])));
    }

pub returns-clause-sound : goal.returns-clause-sound
returns-clause-sound c = semi-sound _ (invariant_of-self-2 c)

pub returns-clause-of_halves : goal.returns-clause-of_halves
returns-clause-of_halves c = refl

pub returns-clause-allots : goal.returns-clause-allots
returns-clause-allots c =
    let i = c.self.inside in
    let new = c.append_zeroed.ensures in
    let closed = is-closed i c.args.self.now c.self.view_is c.requires.closed in
    subst (λ (h : Heap). Allots h c.args.kind c.args.words (Some c.append_zeroed.result) (semi_heap i.is_open c.append_zeroed.new.self i.pair.there i.copied i.asked i.fulls)) c.self.view_is
    (allotted i.pair.here c.append_zeroed.new.self i.pair.there i.is_open i.copied i.asked i.fulls c.args.kind c.args.words c.append_zeroed.result closed (few-copied i c.self.invariant closed) c.requires.some (omega (arith, c.free.ensures)) new.start new.base new.size (cells c))
