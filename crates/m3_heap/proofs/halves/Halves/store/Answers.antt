use Rattle.std.proofs.Common.{◌≡◌, Bool, refl, sym, subst, ◌∙◌, arith, inl, inr, ⊎_elim}
use Rattle.m3_heap.specs.Cells.{total_words}
use Rattle.m3_heap.specs.CellWords.{layout_after}
use Rattle.m3_heap.specs.Heap.{Heap, HasOtherWords, first_base, second_base}
use Rattle.m3_heap.specs.CollectorHalves.{semi_heap, AreAtRest, IsAsOpen}
use Rattle.m3_heap.proofs.SemiLemmas.{words-only, is-closed, at-rest, few-copied, semi-sound, rest-replace}
use Rattle.m3_heap.proofs.halves.Halves.store.Goals as goal

rest : (c : goal.After-replace) → AreAtRest c.replace.new.self × (total_words c.replace.new.self.cells ≡ total_words c.self.inside.pair.here.cells)
rest c =
    rest-replace c.self.inside.pair.here c.replace.new.self c.args.at c.args.word c.replace.result (at-rest c.self.inside c.self.invariant (is-closed c.self.inside c.args.self.now c.self.view_is c.requires.closed))
    c.replace.ensures.answer c.replace.ensures.base c.replace.ensures.size c.replace.ensures.cells

pub invariant_of-self : goal.invariant_of-self
invariant_of-self c =
    let was = c.self.invariant in
    let new = c.replace.ensures in
    let P : Bool → Type 0 = λ b. IsAsOpen b c.replace.new.self c.self.inside.pair.there c.self.inside.copied in
    let closed = is-closed c.self.inside c.args.self.now c.self.view_is c.requires.closed in
    record {
      bases = ⊎_elim
          (λ (p : (c.self.inside.pair.here.base ≡ first_base) × (c.self.inside.pair.there.base ≡ second_base)). inl (new.base ∙ p.0, p.1))
          (λ (p : (c.self.inside.pair.here.base ≡ second_base) × (c.self.inside.pair.there.base ≡ first_base)). inr (new.base ∙ p.0, p.1))
          was.bases;
      same_size = was.same_size ∙ sym new.size;
      small = omega (arith, new.size, was.small);
      as_open = subst P (sym closed) ((rest c).0, omega (arith, (rest c).1, few-copied c.self.inside was closed));
    }

pub returns-clause-rest : goal.returns-clause-rest
returns-clause-rest c =
    let i = c.self.inside in
    let new = c.replace.ensures in
    let lay = layout_after i.pair.here.cells c.replace.new.self.cells c.args.at c.args.word c.replace.result new.cells in
    subst (λ (h : Heap). HasOtherWords h (semi_heap i.is_open c.replace.new.self i.pair.there i.copied i.asked i.fulls)) c.self.view_is
    (words-only i.pair.here c.replace.new.self i.pair.there i.is_open i.copied i.asked i.fulls (is-closed i c.args.self.now c.self.view_is c.requires.closed) new.base new.size lay (rest c).1)

pub returns-clause-sound : goal.returns-clause-sound
returns-clause-sound c = semi-sound _ (invariant_of-self c)

pub returns-clause-of_halves : goal.returns-clause-of_halves
returns-clause-of_halves c = refl
