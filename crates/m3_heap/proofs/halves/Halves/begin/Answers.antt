use Rattle.std.proofs.Common.{◌≡◌, true, [], refl, sym, ap, ◌∙◌, arith, inl, inr, ⊎_elim}
use Rattle.m3_heap.specs.Heap.{Heap, first_base, second_base}
use Rattle.m3_heap.specs.CollectorHalves.{AreAtRest, semi_heap}
use Rattle.m3_heap.specs.CollectorTracing.{Traces}
use Rattle.m3_heap.proofs.SemiLemmas.{semi-sound, is-closed, at-rest, bases-high, begun, begun-moving, begun-laid, opened}
use Rattle.m3_heap.proofs.halves.Halves.begin.Goals as goal

rest : (c : goal.After-self-1) → AreAtRest c.self.inside.pair.here
rest c = at-rest c.self.inside c.self.invariant (is-closed c.self.inside c.args.self.now c.self.view_is c.requires.closed)

traces : (c : goal.After-self-1) → Traces c.self.inside.pair.here c.clear.new.self c.self.inside.pair.here.cells []
traces c =
    let bases = bases-high c.self.inside c.self.invariant in
    begun c.self.inside.pair.here c.clear.new.self (rest c) c.clear.ensures.cells (c.clear.ensures.size ∙ c.self.invariant.same_size) c.self.invariant.small bases.0 (omega (arith, bases.1, c.clear.ensures.base)) (omega (arith, bases.3, c.clear.ensures.base, c.clear.ensures.size))

pub invariant_of-self : goal.invariant_of-self
invariant_of-self c = record {
  bases = ⊎_elim
      (λ (p : (c.self.inside.pair.here.base ≡ first_base) × (c.self.inside.pair.there.base ≡ second_base)). inl (p.0, c.clear.ensures.base ∙ p.1))
      (λ (p : (c.self.inside.pair.here.base ≡ second_base) × (c.self.inside.pair.there.base ≡ first_base)). inr (p.0, c.clear.ensures.base ∙ p.1))
      c.self.invariant.bases;
  same_size = c.clear.ensures.size ∙ c.self.invariant.same_size;
  small = c.self.invariant.small;
  as_open = (begun-moving c.self.inside.pair.here c.clear.new.self (rest c) (traces c), begun-laid c.self.inside.pair.here c.clear.new.self (rest c) (traces c));
}

seen : (c : goal.After-self-1) → semi_heap true c.self.inside.pair.here c.clear.new.self c.self.inside.copied c.self.inside.asked c.self.inside.fulls ≡ record c.args.self.now { is_open = true; moves = [] }
seen c =
    let closed = is-closed c.self.inside c.args.self.now c.self.view_is c.requires.closed in
    opened c.self.inside.pair.here c.clear.new.self c.self.inside.copied c.self.inside.asked c.self.inside.fulls (traces c)
    ∙ ap (λ b. record (semi_heap b c.self.inside.pair.here c.self.inside.pair.there c.self.inside.copied c.self.inside.asked c.self.inside.fulls) { is_open = true; moves = [] }) (sym closed)
    ∙ ap (λ (h : Heap). record h { is_open = true; moves = [] }) c.self.view_is

pub returns-clause-opened : goal.returns-clause-opened
returns-clause-opened c = seen c

pub returns-clause-sound : goal.returns-clause-sound
returns-clause-sound c = semi-sound _ (invariant_of-self c)

pub returns-clause-of_halves : goal.returns-clause-of_halves
returns-clause-of_halves c = refl
