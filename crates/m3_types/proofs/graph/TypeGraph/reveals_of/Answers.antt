use Rattle.std.proofs.Common.{◌≡◌, ℕ, Some, All, sym, ◌∙◌, ap, subst}
use Rattle.std.proofs.Math.Logic.{∥∥₁_elim, ∥∥₁_prop}
use Rattle.std.specs.Prelude.{Contains, slice_get}
use Rattle.m3_types.specs.declared.nodes.Reveal.{Reveal}
use Rattle.m3_types.specs.Noting.{newest_of, IsNoted}
use Rattle.m3_types.proofs.Revealing.{found_noted}
use Rattle.m3_types.proofs.graph.TypeGraph.reveals_of.Goals as goal

pub returns-clause-there : goal.returns-clause-there
returns-clause-there c = subst (λ rs. All (Contains rs) c.in_ok-found.found.items) c.deref.ensures.value c.in_ok-found.ensures.there

pub returns-clause-all : goal.returns-clause-all
returns-clause-all c = λ r has v o.
    let graph = c.args.self.now in
    let reveals = graph.reveals.items in
    let found = c.in_ok-found.found.items in
    let places = c.in_ok-places.places.items in
    let all : (p : ℕ) (q : Reveal) → Contains places p → slice_get reveals p ≡ Some q → Contains found q = λ p q h g. c.in_ok-found.ensures.all p q (subst (λ ps. Contains ps p) (sym c.deref-2.ensures.value) h) (ap (λ rs. slice_get rs p) c.deref.ensures.value ∙ g) in
    found_noted reveals found places all r has (λ p g. ∥∥₁_elim (graph.noted p r g) ∥∥₁_prop (λ n.
    ∣ c.in_ok-places.ensures p (subst (λ k. IsNoted graph.about.links.items (newest_of graph.about.newest c.args.view k) p) o (subst (λ k. IsNoted graph.about.links.items (newest_of graph.about.newest k r.opaque.0) p) v n)) ∣₁))
