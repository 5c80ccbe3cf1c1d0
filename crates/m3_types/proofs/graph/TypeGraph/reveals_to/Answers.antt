use Rattle.std.proofs.Common.{◌≡◌, ℕ, Some, All, sym, ◌∙◌, ap, subst, ⊎_elim}
use Rattle.std.proofs.Math.Logic.{∥∥₁_elim, ∥∥₁_prop}
use Rattle.std.specs.Prelude.{Contains, slice_get}
use Rattle.m3_types.specs.declared.nodes.Reveal.{Reveal}
use Rattle.m3_types.specs.Marks.{mark_at}
use Rattle.m3_types.specs.Noting.{newest_of, IsNoted}
use Rattle.m3_types.proofs.Revealing.{found_noted}
use Rattle.m3_types.proofs.graph.TypeGraph.reveals_to.Goals as goal

pub returns-clause-there : goal.returns-clause-there
returns-clause-there c = subst (λ rs. All (Contains rs) c.in_ok-found.found.items) c.deref-2.ensures.value c.in_ok-found.ensures.there

pub returns-clause-all : goal.returns-clause-all
returns-clause-all c = λ r has v full e.
    let graph = c.args.self.now in
    let nodes = graph.nodes.items in
    let reveals = graph.reveals.items in
    let found = c.in_ok-found.found.items in
    let places = c.in_ok-places.places.items in
    let all : (p : ℕ) (q : Reveal) → Contains places p → slice_get reveals p ≡ Some q → Contains found q = λ p q h g. c.in_ok-found.ensures.all p q (subst (λ ps. Contains ps p) (sym c.deref-3.ensures.value) h) (ap (λ rs. slice_get rs p) c.deref-2.ensures.value ∙ g) in
    let at : ℕ → ℕ → Type 0 = λ k p. IsNoted graph.hiding.links.items (newest_of graph.hiding.newest c.args.view k) p in
    found_noted reveals found places all r has (λ p g. ∥∥₁_elim (graph.hidden p r g full) ∥∥₁_prop (λ n.
    ∣ ⊎_elim
    (λ z. c.in_ok-places.ensures.zero p (subst (λ k. IsNoted graph.hiding.links.items (newest_of graph.hiding.newest k 0) p) v z))
    (λ m.
    let now = subst (λ k. IsNoted graph.hiding.links.items (newest_of graph.hiding.newest k (mark_at nodes r.bound.0)) p) v m in
    ⊎_elim (λ q. c.in_ok-places.ensures.zero p (subst (λ k. at k p) q now)) (λ q. c.in_ok-places.ensures.other p (subst (λ k. at k p) (q ∙ sym (c.mark_at-mark.ensures ∙ ap (λ ns. mark_at ns c.args.t) c.deref.ensures.value)) now)) e)
    n ∣₁))
