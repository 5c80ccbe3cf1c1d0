use Rattle.std.proofs.Common.{◌≡◌, List, All, sym, ap, subst, ⊎_elim}
use Rattle.std.specs.Prelude.{Contains}
use Rattle.std.proofs.Math.Logic.{∥∥₁_elim}
use Rattle.std.proofs.Math.Bool.{Bool-set}
use Rattle.m3_types.specs.declared.nodes.Reveal.{Reveal}
use Rattle.m3_types.specs.declared.nodes.TypeNode.{TypeNode}
use Rattle.m3_types.specs.Kinds.{has_nil}
use Rattle.m3_types_subtype.specs.Reaching.{Has, AddsSteps, BoundAbove, OpaqueAbove}
use Rattle.m3_types_subtype.proofs.Adding.{has_stays, extends_chained}
use Rattle.m3_types_subtype.proofs.Hiding.{hidden_mark}
use Rattle.m3_types_subtype.proofs.Stepping.{adds_chained}
use Rattle.m3_types_subtype.proofs.upward.add_revealed.Goals as goal

pub returns-clause-adds : goal.returns-clause-adds
returns-clause-adds c =
    let nodes = c.args.graph.now.nodes.items in
    let reveals = c.args.graph.now.reveals.items in
    let view = c.args.view in
    let x = c.args.x in
    let first = c.args.reached.now.places.items in
    let mid = c.add_bounds.new.reached.places.items in
    let new = c.add_opaques.new.reached.places.items in
    let about = c.in_ok-about.about.items in
    let hiding = c.in_ok-hiding.hiding.items in
    let a : AddsSteps nodes reveals view x first mid = subst (λ ns. AddsSteps ns reveals view x first mid) c.deref.ensures.value (c.in_ok-add_bounds.ensures.adds reveals (subst (All (Contains reveals)) (sym c.deref-2.ensures.value) c.in_ok-about.ensures.there)) in
    let b : AddsSteps nodes reveals view x mid new = subst (λ ns. AddsSteps ns reveals view x mid new) c.deref-3.ensures.value (c.in_ok-add_opaques.ensures.adds reveals (subst (All (Contains reveals)) (sym c.deref-4.ensures.value) c.in_ok-hiding.ensures.there)) in
    adds_chained nodes reveals view x first mid new a b

pub returns-clause-bounds : goal.returns-clause-bounds
returns-clause-bounds c =
    let nodes = c.args.graph.now.nodes.items in
    let reveals = c.args.graph.now.reveals.items in
    let view = c.args.view in
    let x = c.args.x in
    let first = c.args.reached.now.places.items in
    let mid = c.add_bounds.new.reached.places.items in
    let new = c.add_opaques.new.reached.places.items in
    let about = c.in_ok-about.about.items in
    let hiding = c.in_ok-hiding.hiding.items in
    let a : AddsSteps nodes reveals view x first mid = subst (λ ns. AddsSteps ns reveals view x first mid) c.deref.ensures.value (c.in_ok-add_bounds.ensures.adds reveals (subst (All (Contains reveals)) (sym c.deref-2.ensures.value) c.in_ok-about.ensures.there)) in
    let b : AddsSteps nodes reveals view x mid new = subst (λ ns. AddsSteps ns reveals view x mid new) c.deref-3.ensures.value (c.in_ok-add_opaques.ensures.adds reveals (subst (All (Contains reveals)) (sym c.deref-4.ensures.value) c.in_ok-hiding.ensures.there)) in
    let add : (ns : List TypeNode) → c.deref.result.now ≡ ns → (r : Reveal) → Contains about r → BoundAbove ns r view x → Has mid r.bound.0 = λ ns e. subst (λ ms. (r : Reveal) → Contains about r → BoundAbove ms r view x → Has mid r.bound.0) e (subst (λ fs. (r : Reveal) → Contains fs r → BoundAbove c.deref.result.now r view x → Has mid r.bound.0) c.deref-2.ensures.value c.in_ok-add_bounds.ensures.all) in
    λ r has h. ∥∥₁_elim (c.in_ok-about.ensures.all r has h.0 h.1) (Bool-set _ _) (λ f. has_stays mid new r.bound.0 b.extends (add nodes c.deref.ensures.value r f h))

pub returns-clause-opaques : goal.returns-clause-opaques
returns-clause-opaques c =
    let nodes = c.args.graph.now.nodes.items in
    let reveals = c.args.graph.now.reveals.items in
    let view = c.args.view in
    let x = c.args.x in
    let first = c.args.reached.now.places.items in
    let mid = c.add_bounds.new.reached.places.items in
    let new = c.add_opaques.new.reached.places.items in
    let about = c.in_ok-about.about.items in
    let hiding = c.in_ok-hiding.hiding.items in
    let a : AddsSteps nodes reveals view x first mid = subst (λ ns. AddsSteps ns reveals view x first mid) c.deref.ensures.value (c.in_ok-add_bounds.ensures.adds reveals (subst (All (Contains reveals)) (sym c.deref-2.ensures.value) c.in_ok-about.ensures.there)) in
    let b : AddsSteps nodes reveals view x mid new = subst (λ ns. AddsSteps ns reveals view x mid new) c.deref-3.ensures.value (c.in_ok-add_opaques.ensures.adds reveals (subst (All (Contains reveals)) (sym c.deref-4.ensures.value) c.in_ok-hiding.ensures.there)) in
    let add : (ns : List TypeNode) → c.deref-3.result.now ≡ ns → (r : Reveal) → Contains hiding r → OpaqueAbove ns r view x → Has new r.opaque.0 = λ ns e. subst (λ ms. (r : Reveal) → Contains hiding r → OpaqueAbove ms r view x → Has new r.opaque.0) e (subst (λ fs. (r : Reveal) → Contains fs r → OpaqueAbove c.deref-3.result.now r view x → Has new r.opaque.0) c.deref-4.ensures.value c.in_ok-add_opaques.ensures.all) in
    λ r has h.
    ⊎_elim
    (λ m. ∥∥₁_elim (c.in_ok-hiding.ensures.all r has h.0 h.1 m) (Bool-set _ _) (λ f. add nodes c.deref-3.ensures.value r f h))
    (λ n. has_stays first new r.opaque.0 (extends_chained first mid new a.extends b.extends) (c.requires.nil r.opaque.0 (n, ap has_nil h.2)))
    (hidden_mark nodes x r.bound.0 h.3)
