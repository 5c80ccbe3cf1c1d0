use Rattle.std.proofs.Common.{◌≡◌, true, sym, ap, subst}
use Rattle.std.specs.Prelude.{Contains, IfSome, IfNone}
use Rattle.m3_types.specs.declared.nodes.Reveal.{Reveal}
use Rattle.m3_types.specs.declared.nodes.TypeId.{TypeId}
use Rattle.m3_types_subtype.specs.Views.{NoneApplies, IsLeastOf, Sees, fully}
use Rattle.m3_types_subtype.proofs.Seeing.{same_type, applies_there, sees_else}
use Rattle.m3_types_subtype.proofs.seen.behind.Goals as goal

pub returns-in-Some : goal.returns-in-Some
returns-in-Some c =
    let nodes = c.args.graph.now.nodes.items in
    let reveals = c.args.graph.now.reveals.items in
    let found = c.in_ok-found.found.items in
    let s = c.in-Some.ensures.some in
    λ is.
    let has : Contains found s.0 = subst (λ xs. Contains xs s.0) c.deref.ensures.value s.1 in
    let r = applies_there nodes reveals found c.args.view c.args.t.0 c.in_ok-found.ensures.there c.in_ok-found.ensures.all s.0 has (s.2, ap (λ o. o.0) s.3) in
    subst (λ (b : TypeId). Sees nodes reveals c.args.view c.args.t.0 b.0) s.5 (fully s.0 is r s.4)

pub returns : goal.returns
returns c =
    let nodes = c.args.graph.now.nodes.items in
    let reveals = c.args.graph.now.reveals.items in
    let found = c.in_ok-found.found.items in
    let view = c.args.view in
    let t = c.args.t.0 in
    let least = c.in_ok-least.least in
    let some = subst (λ xs. IfSome least (λ b. IsLeastOf nodes reveals xs view t b.0)) c.deref-2.ensures.value c.in_ok-least.ensures.some in
    let none = subst (λ xs. IfNone least (NoneApplies xs view t)) c.deref-2.ensures.value c.in_ok-least.ensures.none in
    let full = subst (λ xs. (r : Reveal) → Contains xs r → r.view ≡ view → r.opaque ≡ c.args.t → r.full ≡ true → ⊥) c.deref.ensures.value c.in_default.ensures.none in
    λ is. subst (λ (b : TypeId). Sees nodes reveals view t b.0) (sym c.unwrap_or.ensures)
    (sees_else nodes reveals found view t c.in_ok-found.ensures.there c.in_ok-found.ensures.all least c.args.bound is (λ r has of. full r has of.0 (same_type r.opaque c.args.t of.1)) some none)
