use Rattle.std.proofs.Common.{◌≡◌, ℕ, Some, subst}
use Rattle.m3_types.specs.Definitions.{node_at}
use Rattle.m3_types.specs.Kinds.{named_above}
use Rattle.m3_types_subtype.specs.Reaching.{AddsSteps, Has}
use Rattle.m3_types_subtype.specs.Subtypes.{NullBelow}
use Rattle.m3_types_subtype.proofs.Adding.{has_stays}
use Rattle.m3_types_subtype.proofs.Stepping.{adds_chained, step_added}
use Rattle.m3_types_subtype.proofs.upward.add_steps.Goals as goal

pub returns-clause-adds : goal.returns-clause-adds
returns-clause-adds c =
    let nodes = c.args.graph.now.nodes.items in
    let reveals = c.args.graph.now.reveals.items in
    let view = c.args.view in
    let x = c.args.x in
    let first = c.args.reached.now.places.items in
    let named = c.add_named.new.reached.places.items in
    let mid = c.add_nil.new.reached.places.items in
    let a = subst (λ ns. AddsSteps ns reveals view x first named) c.deref.ensures.value (c.in_ok-add_named.ensures.adds reveals view) in
    let b = subst (λ ns. AddsSteps ns reveals view x named mid) c.deref-2.ensures.value (c.in_ok-add_nil.ensures.adds reveals view) in
    adds_chained nodes reveals view x first named _ a (adds_chained nodes reveals view x named mid _ b c.in_ok-add_revealed.ensures.adds)

pub returns-clause-all : goal.returns-clause-all
returns-clause-all c =
    let nodes = c.args.graph.now.nodes.items in
    let reveals = c.args.graph.now.reveals.items in
    let view = c.args.view in
    let x = c.args.x in
    let r = c.in_ok-add_revealed.ensures in
    let named = c.add_named.new.reached.places.items in
    let mid = c.add_nil.new.reached.places.items in
    let new = c.add_revealed.new.reached.places.items in
    let b = subst (λ ns. AddsSteps ns reveals view x named mid) c.deref-2.ensures.value (c.in_ok-add_nil.ensures.adds reveals view) in
    let u = subst (λ ns. (y : ℕ) → named_above (node_at ns x) ≡ Some y → Has named y) c.deref.ensures.value c.in_ok-add_named.ensures.all in
    let n = subst (λ ns. (y : ℕ) → NullBelow ns x y → Has mid y) c.deref-2.ensures.value c.in_ok-add_nil.ensures.all in
    step_added nodes reveals view x new (λ y h. has_stays mid new y r.adds.extends (has_stays named mid y b.extends (u y h))) (λ y h. has_stays mid new y r.adds.extends (n y h)) r.bounds r.opaques
