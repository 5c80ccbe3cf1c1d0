use Rattle.std.proofs.Common.{◌≡◌, Option, sym, ap}
use Rattle.std.specs.Option.{option_map_or}
use Rattle.m3_types.specs.declared.nodes.TypeNode.{TypeNode}
use Rattle.m3_types.specs.Definitions.{head_of, head_at, Missing}
use Rattle.m3_types_subtype.proofs.Signatures.{fits_along, missing_left, missing_right}
use Rattle.m3_types_subtype.proofs.procedures.signatures_fit_at.Goals as goal

pub returns-in_default : goal.returns-in_default
returns-in_default c = (λ h. absurd (let z : ⊥ = cc in z), λ s. absurd (missing_left (head_at c.args.nodes.now c.args.a) (head_at c.args.nodes.now c.args.b) (ap (λ (o : Option TypeNode). option_map_or (head_of c.args.a) o Missing) (sym c.in_default.ensures)) s))

pub returns-in_default-node_at : goal.returns-in_default-node_at
returns-in_default-node_at c = (λ h. absurd (let z : ⊥ = cc in z), λ s. absurd (missing_right (head_at c.args.nodes.now c.args.a) (head_at c.args.nodes.now c.args.b) (ap (λ (o : Option TypeNode). option_map_or (head_of c.args.b) o Missing) (sym c.in_default-node_at.ensures)) s))

pub returns : goal.returns
returns c =
    let a = c.args.a in
    let b = c.args.b in
    let nodes = c.args.nodes.now in
    let ea : head_of a c.in-Some.x ≡ head_at nodes a = ap (λ (o : Option TypeNode). option_map_or (head_of a) o Missing) c.in-Some.ensures in
    let eb : head_of b c.in-Some-node_at.y ≡ head_at nodes b = ap (λ (o : Option TypeNode). option_map_or (head_of b) o Missing) c.in-Some-node_at.ensures in
    (λ t. fits_along (head_of a c.in-Some.x) (head_of b c.in-Some-node_at.y) (head_at nodes a) (head_at nodes b) ea eb ((c.in_ok-signatures_fit.ensures a b).0 t), λ s. (c.in_ok-signatures_fit.ensures a b).1 (fits_along (head_at nodes a) (head_at nodes b) (head_of a c.in-Some.x) (head_of b c.in-Some-node_at.y) (sym ea) (sym eb) s))
