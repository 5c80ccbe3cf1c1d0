use Rattle.std.proofs.Common.{refl, sym, subst}
use Rattle.m3_types.proofs.Noting.{number_eq}
use Rattle.m3_types_subtype.proofs.Agreement.{same_itself}
use Rattle.m3_types_subtype.specs.Subtypes.{Subtype, same, directly}
use Rattle.m3_types_subtype.proofs.relations.subtype.Goals as goal

pub returns-then-eq : goal.returns-then-eq
returns-then-eq c =
    let graph = c.args.graph.now in
    (λ t. subst (Subtype graph.nodes.items graph.reveals.items c.args.view c.args.a.0) (number_eq c.args.a.0 c.args.b.0 (sym c.if-eq.ensures)) (directly (same (same_itself graph.nodes.items c.args.a.0))), λ s. refl)
