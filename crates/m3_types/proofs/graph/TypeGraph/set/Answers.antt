use Rattle.std.proofs.Common.{sym, subst}
use Rattle.m3_types.specs.Reveals.{AreHidden, AreFull}
use Rattle.m3_types.proofs.Revealing.{hidden_set, full_set}
use Rattle.m3_types.proofs.graph.TypeGraph.set.Goals as goal

pub invariant_of-self : goal.invariant_of-self
invariant_of-self c =
    let graph = c.args.self.now in
    let nodes = graph.nodes.items in
    let reveals = graph.reveals.items in
    let now = sym c.set_item.ensures in
    record {
      noted = graph.noted;
      hidden = subst (λ ns. AreHidden ns reveals graph.hiding.newest graph.hiding.links.items) now (hidden_set graph.hiding.newest graph.hiding.links.items reveals nodes c.args.node c.args.t.0 c.requires graph.hidden);
      full = subst (λ ns. AreFull ns reveals graph.fully.items) now (full_set nodes reveals graph.fully.items c.args.t.0 c.args.node graph.full);
    }
