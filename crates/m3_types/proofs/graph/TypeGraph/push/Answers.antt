use Rattle.std.proofs.Common.{◌≡◌, ◌++◌, ◌∷◌, [], Bool, not, sym, ◌∙◌, ap, subst}
use Rattle.std.specs.Prelude.{if◌then◌else◌}
use Rattle.m3_types.specs.Reveals.{AreHidden, AreFull}
use Rattle.m3_types.proofs.Revealing.{hidden_pushed, full_pushed}
use Rattle.m3_types.proofs.graph.TypeGraph.push.Goals as goal

pub invariant_of-self-else-is_err : goal.invariant_of-self-else-is_err
invariant_of-self-else-is_err c =
    let graph = c.args.self.now in
    let nodes = graph.nodes.items in
    let reveals = graph.reveals.items in
    let pushed : c.push-2.new.self.items ≡ c.args.self.now.nodes.items ++ c.args.node ∷ [] = c.push-2.ensures.items ∙ ap (λ b. if b then (c.args.self.now.nodes.items ++ c.args.node ∷ []) else c.args.self.now.nodes.items) (c.is_err.ensures.negation ∙ ap not c.if-is_err.false) in
    record {
      noted = graph.noted;
      hidden = subst (λ ns. AreHidden ns reveals graph.hiding.newest graph.hiding.links.items) (sym pushed) (hidden_pushed graph.hiding.newest graph.hiding.links.items reveals nodes c.args.node graph.hidden);
      full = subst (λ ns. AreFull ns reveals c.push.new.self.items) (sym pushed) (subst (AreFull _ reveals) (sym c.in_ok-push.ensures.items) (full_pushed nodes c.args.node reveals graph.fully.items graph.full));
    }
