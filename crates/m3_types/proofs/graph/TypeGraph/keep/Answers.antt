use Rattle.std.proofs.Common.{sym, subst}
use Rattle.m3_types.specs.Reveals.{AreNoted, AreHidden, AreFull}
use Rattle.m3_types.proofs.Revealing.{noted_added, hidden_added, full_added}
use Rattle.m3_types.proofs.graph.TypeGraph.keep.Goals as goal

pub invariant_of-self-2 : goal.invariant_of-self-2
invariant_of-self-2 c =
    let graph = c.args.self.now in
    let nodes = graph.nodes.items in
    let reveals = graph.reveals.items in
    let fully = c.note_full.new.fully.items in
    let more = sym c.in_ok-push.ensures.items in
    record {
      noted = subst (λ rs. AreNoted rs graph.about.newest graph.about.links.items) more (noted_added graph.about.newest graph.about.links.items reveals c.args.reveal graph.noted c.requires.noted);
      hidden = subst (λ rs. AreHidden nodes rs graph.hiding.newest graph.hiding.links.items) more (hidden_added graph.hiding.newest graph.hiding.links.items reveals c.args.reveal nodes graph.hidden c.requires.hidden);
      full = subst (λ rs. AreFull nodes rs fully) more (full_added nodes reveals c.args.reveal graph.fully.items fully graph.full c.requires.there c.note_full.ensures.size c.note_full.ensures.entries);
    }
