use Rattle.m3_types.proofs.Revealing.{hidden_kept}
use Rattle.m3_types.proofs.graph.TypeGraph.note_hiding.Goals as goal

pub invariant_of-self : goal.invariant_of-self
invariant_of-self c =
    let graph = c.args.self.now in
    record {
      noted = graph.noted;
      hidden = hidden_kept graph.hiding.newest graph.hiding.links.items c.note.new.self.newest c.note.new.self.links.items c.note.ensures.keeps graph.nodes.items graph.reveals.items graph.hidden;
      full = graph.full;
    }
