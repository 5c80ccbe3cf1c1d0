use Rattle.m3_types.proofs.Revealing.{noted_kept}
use Rattle.m3_types.proofs.graph.TypeGraph.note_about.Goals as goal

pub invariant_of-self : goal.invariant_of-self
invariant_of-self c =
    let graph = c.args.self.now in
    record {
      noted = noted_kept graph.about.newest graph.about.links.items c.note.new.self.newest c.note.new.self.links.items c.note.ensures.keeps graph.reveals.items graph.noted;
      hidden = graph.hidden;
      full = graph.full;
    }
