use Rattle.std.proofs.Common.{◌∙◌, ap}
use Rattle.m3_types_sizes.specs.Sizes.{known_at}
use Rattle.m3_types_sizes.proofs.Measuring.{sized_if}
use Rattle.m3_types_sizes.proofs.sized.SizedTypes.has_size.Goals as goal

pub returns : goal.returns
returns c =
    let types = c.args.self.now in
    sized_if types.graph.nodes.items types.words.items c.args.t.0 c.is_some.result c.known.result (c.known.ensures ∙ ap (λ table. known_at table c.args.t.0) c.deref.ensures.value) c.is_some.ensures types.sound types.full
