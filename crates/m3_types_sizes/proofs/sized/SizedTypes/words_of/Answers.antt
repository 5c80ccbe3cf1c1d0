use Rattle.std.proofs.Common.{◌∙◌, ap, sym, subst}
use Rattle.m3_types_sizes.specs.Sizes.{known_at, AreWords}
use Rattle.m3_types_sizes.proofs.Measuring.{shallow_if, words_known}
use Rattle.m3_types_sizes.proofs.sized.SizedTypes.words_of.Goals as goal

pub returns-clause-words : goal.returns-clause-words
returns-clause-words c =
    let types = c.args.self.now in
    let i = c.args.t.0 in
    let known = c.known.ensures ∙ ap (λ table. known_at table i) c.deref.ensures.value in
    subst (AreWords types.graph.nodes.items i) (sym c.unwrap_or.ensures) (words_known types.graph.nodes.items types.words.items i c.known.result known types.right types.sound types.full c.requires)

pub returns-clause-shallow : goal.returns-clause-shallow
returns-clause-shallow c =
    let types = c.args.self.now in
    shallow_if types.graph.nodes.items types.words.items c.args.t.0 _ types.sound types.full types.alike c.requires
