use Rattle.m3_generational.proofs.ForwardLemmas.{set-keeps}
use Rattle.m3_generational.proofs.copying.SpacesCopying.put.Goals as goal

pub returns-then-self-clause-keeping : goal.returns-then-self-clause-keeping
returns-then-self-clause-keeping c = set-keeps c.args.self.now c.put.new.self c.args.at c.args.word c.if-self.true c.requires.keeping c.put.ensures.base c.put.ensures.size c.put.ensures.cells
