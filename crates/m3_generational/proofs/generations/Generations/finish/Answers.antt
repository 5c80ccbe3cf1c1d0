use Rattle.std.proofs.Common.{◌∙◌}
use Rattle.m3_generational.proofs.EndLemmas.{mode-seen}
use Rattle.m3_generational.proofs.generations.Generations.finish.Goals as goal

pub finish_minor-requires-clause-minor : goal.finish_minor-requires-clause-minor
finish_minor-requires-clause-minor g c = mode-seen c.self.inside c.args.self.now c.self.invariant c.self.view_is c.requires.open ∙ c.if-self.true

pub finish_full-requires-clause-full : goal.finish_full-requires-clause-full
finish_full-requires-clause-full g c = mode-seen c.self.inside c.args.self.now c.self.invariant c.self.view_is c.requires.open ∙ c.if-self.false
