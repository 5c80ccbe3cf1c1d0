use Rattle.std.proofs.Common.{rules}
use Rattle.m3_run_meaning.specs.Making.{made_late, full_late, stuck_late}
use Rattle.m3_run_state.proofs.parts.Parts.make_late.Goals as goal

pub returns-then-not-collect-clause-made : goal.returns-then-not-collect-clause-made
returns-then-not-collect-clause-made g c = λ going. stuck_late _ (c.collect.ensures.bad (search rules) going)

pub returns-in-Some-clause-made : goal.returns-in-Some-clause-made
returns-in-Some-clause-made g c = λ going. made_late _ _ c.in-Some.cell (c.collect.ensures.good (search rules) going) c.in-Some.ensures.allocated

pub returns-in-None-clause-made : goal.returns-in-None-clause-made
returns-in-None-clause-made g c = λ going. full_late _ _ (c.collect.ensures.good (search rules) going) c.in-None.ensures.allocated
