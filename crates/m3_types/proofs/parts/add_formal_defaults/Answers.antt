use Rattle.m3_types.specs.Definitions.{formal_default}
use Rattle.m3_types.proofs.Lists.{gather_next}
use Rattle.m3_types.proofs.parts.add_formal_defaults.Goals as goal

pub loop-formal-preserved : goal.loop-formal-preserved
loop-formal-preserved c = gather_next formal_default c.args.formals.now c.loop-formal.formal-index _ _ _ _ c.loop-formal-test.true c.loop-formal.invariant c.in_ok-add_default.ensures
