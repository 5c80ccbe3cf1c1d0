use Rattle.m3_types.specs.Definitions.{method_default}
use Rattle.m3_types.proofs.Lists.{gather_next}
use Rattle.m3_types.proofs.parts.add_method_defaults.Goals as goal

pub loop-method-preserved : goal.loop-method-preserved
loop-method-preserved c = gather_next method_default c.args.methods.now c.loop-method.method-index _ _ _ _ c.loop-method-test.true c.loop-method.invariant c.in_ok-add_default.ensures
