use Rattle.m3_types.specs.Definitions.{field_default}
use Rattle.m3_types.proofs.Lists.{gather_next}
use Rattle.m3_types.proofs.parts.add_field_defaults.Goals as goal

pub loop-field-preserved : goal.loop-field-preserved
loop-field-preserved c = gather_next field_default c.args.fields.now c.loop-field.field-index _ _ _ _ c.loop-field-test.true c.loop-field.invariant c.in_ok-add_default.ensures
