use Rattle.m3_types_subtype.proofs.Rows.{set_next}
use Rattle.m3_types_subtype.proofs.raises.set_of.Goals as goal

pub loop-e-preserved : goal.loop-e-preserved
loop-e-preserved c = set_next c.loop-e.set c.insert.new.self c.args.row.now c.loop-e.e-index c.loop-e-test.true c.in_ok-insert.ensures.updates c.loop-e.invariant
