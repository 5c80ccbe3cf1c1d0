use Rattle.m3_tables.specs.Fields.{past_ways}
use Rattle.m3_tables.specs.Views.{bases_of}
use Rattle.m3_tables.proofs.FieldLemmas.{past_ways-step, past_ways-stop, past_ways-end}
use Rattle.m3_tables.proofs.fields.past_ways.Goals as goal

pub returns-in_err-after : goal.returns-in_err-after
returns-in_err-after c =
    rw c.from_residual.ensures (past_ways-stop c.args.count c.loop.counter c.loop.rest.now (past_ways c.args.count c.args.bytes.now) c.loop-test.true c.in_err-after.ensures c.loop.invariant)

pub loop-preserved : goal.loop-preserved
loop-preserved c =
    past_ways-step c.args.count c.loop.counter c.loop.rest.now c.in_ok-after.after.now (bases_of c.in_ok-after.field-0-0) (past_ways c.args.count c.args.bytes.now) c.loop-test.true c.in_ok-after.ensures c.loop.invariant

pub returns : goal.returns
returns c =
    past_ways-end c.args.count c.loop.counter c.loop.rest.now (past_ways c.args.count c.args.bytes.now) c.loop-test.false c.loop.invariant
