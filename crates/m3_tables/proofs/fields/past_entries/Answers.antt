use Rattle.m3_tables.specs.Fields.{past_entries}
use Rattle.m3_tables.specs.Views.{entry_of}
use Rattle.m3_tables.proofs.FieldLemmas.{past_entries-step, past_entries-stop, past_entries-end}
use Rattle.m3_tables.proofs.fields.past_entries.Goals as goal

pub returns-in_err-after : goal.returns-in_err-after
returns-in_err-after c =
    rw c.from_residual.ensures (past_entries-stop c.args.count c.loop.counter c.loop.rest.now (past_entries c.args.count c.args.bytes.now) c.loop-test.true c.in_err-after.ensures c.loop.invariant)

pub loop-preserved : goal.loop-preserved
loop-preserved c =
    past_entries-step c.args.count c.loop.counter c.loop.rest.now c.in_ok-after.after.now (entry_of c.in_ok-after.field-0-0) (past_entries c.args.count c.args.bytes.now) c.loop-test.true c.in_ok-after.ensures c.loop.invariant

pub returns : goal.returns
returns c =
    past_entries-end c.args.count c.loop.counter c.loop.rest.now (past_entries c.args.count c.args.bytes.now) c.loop-test.false c.loop.invariant
