use Rattle.m3_image_sections.specs.Fields.{past_many}
use Rattle.m3_image_sections.specs.Parts.{variable_at}
use Rattle.m3_image_sections.specs.PartViews.{variable_of}
use Rattle.m3_image_sections.proofs.ListLemmas.{past_step, past_stop, past_end}
use Rattle.m3_image_sections.proofs.variables.Variables.past.Goals as goal

pub returns-in_err-after : goal.returns-in_err-after
returns-in_err-after c =
    rw c.from_residual.ensures (past_stop variable_at c.args.count c.loop.counter c.loop.rest.now (past_many variable_at c.args.count c.args.bytes.now) c.loop-test.true c.in_err-after.ensures c.loop.invariant)

pub loop-preserved : goal.loop-preserved
loop-preserved c =
    past_step variable_at c.args.count c.loop.counter c.loop.rest.now c.in_ok-after.after.now (variable_of c.in_ok-after.field-0-0) (past_many variable_at c.args.count c.args.bytes.now) c.loop-test.true c.in_ok-after.ensures c.loop.invariant

pub returns : goal.returns
returns c =
    past_end variable_at c.args.count c.loop.counter c.loop.rest.now (past_many variable_at c.args.count c.args.bytes.now) c.loop-test.false c.loop.invariant
