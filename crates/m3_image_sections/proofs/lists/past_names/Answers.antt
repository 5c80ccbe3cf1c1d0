use Rattle.m3_image_sections.specs.Fields.{past_many, text_at}
use Rattle.m3_image_sections.proofs.ListLemmas.{past_step, past_stop, past_end}
use Rattle.m3_image_sections.proofs.lists.past_names.Goals as goal

pub returns-in_err-after : goal.returns-in_err-after
returns-in_err-after c =
    rw c.from_residual.ensures (past_stop text_at c.args.count c.loop.counter c.loop.rest.now (past_many text_at c.args.count c.args.bytes.now) c.loop-test.true c.in_err-after.ensures.found c.loop.invariant)

pub loop-preserved : goal.loop-preserved
loop-preserved c =
    past_step text_at c.args.count c.loop.counter c.loop.rest.now c.in_ok-after.after.now c.in_ok-after.field-0-0.now (past_many text_at c.args.count c.args.bytes.now) c.loop-test.true c.in_ok-after.ensures.found c.loop.invariant

pub returns : goal.returns
returns c =
    past_end text_at c.args.count c.loop.counter c.loop.rest.now (past_many text_at c.args.count c.args.bytes.now) c.loop-test.false c.loop.invariant
