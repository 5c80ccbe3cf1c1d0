use Rattle.std.proofs.Common.{arith}
use Rattle.std.proofs.lemmas.Grind.{common_steps}
use Rattle.m3_image_sections.specs.Parts.{pair_in}
use Rattle.m3_image_writer.specs.Variables.{span_bytes}
use Rattle.m3_image_writer.specs.Again.{ReadsFixed}
use Rattle.m3_image_writer.specs.Views.{span_of}
use Rattle.m3_image_writer.proofs.Joined.{all_more_at, all_told}
use Rattle.m3_image_writer.proofs.variables.put_spans.Goals as goal

pub loop-instr-preserved : goal.loop-instr-preserved
loop-instr-preserved c =
    record {
      bytes = grind (arith, common_steps);
      again = all_more_at (λ span. ReadsFixed 8 pair_in (span_bytes span) (span_of span)) c.args.spans.now c.loop-instr.instr-index _ c.loop-instr-test.true c.loop-instr.invariant.again c.in_ok-put_span.ensures.again;
    }

pub returns-clause-again : goal.returns-clause-again
returns-clause-again c = all_told (λ span. ReadsFixed 8 pair_in (span_bytes span) (span_of span)) c.args.spans.now c.loop-instr.instr-index c.loop-instr-test.false c.loop-instr.invariant.again
