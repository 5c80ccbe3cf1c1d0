use Rattle.std.proofs.Common.{Some, arith}
use Rattle.std.proofs.lemmas.Grind.{common_steps}
use Rattle.m3_isa.specs.CodeBytes.{bytes_of, instruction_in}
use Rattle.m3_image_writer.specs.Again.{ReadsFixed}
use Rattle.m3_image_writer.proofs.Joined.{holds_on_ok, all_more_at, all_told}
use Rattle.m3_image_writer.proofs.AgainImage.{code_again}
use Rattle.m3_image_writer.proofs.sections.put_code.Goals as goal

pub loop-instr-preserved : goal.loop-instr-preserved
loop-instr-preserved c =
    record {
      bytes = grind (arith, common_steps);
      again = all_more_at (λ i. ReadsFixed 8 instruction_in (bytes_of i) (Some i)) c.args.code.now c.loop-instr.instr-index _ c.loop-instr-test.true c.loop-instr.invariant.again c.in_ok-put_instr.ensures.again;
    }

pub returns-clause-again : goal.returns-clause-again
returns-clause-again c = holds_on_ok c.put_text.result _ (code_again c.args.code.now (all_told (λ i. ReadsFixed 8 instruction_in (bytes_of i) (Some i)) c.args.code.now c.loop-instr.instr-index c.loop-instr-test.false c.loop-instr.invariant.again))
