use Rattle.std.proofs.Common.{rules}
use Rattle.m3_image_writer.proofs.AgainImage.{instruction_again}
use Rattle.m3_image_writer.proofs.sections.put_instr.Goals as goal

pub returns-clause-again : goal.returns-clause-again
returns-clause-again c = instruction_again c.args.instr (c.same_instruction.ensures c.args.instr c.requires (search rules))
