use Rattle.std.proofs.Common.{ap, ◌∙◌}
use Rattle.m3_isa.specs.CodeBytes.{instruction_in}
use Rattle.m3_image_sections.proofs.CodeLemmas.{instruction_take}
use Rattle.m3_image_sections.proofs.code.instruction_in.Goals as goal

pub returns-clause-value : goal.returns-clause-value
returns-clause-value c = c.decode.ensures.value ∙ ap instruction_in c.copy_from_slice.ensures.after ∙ instruction_take c.args.bytes.now c.requires
