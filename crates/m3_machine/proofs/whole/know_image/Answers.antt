use Rattle.std.proofs.Common.{ap, ◌∙◌, sym}
use Rattle.m3_image_sections.specs.Parts.{Image}
use Rattle.m3_image.specs.Programs.{fault_of}
use Rattle.m3_image_decoded.specs.Ready.{image_of}
use Rattle.m3_machine.proofs.Images.{begins_at_points}
use Rattle.m3_machine.proofs.whole.know_image.Goals as goal

pub returns-clause-begins : goal.returns-clause-begins
returns-clause-begins g c =
    let m = c.args.parts.now in
    begins_at_points (image_of m.image).program m.memory.outside.constants.items (sym (ap (λ (i : Image). fault_of i.program) c.image.ensures) ∙ c.keeps_its_form.ensures.sound)
