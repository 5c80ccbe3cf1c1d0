use Rattle.std.proofs.Common.{refl, subst, sym}
use Rattle.std.specs.Prelude.{Result, IsErr}
use Rattle.m3_image_sections.specs.Parts.{Image}
use Rattle.m3_image_sections.specs.declared.refusal.ImageRefusal.{ImageRefusal}
use Rattle.m3c_image_commands.specs.Refusals.{image_line}
use Rattle.m3c_image_commands.proofs.RunLemmas.{refused_image}
use Rattle.m3c_image_commands.proofs.running.read_image.Goals as goal

pub returns-in-Err-clause-err : goal.returns-in-Err-clause-err
returns-in-Err-clause-err c = (
  refused_image c.args.bytes.now c.in-Err.refusal c.refuse.result (sym c.in-Err.ensures) (c.refuse.ensures (image_line c.in-Err.refusal) c.image_line.ensures),
  subst (λ (r : Result Image ImageRefusal). IsErr r) c.in-Err.ensures refl,
)
