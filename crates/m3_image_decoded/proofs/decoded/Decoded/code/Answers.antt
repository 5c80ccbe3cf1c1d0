use Rattle.std.specs.Prelude.{ℕ}
use Rattle.std.proofs.Common.{◌≡◌, Some, sym, ◌∙◌, ap}
use Rattle.std.proofs.Math.Logic.{∥∥₁_elim}
use Rattle.std.specs.List.{slice_get}
use Rattle.m3_isa.specs.declared.instructions.Instr.{Instr}
use Rattle.m3_image_decoded.specs.Code.{AreInstructions}
use Rattle.m3_image_decoded.proofs.InstructionLemmas.{instruction_prop}
use Rattle.m3_image_decoded.proofs.decoded.Decoded.code.Goals as goal

pub returns-clause-good : goal.returns-clause-good
returns-clause-good c = λ n i found.
    ∥∥₁_elim c.args.self.now.good (instruction_prop i) (λ (each : AreInstructions c.args.self.now.code.items). each n i (ap (λ xs. slice_get xs n) (sym c.deref.ensures.value) ∙ found))
