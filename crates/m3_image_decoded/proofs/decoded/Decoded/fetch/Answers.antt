use Rattle.std.proofs.Common.{◌≡◌, ◌<◌, length, Some, sym, ◌∙◌, ap, arith}
use Rattle.std.proofs.Math.Logic.{∥∥₁_elim}
use Rattle.std.proofs.lemmas.Option.{slice_get-get_or}
use Rattle.std.specs.List.{slice_get}
use Rattle.m3_isa.specs.declared.instructions.Instr.{Instr}
use Rattle.m3_image_decoded.specs.Code.{AreInstructions}
use Rattle.m3_image_decoded.proofs.InstructionLemmas.{instruction_prop}
use Rattle.m3_image_decoded.proofs.decoded.Decoded.fetch.Goals as goal

pub returns-clause-good : goal.returns-clause-good
returns-clause-good c =
    let code = c.args.self.now.code.items in
    let there : c.args.pc < length code = omega (arith, c.len.ensures, c.if-pc-len.false) in
    let found : slice_get code c.args.pc ≡ Some c.index.result.now = slice_get-get_or code c.args.pc c.index.result.now there ∙ ap (λ (i : Instr). Some i) (sym c.index.ensures) in
    ∥∥₁_elim c.args.self.now.good (instruction_prop c.index.result.now) (λ (each : AreInstructions code). each c.args.pc c.index.result.now found)
