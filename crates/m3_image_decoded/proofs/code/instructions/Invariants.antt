use Rattle.std.proofs.Common.{◌≡◌, ℕ, take, Some}
use Rattle.std.specs.List.{slice_get}
use Rattle.m3_isa.specs.declared.instructions.Instr.{Instr}
use Rattle.m3_isa.specs.Instructions.{IsInstruction}
use Rattle.m3_image.specs.Views.{image_view}
use Rattle.m3_image_decoded.proofs.code.instructions.Given as goal

abbrev pub invariant-loop-n : goal.invariant-loop-n
invariant-loop-n l = (l.found.items ≡ take l.n (image_view l.image).program.code) × ((k : ℕ) (i : Instr) → slice_get l.found.items k ≡ Some i → IsInstruction i)
