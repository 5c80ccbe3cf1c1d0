-- Lists of instructions.
use Rattle.std.specs.Prelude.{◌≡◌, ℕ, List, Some}
use Rattle.std.specs.List.{slice_get}
use Rattle.m3_isa.specs.declared.instructions.Instr.{Instr}
use Rattle.m3_isa.specs.Instructions.{IsInstruction}

-- each is one of the table
abbrev pub AreInstructions : List Instr → Type 0
AreInstructions code = (n : ℕ) (i : Instr) → slice_get code n ≡ Some i → IsInstruction i
