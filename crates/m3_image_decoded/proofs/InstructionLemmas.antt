-- That an instruction is one of the table has one proof at most.
use Rattle.std.proofs.Common.{ℕ, ℤ, pos}
use Rattle.std.proofs.Math.IntN.{ℤ_set}
use Rattle.std.proofs.Math.Nat.{ℕ_set}
use Rattle.std.proofs.Math.Bridge.{le_prop}
use Rattle.m3_isa.specs.declared.rows.Field.{Field}
use Rattle.m3_isa.specs.declared.rows.Field.TheVariants.{Register, Number, Unnamed}
use Rattle.m3_isa.specs.declared.instructions.Instr.{Instr}
use Rattle.m3_isa.specs.Instructions.{FitsField, FitsImm, IsInstruction}

field_prop : (f : Field) (n : ℕ) → IsProp (FitsField f n)
field_prop Register n = le_prop
field_prop Number n = let unique : IsProp (Unit {0}) = hlevel in unique
field_prop Unnamed n = ℕ_set n 0

imm_prop : (f : Field) (n : ℤ) → IsProp (FitsImm f n)
imm_prop Register n = let unique : IsProp (Unit {0}) = hlevel in unique
imm_prop Number n = let unique : IsProp (Unit {0}) = hlevel in unique
imm_prop Unnamed n = ℤ_set n (pos 0)

pub instruction_prop : (i : Instr) → IsProp (IsInstruction i)
instruction_prop i = hlevel (field_prop, imm_prop)
