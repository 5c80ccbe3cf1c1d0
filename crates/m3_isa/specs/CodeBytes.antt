-- The bytes of an instruction.
use Rattle.std.specs.Prelude.{ℕ, ℤ, pos, negsuc, zero, suc, Bool, true, false, ◌&&◌, ◌==◌, nat_lt, if◌then◌else◌, List, [], ◌∷◌, drop, Option, Some, None, slice_get, slice_index}
use Rattle.std.specs.Option.{option_and_then}
use Rattle.std.specs.Int.{cast_signed, cast_unsigned, w32}
use Rattle.byteorder.specs.Endian.{little_bytes, little_number}
use Rattle.m3_isa.specs.declared.instructions.Op.{Op}
use Rattle.m3_isa.specs.declared.instructions.Op.TheVariants.{Move, Li, Lih, Con, Glb, Slot, Lds, Sts, Ld, St, Copy, Fill, Eqw, Add, Sub, Mul, Addi, Addo, Subo, Mulo, Divf, Modf, Divu, Modu, And, Or, Xor, Shf, Rot, Seq, Slt, Sltu, Jmp, Bz, Bnz, Blt, Bltu, Beq, Call, Callr, Callm, Ret, Meth, Subt, New, Newo, Point, Fault, Unc, Endp, Endt, Cat, Tchr, Tsub, Tget, Teq, Fork, Join, Acq, Rel, Wait, Sig, Bca, Self_, Put, Putn, Putc, Alert, Talert, Await, Ajoin, Getc, Eof}
use Rattle.m3_isa.specs.declared.instructions.Instr.{Instr}
use Rattle.m3_isa.specs.declared.rows.Field.{Field}
use Rattle.m3_isa.specs.declared.rows.Field.TheVariants.{Register, Number, Unnamed}
use Rattle.m3_isa.specs.declared.rows.Row.{Row}
use Rattle.m3_isa.specs.Instructions.{opcode, row_of}

-- the number of the operation, the three registers, and the number, the lowest byte first
abbrev pub bytes_of : Instr → List ℕ
bytes_of i = opcode i.op ∷ i.a ∷ i.b ∷ i.c ∷ little_bytes 4 (cast_unsigned w32 i.imm)

-- the operations in the order of their numbers
abbrev pub operations : List Op
operations =
    Move ∷ Li ∷ Lih ∷ Con ∷ Glb ∷ Slot ∷ Lds ∷ Sts ∷ Ld ∷ St ∷ Copy ∷ Fill ∷
    Eqw ∷ Add ∷ Sub ∷ Mul ∷ Addi ∷ Addo ∷ Subo ∷ Mulo ∷ Divf ∷ Modf ∷ Divu ∷ Modu ∷
    And ∷ Or ∷ Xor ∷ Shf ∷ Rot ∷ Seq ∷ Slt ∷ Sltu ∷ Jmp ∷ Bz ∷ Bnz ∷ Blt ∷
    Bltu ∷ Beq ∷ Call ∷ Callr ∷ Callm ∷ Ret ∷ Meth ∷ Subt ∷ New ∷ Newo ∷ Point ∷ Fault ∷
    Unc ∷ Endp ∷ Endt ∷ Cat ∷ Tchr ∷ Tsub ∷ Tget ∷ Teq ∷ Fork ∷ Join ∷ Acq ∷ Rel ∷
    Wait ∷ Sig ∷ Bca ∷ Self_ ∷ Put ∷ Putn ∷ Putc ∷ Alert ∷ Talert ∷ Await ∷ Ajoin ∷ Getc ∷
    Eof ∷ []

-- the operation of a number, where one has it
abbrev pub operation : ℕ → Option Op
operation zero = None
operation (suc place) = slice_get operations place

-- ---- the instruction that bytes are

-- whether a byte is what its row says
abbrev pub field_fits : Field → ℕ → Bool
field_fits Register n = nat_lt n 16
field_fits Number n = true
field_fits Unnamed n = n == 0

-- the same of the number of an instruction
abbrev pub imm_fits : Field → ℤ → Bool
imm_fits Register n = true
imm_fits Number n = true
imm_fits Unnamed (pos n) = n == 0
imm_fits Unnamed (negsuc n) = false

-- whether each field is as a row has it
abbrev pub fields_fit : Row → Instr → Bool
fields_fit row i = field_fits row.a i.a && (field_fits row.b i.b && (field_fits row.c i.c && imm_fits row.imm i.imm))

-- the operation with the fields that stand behind its number
abbrev pub fields_in : Op → List ℕ → Instr
fields_in op bytes =
    record { op = op; a = slice_index bytes 1; b = slice_index bytes 2; c = slice_index bytes 3; imm = cast_signed w32 (little_number 4 (drop 4 bytes)) }

-- an operation's instruction, where the fields behind its number are as its row has them
abbrev pub fitting : List ℕ → Op → Option Instr
fitting bytes op = if fields_fit (row_of op) (fields_in op bytes) then Some (fields_in op bytes) else None

-- the instruction in the first eight bytes, where they are those of one
unfoldable pub instruction_in : List ℕ → Option Instr
instruction_in bytes = option_and_then (fitting bytes) (operation (slice_index bytes 0))
