-- The instructions: their numbers, and which fields each one's row of the table names.
use Rattle.std.specs.Prelude.{ℕ, ℤ, pos, Bool, true, false, ◌≡◌, ◌<◌}
use Rattle.m3_isa.specs.declared.instructions.Op.{Op}
use Rattle.m3_isa.specs.declared.instructions.Op.TheVariants.{Move, Li, Lih, Con, Glb, Slot, Lds, Sts, Ld, St, Copy, Fill, Eqw, Add, Sub, Mul, Addi, Addo, Subo, Mulo, Divf, Modf, Divu, Modu, And, Or, Xor, Shf, Rot, Seq, Slt, Sltu, Jmp, Bz, Bnz, Blt, Bltu, Beq, Call, Callr, Callm, Ret, Meth, Subt, New, Newo, Point, Fault, Unc, Endp, Endt, Cat, Tchr, Tsub, Tget, Teq, Fork, Join, Acq, Rel, Wait, Sig, Bca, Self_, Put, Putn, Putc, Alert, Talert, Await, Ajoin, Getc, Eof}
use Rattle.m3_isa.specs.declared.instructions.Instr.{Instr}
use Rattle.m3_isa.specs.declared.rows.Field.{Field}
use Rattle.m3_isa.specs.declared.rows.Field.TheVariants.{Register, Number, Unnamed}
use Rattle.m3_isa.specs.declared.rows.Row.{Row}

-- the number of an operation, an instruction's first byte
abbrev pub opcode : Op → ℕ
opcode Move = 1
opcode Li = 2
opcode Lih = 3
opcode Con = 4
opcode Glb = 5
opcode Slot = 6
opcode Lds = 7
opcode Sts = 8
opcode Ld = 9
opcode St = 10
opcode Copy = 11
opcode Fill = 12
opcode Eqw = 13
opcode Add = 14
opcode Sub = 15
opcode Mul = 16
opcode Addi = 17
opcode Addo = 18
opcode Subo = 19
opcode Mulo = 20
opcode Divf = 21
opcode Modf = 22
opcode Divu = 23
opcode Modu = 24
opcode And = 25
opcode Or = 26
opcode Xor = 27
opcode Shf = 28
opcode Rot = 29
opcode Seq = 30
opcode Slt = 31
opcode Sltu = 32
opcode Jmp = 33
opcode Bz = 34
opcode Bnz = 35
opcode Blt = 36
opcode Bltu = 37
opcode Beq = 38
opcode Call = 39
opcode Callr = 40
opcode Callm = 41
opcode Ret = 42
opcode Meth = 43
opcode Subt = 44
opcode New = 45
opcode Newo = 46
opcode Point = 47
opcode Fault = 48
opcode Unc = 49
opcode Endp = 50
opcode Endt = 51
opcode Cat = 52
opcode Tchr = 53
opcode Tsub = 54
opcode Tget = 55
opcode Teq = 56
opcode Fork = 57
opcode Join = 58
opcode Acq = 59
opcode Rel = 60
opcode Wait = 61
opcode Sig = 62
opcode Bca = 63
opcode Self_ = 64
opcode Put = 65
opcode Putn = 66
opcode Putc = 67
opcode Alert = 68
opcode Talert = 69
opcode Await = 70
opcode Ajoin = 71
opcode Getc = 72
opcode Eof = 73

abbrev pub empty_row : Row
empty_row = record { a = Unnamed; b = Unnamed; c = Unnamed; imm = Unnamed }

abbrev pub imm_row : Row
imm_row = record { a = Unnamed; b = Unnamed; c = Unnamed; imm = Number }

abbrev pub a_row : Row
a_row = record { a = Register; b = Unnamed; c = Unnamed; imm = Unnamed }

abbrev pub a_imm_row : Row
a_imm_row = record { a = Register; b = Unnamed; c = Unnamed; imm = Number }

abbrev pub ab_row : Row
ab_row = record { a = Register; b = Register; c = Unnamed; imm = Unnamed }

abbrev pub ab_imm_row : Row
ab_imm_row = record { a = Register; b = Register; c = Unnamed; imm = Number }

abbrev pub abc_row : Row
abc_row = record { a = Register; b = Register; c = Register; imm = Unnamed }

abbrev pub abc_imm_row : Row
abc_imm_row = record { a = Register; b = Register; c = Register; imm = Number }

-- the kind of a fault is a number and no register
abbrev pub fault_row : Row
fault_row = record { a = Number; b = Unnamed; c = Unnamed; imm = Number }

-- the row of each operation
abbrev pub row_of : Op → Row
row_of Move = ab_row
row_of Li = a_imm_row
row_of Lih = a_imm_row
row_of Con = a_imm_row
row_of Glb = a_imm_row
row_of Slot = a_imm_row
row_of Lds = a_imm_row
row_of Sts = a_imm_row
row_of Ld = ab_imm_row
row_of St = ab_imm_row
row_of Copy = abc_row
row_of Fill = abc_row
row_of Eqw = abc_row
row_of Add = abc_row
row_of Sub = abc_row
row_of Mul = abc_row
row_of Addi = ab_imm_row
row_of Addo = abc_imm_row
row_of Subo = abc_imm_row
row_of Mulo = abc_imm_row
row_of Divf = abc_imm_row
row_of Modf = abc_imm_row
row_of Divu = abc_imm_row
row_of Modu = abc_imm_row
row_of And = abc_row
row_of Or = abc_row
row_of Xor = abc_row
row_of Shf = abc_row
row_of Rot = abc_row
row_of Seq = abc_row
row_of Slt = abc_row
row_of Sltu = abc_row
row_of Jmp = imm_row
row_of Bz = a_imm_row
row_of Bnz = a_imm_row
row_of Blt = ab_imm_row
row_of Bltu = ab_imm_row
row_of Beq = ab_imm_row
row_of Call = imm_row
row_of Callr = a_row
row_of Callm = imm_row
row_of Ret = empty_row
row_of Meth = ab_imm_row
row_of Subt = ab_imm_row
row_of New = a_imm_row
row_of Newo = ab_imm_row
row_of Point = empty_row
row_of Fault = fault_row
row_of Unc = a_row
row_of Endp = empty_row
row_of Endt = a_row
row_of Cat = abc_row
row_of Tchr = ab_row
row_of Tsub = abc_imm_row
row_of Tget = abc_row
row_of Teq = abc_row
row_of Fork = ab_row
row_of Join = ab_imm_row
row_of Acq = a_row
row_of Rel = a_imm_row
row_of Wait = ab_imm_row
row_of Sig = a_row
row_of Bca = a_row
row_of Self_ = a_row
row_of Put = a_row
row_of Putn = a_row
row_of Putc = a_row
row_of Alert = a_row
row_of Talert = a_row
row_of Await = abc_imm_row
row_of Ajoin = abc_imm_row
row_of Getc = a_imm_row
row_of Eof = a_row

-- a register is one of sixteen, and a field that isn't named is 0
abbrev pub FitsField : Field → ℕ → Type 0
FitsField Register n = n < 16
FitsField Number n = Unit {0}
FitsField Unnamed n = n ≡ 0

abbrev pub FitsImm : Field → ℤ → Type 0
FitsImm Register n = Unit {0}
FitsImm Number n = Unit {0}
FitsImm Unnamed n = n ≡ pos 0

-- each field is as the row of the operation has it
abbrev pub FitsRow : Row → ℕ → ℕ → ℕ → ℤ → Type 0
FitsRow row a b c imm = FitsField row.a a × FitsField row.b b × FitsField row.c c × FitsImm row.imm imm

-- an instruction of the table
abbrev pub IsInstruction : Instr → Type 0
IsInstruction i = FitsRow (row_of i.op) i.a i.b i.c i.imm

-- before a point instruction the machine may change threads and collect
abbrev pub is_point : Op → Bool
is_point Call = true
is_point Callr = true
is_point Callm = true
is_point New = true
is_point Newo = true
is_point Point = true
is_point Cat = true
is_point Tchr = true
is_point Tsub = true
is_point Fork = true
is_point Join = true
is_point Acq = true
is_point Rel = true
is_point Wait = true
is_point Sig = true
is_point Bca = true
is_point Self_ = true
is_point Put = true
is_point Putn = true
is_point Putc = true
is_point Alert = true
is_point Talert = true
is_point Await = true
is_point Ajoin = true
is_point Getc = true
is_point Eof = true
is_point _ = false

-- a plain instruction concerns the registers and the memory alone
abbrev pub is_plain : Op → Bool
is_plain Move = true
is_plain Li = true
is_plain Lih = true
is_plain Con = true
is_plain Glb = true
is_plain Slot = true
is_plain Lds = true
is_plain Sts = true
is_plain Ld = true
is_plain St = true
is_plain Copy = true
is_plain Fill = true
is_plain Eqw = true
is_plain Add = true
is_plain Sub = true
is_plain Mul = true
is_plain Addi = true
is_plain Addo = true
is_plain Subo = true
is_plain Mulo = true
is_plain Divf = true
is_plain Modf = true
is_plain Divu = true
is_plain Modu = true
is_plain And = true
is_plain Or = true
is_plain Xor = true
is_plain Shf = true
is_plain Rot = true
is_plain Seq = true
is_plain Slt = true
is_plain Sltu = true
is_plain Jmp = true
is_plain Bz = true
is_plain Bnz = true
is_plain Blt = true
is_plain Bltu = true
is_plain Beq = true
is_plain Tget = true
is_plain Teq = true
is_plain _ = false
