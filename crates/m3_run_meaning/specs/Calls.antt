-- Calls, returns and what the type of a cell tells.
use Rattle.std.specs.Prelude.{ℕ, ◌≡◌, ◌+◌, ◌-◌, ◌%◌, ◌^◌, ◌==◌, ◌↔◌, IsTrue, nat_le, nat_lt, if◌then◌else◌, Bool, List, length, slice_get, Option, None, Some, Result, Ok, Err}
use Rattle.std.specs.Int.{cast_unsigned, w32}
use Rattle.m3_base.specs.Words.{add_words, sub_words}
use Rattle.m3_base.specs.declared.outcomes.Outcome.{Outcome}
use Rattle.m3_base.specs.declared.outcomes.Outcome.TheVariants.{StackFull, Trap}
use Rattle.m3_isa.specs.Memory.{Memory, put}
use Rattle.m3_isa.specs.Arithmetic.{flag}
use Rattle.m3_isa.specs.Effects.{reg, answered}
use Rattle.m3_isa.specs.declared.registers.Regs.{Regs}
use Rattle.m3_isa.specs.declared.instructions.Op.{Op}
use Rattle.m3_isa.specs.declared.instructions.Op.TheVariants.{Call, Callr, Callm}
use Rattle.m3_isa.specs.declared.instructions.Instr.{Instr}
use Rattle.m3_threads.specs.declared.status.Thread.{Thread}
use Rattle.m3_threads.specs.All.{Everyone, base_of, words_of}
use Rattle.m3_image_sections.specs.declared.procs.ProcPart.{ProcPart}
use Rattle.m3_image_sections.specs.Parts.{Program, CellType}
use Rattle.m3_image_sections.specs.Ranges.{containing}
use Rattle.m3_image_decoded.specs.Ancestors.{IsSubtype}
use Rattle.m3_run_meaning.specs.declared.near.Stack.{Stack}
use Rattle.m3_run_meaning.specs.declared.near.Place.{Place}
use Rattle.m3_run_meaning.specs.Act.{Act, Proceeds, Writes, using, finding, or_trap}

-- where a thread's stack is
abbrev pub stack_of : Everyone → Thread → Stack
stack_of all t = record { base = base_of t; words = length (words_of all t) }

-- where a thread with these registers stands, and the registers of one that comes to a place
abbrev pub place_of : Regs → Place
place_of regs = record { pc = regs.pc; fp = regs.fp }

abbrev pub come_to : Place → Regs → Regs
come_to to regs = record regs { pc = to.pc; fp = to.fp }

-- ---- calls

-- the callee's frame begins behind the words that its caller's body uses, in the stack, which has the words of it
abbrev pub frame_in : ProcPart → ProcPart → Stack → ℕ → Result Place Outcome
frame_in caller callee stack frame =
    if nat_le stack.words (sub_words frame stack.base) then Err (Trap 2)
    else if nat_lt (stack.words - sub_words frame stack.base) callee.frame then Err StackFull
    else Ok (record { pc = callee.first; fp = frame })

-- the procedure that contains the instruction calls another, if there is one of that number
abbrev pub entering_from : Option ProcPart → Option ProcPart → Stack → Place → Result Place Outcome
entering_from caller None stack at = Err (Trap 3)
entering_from None (Some callee) stack at = Err (Trap 1)
entering_from (Some caller) (Some callee) stack at = frame_in caller callee stack (add_words at.fp caller.body)

abbrev pub entering : Program → ℕ → Stack → Place → Result Place Outcome
entering p n stack at = entering_from (containing p.procs at.pc) (slice_get p.procs n) stack at

-- a word is put where it can be
abbrev pub put_where : (ℕ → Bool) → Memory → ℕ → ℕ → Memory
put_where can memory at word = if can at then put memory at word else memory

-- a frame begins with the next instruction of the caller and the caller's frame
abbrev pub framed : Place → Place → Memory → (ℕ → Bool) → Memory
framed to at memory can = put_where can (put_where can memory to.fp (at.pc + 1)) (add_words to.fp 1) at.fp

-- the procedure of a number is called
abbrev pub calls : Program → Result ℕ Outcome → Stack → Regs → Memory → (ℕ → Bool) → Act
calls p callee stack regs memory can =
    using (finding callee (λ n. entering p n stack (place_of regs))) (λ to. Writes (come_to to regs) (framed to (place_of regs) memory can))

-- a procedure's number, given as the one behind it, or as 0 for none; no image has one of more than 32 bits
abbrev pub number_before : ℕ → ℕ → Result ℕ Outcome
number_before none behind =
    if behind == 0 then Err (Trap none) else if nat_lt (2 ^ 32) behind then Err (Trap 3) else Ok (behind - 1)

-- ---- returns

-- the caller's frame and its next instruction, in a code of so many instructions
abbrev pub back_to : ℕ → ℕ → ℕ → Result Place Outcome
back_to code fp pc = if nat_lt pc code then Ok (record { pc = pc; fp = fp }) else Err (Trap 1)

abbrev pub returning : ℕ → Place → Memory → Result Place Outcome
returning code at memory =
    finding (or_trap 2 (memory at.fp)) (λ pc. finding (or_trap 2 (memory (add_words at.fp 1))) (λ fp. back_to code fp pc))

-- RET
abbrev pub returns : ℕ → Regs → Memory → Act
returns code regs memory = using (returning code (place_of regs) memory) (λ to. Proceeds (come_to to regs))

-- ---- types

-- the type of a cell with this header: the one whose number is the header's low half
abbrev pub kind_told : List CellType → ℕ → Result ℕ Outcome
kind_told types header = if nat_lt (header % 2 ^ 32) (length types) then Ok (header % 2 ^ 32) else Err (Trap 4)

abbrev pub kind_at : List CellType → Memory → ℕ → Result ℕ Outcome
kind_at types memory cell = finding (or_trap 2 (memory cell)) (kind_told types)

-- a method of a type: a procedure's number and 1, or 0 for none
abbrev pub method_in : Option CellType → ℕ → Option ℕ
method_in None n = None
method_in (Some t) n = slice_get t.methods n

abbrev pub method_at : List CellType → Memory → ℕ → ℕ → Result ℕ Outcome
method_at types memory cell n = finding (kind_at types memory cell) (λ kind. or_trap 4 (method_in (slice_get types kind) n))

-- METH
abbrev pub tells_method : List CellType → Instr → Regs → Memory → Act
tells_method types i regs memory =
    using (method_at types memory (reg regs i.b) (cast_unsigned w32 i.imm)) (λ method. Proceeds (answered regs i.a method))

-- whether the type of a cell, where it has one, is that of a number or has it among its parents
abbrev pub TellsType : List CellType → Result ℕ Outcome → ℕ → Result Bool Outcome → Type 0
TellsType types kind n (Ok is) = (k : ℕ) × (kind ≡ Ok k) × (IsTrue is ↔ IsSubtype types k n)
TellsType types kind n (Err outcome) = kind ≡ Err outcome

-- SUBT
abbrev pub Tests_type : List CellType → Instr → Regs → Memory → Act → Type 0
Tests_type types i regs memory act =
    (told : Result Bool Outcome) × TellsType types (kind_at types memory (reg regs i.b)) (cast_unsigned w32 i.imm) told
    × (act ≡ using told (λ is. Proceeds (answered regs i.a (flag is))))

-- CALLM: the cell is the first argument
abbrev pub method_from : Option ProcPart → List CellType → ℕ → Place → Memory → Result ℕ Outcome
method_from None types n at memory = Err (Trap 1)
method_from (Some caller) types n at memory =
    finding (or_trap 2 (memory (add_words at.fp (caller.body + 3)))) (λ cell.
    finding (method_at types memory cell n) (number_before 4))

abbrev pub method_called : Program → ℕ → Place → Memory → Result ℕ Outcome
method_called p n at memory = method_from (containing p.procs at.pc) p.types n at memory

-- the procedure that a call calls
abbrev pub callee_by : Op → Program → Instr → Regs → Memory → Result ℕ Outcome
callee_by Call p i regs memory = Ok (cast_unsigned w32 i.imm)
callee_by Callr p i regs memory = number_before 3 (reg regs i.a)
callee_by Callm p i regs memory = method_called p (cast_unsigned w32 i.imm) (place_of regs) memory
callee_by _ p i regs memory = Err (Trap 3)

abbrev pub callee_of : Program → Instr → Regs → Memory → Result ℕ Outcome
callee_of p i regs memory = callee_by i.op p i regs memory
