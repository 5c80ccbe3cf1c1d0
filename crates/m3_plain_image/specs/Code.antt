-- The code of a module of the plain form. The value of a term comes into a register, and while its right operand is
-- worked out in the next one, the left operand stays there. Where an operation overflows it jumps to a fault of its
-- own; the faults stand behind the code of the puts.
use Rattle.std.specs.Prelude.{ℕ, zero, suc, ℤ, pos, ◌+◌, ◌/◌, ◌%◌, ◌^◌, List, [], ◌∷◌, ◌++◌}
use Rattle.std.specs.Int.{cast_signed, w32}
use Rattle.m3_base.specs.Words.{word_of}
use Rattle.m3_isa.specs.declared.instructions.Op.{Op}
use Rattle.m3_isa.specs.declared.instructions.Op.TheVariants.{Li, Lih, Addo, Subo, Mulo, Point, Fault, Endp, Endt, Putn}
use Rattle.m3_isa.specs.declared.instructions.Instr.{Instr}
use Rattle.m3_plain.specs.declared.plain.Arith.{Arith}
use Rattle.m3_plain.specs.declared.plain.Arith.TheVariants.{Add, Sub, Mul}
use Rattle.m3_plain.specs.Terms.{Term, Number, Apply}

-- an instruction of a register and a number
abbrev pub on_register : Op → ℕ → ℤ → Instr
on_register op a n = record { op = op; a = a; b = 0; c = 0; imm = n }

-- an instruction of register 0 alone, or without fields
abbrev pub alone : Op → Instr
alone op = on_register op 0 (pos 0)

abbrev pub operation : Arith → Op
operation Add = Addo
operation Sub = Subo
operation Mul = Mulo

-- the two halves of a word, as an instruction holds them
abbrev pub low_half : ℤ → ℤ
low_half n = cast_signed w32 (word_of n % 2 ^ 32)

abbrev pub high_half : ℤ → ℤ
high_half n = cast_signed w32 (word_of n / 2 ^ 32)

abbrev pub number_code : ℕ → ℤ → List Instr
number_code register n = on_register Li register (low_half n) ∷ on_register Lih register (high_half n) ∷ []

-- an operation on a register and the next one, with the place of its fault
abbrev pub operation_code : Arith → ℕ → ℕ → Instr
operation_code op register fault = record { op = operation op; a = register; b = register; c = register + 1; imm = pos fault }

-- how many instructions a term has, and how many operators
abbrev pub code_size : Term → ℕ
code_size (Number n) = 2
code_size (Apply op line a b) = code_size a + code_size b + 1

abbrev pub operators : Term → ℕ
operators (Number n) = 0
operators (Apply op line a b) = operators a + operators b + 1

-- the code of a term, by where the faults begin, and the number of those before its own
abbrev pub term_code : ℕ → ℕ → ℕ → Term → List Instr
term_code faults place register (Number n) = number_code register n
term_code faults place register (Apply op line a b) =
    term_code faults place register a
    ++ (term_code faults (place + operators a) (register + 1) b ++ operation_code op register (faults + (place + operators a + operators b)) ∷ [])

-- the lines of a term's operators, in the order of their faults
abbrev pub term_lines : Term → List ℕ
term_lines (Number n) = []
term_lines (Apply op line a b) = term_lines a ++ (term_lines b ++ line ∷ [])

-- each put's code ends with PUTN, and that of all with ENDP
abbrev pub puts_code : ℕ → ℕ → List Term → List Instr
puts_code faults place [] = alone Endp ∷ []
puts_code faults place (put ∷ puts) =
    term_code faults place 0 put ++ (alone Putn ∷ puts_code faults (place + operators put) puts)

abbrev pub puts_size : List Term → ℕ
puts_size [] = 1
puts_size (put ∷ puts) = code_size put + 1 + puts_size puts

abbrev pub puts_lines : List Term → List ℕ
puts_lines [] = []
puts_lines (put ∷ puts) = term_lines put ++ puts_lines puts

abbrev pub puts_operators : List Term → ℕ
puts_operators [] = 0
puts_operators (put ∷ puts) = operators put + puts_operators puts

-- so many faults, from a place on
abbrev pub faults_code : ℕ → ℕ → List Instr
faults_code place zero = []
faults_code place (suc n) = on_register Fault 0 (pos place) ∷ faults_code (place + 1) n

-- the code of a module's body
abbrev pub body_code : List Term → List Instr
body_code puts = alone Point ∷ (puts_code (1 + puts_size puts) 0 puts ++ faults_code 0 (puts_operators puts))

-- that of a thread: the plain form forks none
abbrev pub thread_code : List Instr
thread_code = alone Point ∷ alone Endt ∷ []

abbrev pub plain_code : List Term → List Instr
plain_code puts = body_code puts ++ thread_code
