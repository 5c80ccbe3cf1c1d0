-- Ends, input and output: what each instruction makes of the registers, by the words.
use Rattle.std.specs.Prelude.{ℕ, ◌+◌, ◌-◌, ◌/◌, ◌%◌, ◌^◌, ◌==◌, nat_le, nat_lt, if◌then◌else◌, Bool, List, [], ◌∷◌, length, slice_get, slice_index_or, Option, None, Some, is_some}
use Rattle.std.specs.Int.{cast_unsigned, w32}
use Rattle.std.specs.Fmt.{signed_decimal}
use Rattle.m3_base.specs.Words.{add_words}
use Rattle.m3_base.specs.declared.outcomes.FaultKind.{FaultKind}
use Rattle.m3_base.specs.declared.outcomes.FaultKind.TheVariants.{Overflow, DivZero, Range, Index, Nil, Narrow, Shape, Subarray, Size, NoReturn, NoCase, NoTypecase, Raises, NestedProc, NotHeld, JoinTwice}
use Rattle.m3_base.specs.declared.outcomes.Outcome.TheVariants.{Fault, Uncaught}
use Rattle.m3_isa.specs.Memory.{Memory}
use Rattle.m3_isa.specs.Arithmetic.{flag}
use Rattle.m3_isa.specs.Effects.{reg, signed, every, next, jumped, answered}
use Rattle.m3_isa.specs.declared.registers.Regs.{Regs}
use Rattle.m3_isa.specs.declared.instructions.Instr.{Instr}
use Rattle.m3_image_sections.specs.Parts.{Program}
use Rattle.m3_run_meaning.specs.declared.near.Stack.{Stack}
use Rattle.m3_run_meaning.specs.Act.{Act, Proceeds, Puts, Takes, Stops, stops_with_trap, loading}
use Rattle.m3_run_meaning.specs.Texts.{text_bytes}

-- ---- ends

-- the kinds of faults by their numbers
abbrev pub fault_kinds : List FaultKind
fault_kinds = Overflow ∷ DivZero ∷ Range ∷ Index ∷ Nil ∷ Narrow ∷ Shape ∷ Subarray ∷ Size ∷ NoReturn ∷ NoCase ∷ NoTypecase ∷ Raises ∷ NestedProc ∷ NotHeld ∷ JoinTwice ∷ []

-- FAULT, whose kind and place every image has
abbrev pub faults : Option FaultKind → Option (ℕ × ℕ) → Act
faults None place = stops_with_trap 2
faults (Some kind) None = stops_with_trap 2
faults (Some kind) (Some place) = Stops (Fault kind place.0 place.1)

abbrev pub faults_at : Program → Instr → Act
faults_at p i = faults (slice_get fault_kinds i.a) (slice_get p.places (cast_unsigned w32 i.imm))

-- UNC: an exception that nobody handled, or trap 5 where there is none of that number
abbrev pub uncaught : Option (List ℕ) → ℕ → Act
uncaught None n = stops_with_trap 5
uncaught (Some name) n = Stops (Uncaught n)

abbrev pub is_uncaught : Program → Instr → Regs → Act
is_uncaught p i regs =
    if nat_lt (reg regs i.a) (2 ^ 32) then uncaught (slice_get p.exceptions (reg regs i.a)) (reg regs i.a) else stops_with_trap 5

-- ---- input and output

-- PUTN, PUTC
abbrev pub puts_number : Instr → Regs → Act
puts_number i regs = Puts (signed_decimal (signed regs i.a)) (next regs)

abbrev pub puts_byte : Instr → Regs → Act
puts_byte i regs = Puts (reg regs i.a % 256 ∷ []) (next regs)

-- the words of so many bytes of a text, from one on, are there
abbrev pub has_text : Memory → ℕ → ℕ → ℕ → Bool
has_text memory text from count =
    every (λ k. is_some (memory (add_words text (2 + (from / 8 + k))))) (if count == 0 then 0 else (from + count - 1) / 8 + 1 - from / 8)

-- PUT: all words of the text are loaded before its first byte is put
abbrev pub puts_bytes : Memory → ℕ → ℕ → Regs → Act
puts_bytes memory text count regs =
    if has_text memory text 0 count then Puts (text_bytes memory text 0 count) (next regs) else stops_with_trap 2

abbrev pub puts_text : Instr → Regs → Memory → Act
puts_text i regs memory =
    loading (memory (add_words (reg regs i.a) 1)) (λ count. puts_bytes memory (reg regs i.a) count regs)

-- GETC: the next byte of the input, or a jump where none is left; EOF
abbrev pub gets : List ℕ → ℕ → Instr → Regs → Act
gets input taken i regs =
    if nat_le (length input) taken then Proceeds (jumped regs i.imm) else Takes (answered regs i.a (slice_index_or input taken 0))

abbrev pub tells_end : List ℕ → ℕ → Instr → Regs → Act
tells_end input taken i regs = Proceeds (answered regs i.a (flag (nat_le (length input) taken)))

-- SELF: word 2 of the thread's stack
abbrev pub tells_self : Stack → Instr → Regs → Memory → Act
tells_self stack i regs memory = loading (memory (add_words stack.base 2)) (λ cell. Proceeds (answered regs i.a cell))
