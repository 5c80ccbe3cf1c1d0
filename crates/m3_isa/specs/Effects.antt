-- The instruction table: what each plain instruction does to the registers and the memory.
use Rattle.std.specs.Prelude.{◌≡◌, ℕ, List, zero, suc, ◌+◌, ◌*◌, ◌/◌, ◌%◌, ◌^◌, Bool, true, false, ◌&&◌, ◌==◌, not, if◌then◌else◌, nat_lt, Option, Some, None, is_some, unwrap_or, slice_index, slice_set, ℤ, ◌+ℤ◌, ◌-ℤ◌, ◌*ℤ◌, int_lt, bit_and, bit_or, bit_xor}
use Rattle.std.specs.Int.{cast_unsigned, w32}
use Rattle.m3_base.specs.Words.{signed_of, word_of, add_words, sub_words, mul_words}
use Rattle.m3_isa.specs.declared.instructions.Op.{Op}
use Rattle.m3_isa.specs.declared.instructions.Op.TheVariants.{Move, Li, Lih, Con, Glb, Slot, Lds, Sts, Ld, St, Copy, Fill, Eqw, Add, Sub, Mul, Addi, Addo, Subo, Mulo, Divf, Modf, Divu, Modu, And, Or, Xor, Shf, Rot, Seq, Slt, Sltu, Jmp, Bz, Bnz, Blt, Bltu, Beq, Tget, Teq}
use Rattle.m3_isa.specs.declared.instructions.Instr.{Instr}
use Rattle.m3_isa.specs.declared.registers.Regs.{Regs}
use Rattle.m3_isa.specs.declared.answers.Step.{Step}
use Rattle.m3_isa.specs.declared.answers.Step.TheVariants.{Went, Trapped, Other}
use Rattle.m3_isa.specs.Memory.{Memory, put}
use Rattle.m3_isa.specs.Arithmetic.{integer_word, unless_zero, floor_quotient, floor_rest, shifted, rotated, flag, moved_by, byte_in, words_of_bytes, below_length}

-- what an instruction does: it goes on with these registers and this memory, it traps, or it isn't plain
pub data Effect : Type 0 where
  Goes : Regs → Memory → Effect
  Traps : ℕ → Effect
  NotPlain : Effect

-- sixteen registers with the number of the instruction and the first address of the newest frame
abbrev pub at_hand : List ℕ → ℕ → ℕ → Regs
at_hand r pc fp = record { r = r; pc = pc; fp = fp }

-- the content of a register, and its signed reading
abbrev pub reg : Regs → ℕ → ℕ
reg regs n = slice_index regs.r n

abbrev pub signed : Regs → ℕ → ℤ
signed regs n = signed_of (reg regs n)

-- on to the next instruction, or to the one that a jump names
abbrev pub next : Regs → Regs
next regs = record regs { pc = (regs.pc + 1) % 2 ^ 32 }

abbrev pub jumped : Regs → ℤ → Regs
jumped regs target = record regs { pc = cast_unsigned w32 target }

-- on to the next instruction with this word in register a
abbrev pub answered : Regs → ℕ → ℕ → Regs
answered regs a word = record regs { r = slice_set regs.r a word; pc = (regs.pc + 1) % 2 ^ 32 }

-- the instruction gives register a this word
abbrev pub answers : Regs → Memory → ℕ → ℕ → Effect
answers regs memory a word = Goes (answered regs a word) memory

-- with the word in register a, where there is one, and a jump where there is none
abbrev pub given_if_there : List ℕ → ℕ → Option ℕ → List ℕ
given_if_there r a None = r
given_if_there r a (Some word) = slice_set r a word

abbrev pub counter_after : ℕ → ℤ → Option ℕ → ℕ
counter_after pc target None = cast_unsigned w32 target
counter_after pc target (Some word) = (pc + 1) % 2 ^ 32

abbrev pub answered_or_jumped : Regs → ℕ → ℤ → Option ℕ → Regs
answered_or_jumped regs a target word = record regs { r = given_if_there regs.r a word; pc = counter_after regs.pc target word }

abbrev pub answers_or_jumps : Regs → Memory → ℕ → ℤ → Option ℕ → Effect
answers_or_jumps regs memory a target word = Goes (answered_or_jumped regs a target word) memory

-- it jumps where the test holds
abbrev pub jumps_if : Bool → Regs → Memory → ℤ → Effect
jumps_if test regs memory target = Goes (if test then jumped regs target else next regs) memory

-- it gives register a the word that an address holds
abbrev pub loads : Regs → Memory → ℕ → Option ℕ → Effect
loads regs memory a None = Traps 2
loads regs memory a (Some word) = answers regs memory a word

-- it puts a word at an address
abbrev pub stores : Regs → Memory → (ℕ → Bool) → ℕ → ℕ → Effect
stores regs memory writable at word = if writable at then Goes (next regs) (put memory at word) else Traps 2

-- a test holds of each number below n
abbrev pub every : (ℕ → Bool) → ℕ → Bool
every test zero = true
every test (suc n) = every test n && test n

-- the n words from an address on are there; they can be replaced
abbrev pub are_there : Memory → ℕ → ℕ → Bool
are_there memory from n = every (λ k. is_some (memory (add_words from k))) n

abbrev pub are_writable : (ℕ → Bool) → ℕ → ℕ → Bool
are_writable writable from n = every (λ k. writable (add_words from k)) n

-- the word at an address, where one is there
abbrev pub held_word : Memory → ℕ → ℕ
held_word memory at = unwrap_or (memory at) 0

-- an address is one of the n from another on
abbrev pub is_among : ℕ → ℕ → ℕ → Bool
is_among at from n = nat_lt at (2 ^ 64) && nat_lt (sub_words at from) n

-- the memory after n words were copied as if all were read first
abbrev pub copied : Memory → ℕ → ℕ → ℕ → Memory
copied memory n from to at = if is_among at to n then memory (add_words from (sub_words at to)) else memory at

abbrev pub copies : Regs → Memory → (ℕ → Bool) → ℕ → ℕ → ℕ → Effect
copies regs memory writable n from to =
    if are_there memory from n && are_writable writable to n then Goes (next regs) (copied memory n from to) else Traps 2

-- one word is put where it can be, and the memory after that
abbrev pub put_where_writable : (ℕ → Bool) → Memory → ℕ → Option ℕ → Option Memory
put_where_writable writable memory at None = None
put_where_writable writable memory at (Some word) = if writable at then Some (put memory at word) else None

-- one word of a fill: the word at an address is put a distance above it
abbrev pub filled_one : (ℕ → Bool) → ℕ → ℕ → Option Memory → Option Memory
filled_one writable from to None = None
filled_one writable from to (Some memory) = put_where_writable writable memory to (memory from)

-- the memory after the first n words of a fill, each read after those below it were put
abbrev pub filled : Memory → (ℕ → Bool) → ℕ → ℕ → ℕ → Option Memory
filled memory writable from distance zero = Some memory
filled memory writable from distance (suc n) =
    filled_one writable (add_words from n) (add_words (add_words from distance) n) (filled memory writable from distance n)

-- a memory is the one that a fill leaves
abbrev pub IsMemory : Option Memory → Memory → Type 0
IsMemory None now = ⊥
IsMemory (Some memory) now = (at : ℕ) → now at ≡ memory at

abbrev pub fills : Regs → Option Memory → Effect
fills regs None = Traps 2
fills regs (Some memory) = Goes (next regs) memory

-- the n words from one address on are those from another on
abbrev pub are_equal : Memory → ℕ → ℕ → ℕ → Bool
are_equal memory n left right = every (λ k. held_word memory (add_words left k) == held_word memory (add_words right k)) n

abbrev pub compares : Regs → Memory → ℕ → ℕ → ℕ → ℕ → Effect
compares regs memory a n left right =
    if are_there memory left n && are_there memory right n
    then answers regs memory a (flag (are_equal memory n left right)) else Traps 2

-- the bytes of two texts of one length are equal: word 1 is the length, the bytes follow it
abbrev pub are_equal_texts : Memory → ℕ → ℕ → ℕ → Bool
are_equal_texts memory bytes left right =
    every (λ k. below_length bytes k (held_word memory (add_words left (2 + k))) == below_length bytes k (held_word memory (add_words right (2 + k)))) (words_of_bytes bytes)

-- the words of the bytes of a text are there
abbrev pub has_bytes : Memory → ℕ → ℕ → Bool
has_bytes memory text bytes = every (λ k. is_some (memory (add_words text (2 + k)))) (words_of_bytes bytes)

abbrev pub compares_bytes : Regs → Memory → ℕ → ℕ → ℕ → ℕ → Effect
compares_bytes regs memory a bytes left right =
    if has_bytes memory left bytes && has_bytes memory right bytes
    then answers regs memory a (flag (are_equal_texts memory bytes left right)) else Traps 2

-- texts are equal where their lengths and their bytes are
abbrev pub compares_texts : Regs → Memory → ℕ → ℕ → ℕ → Option ℕ → Option ℕ → Effect
compares_texts regs memory a left right None right_bytes = Traps 2
compares_texts regs memory a left right (Some bytes) None = Traps 2
compares_texts regs memory a left right (Some bytes) (Some right_bytes) =
    if bytes == right_bytes then compares_bytes regs memory a bytes left right else answers regs memory a 0

-- it gives register a byte n of the text whose word is there
abbrev pub takes_byte : Regs → Memory → ℕ → ℕ → Option ℕ → Effect
takes_byte regs memory a n None = Traps 2
takes_byte regs memory a n (Some word) = answers regs memory a (byte_in word (n % 8))

-- THE TABLE, one line for each plain instruction
abbrev pub effect_of : Op → ℕ → ℕ → ℕ → ℤ → Regs → Memory → (ℕ → Bool) → Effect
effect_of Move a b c imm regs m can = answers regs m a (reg regs b)
effect_of Li a b c imm regs m can = answers regs m a (word_of imm)
effect_of Lih a b c imm regs m can = answers regs m a (cast_unsigned w32 imm * 2 ^ 32 + reg regs a % 2 ^ 32)
effect_of Con a b c imm regs m can = answers regs m a (moved_by (2 ^ 50) imm)
effect_of Glb a b c imm regs m can = answers regs m a (moved_by (2 ^ 32) imm)
effect_of Slot a b c imm regs m can = answers regs m a (moved_by regs.fp imm)
effect_of Lds a b c imm regs m can = loads regs m a (m (moved_by regs.fp imm))
effect_of Sts a b c imm regs m can = stores regs m can (moved_by regs.fp imm) (reg regs a)
effect_of Ld a b c imm regs m can = loads regs m a (m (moved_by (reg regs b) imm))
effect_of St a b c imm regs m can = stores regs m can (moved_by (reg regs b) imm) (reg regs a)
effect_of Copy a b c imm regs m can = copies regs m can (reg regs c) (reg regs b) (reg regs a)
effect_of Fill a b c imm regs m can = fills regs (filled m can (reg regs a) (reg regs c) (reg regs b))
effect_of Eqw a b c imm regs m can = compares regs m a (reg regs a) (reg regs b) (reg regs c)
effect_of Add a b c imm regs m can = answers regs m a (add_words (reg regs b) (reg regs c))
effect_of Sub a b c imm regs m can = answers regs m a (sub_words (reg regs b) (reg regs c))
effect_of Mul a b c imm regs m can = answers regs m a (mul_words (reg regs b) (reg regs c))
effect_of Addi a b c imm regs m can = answers regs m a (moved_by (reg regs b) imm)
effect_of Addo a b c imm regs m can = answers_or_jumps regs m a imm (integer_word (signed regs b +ℤ signed regs c))
effect_of Subo a b c imm regs m can = answers_or_jumps regs m a imm (integer_word (signed regs b -ℤ signed regs c))
effect_of Mulo a b c imm regs m can = answers_or_jumps regs m a imm (integer_word (signed regs b *ℤ signed regs c))
effect_of Divf a b c imm regs m can =
    answers_or_jumps regs m a imm (unless_zero (reg regs c) (integer_word (floor_quotient (signed regs b) (signed regs c))))
effect_of Modf a b c imm regs m can =
    answers_or_jumps regs m a imm (unless_zero (reg regs c) (Some (word_of (floor_rest (signed regs b) (signed regs c)))))
effect_of Divu a b c imm regs m can = answers_or_jumps regs m a imm (unless_zero (reg regs c) (Some (reg regs b / reg regs c)))
effect_of Modu a b c imm regs m can = answers_or_jumps regs m a imm (unless_zero (reg regs c) (Some (reg regs b % reg regs c)))
effect_of And a b c imm regs m can = answers regs m a (bit_and (reg regs b) (reg regs c))
effect_of Or a b c imm regs m can = answers regs m a (bit_or (reg regs b) (reg regs c))
effect_of Xor a b c imm regs m can = answers regs m a (bit_xor (reg regs b) (reg regs c))
effect_of Shf a b c imm regs m can = answers regs m a (shifted (reg regs b) (signed regs c))
effect_of Rot a b c imm regs m can = answers regs m a (rotated (reg regs b) (reg regs c))
effect_of Seq a b c imm regs m can = answers regs m a (flag (reg regs b == reg regs c))
effect_of Slt a b c imm regs m can = answers regs m a (flag (int_lt (signed regs b) (signed regs c)))
effect_of Sltu a b c imm regs m can = answers regs m a (flag (nat_lt (reg regs b) (reg regs c)))
effect_of Jmp a b c imm regs m can = Goes (jumped regs imm) m
effect_of Bz a b c imm regs m can = jumps_if (reg regs a == 0) regs m imm
effect_of Bnz a b c imm regs m can = jumps_if (not (reg regs a == 0)) regs m imm
effect_of Blt a b c imm regs m can = jumps_if (int_lt (signed regs a) (signed regs b)) regs m imm
effect_of Bltu a b c imm regs m can = jumps_if (nat_lt (reg regs a) (reg regs b)) regs m imm
effect_of Beq a b c imm regs m can = jumps_if (reg regs a == reg regs b) regs m imm
effect_of Tget a b c imm regs m can =
    takes_byte regs m a (reg regs c) (m (add_words (reg regs b) (2 + reg regs c / 8)))
effect_of Teq a b c imm regs m can =
    compares_texts regs m a (reg regs b) (reg regs c) (m (add_words (reg regs b) 1)) (m (add_words (reg regs c) 1))
effect_of _ a b c imm regs m can = NotPlain

-- what an instruction does, on these registers and this memory, where these addresses can be written
abbrev pub effect : Instr → Regs → Memory → (ℕ → Bool) → Effect
effect i regs memory writable = effect_of i.op i.a i.b i.c i.imm regs memory writable

-- the answer of a step and the state after it are those of an effect
abbrev pub CarriesOut : Effect → Step → Regs → Memory → Regs → Memory → Type 0
CarriesOut (Goes after memory) answer regs old new_regs new =
    (answer ≡ Went) × (new_regs ≡ after) × ((at : ℕ) → new at ≡ memory at)
CarriesOut (Traps n) answer regs old new_regs new = (answer ≡ Trapped n) × (new_regs ≡ regs)
CarriesOut NotPlain answer regs old new_regs new =
    (answer ≡ Other) × (new_regs ≡ regs) × ((at : ℕ) → new at ≡ old at)

-- a step that only reads carries out an effect, wherever the newest frame begins
abbrev pub CarriesOutReading : (Regs → Effect) → Step → Memory → List ℕ → ℕ → List ℕ → ℕ → Type 0
CarriesOutReading effect answer memory r pc new_r new_pc =
    (fp : ℕ) → CarriesOut (effect (at_hand r pc fp)) answer (at_hand r pc fp) memory (at_hand new_r new_pc fp) memory

-- a step that leaves the registers carries out an effect, whatever they and the newest frame are
abbrev pub CarriesOutWriting : (Regs → Effect) → Step → ℕ → ℕ → Memory → Memory → Type 0
CarriesOutWriting effect answer pc new_pc old new =
    (r : List ℕ) (fp : ℕ) → CarriesOut (effect (at_hand r pc fp)) answer (at_hand r pc fp) old (at_hand r new_pc fp) new

-- the addresses that an instruction may write, in some other order than the table's where it traps
abbrev pub may_write_of : Op → ℕ → ℕ → ℕ → Regs → ℕ → Bool
may_write_of Copy a b c regs at = is_among at (reg regs a) (reg regs c)
may_write_of Fill a b c regs at = is_among at (add_words (reg regs a) (reg regs c)) (reg regs b)
may_write_of _ a b c regs at = false

abbrev pub may_write : Instr → Regs → ℕ → Bool
may_write i regs at = may_write_of i.op i.a i.b i.c regs at

-- where a step trapped, each address but those that it may write holds what it held
abbrev pub KeepsOnTrap : Instr → Step → Regs → Memory → Memory → Type 0
KeepsOnTrap i Went regs old new = Unit {0}
KeepsOnTrap i Other regs old new = Unit {0}
KeepsOnTrap i (Trapped n) regs old new = (at : ℕ) → may_write i regs at ≡ false → new at ≡ old at
