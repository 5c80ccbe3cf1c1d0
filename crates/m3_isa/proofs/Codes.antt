-- The numbers of the operations, both ways.
use Rattle.std.proofs.Common.{◌≡◌, ℕ, zero, suc, ◌+◌, ◌*◌, ◌^◌, ◌<◌, true, length, drop, ℤ, List, [], ◌∷◌, ◌++◌, Some, refl, sym, ap, ◌∙◌, arith, add-zero}
use Rattle.std.specs.Prelude.{slice_get, slice_index, FitsSigned}
use Rattle.std.specs.Int.{byte_at, w32, cast_unsigned, cast_signed}
use Rattle.std.proofs.lemmas.Int.{to_z-of_z, of_z-to_z, ints}
use Rattle.byteorder.specs.Endian.{little_bytes, little_from, little_number}
use Rattle.byteorder.specs.Numbers.{little_number-reads_back}
use Rattle.m3_isa.specs.declared.instructions.Instr.{Instr}
use Rattle.m3_isa.specs.declared.instructions.Op.{Op}
use Rattle.m3_isa.specs.declared.instructions.Op.TheVariants.{Move}
use Rattle.m3_isa.specs.declared.rows.Field.{Field}
use Rattle.m3_isa.specs.declared.rows.Field.TheVariants.{Register, Number, Unnamed}
use Rattle.m3_isa.specs.Instructions.{opcode, row_of, FitsField, FitsImm, IsInstruction}
use Rattle.m3_isa.specs.CodeBytes.{operations, operation, bytes_of, field_fits, imm_fits, fields_fit, fields_in, instruction_in}
use Rattle.std.proofs.lemmas.Bool.{lt-ltb}

pub operation-opcode : (op : Op) → operation (opcode op) ≡ Some op
operation-opcode Move = refl
operation-opcode _ = refl

-- the operations of a list have the numbers from k on
numbered : ℕ → List Op → Type 0
numbered k [] = Unit {0}
numbered k (op ∷ ops) = (opcode op ≡ k) × numbered (suc k) ops

all_numbered : numbered 1 operations
unfolding numbered
all_numbered = (refl, (refl, (refl, (refl, (refl, (refl, (refl, (refl, (refl, (refl, (refl, (refl, (refl, (refl, (refl, (refl, (refl, (refl, (refl, (refl, (refl, (refl, (refl, (refl, (refl, (refl, (refl, (refl, (refl, (refl, (refl, (refl, (refl, (refl, (refl, (refl, (refl, (refl, (refl, (refl, (refl, (refl, (refl, (refl, (refl, (refl, (refl, (refl, (refl, (refl, (refl, (refl, (refl, (refl, (refl, (refl, (refl, (refl, (refl, (refl, (refl, (refl, (refl, (refl, (refl, (refl, (refl, (refl, (refl, (refl, (refl, (refl, (refl, tt)))))))))))))))))))))))))))))))))))))))))))))))))))))))))))))))))))))))))

some_same : {A : Type 0} {x y : A} → Some x ≡ Some y → x ≡ y
some_same e = cc

number_at : (k i : ℕ) (ops : List Op) (op : Op) → numbered k ops → slice_get ops i ≡ Some op → opcode op ≡ k + i
unfolding numbered
number_at k i [] op h e = cc
number_at k zero (x ∷ ops) op h e = rw add-zero (ap opcode (sym (some_same e)) ∙ h.0)
number_at k (suc i) (x ∷ ops) op h e = number_at (suc k) i ops op h.1 e ∙ omega arith

pub opcode-operation : (n : ℕ) (op : Op) → operation n ≡ Some op → opcode op ≡ n
opcode-operation zero op e = cc
opcode-operation (suc place) op e = number_at 1 place operations op all_numbered e ∙ omega arith

-- the bytes of the number that four bytes are, are those bytes
pub bytes-number : (a b c d : ℕ) → a < 256 → b < 256 → c < 256 → d < 256 → little_bytes 4 (a + 256 * (b + 256 * (c + 256 * (d + 256 * 0)))) ≡ a ∷ b ∷ c ∷ d ∷ []
bytes-number a b c d p q r s =
    let n : ℕ = a + 256 * (b + 256 * (c + 256 * (d + 256 * 0))) in
    let e : byte_at 0 n ≡ a = omega arith in
    let f : byte_at 1 n ≡ b = omega arith in
    let g : byte_at 2 n ≡ c = omega arith in
    let h : byte_at 3 n ≡ d = omega arith in
    cc

-- a number of four bytes is known by them
low_same : (x y : ℕ) → x < 2 ^ 32 → y < 2 ^ 32 → little_bytes 4 x ≡ little_bytes 4 y → x ≡ y
low_same x y p q e =
    sym (little_number-reads_back 4 x [] p) ∙ ap (λ xs. little_from 0 4 (xs ++ [])) e ∙ little_number-reads_back 4 y [] q

abbrev pub instruction : Op → ℕ → ℕ → ℕ → ℤ → Instr
instruction op a b c imm = record { op = op; a = a; b = b; c = c; imm = imm }

-- two instructions of the same bytes are the same
pub bytes_of-same : (i j : Instr) → FitsSigned w32 i.imm → FitsSigned w32 j.imm → bytes_of i ≡ bytes_of j → i ≡ j
bytes_of-same i j f g e =
    let ops : opcode i.op ≡ opcode j.op = cc in
    let op : i.op ≡ j.op = some_same (sym (operation-opcode i.op) ∙ ap operation ops ∙ operation-opcode j.op) in
    let a : i.a ≡ j.a = cc in
    let b : i.b ≡ j.b = cc in
    let c : i.c ≡ j.c = cc in
    let low : little_bytes 4 (cast_unsigned w32 i.imm) ≡ little_bytes 4 (cast_unsigned w32 j.imm) = cc in
    let words : cast_unsigned w32 i.imm ≡ cast_unsigned w32 j.imm = low_same (cast_unsigned w32 i.imm) (cast_unsigned w32 j.imm) (omega (arith, ints)) (omega (arith, ints)) low in
    let imm : i.imm ≡ j.imm = sym (to_z-of_z w32 i.imm f) ∙ ap (cast_signed w32) words ∙ to_z-of_z w32 j.imm g in
    ap (λ v. instruction v i.a i.b i.c i.imm) op ∙ ap (λ v. instruction j.op v i.b i.c i.imm) a ∙ ap (λ v. instruction j.op j.a v i.c i.imm) b
    ∙ ap (λ v. instruction j.op j.a j.b v i.imm) c ∙ ap (λ v. instruction j.op j.a j.b j.c v) imm

-- the bytes of an instruction laid out from eight bytes are those bytes
pub laid_bytes : (op : Op) (xs : List ℕ) (z : ℤ) → length xs ≡ 8 → ((k : ℕ) → slice_index xs k < 256) → opcode op ≡ slice_index xs 0 → z ≡ cast_signed w32 (little_number 4 (drop 4 xs)) → FitsSigned w32 z → bytes_of (instruction op (slice_index xs 1) (slice_index xs 2) (slice_index xs 3) (cast_signed w32 (cast_unsigned w32 z))) ≡ xs
laid_bytes op (a ∷ b ∷ c ∷ d ∷ e ∷ f ∷ g ∷ h ∷ []) z l small o r fits =
    let n : ℕ = e + 256 * (f + 256 * (g + 256 * (h + 256 * 0))) in
    let pe : e < 256 = small 4 in
    let pf : f < 256 = small 5 in
    let pg : g < 256 = small 6 in
    let ph : h < 256 = small 7 in
    let low : n < 2 ^ 32 = omega arith in
    let word : cast_unsigned w32 (cast_signed w32 (cast_unsigned w32 z)) ≡ n =
    ap (cast_unsigned w32) (to_z-of_z w32 z fits ∙ r) ∙ of_z-to_z w32 n low in
    ap (λ v. v ∷ b ∷ c ∷ d ∷ little_bytes 4 (cast_unsigned w32 (cast_signed w32 (cast_unsigned w32 z)))) o
    ∙ ap (λ v. a ∷ b ∷ c ∷ d ∷ little_bytes 4 v) word ∙ ap (λ v. a ∷ b ∷ c ∷ d ∷ v) (bytes-number e f g h pe pf pg ph)
laid_bytes op _ z l small o r fits = absurd (omega arith)

-- ---- the instruction of its own bytes

field_fits-fact : (f : Field) (n : ℕ) → FitsField f n → field_fits f n ≡ true
field_fits-fact Register n h = lt-ltb n 16 h
field_fits-fact Number n h = refl
field_fits-fact Unnamed n h = rw h refl

imm_fits-fact : (f : Field) (z : ℤ) → FitsImm f z → imm_fits f z ≡ true
imm_fits-fact Register z h = refl
imm_fits-fact Number z h = refl
imm_fits-fact Unnamed z h = rw h refl

fields_fit-fact : (i : Instr) → IsInstruction i → fields_fit (row_of i.op) i ≡ true
fields_fit-fact i h =
    let row = row_of i.op in
    rw (field_fits-fact row.a i.a h.0, field_fits-fact row.b i.b h.1, field_fits-fact row.c i.c h.2, imm_fits-fact row.imm i.imm h.3) refl

fields_in-bytes_of : (i : Instr) → FitsSigned w32 i.imm → fields_in i.op (bytes_of i) ≡ i
fields_in-bytes_of i fits =
    let low : little_number 4 (little_bytes 4 (cast_unsigned w32 i.imm)) ≡ cast_unsigned w32 i.imm = little_number-reads_back 4 (cast_unsigned w32 i.imm) [] (omega (arith, ints)) in
    ap (λ v. instruction i.op i.a i.b i.c v) (ap (cast_signed w32) low ∙ to_z-of_z w32 i.imm fits)

pub instruction_in-bytes_of : (i : Instr) → IsInstruction i → FitsSigned w32 i.imm → instruction_in (bytes_of i) ≡ Some i
unfolding instruction_in
instruction_in-bytes_of i h fits =
    let same = fields_in-bytes_of i fits in
    let good : fields_fit (row_of i.op) (fields_in i.op (bytes_of i)) ≡ true = ap (fields_fit (row_of i.op)) same ∙ fields_fit-fact i h in
    rw (operation-opcode i.op) (rw good (ap Some same))
