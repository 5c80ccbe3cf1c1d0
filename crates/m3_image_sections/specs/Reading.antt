-- What a section says, or why it is refused.
use Rattle.std.specs.Prelude.{ℕ, ◌*◌, ◌/◌, ◌%◌, ◌==◌, Bool, true, ◌&&◌, if◌then◌else◌, List, [], ◌∷◌, length, drop, Option, Some, None, is_some, Result, Ok, Err}
use Rattle.m3_isa.specs.declared.instructions.Instr.{Instr}
use Rattle.m3_isa.specs.CodeBytes.{instruction_in}
use Rattle.m3_image_sections.specs.declared.refusal.ImageRefusal.{ImageRefusal}
use Rattle.m3_image_sections.specs.declared.refusal.ImageRefusal.TheVariants.{Section, Instruction}
use Rattle.m3_image_sections.specs.Fields.{each}
use Rattle.m3_image_sections.specs.Ranges.{first_failing}

infixl 10 ◌>>=◌
abbrev pub ◌>>=◌ : {A B : Type 0} → Result A ImageRefusal → (A → Result B ImageRefusal) → Result B ImageRefusal
(Ok x) >>= f = f x
(Err e) >>= f = Err e

-- an answer with what it gives seen by a view
abbrev pub seen : {A B : Type 0} → (A → B) → Result A ImageRefusal → Result B ImageRefusal
seen view (Ok x) = Ok (view x)
seen view (Err e) = Err e

-- what a section says, where its bytes end with that and it keeps a test
abbrev pub whole : {A : Type 0} → ℕ → (A → Bool) → Option (A × List ℕ) → Result A ImageRefusal
whole number fits None = Err (Section number)
whole number fits (Some found) = if length found.1 == 0 && fits found.0 then Ok found.0 else Err (Section number)

abbrev pub any : {A : Type 0} → A → Bool
any x = true

-- ---- the code

-- the instruction of a number, where its bytes are those of one
abbrev pub instruction_at : List ℕ → ℕ → Option Instr
instruction_at section number = instruction_in (drop (8 * number) section)

abbrev pub somes : {A : Type 0} → List (Option A) → List A
somes [] = []
somes (None ∷ xs) = somes xs
somes ((Some x) ∷ xs) = x ∷ somes xs

abbrev pub code_in : List ℕ → List Instr
code_in section = somes (each 8 instruction_in (length section / 8) section)

abbrev pub unless_number : {A : Type 0} → (ℕ → ImageRefusal) → Option ℕ → A → Result A ImageRefusal
unless_number refused None x = Ok x
unless_number refused (Some n) x = Err (refused n)

unfoldable pub code_of : List ℕ → Result (List Instr) ImageRefusal
code_of section =
    if length section % 8 == 0
    then unless_number Instruction (first_failing (λ n. is_some (instruction_at section n)) (length section / 8)) (code_in section)
    else Err (Section 1)
