-- What the variables hold that a program shows, by the words of the globals and of the threads: references are
-- addresses here.
use Rattle.std.specs.Prelude.{ℕ, suc, ◌+◌, nat_lt, ◌==◌, if◌then◌else◌, List, [], ◌∷◌, ◌++◌, Option, Some, None}
use Rattle.m3_tables.specs.Sections.{instruction_in}
use Rattle.m3_image_sections.specs.declared.procs.ProcPart.{ProcPart}
use Rattle.m3_image_sections.specs.Forms.{none}
use Rattle.m3_image_sections.specs.Parts.{Image, Variable}
use Rattle.m3_run_frames.specs.declared.frame.Frame.{Frame}
use Rattle.m3_roots.specs.ThreadWords.{word_at_place, place_from}

-- a variable by its number in the image, from 0, its form (0 ordinal, 1 reference), and the word that it holds
pub record Holding : Type 0 where
  pub var : ℕ
  pub form : ℕ
  pub word : ℕ

-- ---- globals

-- a variable, if it is a global: its word is among the global words
abbrev pub global_at : List ℕ → ℕ → Variable → List Holding
global_at globals number v =
    if v.proc == none then record { var = number; form = v.form; word = word_at_place globals v.word } ∷ [] else []

-- the globals among the variables, the first of which has a number
abbrev pub globals_from : List ℕ → ℕ → List Variable → List Holding
globals_from globals number [] = []
globals_from globals number (v ∷ vs) = global_at globals number v ++ globals_from globals (number + 1) vs

-- ---- variables of procedures

-- The place where a variable is while a thread stands at an instruction, by its spans. A variable without a span there
-- is not in scope; the spans of a variable are at instructions of its own procedure.
abbrev pub place_at : ℕ → List (ℕ × ℕ) → Option ℕ
place_at instr [] = None
place_at instr (s ∷ spans) = if s.0 == instr then Some s.1 else place_at instr spans

-- what a variable at a place holds, in a frame that begins at a word of the stack
abbrev pub held_at : List ℕ → ℕ → ℕ → Variable → Option ℕ → List Holding
held_at words first number v None = []
held_at words first number v (Some place) =
    record { var = number; form = v.form; word = word_at_place words (place_from first place) } ∷ []

-- the variables that are in scope at an instruction
abbrev pub locals_from : List ℕ → ℕ → ℕ → ℕ → List Variable → List Holding
locals_from words first instr number [] = []
locals_from words first instr number (v ∷ vs) =
    held_at words first number v (place_at instr v.spans) ++ locals_from words first instr (number + 1) vs

-- ---- frames

-- the number of the procedure that an instruction is in, from 0: of the first that ends behind it
abbrev pub proc_number : ℕ → List ProcPart → ℕ
proc_number pc [] = 0
proc_number pc (p ∷ ps) = if nat_lt pc (p.first + p.count) then 0 else suc (proc_number pc ps)

-- the instruction where a frame stands, which is its row's; the procedure of the frame, and what its variables in
-- scope hold
abbrev pub instruction_of : Image → Frame → ℕ
instruction_of i f = instruction_in i.program.tables f.row

abbrev pub proc_of_frame : Image → Frame → ℕ
proc_of_frame i f = proc_number (instruction_of i f) i.program.procs

abbrev pub held_in : Image → List ℕ → Frame → List Holding
held_in i words f = locals_from words f.first (instruction_of i f) 0 i.variables
