-- The text of an image, line by line.
use Rattle.std.specs.Prelude.{◌≡◌, ◌≢◌, ℕ, zero, suc, ◌+◌, ◌-◌, ◌<◌, nat_lt, ◌==◌, if◌then◌else◌, Option, None, Some, List, [], ◌∷◌, ◌++◌, length, codes, decimal}
use Rattle.std.specs.Fmt.{signed_decimal}
use Rattle.std.specs.List.{slice_get, flat_map}
use Rattle.std.specs.List.Sorted.{IsPermutation, IsNonDecreasing}
use Rattle.m3_tables.specs.Numbers.{word_in}
use Rattle.m3_tables.specs.Rows.{Bases, Entry, Contents}
use Rattle.m3_tables.specs.Sections.{instruction_in, tidy_list, contents_in}
use Rattle.m3_isa.specs.declared.instructions.Instr.{Instr}
use Rattle.m3_image_sections.specs.declared.procs.ProcPart.{ProcPart}
use Rattle.m3_image_sections.specs.Forms.{none}
use Rattle.m3_image_sections.specs.Parts.{Image, Program, Variable}
use Rattle.m3_image_dump.specs.Names.{text_of}

-- a text that grew by one of some texts
pub record Adds (texts : List ℕ → Type 0) (old new : List ℕ) : Type 0 where
  pub part : List ℕ
  pub added : new ≡ old ++ part
  pub is : texts part

-- ---- words of a line

-- a number behind a space
abbrev pub number_word : ℕ → List ℕ
number_word n = codes " " ++ decimal n

-- a place: a register, or a slot of the frame
abbrev pub place_text : ℕ → List ℕ
place_text l = if nat_lt l 16 then codes "r" ++ decimal l else codes "s" ++ decimal (l - 16)

abbrev pub place_word : ℕ → List ℕ
place_word l = codes " " ++ place_text l

-- ---- procedures and instructions

abbrev pub proc_line : ℕ → ProcPart → List ℕ
proc_line number p =
    codes "proc" ++ number_word number ++ codes " body" ++ number_word p.body ++ codes " frame" ++ number_word p.frame ++ codes "\n"

abbrev pub instruction_line : ℕ → Instr → List ℕ
instruction_line pc i =
    decimal pc ++ codes " " ++ text_of i.op ++ number_word i.a ++ number_word i.b ++ number_word i.c ++ codes " " ++ signed_decimal i.imm ++ codes "\n"

-- ---- the row of a point

-- the bases of a way, each behind its sign
abbrev pub way_text : Bases → List ℕ
way_text way = flat_map (λ l. codes "+" ++ place_text l) way.added ++ flat_map (λ l. codes "-" ++ place_text l) way.subtracted

-- the first way, and then each other way behind a bar
abbrev pub ways_text : List Bases → List ℕ
ways_text [] = []
ways_text (way ∷ ways) = way_text way ++ flat_map (λ w. codes "|" ++ way_text w) ways

abbrev pub path_text : Option ℕ → List ℕ
path_text None = []
path_text (Some l) = codes "?" ++ place_text l

-- a derived word: its place, its path and its ways
abbrev pub entry_word : Entry → List ℕ
entry_word e = codes " " ++ place_text e.location ++ path_text e.path ++ codes "=" ++ ways_text e.ways

abbrev pub row_line : List ℕ → Contents → List ℕ
row_line tidy c =
    codes "point T" ++ flat_map place_word tidy ++ codes " A" ++ flat_map place_word c.arguments ++ codes " R" ++ flat_map place_word c.passed
    ++ codes " D" ++ flat_map entry_word c.derived ++ codes "\n"

-- some places in rising order
pub record InOrder (places rising : List ℕ) : Type 0 where
  pub same : IsPermutation places rising
  pub order : IsNonDecreasing rising

-- what stands behind an instruction: the line of its row, if it has one
pub data RowText (tables : List ℕ) (pc : ℕ) : List ℕ → Type 0 where
  no_row : ((row : ℕ) → row < word_in tables → instruction_in tables row ≢ pc) → RowText tables pc []
  row : (n : ℕ) (tidy : List ℕ) → n < word_in tables → instruction_in tables n ≡ pc → InOrder (tidy_list tables n) tidy
      → RowText tables pc (row_line tidy (contents_in tables n))

-- so many instructions from one on, each with what stands behind it
pub data CodeText (p : Program) (first : ℕ) : ℕ → List ℕ → Type 0 where
  no_code : CodeText p first 0 []
  code : (n : ℕ) (i : Instr) (before row : List ℕ) → CodeText p first n before → slice_get p.code (first + n) ≡ Some i → RowText p.tables (first + n) row
      → CodeText p first (suc n) (before ++ instruction_line (first + n) i ++ row)

-- the procedures in their order, each with its instructions
pub data ProcsText (p : Program) : List ProcPart → List ℕ → Type 0 where
  no_procs : ProcsText p [] []
  procs : (before : List ProcPart) (proc : ProcPart) (text body : List ℕ) → ProcsText p before text → CodeText p proc.first proc.count body
      → ProcsText p (before ++ proc ∷ []) (text ++ proc_line (length before) proc ++ body)

-- ---- variables

unfoldable pub owner_word : Variable → List ℕ
owner_word v = if v.proc == none then codes " global" else number_word v.proc

unfoldable pub form_word : Variable → List ℕ
form_word v = if v.form == 0 then codes " ordinal" else codes " reference"

-- the word of a global
unfoldable pub global_word : Variable → List ℕ
global_word v = if v.proc == none then codes " g" ++ decimal v.word else []

abbrev pub span_word : ℕ × ℕ → List ℕ
span_word s = number_word s.0 ++ codes ":" ++ place_text s.1

-- what a variable is
unfoldable pub variable_words : Variable → List ℕ
variable_words v = codes "var" ++ owner_word v ++ codes " " ++ v.name ++ form_word v

abbrev pub variable_line : Variable → List ℕ
variable_line v = variable_words v ++ global_word v ++ flat_map span_word v.spans ++ codes "\n"

-- ---- the whole

-- a text is that of an image
pub record IsDump (i : Image) (text : List ℕ) : Type 0 where
  pub code : List ℕ
  pub procs : ProcsText i.program i.program.procs code
  pub whole : text ≡ code ++ flat_map variable_line i.variables
