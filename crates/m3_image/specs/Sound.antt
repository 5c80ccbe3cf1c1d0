-- What every program that was read keeps, in plain words.
use Rattle.std.specs.Prelude.{◌≡◌, ℕ, ◌+◌, ◌≤◌, ◌<◌, pos, true, length, Some, None}
use Rattle.std.specs.List.{slice_get}
use Rattle.m3_tables.specs.Numbers.{word_in, has}
use Rattle.m3_tables.specs.Rows.{Entry}
use Rattle.m3_tables.specs.Keeping.{RowKept}
use Rattle.m3_tables.specs.Sections.{is_tidy, contents_in, instruction_in as row_instruction}
use Rattle.m3_isa.specs.declared.instructions.Instr.{Instr}
use Rattle.m3_image_sections.specs.declared.procs.ProcPart.{ProcPart}
use Rattle.m3_image.specs.declared.targets.Target.TheVariants.{Jump}
use Rattle.m3_image_sections.specs.Parts.{Program}
use Rattle.m3_image_sections.specs.Ranges.{containing, is_point_at}
use Rattle.m3_image.specs.Programs.{target_of, is_call}

-- a place that is a register, or a slot of a frame of so many words
abbrev pub IsInFrame : ℕ → ℕ → Type 0
IsInFrame frame l = l < frame + 16

-- the place and the path of a derived word, each kept by a fact
pub record EntryPlaces (P : ℕ → Type 0) (e : Entry) : Type 0 where
  pub location : P e.location
  pub path : (p : ℕ) → e.path ≡ Some p → P p

-- all places that a row names are in the frame of the procedure that its instruction is in
pub record RowInFrame (p : Program) (row frame : ℕ) : Type 0 where
  pub tidy : (l : ℕ) → is_tidy p.tables row l ≡ true → IsInFrame frame l
  pub arguments : (l : ℕ) → has (contents_in p.tables row).arguments l ≡ true → IsInFrame frame l
  pub passed : (l : ℕ) → has (contents_in p.tables row).passed l ≡ true → IsInFrame frame l
  pub derived : (n : ℕ) (e : Entry) → slice_get (contents_in p.tables row).derived n ≡ Some e → EntryPlaces (IsInFrame frame) e

-- no register is a tidy place, a formal that the caller describes, a derived word or a path
pub record RowSparesRegisters (p : Program) (row : ℕ) : Type 0 where
  pub tidy : (l : ℕ) → is_tidy p.tables row l ≡ true → 16 ≤ l
  pub passed : (l : ℕ) → has (contents_in p.tables row).passed l ≡ true → 16 ≤ l
  pub derived : (n : ℕ) (e : Entry) → slice_get (contents_in p.tables row).derived n ≡ Some e → EntryPlaces (λ l. 16 ≤ l) e

-- a row of a program: the procedure and the instruction that it is of, its form, its places in the frame, and the
-- registers that the row of a call leaves to the callee
pub record ProgramRow (p : Program) (row : ℕ) : Type 0 where
  pub home : ProcPart
  pub instr : Instr
  pub housed : containing p.procs (row_instruction p.tables row) ≡ Some home
  pub placed : slice_get p.code (row_instruction p.tables row) ≡ Some instr
  pub form : RowKept p.tables row
  pub in_frame : RowInFrame p row home.frame
  pub spared : is_call instr.op ≡ true → RowSparesRegisters p row

-- a jump stays in the procedure that it is in
pub record JumpStays (p : Program) (pc : ℕ) (i : Instr) : Type 0 where
  pub home : ProcPart
  pub to : ℕ
  pub housed : containing p.procs pc ≡ Some home
  pub target : i.imm ≡ pos to
  pub from_first : home.first ≤ to
  pub to_last : to < home.first + home.count

-- what every program that was read keeps: each instruction is in a procedure, jumps stay in theirs, each point
-- instruction has a row and no other has one, and what each row keeps
pub record IsSoundProgram (p : Program) : Type 0 where
  pub covered : (pc : ℕ) → containing p.procs pc ≡ None → length p.code ≤ pc
  pub jumps : (pc : ℕ) (i : Instr) → slice_get p.code pc ≡ Some i → target_of i.op ≡ Jump → JumpStays p pc i
  pub points : (pc : ℕ) → is_point_at p.code pc ≡ true → (row : ℕ) × (row < word_in p.tables) × (row_instruction p.tables row ≡ pc)
  pub only_points : (row : ℕ) → row < word_in p.tables → is_point_at p.code (row_instruction p.tables row) ≡ true
  pub rows : (row : ℕ) → row < word_in p.tables → ProgramRow p row
