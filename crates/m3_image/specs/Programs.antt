-- What a program whose sections have their form has to keep besides, in the order in which it is tested.
use Rattle.std.specs.Prelude.{ℕ, ℤ, pos, negsuc, ◌+◌, ◌^◌, nat_lt, nat_eq, ◌==◌, Bool, true, false, not, ◌&&◌, ◌||◌, if◌then◌else◌, length, drop, map, Option, Some}
use Rattle.std.specs.Option.{option_map, option_map_or}
use Rattle.std.specs.List.{slice_get, list_all}
use Rattle.std.specs.Cmp.Lexicographic.{pointwise}
use Rattle.m3_tables.specs.Numbers.{word_in, rises}
use Rattle.m3_tables.specs.Sections.{directory_fault, end_fault, is_good, is_within, spares_registers, instruction_in as row_instruction}
use Rattle.m3_isa.specs.declared.instructions.Instr.{Instr}
use Rattle.m3_isa.specs.declared.instructions.Op.{Op}
use Rattle.m3_isa.specs.declared.instructions.Op.TheVariants as op
use Rattle.m3_image_sections.specs.declared.procs.ProcPart.{ProcPart}
use Rattle.m3_image_sections.specs.declared.refusal.ImageRefusal.{ImageRefusal}
use Rattle.m3_image_sections.specs.declared.refusal.ImageRefusal.TheVariants as refusal
use Rattle.m3_image.specs.declared.targets.Target.{Target}
use Rattle.m3_image.specs.declared.targets.Target.TheVariants as target
use Rattle.m3_image_sections.specs.Fields.{each}
use Rattle.m3_image_sections.specs.Parts.{Variable, Program}
use Rattle.m3_image_sections.specs.Forms.{none}
use Rattle.m3_image_sections.specs.Ranges.{or_else, first_failing, is_point_at, end_from, containing, contains, points_from}

-- ---- the code and its procedures

-- whether a procedure is there and begins with a point instruction
abbrev pub begins_with_point : Program → ℕ → Bool
begins_with_point p number = option_map_or (λ q. is_point_at p.code q.first) (slice_get p.procs number) false

-- the procedures have all of the code, and those that threads begin with begin with points
unfoldable pub procs_suit : Program → Bool
procs_suit p = end_from 0 p.procs == length p.code && (begins_with_point p 0 && begins_with_point p 1)

-- ---- targets

-- what the number of an instruction names
abbrev pub target_of : Op → Target
target_of op.Con = target.Constant
target_of op.Glb = target.Global
target_of op.Slot = target.Slot
target_of op.Lds = target.Slot
target_of op.Sts = target.Slot
target_of op.Addo = target.Jump
target_of op.Subo = target.Jump
target_of op.Mulo = target.Jump
target_of op.Divf = target.Jump
target_of op.Modf = target.Jump
target_of op.Divu = target.Jump
target_of op.Modu = target.Jump
target_of op.Jmp = target.Jump
target_of op.Bz = target.Jump
target_of op.Bnz = target.Jump
target_of op.Blt = target.Jump
target_of op.Bltu = target.Jump
target_of op.Beq = target.Jump
target_of op.Call = target.Procedure
target_of op.Callm = target.Method
target_of op.Meth = target.Method
target_of op.Subt = target.Type
target_of op.New = target.Type
target_of op.Newo = target.Type
target_of op.Fault = target.Place
target_of op.Tsub = target.Register
target_of op.Join = target.Jump
target_of op.Rel = target.Jump
target_of op.Wait = target.Jump
target_of op.Await = target.Jump
target_of op.Ajoin = target.Jump
target_of op.Getc = target.Jump
target_of _ = target.Nothing

-- from 0 on and below a limit
abbrev pub is_below : ℕ → ℤ → Bool
is_below limit (pos n) = nat_lt n limit
is_below limit (negsuc n) = false

-- The number names what is there. A jump stays in its procedure. A method's number and a slot's may be any from
-- 0 on. A fault has one of sixteen kinds.
abbrev pub names : Program → ℕ → Instr → Target → Bool
names p pc i target.Jump = option_map_or (λ q. contains q i.imm) (containing p.procs pc) false
names p pc i target.Procedure = is_below (length p.procs) i.imm
names p pc i target.Constant = is_below (length p.constants) i.imm
names p pc i target.Global = is_below p.globals.words i.imm
names p pc i target.Type = is_below (length p.types) i.imm
names p pc i target.Place = is_below (length p.places) i.imm && nat_lt i.a 16
names p pc i target.Method = is_below (2 ^ 31) i.imm
names p pc i target.Slot = is_below (2 ^ 31) i.imm
names p pc i target.Register = is_below 16 i.imm
names p pc i target.Nothing = true

abbrev pub target_fits : Program → ℕ → Bool
target_fits p pc = option_map_or (λ i. names p pc i (target_of i.op)) (slice_get p.code pc) true

-- ---- the tables

-- the directory has the point instructions, in the order of the code
unfoldable pub lists_points : Program → Bool
lists_points p = pointwise nat_eq (each 8 word_in (word_in p.tables) (drop 4 p.tables)) (points_from 0 p.code)

abbrev pub is_call : Op → Bool
is_call op.Call = true
is_call op.Callr = true
is_call op.Callm = true
is_call _ = false

-- The slots of a row are in its frame, and the row of a call leaves the registers to the callee.
abbrev pub row_suits : Program → ℕ → Bool
row_suits p row =
    option_map_or (λ q. is_within p.tables row q.frame) (containing p.procs (row_instruction p.tables row)) false
    && option_map_or (λ i. not (is_call i.op) || spares_registers p.tables row) (slice_get p.code (row_instruction p.tables row)) false

abbrev pub row_fits : Program → ℕ → Bool
row_fits p row = is_good p.tables row && row_suits p row

-- the directory, then the rows in order, then bytes after them
unfoldable pub tables_fault : Program → Option ℕ
tables_fault p =
    or_else (directory_fault p.tables) (
    if lists_points p
    then or_else (first_failing (row_fits p) (word_in p.tables)) (end_fault p.tables)
    else Some (word_in p.tables))

-- ---- all of a program

unfoldable pub fault_of : Program → Option ImageRefusal
fault_of p =
    if procs_suit p
    then or_else (option_map refusal.Target (first_failing (target_fits p) (length p.code))) (option_map refusal.Table (tables_fault p))
    else Some (refusal.Section 2)

-- ---- variables

-- a span is at a point instruction of the procedure, in a register or in a slot of its frame
abbrev pub span_fits : Program → ProcPart → ℕ × ℕ → Bool
span_fits p q s =
    (is_point_at p.code s.0 && contains q (pos s.0)) && nat_lt s.1 (q.frame + 16)

-- the spans rise, and each is good
abbrev pub local_fits : Program → Variable → ProcPart → Bool
local_fits p v q = v.word == 0 && (rises (map (λ s. s.0) v.spans) && list_all (span_fits p q) v.spans)

-- a global has a word and no spans
abbrev pub owner_fits : Program → Variable → Bool
owner_fits p v =
    if v.proc == none
    then nat_lt v.word p.globals.words && length v.spans == 0
    else option_map_or (local_fits p v) (slice_get p.procs v.proc) false

abbrev pub variable_fits : Program → Variable → Bool
variable_fits p v = nat_lt v.form 2 && owner_fits p v
