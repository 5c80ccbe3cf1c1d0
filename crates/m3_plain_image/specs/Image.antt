-- The image of a module of the plain form.
use Rattle.std.specs.Prelude.{ℕ, ◌-◌, ◌^◌, List, [], ◌∷◌, length, map}
use Rattle.m3_tables.specs.Rows.{nothing}
use Rattle.m3_tables_writer.specs.Plain.{Plain}
use Rattle.m3_tables_writer.specs.Writing.{table_bytes}
use Rattle.m3_image_sections.specs.declared.procs.ProcPart.{ProcPart}
use Rattle.m3_image_sections.specs.Parts.{CellType, Program, Image}
use Rattle.m3_image_sections.specs.Ranges.{points_from}
use Rattle.m3_plain.specs.Terms.{Term}
use Rattle.m3_plain_image.specs.Code.{body_code, plain_code, puts_lines}

-- a procedure, and the words of its frame
abbrev pub proc_of : ℕ → ℕ → ℕ → ProcPart
proc_of first count frame = record { first = first; count = count; body = 3; frame = frame }

-- the body, and what a thread would run
abbrev pub plain_procs : List Term → List ProcPart
plain_procs puts = proc_of 0 (length (body_code puts)) 3 ∷ proc_of (length (body_code puts)) 2 7 ∷ []

-- the types that every image has: texts, and the cells of threads
abbrev pub text_type : CellType
text_type = record { kind = 2; parent = 2 ^ 32 - 1; words = 0; dims = 0; methods = []; pointers = [] }

abbrev pub thread_type : CellType
thread_type = record { kind = 0; parent = 2 ^ 32 - 1; words = 4; dims = 0; methods = []; pointers = 3 ∷ [] }

-- no word at a point is a pointer
abbrev pub empty_row : ℕ → Plain
empty_row instr = record { instr = instr; tidy = []; contents = nothing }

abbrev pub plain_rows : List Term → List Plain
plain_rows puts = map empty_row (points_from 0 (plain_code puts))

-- a line of the one file
abbrev pub in_first_file : ℕ → ℕ × ℕ
in_first_file line = (0, line)

abbrev pub plain_program : List ℕ → List Term → Program
plain_program name puts = record {
  code = plain_code puts;
  procs = plain_procs puts;
  types = text_type ∷ thread_type ∷ [];
  globals = record { words = 4; pointers = [] };
  constants = [];
  files = name ∷ [];
  places = map in_first_file (puts_lines puts);
  exceptions = [];
  tables = table_bytes (plain_rows puts);
}

-- the image of what a file of this name puts, which has no variables to show
abbrev pub plain_image : List ℕ → List Term → Image
plain_image name puts = record { version = 2; program = plain_program name puts; variables = [] }
