-- What the sections of an image hold, and how each is read from its bytes.
use Rattle.std.specs.Prelude.{ℕ, ◌*◌, ◌/◌, List, length, drop, Option, Some}
use Rattle.m3_tables.specs.Numbers.{word_in}
use Rattle.m3_tables.specs.Fields.{◌>>=◌, word_at, list_at}
use Rattle.m3_isa.specs.declared.instructions.Instr.{Instr}
use Rattle.m3_image_sections.specs.declared.procs.ProcPart.{ProcPart}
use Rattle.m3_image_sections.specs.Fields.{long_in, byte_at, text_at, each, counted_at, many_at, all_at}

-- a type of cells: its kind (0 fixed, 1 open, 2 text), its parent, the words of a fixed cell or of an open
-- cell's element, the open dimensions, the methods (a procedure's number and 1, or 0 for none) and the
-- offsets of the pointers
pub record CellType : Type 0 where
  pub kind : ℕ
  pub parent : ℕ
  pub words : ℕ
  pub dims : ℕ
  pub methods : List ℕ
  pub pointers : List ℕ

-- how many words the globals have, and which of them are pointers
pub record Globals : Type 0 where
  pub words : ℕ
  pub pointers : List ℕ

-- the names of files, and the places in them: each a file's number and a line
pub record Places : Type 0 where
  pub files : List (List ℕ)
  pub places : List (ℕ × ℕ)

-- a variable that is shown: its procedure, or the greatest number for a global; the word of a global;
-- its name; its form (0 ordinal, 1 reference); and its spans: an instruction, and the number of the place
-- where the variable is while a thread stands there
pub record Variable : Type 0 where
  pub proc : ℕ
  pub word : ℕ
  pub name : List ℕ
  pub form : ℕ
  pub spans : List (ℕ × ℕ)

-- all that is carried out
pub record Program : Type 0 where
  pub code : List Instr
  pub procs : List ProcPart
  pub types : List CellType
  pub globals : Globals
  pub constants : List ℕ
  pub files : List (List ℕ)
  pub places : List (ℕ × ℕ)
  pub exceptions : List (List ℕ)
  pub tables : List ℕ

-- a whole image
pub record Image : Type 0 where
  pub version : ℕ
  pub program : Program
  pub variables : List Variable

-- ---- reading

abbrev pub proc_in : List ℕ → ProcPart
proc_in bytes =
    record { first = word_in bytes; count = word_in (drop 4 bytes); body = word_in (drop 8 bytes); frame = word_in (drop 12 bytes) }

unfoldable pub procs_at : List ℕ → Option (List ProcPart × List ℕ)
procs_at bytes = Some (each 16 proc_in (length bytes / 16) bytes, drop (16 * (length bytes / 16)) bytes)

unfoldable pub type_at : List ℕ → Option (CellType × List ℕ)
type_at bytes = do
  kind ← word_at bytes
  parent ← word_at kind.1
  words ← word_at parent.1
  dims ← word_at words.1
  methods ← list_at dims.1
  pointers ← list_at methods.1
  Some (record { kind = kind.0; parent = parent.0; words = words.0; dims = dims.0; methods = methods.0; pointers = pointers.0 }, pointers.1)

unfoldable pub types_at : List ℕ → Option (List CellType × List ℕ)
types_at bytes = Some (all_at type_at bytes)

unfoldable pub globals_at : List ℕ → Option (Globals × List ℕ)
globals_at bytes = do
  words ← word_at bytes
  pointers ← list_at words.1
  Some (record { words = words.0; pointers = pointers.0 }, pointers.1)

abbrev pub constants_at : List ℕ → Option (List ℕ × List ℕ)
constants_at bytes = counted_at 8 long_in bytes

-- two numbers, as a file and a line, or an instruction and a location
abbrev pub pair_in : List ℕ → ℕ × ℕ
pair_in bytes = (word_in bytes, word_in (drop 4 bytes))

unfoldable pub places_at : List ℕ → Option (Places × List ℕ)
places_at bytes = do
  files ← many_at text_at bytes
  places ← counted_at 8 pair_in files.1
  Some (record { files = files.0; places = places.0 }, places.1)

abbrev pub names_at : List ℕ → Option (List (List ℕ) × List ℕ)
names_at bytes = many_at text_at bytes

unfoldable pub variable_at : List ℕ → Option (Variable × List ℕ)
variable_at bytes = do
  proc ← word_at bytes
  word ← word_at proc.1
  name ← text_at word.1
  form ← byte_at name.1
  spans ← counted_at 8 pair_in form.1
  Some (record { proc = proc.0; word = word.0; name = name.0; form = form.0; spans = spans.0 }, spans.1)

abbrev pub variables_at : List ℕ → Option (List Variable × List ℕ)
variables_at bytes = many_at variable_at bytes
