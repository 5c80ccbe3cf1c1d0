-- What the parts of an image say, as its reader sees it.
use Rattle.std.specs.Prelude.{ℕ, List, [], map, Option, Some, None}
use Rattle.std.specs.Global.{Vec}
use Rattle.m3_tables.specs.declared.place.Location.{Location}
use Rattle.m3_tables_writer.specs.Plain.{place_number}
use Rattle.m3_image_sections.specs.Parts.{CellType, Globals, Places, Variable, Program, Image}
use Rattle.m3_image_writer.specs.declared.parts.TypePart.{TypePart}
use Rattle.m3_image_writer.specs.declared.parts.GlobalPart.{GlobalPart}
use Rattle.m3_image_writer.specs.declared.parts.PlacePart.{PlacePart}
use Rattle.m3_image_writer.specs.declared.parts.VarPart.{VarPart}
use Rattle.m3_image_writer.specs.declared.parts.ImageParts.{ImageParts}

abbrev pub cell_type : TypePart → CellType
cell_type t =
    record { kind = t.kind; parent = t.parent; words = t.words; dims = t.dims; methods = t.methods.items; pointers = t.pointers.items }

abbrev pub globals_of : GlobalPart → Globals
globals_of g = record { words = g.words; pointers = g.pointers.items }

abbrev pub places_of : PlacePart → Places
places_of p = record { files = p.files.items; places = p.places.items }

-- an instruction, and the number of a place
abbrev pub span_of : ℕ × Location → ℕ × ℕ
span_of span = (span.0, place_number span.1)

abbrev pub variable_of : VarPart → Variable
variable_of v = record { proc = v.proc; word = v.word; name = v.name; form = v.form; spans = map span_of v.spans.items }

-- all but the variables
abbrev pub program_of_parts : ImageParts → Program
program_of_parts p =
    record {
      code = p.code.items;
      procs = p.procs.items;
      types = map cell_type p.types.items;
      globals = globals_of p.globals;
      constants = p.constants.items;
      files = p.places.files.items;
      places = p.places.places.items;
      exceptions = p.exceptions.items;
      tables = p.tables.items;
    }

-- without variables the version is 1, with them it is 2
abbrev pub version_of : Option (Vec VarPart) → ℕ
version_of None = 1
version_of (Some variables) = 2

abbrev pub variables_of_parts : Option (Vec VarPart) → List Variable
variables_of_parts None = []
variables_of_parts (Some variables) = map variable_of variables.items

abbrev pub image_of : ImageParts → Image
image_of p = record { version = version_of p.variables; program = program_of_parts p; variables = variables_of_parts p.variables }
