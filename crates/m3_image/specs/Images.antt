-- The grammar of an image: what its bytes say, or the first condition that they meet for which they are
-- refused.
use Rattle.std.specs.Prelude.{◌≡◌, IsTrue, ℕ, List, [], length, Option, Some, None, Result, Ok, Err}
use Rattle.std.specs.List.{list_all}
use Rattle.m3_image_sections.specs.declared.refusal.ImageRefusal.{ImageRefusal}
use Rattle.m3_image_sections.specs.Parts.{Program, Image, Variable, procs_at, types_at, globals_at, constants_at, places_at, names_at, variables_at}
use Rattle.m3_image_sections.specs.Sections.{Sections, sections_of}
use Rattle.m3_image_sections.specs.Forms.{procs_fit, types_fit, globals_fit, places_fit}
use Rattle.m3_image_sections.specs.Reading.{◌>>=◌, whole, any, code_of}
use Rattle.m3_image.specs.Programs.{fault_of, variable_fits}

-- ---- the whole

-- each section by itself: the second to the seventh, and then the code
unfoldable pub program_of : Sections → Result Program ImageRefusal
program_of s = do
  procs ← whole 2 procs_fit (procs_at s.procs)
  types ← whole 3 (types_fit (length procs)) (types_at s.types)
  globals ← whole 4 globals_fit (globals_at s.globals)
  constants ← whole 5 any (constants_at s.constants)
  places ← whole 6 places_fit (places_at s.places)
  exceptions ← whole 7 any (names_at s.exceptions)
  code ← code_of s.code
  Ok (record {
    code = code;
    procs = procs;
    types = types;
    globals = globals;
    constants = constants;
    files = places.files;
    places = places.places;
    exceptions = exceptions;
    tables = s.tables;
  })

abbrev pub unless : {A : Type 0} → Option ImageRefusal → A → Result A ImageRefusal
unless None x = Ok x
unless (Some e) x = Err e

unfoldable pub variables_of : Program → Option (List ℕ) → Result (List Variable) ImageRefusal
variables_of p None = Ok []
variables_of p (Some section) = whole 9 (list_all (variable_fits p)) (variables_at section)

-- the sections, then each by itself, then what they say of each other, then the variables
unfoldable pub read_of : List ℕ → Result Image ImageRefusal
read_of bytes = do
  sections ← sections_of bytes
  program ← program_of sections
  sound ← unless (fault_of program) program
  variables ← variables_of sound sections.variables
  Ok (record { version = sections.version; program = sound; variables = variables })

-- what every image that is read keeps
pub record IsImage (i : Image) : Type 0 where
  pub procs : IsTrue (procs_fit i.program.procs)
  pub types : IsTrue (types_fit (length i.program.procs) i.program.types)
  pub globals : IsTrue (globals_fit i.program.globals)
  pub places : IsTrue (places_fit (record { files = i.program.files; places = i.program.places }))
  pub sound : fault_of i.program ≡ None
  pub variables : IsTrue (list_all (variable_fits i.program) i.variables)
