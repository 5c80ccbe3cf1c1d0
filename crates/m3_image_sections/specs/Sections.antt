-- How an image is cut into its sections.
use Rattle.std.specs.Prelude.{ℕ, nat_lt, ◌==◌, ◌||◌, if◌then◌else◌, List, [], ◌∷◌, length, drop, Option, Some, None, Result, Ok, Err}
use Rattle.byteorder.specs.Endian.{little_number}
use Rattle.m3_tables.specs.Numbers.{word_in}
use Rattle.m3_tables.specs.Fields.{◌>>=◌}
use Rattle.m3_image_sections.specs.declared.refusal.ImageRefusal.{ImageRefusal}
use Rattle.m3_image_sections.specs.declared.refusal.ImageRefusal.TheVariants.{Short, Magic, Version, Rest}
use Rattle.m3_image_sections.specs.Fields.{text_at}

-- the bytes of each section; the ninth is there in version 2 alone
pub record Sections : Type 0 where
  pub version : ℕ
  pub code : List ℕ
  pub procs : List ℕ
  pub types : List ℕ
  pub globals : List ℕ
  pub constants : List ℕ
  pub places : List ℕ
  pub exceptions : List ℕ
  pub tables : List ℕ
  pub variables : Option (List ℕ)

-- the ninth section of a version
unfoldable pub ninth_at : ℕ → List ℕ → Option (Option (List ℕ) × List ℕ)
ninth_at version bytes =
    if version == 2 then (text_at bytes >>= λ found. Some (Some found.0, found.1)) else Some (None, bytes)

-- the sections, and the bytes after them
unfoldable pub sections_at : ℕ → List ℕ → Option (Sections × List ℕ)
sections_at version bytes = do
  code ← text_at bytes
  procs ← text_at code.1
  types ← text_at procs.1
  globals ← text_at types.1
  constants ← text_at globals.1
  places ← text_at constants.1
  exceptions ← text_at places.1
  tables ← text_at exceptions.1
  variables ← ninth_at version tables.1
  Some (
    record {
      version = version;
      code = code.0;
      procs = procs.0;
      types = types.0;
      globals = globals.0;
      constants = constants.0;
      places = places.0;
      exceptions = exceptions.0;
      tables = tables.0;
      variables = variables.0;
    },
    variables.1,
  )

-- the four bytes M3IM, as a number
abbrev pub magic : ℕ
magic = little_number 4 (77 ∷ 51 ∷ 73 ∷ 77 ∷ [])

-- what was cut, where nothing is missing and nothing is left
abbrev pub all_of : Option (Sections × List ℕ) → Result Sections ImageRefusal
all_of None = Err Short
all_of (Some cut) = if length cut.1 == 0 then Ok cut.0 else Err Rest

-- the bytes M3IM, the version, and the sections behind their lengths
unfoldable pub sections_of : List ℕ → Result Sections ImageRefusal
sections_of bytes =
    if nat_lt (length bytes) 4
    then Err Short
    else if word_in bytes == magic
    then if nat_lt (length bytes) 8
    then Err Short
    else if word_in (drop 4 bytes) == 1 || word_in (drop 4 bytes) == 2
    then all_of (sections_at (word_in (drop 4 bytes)) (drop 8 bytes))
    else Err Version
    else Err Magic
