-- What it is that bytes are read again.
use Rattle.std.specs.Prelude.{◌≡◌, ℕ, List, [], ◌++◌, length, map, Option, Some, Ok}
use Rattle.m3_image_sections.specs.Parts.{procs_at, types_at, globals_at, constants_at, places_at, names_at}
use Rattle.m3_image_sections.specs.Reading.{code_of}
use Rattle.m3_image_writer.specs.declared.parts.ImageParts.{ImageParts}
use Rattle.m3_image_writer.specs.Sections.{code_bytes, procs_bytes, types_bytes, globals_bytes, constants_bytes, places_bytes, exceptions_bytes}
use Rattle.m3_image_writer.specs.Views.{cell_type, globals_of, places_of}

-- the bytes are read as this, whatever follows them
abbrev pub Reads : {A : Type 0} → (List ℕ → Option (A × List ℕ)) → List ℕ → A → Type 0
Reads read bytes x = (rest : List ℕ) → read (bytes ++ rest) ≡ Some (x, rest)

-- the bytes are read as this, up to their end
abbrev pub ReadsAll : {A : Type 0} → (List ℕ → Option (A × List ℕ)) → List ℕ → A → Type 0
ReadsAll read bytes x = read bytes ≡ Some (x, [])

-- the bytes are so many, and are read as this, whatever follows them
pub record ReadsFixed {A : Type 0} (size : ℕ) (read : List ℕ → A) (bytes : List ℕ) (x : A) : Type 0 where
  pub size_is : length bytes ≡ size
  pub again : (rest : List ℕ) → read (bytes ++ rest) ≡ x

-- each section that every image has is read again as its part
pub record AreRead (p : ImageParts) : Type 0 where
  pub code : code_of (code_bytes p.code.items) ≡ Ok p.code.items
  pub procs : ReadsAll procs_at (procs_bytes p.procs.items) p.procs.items
  pub types : ReadsAll types_at (types_bytes p.types.items) (map cell_type p.types.items)
  pub globals : ReadsAll globals_at (globals_bytes p.globals) (globals_of p.globals)
  pub constants : ReadsAll constants_at (constants_bytes p.constants.items) p.constants.items
  pub places : ReadsAll places_at (places_bytes p.places) (places_of p.places)
  pub exceptions : ReadsAll names_at (exceptions_bytes p.exceptions.items) p.exceptions.items
