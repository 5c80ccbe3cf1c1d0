-- The bytes of an image: four that say that it is one, the version, and the sections in their order.
use Rattle.std.specs.Prelude.{ℕ, List, [], ◌∷◌, ◌++◌, Option, Some, None}
use Rattle.std.specs.Global.{Vec}
use Rattle.m3_tables_writer.specs.Writing.{word_bytes}
use Rattle.m3_image_writer.specs.declared.parts.VarPart.{VarPart}
use Rattle.m3_image_writer.specs.declared.parts.ImageParts.{ImageParts}
use Rattle.m3_image_writer.specs.Fields.{text_bytes}
use Rattle.m3_image_writer.specs.Sections.{code_bytes, procs_bytes, types_bytes, globals_bytes, constants_bytes, places_bytes, exceptions_bytes}
use Rattle.m3_image_writer.specs.Variables.{variables_bytes}

-- the sections that each image has
unfoldable pub fixed_bytes : ImageParts → List ℕ
fixed_bytes p =
    text_bytes (code_bytes p.code.items)
    ++ (text_bytes (procs_bytes p.procs.items)
    ++ (text_bytes (types_bytes p.types.items)
    ++ (text_bytes (globals_bytes p.globals)
    ++ (text_bytes (constants_bytes p.constants.items)
    ++ (text_bytes (places_bytes p.places)
    ++ (text_bytes (exceptions_bytes p.exceptions.items) ++ text_bytes p.tables.items))))))

-- version 1 has no variables, and version 2 has them in a section of their own
abbrev pub versioned : List ℕ → Option (Vec VarPart) → List ℕ
versioned fixed None = word_bytes 1 ++ fixed
versioned fixed (Some variables) = word_bytes 2 ++ (fixed ++ text_bytes (variables_bytes variables.items))

-- M3IM, the version and the sections
unfoldable pub image_bytes : ImageParts → List ℕ
image_bytes p = (77 ∷ 51 ∷ 73 ∷ 77 ∷ []) ++ versioned (fixed_bytes p) p.variables
