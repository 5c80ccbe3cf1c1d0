-- The bytes of the section of the variables.
use Rattle.std.specs.Prelude.{ℕ, List, ◌∷◌, ◌++◌, length}
use Rattle.std.specs.List.{flat_map}
use Rattle.m3_tables.specs.declared.place.Location.{Location}
use Rattle.m3_tables_writer.specs.Plain.{place_number}
use Rattle.m3_tables_writer.specs.Writing.{word_bytes}
use Rattle.m3_image_writer.specs.declared.parts.VarPart.{VarPart}
use Rattle.m3_image_writer.specs.Fields.{text_bytes}

-- an instruction, and the number of a place
unfoldable pub span_bytes : ℕ × Location → List ℕ
span_bytes span = word_bytes span.0 ++ word_bytes (place_number span.1)

unfoldable pub var_bytes : VarPart → List ℕ
var_bytes v =
    word_bytes v.proc ++ (word_bytes v.word ++ (text_bytes v.name ++ (v.form ∷ (word_bytes (length v.spans.items) ++ flat_map span_bytes v.spans.items))))

unfoldable pub variables_bytes : List VarPart → List ℕ
variables_bytes variables = word_bytes (length variables) ++ flat_map var_bytes variables
