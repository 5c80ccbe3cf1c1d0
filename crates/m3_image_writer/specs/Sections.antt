-- The bytes of the sections of an image, all but those of the tables and of the variables.
use Rattle.std.specs.Prelude.{ℕ, List, ◌++◌, length}
use Rattle.std.specs.List.{flat_map}
use Rattle.m3_isa.specs.declared.instructions.Instr.{Instr}
use Rattle.m3_isa.specs.CodeBytes.{bytes_of}
use Rattle.m3_tables_writer.specs.Writing.{word_bytes, list_bytes}
use Rattle.m3_image_sections.specs.declared.procs.ProcPart.{ProcPart}
use Rattle.m3_image_writer.specs.declared.parts.TypePart.{TypePart}
use Rattle.m3_image_writer.specs.declared.parts.GlobalPart.{GlobalPart}
use Rattle.m3_image_writer.specs.declared.parts.PlacePart.{PlacePart}
use Rattle.m3_image_writer.specs.Fields.{long_bytes, text_bytes, place_bytes}

unfoldable pub code_bytes : List Instr → List ℕ
code_bytes code = flat_map bytes_of code

unfoldable pub proc_bytes : ProcPart → List ℕ
proc_bytes p = word_bytes p.first ++ (word_bytes p.count ++ (word_bytes p.body ++ word_bytes p.frame))

unfoldable pub procs_bytes : List ProcPart → List ℕ
procs_bytes procs = flat_map proc_bytes procs

unfoldable pub type_bytes : TypePart → List ℕ
type_bytes t =
    word_bytes t.kind ++ (word_bytes t.parent ++ (word_bytes t.words ++ (word_bytes t.dims ++ (list_bytes t.methods.items ++ list_bytes t.pointers.items))))

unfoldable pub types_bytes : List TypePart → List ℕ
types_bytes types = flat_map type_bytes types

unfoldable pub globals_bytes : GlobalPart → List ℕ
globals_bytes g = word_bytes g.words ++ list_bytes g.pointers.items

unfoldable pub constants_bytes : List ℕ → List ℕ
constants_bytes constants = word_bytes (length constants) ++ flat_map long_bytes constants

unfoldable pub places_bytes : PlacePart → List ℕ
places_bytes p =
    word_bytes (length p.files.items) ++ (flat_map text_bytes p.files.items ++ (word_bytes (length p.places.items) ++ flat_map place_bytes p.places.items))

unfoldable pub exceptions_bytes : List (List ℕ) → List ℕ
exceptions_bytes exceptions = word_bytes (length exceptions) ++ flat_map text_bytes exceptions
