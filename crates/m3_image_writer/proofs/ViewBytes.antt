-- The bytes of an image by what its reader sees: how long they are is known from that alone.
use Rattle.std.proofs.Common.{◌≡◌, ℕ, cond, eqb, List, [], ◌∷◌, ◌++◌, length, Option, Some, None, refl, ap}
use Rattle.std.specs.Prelude.{map}
use Rattle.std.specs.Global.{Vec}
use Rattle.std.specs.List.{flat_map}
use Rattle.std.proofs.lemmas.List.{length-map}
use Rattle.m3_tables.specs.declared.place.Location.{Location}
use Rattle.m3_tables_writer.specs.Writing.{word_bytes, list_bytes}
use Rattle.m3_image_sections.specs.Parts.{CellType, Program, Variable, Image}
use Rattle.m3_image_writer.specs.declared.parts.TypePart.{TypePart}
use Rattle.m3_image_writer.specs.declared.parts.VarPart.{VarPart}
use Rattle.m3_image_writer.specs.declared.parts.ImageParts.{ImageParts}
use Rattle.m3_image_writer.specs.Fields.{text_bytes, place_bytes}
use Rattle.m3_image_writer.specs.Sections.{code_bytes, procs_bytes, type_bytes, types_bytes, globals_bytes, constants_bytes, places_bytes, exceptions_bytes}
use Rattle.m3_image_writer.specs.Variables.{span_bytes, var_bytes, variables_bytes}
use Rattle.m3_image_writer.specs.Image.{fixed_bytes, versioned, image_bytes}
use Rattle.m3_image_writer.specs.Views.{cell_type, span_of, variable_of, program_of_parts, version_of, variables_of_parts, image_of}

unfoldable pub type_view : CellType → List ℕ
type_view t =
    word_bytes t.kind ++ (word_bytes t.parent ++ (word_bytes t.words ++ (word_bytes t.dims ++ (list_bytes t.methods ++ list_bytes t.pointers))))

unfoldable pub variable_view : Variable → List ℕ
variable_view v =
    word_bytes v.proc ++ (word_bytes v.word ++ (text_bytes v.name ++ (v.form ∷ (word_bytes (length v.spans) ++ flat_map place_bytes v.spans))))

unfoldable pub variables_view : List Variable → List ℕ
variables_view variables = word_bytes (length variables) ++ flat_map variable_view variables

unfoldable pub fixed_view : Program → List ℕ
fixed_view p =
    text_bytes (code_bytes p.code)
    ++ (text_bytes (procs_bytes p.procs)
    ++ (text_bytes (flat_map type_view p.types)
    ++ (text_bytes (word_bytes p.globals.words ++ list_bytes p.globals.pointers)
    ++ (text_bytes (constants_bytes p.constants)
    ++ (text_bytes (word_bytes (length p.files) ++ (flat_map text_bytes p.files ++ (word_bytes (length p.places) ++ flat_map place_bytes p.places)))
    ++ (text_bytes (exceptions_bytes p.exceptions) ++ text_bytes p.tables))))))

-- the bytes of an image that is seen so
unfoldable pub image_view : Image → List ℕ
image_view i =
    (77 ∷ 51 ∷ 73 ∷ 77 ∷ []) ++ cond (eqb i.version 1) (word_bytes 1 ++ fixed_view i.program) (word_bytes 2 ++ (fixed_view i.program ++ text_bytes (variables_view i.variables)))

same_types : (types : List TypePart) → types_bytes types ≡ flat_map type_view (map cell_type types)
unfolding types_bytes type_bytes type_view
same_types [] = refl
same_types (t ∷ types) = ap (λ (b : List ℕ). type_view (cell_type t) ++ b) (same_types types)

same_spans : (spans : List (ℕ × Location)) → flat_map span_bytes spans ≡ flat_map place_bytes (map span_of spans)
unfolding span_bytes place_bytes
same_spans [] = refl
same_spans (s ∷ spans) = ap (λ (b : List ℕ). place_bytes (span_of s) ++ b) (same_spans spans)

same_variable : (v : VarPart) → var_bytes v ≡ variable_view (variable_of v)
unfolding var_bytes variable_view
same_variable v = rw (same_spans v.spans.items, length-map v.spans.items span_of) refl

same_each : (variables : List VarPart) → flat_map var_bytes variables ≡ flat_map variable_view (map variable_of variables)
same_each [] = refl
same_each (v ∷ variables) = rw (same_variable v, same_each variables) refl

same_variables : (variables : List VarPart) → variables_bytes variables ≡ variables_view (map variable_of variables)
unfolding variables_bytes variables_view
same_variables variables = rw (same_each variables, length-map variables variable_of) refl

same_fixed : (p : ImageParts) → fixed_bytes p ≡ fixed_view (program_of_parts p)
unfolding fixed_bytes fixed_view globals_bytes places_bytes
same_fixed p = rw (same_types p.types.items) refl

same_versioned : (p : ImageParts) (variables : Option (Vec VarPart)) → versioned (fixed_bytes p) variables ≡ cond (eqb (version_of variables) 1) (word_bytes 1 ++ fixed_view (program_of_parts p)) (word_bytes 2 ++ (fixed_view (program_of_parts p) ++ text_bytes (variables_view (variables_of_parts variables))))
same_versioned p None = rw (same_fixed p) refl
same_versioned p (Some variables) = rw (same_fixed p, same_variables variables.items) refl

pub same_image : (p : ImageParts) → image_bytes p ≡ image_view (image_of p)
unfolding image_bytes image_view
same_image p = ap (λ (b : List ℕ). (77 ∷ 51 ∷ 73 ∷ 77 ∷ []) ++ b) (same_versioned p p.variables)
