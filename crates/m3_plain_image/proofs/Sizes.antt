-- How many bytes the tables and the image of a module of the plain form have.
use Rattle.std.proofs.Common.{◌≡◌, ℕ, zero, suc, ◌+◌, ◌*◌, ◌%◌, ◌^◌, ◌<◌, ◌≤◌, Bool, true, false, cond, List, [], ◌∷◌, ◌++◌, length, Option, None, Some, refl, sym, ap, ◌∙◌, arith, length-append}
use Rattle.std.specs.Prelude.{map, ◌==◌}
use Rattle.std.specs.List.{flat_map}
use Rattle.m3_isa.specs.CodeBytes.{bytes_of}
use Rattle.m3_isa.specs.Instructions.{is_point}
use Rattle.m3_isa.specs.declared.instructions.Instr.{Instr}
use Rattle.m3_tables_writer.specs.Plain.{Plain}
use Rattle.m3_tables_writer.specs.Writing.{word_bytes, list_bytes, contents_bytes, ground_bytes, after_bytes, row_bytes, body_bytes, table_bytes}
use Rattle.m3_tables_writer.proofs.WriteLemmas.{length-table_bytes}
use Rattle.m3_image_sections.specs.Parts.{Program}
use Rattle.m3_image_sections.specs.Ranges.{points_from}
use Rattle.m3_image_writer.specs.declared.parts.ImageParts.{ImageParts}
use Rattle.m3_image_writer.specs.Fields.{text_bytes, long_bytes, place_bytes}
use Rattle.m3_image_writer.specs.Sections.{code_bytes, proc_bytes, procs_bytes, constants_bytes, exceptions_bytes}
use Rattle.m3_image_writer.specs.Image.{image_bytes}
use Rattle.m3_image_writer.specs.Views.{image_of}
use Rattle.m3_image_writer.proofs.Lengths.{length-word_bytes, length-text_bytes, length-place_bytes}
use Rattle.m3_image_writer.proofs.ViewBytes.{type_view, variable_view, variables_view, fixed_view, image_view, same_image}
use Rattle.m3_plain.specs.Terms.{Term, all_nodes}
use Rattle.m3_plain_image.specs.Code.{body_code, thread_code, plain_code, puts_code, puts_size, puts_lines, puts_operators, faults_code}
use Rattle.m3_plain_image.specs.Image.{plain_procs, plain_program, plain_image, plain_rows, empty_row, text_type, thread_type, in_first_file}
use Rattle.m3_plain_image.proofs.CodeShape.{length-puts_code, length-puts_lines, length-faults_code, puts_size_le, operators_le}

-- ---- the code

pub code_small : (puts : List Term) → all_nodes puts ≤ 2000 → length (plain_code puts) ≤ 10004
code_small puts few =
    let main = puts_code (1 + puts_size puts) 0 puts in
    let behind = faults_code 0 (puts_operators puts) in
    omega (arith, few, puts_size_le puts, length-append (body_code puts) thread_code, length-append main behind, length-puts_code puts (1 + puts_size puts) 0, length-faults_code 0 (puts_operators puts))

code_bytes_small : (code : List Instr) → length (flat_map bytes_of code) ≡ 8 * length code
code_bytes_small [] = refl
code_bytes_small (i ∷ code) = omega (arith, length-append (bytes_of i) (flat_map bytes_of code), code_bytes_small code, eight i)
  where
    eight : (i : Instr) → length (bytes_of i) ≡ 8
    eight i = refl

-- ---- the rows

either_few : (n most : ℕ) (later : List ℕ) (b : Bool) → length later ≤ most → length (cond b (n ∷ later) later) ≤ suc most
either_few n most later true h = omega arith
either_few n most later false h = omega arith

points_few : (n : ℕ) (code : List Instr) → length (points_from n code) ≤ length code
points_few n [] = omega arith
points_few n (i ∷ code) = either_few n (length code) (points_from (suc n) code) (is_point i.op) (points_few (suc n) code)

-- before it stands nothing, or an empty row
abbrev before_of : Option ℕ → Option Plain
before_of None = None
before_of (Some m) = Some (empty_row m)

ground_small : (k : ℕ) → length (ground_bytes (empty_row k)) ≡ 17
unfolding ground_bytes contents_bytes list_bytes word_bytes
ground_small k = refl

after_small : (before : Option ℕ) (k : ℕ) → length (after_bytes (before_of before) (empty_row k)) ≤ 17
after_small None k = omega (arith, ground_small k)
after_small (Some m) k = omega arith

row_small : (n : ℕ) (before : Option ℕ) (k : ℕ) → length (row_bytes n (before_of before) (empty_row k)) ≤ 17
unfolding row_bytes
row_small n before k = by-place (n % 16 == 0)
  where
    by-place : (b : Bool) → length (cond b (ground_bytes (empty_row k)) (after_bytes (before_of before) (empty_row k))) ≤ 17
    by-place true = omega (arith, ground_small k)
    by-place false = after_small before k

body_small : (n : ℕ) (before : Option ℕ) (ks : List ℕ) → length (body_bytes n (before_of before) (map empty_row ks)) ≤ 17 * length ks
unfolding body_bytes
body_small n before [] = omega arith
body_small n before (k ∷ ks) =
    omega (arith, length-append (row_bytes n (before_of before) (empty_row k)) (body_bytes (suc n) (Some (empty_row k)) (map empty_row ks)), row_small n before k, body_small (suc n) (Some k) ks)

length_rows : (ks : List ℕ) → length (map empty_row ks) ≡ length ks
length_rows [] = refl
length_rows (k ∷ ks) = omega (arith, length_rows ks)

pub rows_small : (code : List Instr) → length code ≤ 10004 → length (table_bytes (map empty_row (points_from 0 code))) ≤ 250104
rows_small code few =
    let ks = points_from 0 code in
    omega (arith, length-table_bytes (map empty_row ks), length_rows ks, body_small 0 None ks, points_few 0 code)

-- ---- the image

lines_few : (lines : List ℕ) → length (map in_first_file lines) ≡ length lines
lines_few [] = refl
lines_few (line ∷ lines) = omega (arith, lines_few lines)

places_small : (places : List (ℕ × ℕ)) → length (flat_map place_bytes places) ≡ 8 * length places
places_small [] = refl
places_small (place ∷ places) = omega (arith, length-append (place_bytes place) (flat_map place_bytes places), length-place_bytes place, places_small places)

code_part : (puts : List Term) → all_nodes puts ≤ 2000 → length (text_bytes (code_bytes (plain_code puts))) ≤ 80036
unfolding code_bytes
code_part puts few = omega (arith, length-text_bytes (flat_map bytes_of (plain_code puts)), code_bytes_small (plain_code puts), code_small puts few)

procs_part : (puts : List Term) → length (text_bytes (procs_bytes (plain_procs puts))) ≡ 36
unfolding procs_bytes proc_bytes word_bytes text_bytes
procs_part puts = refl

types_part : length (text_bytes (flat_map type_view (text_type ∷ thread_type ∷ []))) ≡ 56
unfolding type_view list_bytes word_bytes text_bytes
types_part = refl

globals_part : length (text_bytes (word_bytes 4 ++ list_bytes [])) ≡ 12
unfolding list_bytes word_bytes text_bytes
globals_part = refl

constants_part : length (text_bytes (constants_bytes [])) ≡ 8
unfolding constants_bytes word_bytes text_bytes
constants_part = refl

exceptions_part : length (text_bytes (exceptions_bytes [])) ≡ 8
unfolding exceptions_bytes word_bytes text_bytes
exceptions_part = refl

variables_part : length (text_bytes (variables_view [])) ≡ 8
unfolding variables_view word_bytes text_bytes
variables_part = refl

abbrev places_view : List ℕ → List (ℕ × ℕ) → List ℕ
places_view name places = word_bytes 1 ++ ((text_bytes name ++ []) ++ (word_bytes (length places) ++ flat_map place_bytes places))

places_part : (name : List ℕ) (puts : List Term) → all_nodes puts ≤ 2000 → length name ≤ 2 ^ 31 → length (text_bytes (places_view name (map in_first_file (puts_lines puts)))) ≤ 2 ^ 31 + 16016
places_part name puts few short =
    let places = map in_first_file (puts_lines puts) in
    let tail = word_bytes (length places) ++ flat_map place_bytes places in
    let names = text_bytes name ++ [] in
    omega (
      arith,
      few,
      short,
      length-text_bytes (places_view name places),
      length-append (word_bytes 1) (names ++ tail),
      length-word_bytes 1,
      length-append names tail,
      length-append (text_bytes name) [],
      length-text_bytes name,
      length-append (word_bytes (length places)) (flat_map place_bytes places),
      length-word_bytes (length places),
      places_small places,
      lines_few (puts_lines puts),
      length-puts_lines puts,
      operators_le puts,
    )

fixed_small : (name : List ℕ) (puts : List Term) → all_nodes puts ≤ 2000 → length name ≤ 2 ^ 31 → length (fixed_view (plain_program name puts)) ≤ 2 ^ 31 + 400000
unfolding fixed_view
fixed_small name puts few short =
    let a = text_bytes (code_bytes (plain_code puts)) in
    let b = text_bytes (procs_bytes (plain_procs puts)) in
    let c = text_bytes (flat_map type_view (text_type ∷ thread_type ∷ [])) in
    let d = text_bytes (word_bytes 4 ++ list_bytes []) in
    let e = text_bytes (constants_bytes []) in
    let f = text_bytes (places_view name (map in_first_file (puts_lines puts))) in
    let g = text_bytes (exceptions_bytes []) in
    let h = text_bytes (table_bytes (plain_rows puts)) in
    omega (
      arith,
      length-append a (b ++ (c ++ (d ++ (e ++ (f ++ (g ++ h)))))),
      length-append b (c ++ (d ++ (e ++ (f ++ (g ++ h))))),
      length-append c (d ++ (e ++ (f ++ (g ++ h)))),
      length-append d (e ++ (f ++ (g ++ h))),
      length-append e (f ++ (g ++ h)),
      length-append f (g ++ h),
      length-append g h,
      code_part puts few,
      procs_part puts,
      types_part,
      globals_part,
      constants_part,
      places_part name puts few short,
      exceptions_part,
      length-text_bytes (table_bytes (plain_rows puts)),
      rows_small (plain_code puts) (code_small puts few),
    )

view_small : (name : List ℕ) (puts : List Term) → all_nodes puts ≤ 2000 → length name ≤ 2 ^ 31 → length (image_view (plain_image name puts)) ≤ 4294967295
unfolding image_view
view_small name puts few short =
    let fixed = fixed_view (plain_program name puts) in
    let variables = text_bytes (variables_view []) in
    omega (arith, length-append (word_bytes 2) (fixed ++ variables), length-word_bytes 2, length-append fixed variables, fixed_small name puts few short, variables_part)

pub image_small : (p : ImageParts) (name : List ℕ) (puts : List Term) → image_of p ≡ plain_image name puts → all_nodes puts ≤ 2000 → length name ≤ 2 ^ 31 → length (image_bytes p) ≤ 4294967295
image_small p name puts e few short = let same = ap length (same_image p ∙ ap image_view e) in omega (arith, same, view_small name puts few short)
