-- How long what is written is: each part is no longer than the whole, and a list has no more items than its
-- bytes.
use Rattle.std.proofs.Common.{◌≡◌, ℕ, ◌+◌, ◌^◌, ◌<◌, ◌≤◌, List, [], ◌∷◌, ◌++◌, length, Option, None, Some, refl, arith, length-append}
use Rattle.std.specs.Global.{Vec}
use Rattle.std.specs.List.{flat_map, AllByRecursion}
use Rattle.m3_tables_writer.specs.Writing.{word_bytes, list_bytes}
use Rattle.m3_tables.specs.declared.place.Location.{Location}
use Rattle.m3_tables_writer.specs.Plain.{place_number}
use Rattle.m3_image_writer.specs.declared.parts.TypePart.{TypePart}
use Rattle.m3_image_writer.specs.declared.parts.PlacePart.{PlacePart}
use Rattle.m3_image_writer.specs.declared.parts.VarPart.{VarPart}
use Rattle.m3_image_writer.specs.declared.parts.ImageParts.{ImageParts}
use Rattle.m3_image_writer.specs.Fields.{long_bytes, text_bytes, place_bytes}
use Rattle.m3_image_writer.specs.Sections.{code_bytes, procs_bytes, type_bytes, types_bytes, globals_bytes, constants_bytes, places_bytes, exceptions_bytes}
use Rattle.m3_image_writer.specs.Variables.{span_bytes, var_bytes, variables_bytes}
use Rattle.m3_image_writer.specs.Image.{fixed_bytes, versioned, image_bytes}

pub length-word_bytes : (n : ℕ) → length (word_bytes n) ≡ 4
unfolding word_bytes
length-word_bytes n = refl

pub length-long_bytes : (n : ℕ) → length (long_bytes n) ≡ 8
unfolding long_bytes
length-long_bytes n = refl

-- a list has no more items than bytes, where each item has some
pub items_in : {A : Type 0} (f : A → List ℕ) (xs : List A) → ((x : A) → 1 ≤ length (f x)) → length xs ≤ length (flat_map f xs)
items_in f [] some = omega arith
items_in f (x ∷ xs) some = omega (arith, length-append (f x) (flat_map f xs), some x, items_in f xs some)

-- what is said of the length of all holds of each
pub each_below : {A : Type 0} (f : A → List ℕ) (xs : List A) (n : ℕ) → length (flat_map f xs) < n → AllByRecursion (λ x. length (f x) < n) xs
each_below f [] n lt = tt
each_below f (x ∷ xs) n lt =
    let l = length-append (f x) (flat_map f xs) in
    (omega arith, each_below f xs n (omega arith))

pub length-list_bytes : (ns : List ℕ) → length (list_bytes ns) ≡ 4 + length (flat_map word_bytes ns)
unfolding list_bytes
length-list_bytes ns = omega (arith, length-append (word_bytes (length ns)) (flat_map word_bytes ns), length-word_bytes (length ns))

pub list_count : (ns : List ℕ) → length ns ≤ length (list_bytes ns)
list_count ns = omega (arith, length-list_bytes ns, items_in word_bytes ns (λ n. omega (arith, length-word_bytes n)))

pub length-text_bytes : (text : List ℕ) → length (text_bytes text) ≡ 4 + length text
unfolding text_bytes
length-text_bytes text = omega (arith, length-append (word_bytes (length text)) text, length-word_bytes (length text))

pub length-place_bytes : (place : ℕ × ℕ) → length (place_bytes place) ≡ 8
unfolding place_bytes
length-place_bytes place = omega (arith, length-append (word_bytes place.0) (word_bytes place.1), length-word_bytes place.0, length-word_bytes place.1)

pub length-span_bytes : (span : ℕ × Location) → length (span_bytes span) ≡ 8
unfolding span_bytes
length-span_bytes span = omega (arith, length-append (word_bytes span.0) (word_bytes (place_number span.1)), length-word_bytes span.0, length-word_bytes (place_number span.1))

-- a list behind its count
pub counted : {A : Type 0} (f : A → List ℕ) (xs : List A) (n : ℕ) → ((x : A) → 1 ≤ length (f x)) → length (word_bytes (length xs) ++ flat_map f xs) < n → (length xs < n) × AllByRecursion (λ x. length (f x) < n) xs
counted f xs n some lt =
    let l = length-append (word_bytes (length xs)) (flat_map f xs) in
    let few = items_in f xs some in
    (omega arith, each_below f xs n (omega arith))

-- ---- the parts of a section

pub count_of_constants : (constants : List ℕ) → length constants ≤ length (constants_bytes constants)
unfolding constants_bytes
count_of_constants constants =
    let l = length-append (word_bytes (length constants)) (flat_map long_bytes constants) in
    omega (arith, items_in long_bytes constants (λ n. omega (arith, length-long_bytes n)))

-- texts behind their count
pub record AreShort (texts : List (List ℕ)) : Type 0 where
  pub count : length texts < 2 ^ 32
  pub each : AllByRecursion (λ text. length text < 2 ^ 32) texts

each_text_below : (texts : List (List ℕ)) (n : ℕ) → length (flat_map text_bytes texts) < n → AllByRecursion (λ text. length text < n) texts
each_text_below [] n lt = tt
each_text_below (text ∷ texts) n lt =
    let l = length-append (text_bytes text) (flat_map text_bytes texts) in
    let k = length-text_bytes text in
    (omega arith, each_text_below texts n (omega arith))

texts_short : (texts : List (List ℕ)) → length (flat_map text_bytes texts) < 2 ^ 32 → AreShort texts
texts_short texts lt =
    let few = items_in text_bytes texts (λ text. omega (arith, length-text_bytes text)) in
    record { count = omega arith; each = each_text_below texts (2 ^ 32) lt }

pub exceptions_short : (exceptions : List (List ℕ)) → length (exceptions_bytes exceptions) < 2 ^ 32 → AreShort exceptions
unfolding exceptions_bytes
exceptions_short exceptions lt =
    let l = length-append (word_bytes (length exceptions)) (flat_map text_bytes exceptions) in
    texts_short exceptions (omega arith)

pub files_short : (p : PlacePart) → length (places_bytes p) < 2 ^ 32 → AreShort p.files.items
unfolding places_bytes
files_short p lt =
    let files = flat_map text_bytes p.files.items in
    let places = word_bytes (length p.places.items) ++ flat_map place_bytes p.places.items in
    let l1 = length-append (word_bytes (length p.files.items)) (files ++ places) in
    let l2 = length-append files places in
    texts_short p.files.items (omega arith)

pub count_of_places : (p : PlacePart) → length p.places.items ≤ length (places_bytes p)
unfolding places_bytes
count_of_places p =
    let files = flat_map text_bytes p.files.items in
    let places = word_bytes (length p.places.items) ++ flat_map place_bytes p.places.items in
    let l1 = length-append (word_bytes (length p.files.items)) (files ++ places) in
    let l2 = length-append files places in
    let l3 = length-append (word_bytes (length p.places.items)) (flat_map place_bytes p.places.items) in
    let few = items_in place_bytes p.places.items (λ place. omega (arith, length-place_bytes place)) in
    omega arith

pub count_of_spans : (v : VarPart) → length v.spans.items ≤ length (var_bytes v)
unfolding var_bytes
count_of_spans v =
    let spans = word_bytes (length v.spans.items) ++ flat_map span_bytes v.spans.items in
    let l1 = length-append (word_bytes v.proc) (word_bytes v.word ++ (text_bytes v.name ++ (v.form ∷ spans))) in
    let l2 = length-append (word_bytes v.word) (text_bytes v.name ++ (v.form ∷ spans)) in
    let l3 = length-append (text_bytes v.name) (v.form ∷ spans) in
    let l4 = length-append (word_bytes (length v.spans.items)) (flat_map span_bytes v.spans.items) in
    let few = items_in span_bytes v.spans.items (λ span. omega (arith, length-span_bytes span)) in
    omega arith

pub types_short : (types : List TypePart) → length (types_bytes types) < 2 ^ 32 → AllByRecursion (λ part. length (type_bytes part) < 2 ^ 32) types
unfolding types_bytes
types_short types lt = each_below type_bytes types (2 ^ 32) lt

some_variable : (v : VarPart) → 1 ≤ length (var_bytes v)
unfolding var_bytes
some_variable v =
    let rest = word_bytes v.word ++ (text_bytes v.name ++ (v.form ∷ (word_bytes (length v.spans.items) ++ flat_map span_bytes v.spans.items))) in
    omega (arith, length-append (word_bytes v.proc) rest, length-word_bytes v.proc)

pub variables_short : (variables : List VarPart) → length (variables_bytes variables) < 2 ^ 32 → (length variables < 2 ^ 32) × AllByRecursion (λ v. length (var_bytes v) < 2 ^ 32) variables
unfolding variables_bytes
variables_short variables lt = counted var_bytes variables (2 ^ 32) some_variable lt

-- ---- the sections

pub record AreShortSections (p : ImageParts) : Type 0 where
  pub code : length (code_bytes p.code.items) < 2 ^ 32
  pub procs : length (procs_bytes p.procs.items) < 2 ^ 32
  pub types : length (types_bytes p.types.items) < 2 ^ 32
  pub globals : length (globals_bytes p.globals) < 2 ^ 32
  pub constants : length (constants_bytes p.constants.items) < 2 ^ 32
  pub places : length (places_bytes p.places) < 2 ^ 32
  pub exceptions : length (exceptions_bytes p.exceptions.items) < 2 ^ 32
  pub tables : length p.tables.items < 2 ^ 32

front_fits : (section rest : List ℕ) (n : ℕ) → length (text_bytes section ++ rest) < n → (length section < n) × (length rest < n)
front_fits section rest n lt =
    let l = length-append (text_bytes section) rest in
    let k = length-text_bytes section in
    (omega arith, omega arith)

pub sections_short : (p : ImageParts) → length (fixed_bytes p) < 2 ^ 32 → AreShortSections p
unfolding fixed_bytes
sections_short p lt =
    let code = front_fits (code_bytes p.code.items) _ (2 ^ 32) lt in
    let procs = front_fits (procs_bytes p.procs.items) _ (2 ^ 32) code.1 in
    let types = front_fits (types_bytes p.types.items) _ (2 ^ 32) procs.1 in
    let globals = front_fits (globals_bytes p.globals) _ (2 ^ 32) types.1 in
    let constants = front_fits (constants_bytes p.constants.items) _ (2 ^ 32) globals.1 in
    let places = front_fits (places_bytes p.places) _ (2 ^ 32) constants.1 in
    let exceptions = front_fits (exceptions_bytes p.exceptions.items) (text_bytes p.tables.items) (2 ^ 32) places.1 in
    record {
      code = code.0;
      procs = procs.0;
      types = types.0;
      globals = globals.0;
      constants = constants.0;
      places = places.0;
      exceptions = exceptions.0;
      tables = omega (arith, exceptions.1, length-text_bytes p.tables.items);
    }

-- the variables are no longer than the image that has them
pub variables_fit : (p : ImageParts) (variables : Vec VarPart) → p.variables ≡ Some variables → length (image_bytes p) < 2 ^ 32 → length (variables_bytes variables.items) < 2 ^ 32
unfolding image_bytes
variables_fit p variables e lt =
    let section = text_bytes (variables_bytes variables.items) in
    let whole = rw e at lt in
    let l1 = length-append (77 ∷ 51 ∷ 73 ∷ 77 ∷ []) (word_bytes 2 ++ (fixed_bytes p ++ section)) in
    let l2 = length-append (word_bytes 2) (fixed_bytes p ++ section) in
    let l3 = length-append (fixed_bytes p) section in
    omega (arith, length-text_bytes (variables_bytes variables.items))

-- a variable's name is shorter than the variable
pub length-name : (v : VarPart) → length v.name ≤ length (var_bytes v)
unfolding var_bytes
length-name v =
    let spans = word_bytes (length v.spans.items) ++ flat_map span_bytes v.spans.items in
    let l1 = length-append (word_bytes v.proc) (word_bytes v.word ++ (text_bytes v.name ++ (v.form ∷ spans))) in
    let l2 = length-append (word_bytes v.word) (text_bytes v.name ++ (v.form ∷ spans)) in
    let l3 = length-append (text_bytes v.name) (v.form ∷ spans) in
    omega (arith, length-text_bytes v.name)

fixed_part : (fixed : List ℕ) (variables : Option (Vec VarPart)) → length fixed ≤ length (versioned fixed variables)
fixed_part fixed None = omega (arith, length-append (word_bytes 1) fixed)
fixed_part fixed (Some variables) =
    let section = text_bytes (variables_bytes variables.items) in
    omega (arith, length-append (word_bytes 2) (fixed ++ section), length-append fixed section)

-- the sections that each image has are no longer than it
pub fixed_fits : (p : ImageParts) → length (image_bytes p) < 2 ^ 32 → length (fixed_bytes p) < 2 ^ 32
unfolding image_bytes
fixed_fits p lt =
    let l = length-append (77 ∷ 51 ∷ 73 ∷ 77 ∷ []) (versioned (fixed_bytes p) p.variables) in
    omega (arith, fixed_part (fixed_bytes p) p.variables)
