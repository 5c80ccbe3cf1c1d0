-- An image that is written is read again as its parts.
use Rattle.std.proofs.Common.{◌≡◌, ℕ, zero, suc, ◌+◌, ◌*◌, ◌/◌, ◌%◌, ◌^◌, ◌<◌, ◌≤◌, Bool, true, false, ◌||◌, ltb, eqb, List, [], ◌∷◌, ◌++◌, length, drop, Option, Some, None, Ok, refl, sym, ap, ◌∙◌, append_assoc, arith, length-append}
use Rattle.std.specs.Prelude.{map, IfSome, is_some}
use Rattle.std.specs.Global.{Vec}
use Rattle.std.specs.Option.{option_map}
use Rattle.std.specs.List.{flat_map, list_all, AllByRecursion}
use Rattle.std.proofs.lemmas.Bool.{le-ltb}
use Rattle.std.proofs.lemmas.List.{append-nil, drop_at, drop_all, drop-drop}
use Rattle.std.proofs.Math.Nat.{mul-div_cancel_left}
use Rattle.m3_isa.specs.declared.instructions.Instr.{Instr}
use Rattle.m3_isa.specs.CodeBytes.{bytes_of, instruction_in}
use Rattle.m3_image_sections.specs.declared.procs.ProcPart.{ProcPart}
use Rattle.m3_image_sections.specs.Fields.{text_at, each}
use Rattle.m3_image_sections.specs.Sections.{Sections, ninth_at, sections_at, magic, sections_of}
use Rattle.m3_tables.specs.Numbers.{word_in}
use Rattle.m3_tables.specs.Fields.{word_at}
use Rattle.m3_tables_writer.specs.Writing.{word_bytes, list_bytes}
use Rattle.m3_image_sections.specs.Parts.{CellType, proc_in, procs_at, type_at, types_at, variables_at}
use Rattle.m3_image_sections.specs.Ranges.{first_failing}
use Rattle.m3_image.specs.Programs.{variable_fits}
use Rattle.m3_image_sections.specs.Reading.{instruction_at, somes, code_of}
use Rattle.m3_image.specs.Images.{program_of, variables_of, read_of}
use Rattle.m3_image_writer.specs.declared.parts.TypePart.{TypePart}
use Rattle.m3_image_writer.specs.declared.parts.VarPart.{VarPart}
use Rattle.m3_image_writer.specs.declared.parts.ImageParts.{ImageParts}
use Rattle.m3_image_writer.specs.Fields.{text_bytes}
use Rattle.m3_image_writer.specs.Sections.{code_bytes, proc_bytes, procs_bytes, type_bytes, types_bytes, globals_bytes, constants_bytes, places_bytes, exceptions_bytes}
use Rattle.m3_image_writer.specs.Variables.{variables_bytes}
use Rattle.m3_image_writer.specs.Image.{fixed_bytes, versioned, image_bytes}
use Rattle.m3_image_writer.specs.Again.{Reads, ReadsAll, ReadsFixed, AreRead}
use Rattle.m3_image_writer.specs.Views.{cell_type, globals_of, places_of, variable_of, version_of, image_of}
use Rattle.m3_image_writer.specs.Views as parts
use Rattle.m3_image_writer.specs.Parts.{AreParts}
use Rattle.m3_image_writer.proofs.Lengths.{length-word_bytes, items_in, AreShortSections, sections_short, variables_fit, fixed_fits}
use Rattle.m3_image_writer.proofs.Again.{word_again, after_word, text_again, length-fixed, each_again, all_again}
use Rattle.m3_image_writer.proofs.AgainParts.{map_same}

-- ---- procedures and types

many_by_size : (size n : ℕ) → 0 < size → size * n / size ≡ n
many_by_size size n some = mul-div_cancel_left n some

pub procs_again : (procs : List ProcPart) → AllByRecursion (λ p. ReadsFixed 16 proc_in (proc_bytes p) p) procs → ReadsAll procs_at (procs_bytes procs) procs
unfolding procs_at procs_bytes
procs_again procs each_one =
    let bytes = flat_map proc_bytes procs in
    let len : length bytes ≡ 16 * length procs = length-fixed 16 proc_in proc_bytes (λ p. p) procs each_one in
    let count : length bytes / 16 ≡ length procs = ap (λ (n : ℕ). n / 16) len ∙ many_by_size 16 (length procs) (omega arith) in
    let read : each 16 proc_in (length procs) bytes ≡ procs = ap (each 16 proc_in (length procs)) (sym (append-nil bytes)) ∙ each_again 16 proc_in proc_bytes (λ p. p) procs [] each_one ∙ map_same procs in
    let end : drop (16 * length procs) bytes ≡ [] = drop_all (16 * length procs) bytes (omega arith) in
    rw (count, read, end) refl

some_type : (t : TypePart) → 1 ≤ length (type_bytes t)
unfolding type_bytes
some_type t =
    omega (arith, length-append (word_bytes t.kind) (word_bytes t.parent ++ (word_bytes t.words ++ (word_bytes t.dims ++ (list_bytes t.methods.items ++ list_bytes t.pointers.items)))), length-word_bytes t.kind)

no_type : type_at [] ≡ None
unfolding type_at word_at
no_type = refl

pub types_again : (types : List TypePart) → AllByRecursion (λ t. Reads type_at (type_bytes t) (cell_type t)) types → ReadsAll types_at (types_bytes types) (map cell_type types)
unfolding types_at types_bytes
types_again types each_one =
    ap (λ (x : List CellType × List ℕ). Some x) (all_again type_at type_bytes cell_type types no_type each_one (items_in type_bytes types some_type))

-- ---- the code

pub first_failing_none : (test : ℕ → Bool) (n : ℕ) → ((k : ℕ) → k < n → test k ≡ true) → first_failing test n ≡ None
unfolding first_failing
first_failing_none test zero h = refl
first_failing_none test (suc n) h = rw (first_failing_none test n (λ k lt. h k (omega arith)), h n (omega arith)) refl

-- each instruction's bytes are read as it
abbrev pub AreInstructions : List Instr → Type 0
AreInstructions code = AllByRecursion (λ i. ReadsFixed 8 instruction_in (bytes_of i) (Some i)) code

somes_map : (code : List Instr) → somes (map (λ i. Some i) code) ≡ code
somes_map [] = refl
somes_map (i ∷ code) = ap (λ (x : List Instr). i ∷ x) (somes_map code)

-- the instruction of a number is there
there : (code : List Instr) (k : ℕ) → AreInstructions code → k < length code → is_some (instruction_in (drop (8 * k) (flat_map bytes_of code))) ≡ true
there [] k h lt = absurd (omega arith)
there (i ∷ code) zero h lt = rw (h.0.again (flat_map bytes_of code)) refl
there (i ∷ code) (suc k) h lt =
    let past : drop 8 (bytes_of i ++ flat_map bytes_of code) ≡ flat_map bytes_of code = drop_at (bytes_of i) (flat_map bytes_of code) 8 h.0.size_is in
    let e : 8 * suc k ≡ 8 + 8 * k = omega arith in
    let here : drop (8 * suc k) (bytes_of i ++ flat_map bytes_of code) ≡ drop (8 * k) (flat_map bytes_of code) =
    ap (λ (n : ℕ). drop n (bytes_of i ++ flat_map bytes_of code)) e ∙ sym (drop-drop (8 * k) 8 (bytes_of i ++ flat_map bytes_of code)) ∙ ap (λ (b : List ℕ). drop (8 * k) b) past in
    rw here (there code k h.1 (omega arith))

pub code_again : (code : List Instr) → AreInstructions code → code_of (code_bytes code) ≡ Ok code
unfolding code_of code_bytes
code_again code h =
    let bytes = flat_map bytes_of code in
    let len : length bytes ≡ 8 * length code = length-fixed 8 instruction_in bytes_of (λ i. Some i) code h in
    let whole : eqb (length bytes % 8) 0 ≡ true = (let none : (8 * length code) % 8 ≡ 0 = omega arith in rw (len, none) refl) in
    let count : length bytes / 8 ≡ length code = ap (λ (n : ℕ). n / 8) len ∙ many_by_size 8 (length code) (omega arith) in
    let none : first_failing (λ n. is_some (instruction_at bytes n)) (length code) ≡ None = first_failing_none (λ n. is_some (instruction_at bytes n)) (length code) (λ k lt. there code k h lt) in
    let read : each 8 instruction_in (length code) bytes ≡ map (λ i. Some i) code = ap (each 8 instruction_in (length code)) (sym (append-nil bytes)) ∙ each_again 8 instruction_in bytes_of (λ i. Some i) code [] h in
    rw (whole, count, none, read, somes_map code) refl

-- an instruction's bytes are read as it, whatever follows them
pub instruction_again : (i : Instr) → instruction_in (bytes_of i) ≡ Some i → ReadsFixed 8 instruction_in (bytes_of i) (Some i)
unfolding instruction_in
instruction_again i h = record { size_is = refl; again = λ rest. h }

-- ---- the sections

-- the bytes of each section
abbrev pub sections : ImageParts → Sections
sections p =
    record {
      version = version_of p.variables;
      code = code_bytes p.code.items;
      procs = procs_bytes p.procs.items;
      types = types_bytes p.types.items;
      globals = globals_bytes p.globals;
      constants = constants_bytes p.constants.items;
      places = places_bytes p.places;
      exceptions = exceptions_bytes p.exceptions.items;
      tables = p.tables.items;
      variables = option_map (λ v. variables_bytes v.items) p.variables;
    }

-- the sections that each image has, with those of its version behind them
fixed_again : (p : ImageParts) (version : ℕ) (tail : List ℕ) (ninth : Option (List ℕ)) → AreShortSections p → ninth_at version tail ≡ Some (ninth, []) → sections_at version (fixed_bytes p ++ tail) ≡ Some (record (sections p) { version = version; variables = ninth }, [])
unfolding sections_at fixed_bytes
fixed_again p version tail ninth short last =
    let t = text_bytes p.tables.items ++ tail in
    let e = text_bytes (exceptions_bytes p.exceptions.items) ++ t in
    let l = text_bytes (places_bytes p.places) ++ e in
    let k = text_bytes (constants_bytes p.constants.items) ++ l in
    let g = text_bytes (globals_bytes p.globals) ++ k in
    let y = text_bytes (types_bytes p.types.items) ++ g in
    let q = text_bytes (procs_bytes p.procs.items) ++ y in
    let apart : fixed_bytes p ++ tail ≡ text_bytes (code_bytes p.code.items) ++ q = simp append_assoc in
    let code = ap text_at apart ∙ text_again (code_bytes p.code.items) short.code q in
    rw (code, text_again (procs_bytes p.procs.items) short.procs y, text_again (types_bytes p.types.items) short.types g, text_again (globals_bytes p.globals) short.globals k, text_again (constants_bytes p.constants.items) short.constants l, text_again (places_bytes p.places) short.places e, text_again (exceptions_bytes p.exceptions.items) short.exceptions t, text_again p.tables.items short.tables tail, last) refl

magic_again : (rest : List ℕ) → eqb (word_in (77 ∷ 51 ∷ 73 ∷ 77 ∷ rest)) magic ≡ true
unfolding word_in
magic_again rest = refl

-- what follows the four bytes that say that it is an image
versioned_again : (version : ℕ) (body : List ℕ) (cut : Sections) → (eqb version 1 || eqb version 2) ≡ true → version < 2 ^ 32 → sections_at version body ≡ Some (cut, []) → sections_of ((77 ∷ 51 ∷ 73 ∷ 77 ∷ []) ++ (word_bytes version ++ body)) ≡ Ok cut
unfolding sections_of
versioned_again version body cut known lt h =
    let bytes = 77 ∷ 51 ∷ 73 ∷ 77 ∷ (word_bytes version ++ body) in
    let l = length-append (word_bytes version) body in
    let w = length-word_bytes version in
    let four : ltb (length bytes) 4 ≡ false = le-ltb (length bytes) 4 (omega arith) in
    let eight : ltb (length bytes) 8 ≡ false = le-ltb (length bytes) 8 (omega arith) in
    let first : eqb (word_in bytes) magic ≡ true = magic_again (word_bytes version ++ body) in
    let number : word_in (drop 4 bytes) ≡ version = word_again version body lt in
    let past : drop 8 bytes ≡ body = after_word version body in
    rw (four, first, eight, number, known, past, h) refl

-- by whether there are variables
version_again : (p : ImageParts) (variables : Option (Vec VarPart)) → p.variables ≡ variables → AreShortSections p → IfSome variables (λ v. length (variables_bytes v.items) < 2 ^ 32) → sections_of ((77 ∷ 51 ∷ 73 ∷ 77 ∷ []) ++ versioned (fixed_bytes p) variables) ≡ Ok (record (sections p) { version = version_of variables; variables = option_map (λ v. variables_bytes v.items) variables })
unfolding ninth_at
version_again p None e short last =
    versioned_again 1 (fixed_bytes p) (record (sections p) { version = 1; variables = None }) refl (omega arith) (ap (sections_at 1) (sym (append-nil (fixed_bytes p))) ∙ fixed_again p 1 [] None short refl)
version_again p (Some variables) e short last =
    let section = variables_bytes variables.items in
    let end : text_at (text_bytes section) ≡ Some (section, []) = ap text_at (sym (append-nil (text_bytes section))) ∙ text_again section last [] in
    let ninth : ninth_at 2 (text_bytes section) ≡ Some (Some section, []) = rw end refl in
    versioned_again 2 (fixed_bytes p ++ text_bytes section) (record (sections p) { version = 2; variables = Some section }) refl (omega arith) (fixed_again p 2 (text_bytes section) (Some section) short ninth)

-- the image is cut into its sections
sections_again : (p : ImageParts) → AreShortSections p → IfSome p.variables (λ v. length (variables_bytes v.items) < 2 ^ 32) → sections_of (image_bytes p) ≡ Ok (sections p)
unfolding image_bytes
sections_again p short last = version_again p p.variables refl short last

-- ---- the whole

program_again : (p : ImageParts) → AreParts p → AreRead p → program_of (sections p) ≡ Ok (parts.program_of_parts p)
unfolding program_of
program_again p keeps are_read =
    rw (are_read.procs, keeps.image.procs, are_read.types, keeps.image.types, are_read.globals, keeps.image.globals, are_read.constants, are_read.places, keeps.image.places, are_read.exceptions, are_read.code) refl

ninth_of : (p : ImageParts) (variables : Option (Vec VarPart)) → list_all (variable_fits (parts.program_of_parts p)) (parts.variables_of_parts variables) ≡ true → IfSome variables (λ v. ReadsAll variables_at (variables_bytes v.items) (map variable_of v.items)) → variables_of (parts.program_of_parts p) (option_map (λ v. variables_bytes v.items) variables) ≡ Ok (parts.variables_of_parts variables)
unfolding variables_of
ninth_of p None form again = refl
ninth_of p (Some variables) form again = rw (again, form) refl

-- what is written is read again as the same lists
image_again : (p : ImageParts) → AreParts p → AreRead p → AreShortSections p → IfSome p.variables (λ v. length (variables_bytes v.items) < 2 ^ 32) → IfSome p.variables (λ v. ReadsAll variables_at (variables_bytes v.items) (map variable_of v.items)) → read_of (image_bytes p) ≡ Ok (image_of p)
unfolding read_of
image_again p keeps are_read short last again =
    rw (sections_again p short last, program_again p keeps are_read, keeps.image.sound, ninth_of p p.variables keeps.image.variables again) refl

abbrev pub mark : List ℕ
mark = 77 ∷ 51 ∷ 73 ∷ 77 ∷ []

-- what is written without variables
first_written : (p : ImageParts) (begun numbered all : List ℕ) → p.variables ≡ None → begun ≡ mark → numbered ≡ begun ++ word_bytes 1 → all ≡ numbered ++ fixed_bytes p → all ≡ image_bytes p
unfolding image_bytes fixed_bytes
first_written p begun numbered all e b n a = rw (a, n, b, e) (append_assoc mark (word_bytes 1) (fixed_bytes p))

pub first_again : (p : ImageParts) (begun numbered all : List ℕ) → p.variables ≡ None → begun ≡ mark → numbered ≡ begun ++ word_bytes 1 → all ≡ numbered ++ fixed_bytes p → AreParts p → AreRead p → length (image_bytes p) < 2 ^ 32 → read_of all ≡ Ok (image_of p)
first_again p begun numbered all e b n a keeps are_read lt =
    ap read_of (first_written p begun numbered all e b n a) ∙ image_again p keeps are_read (sections_short p (fixed_fits p lt)) (rw e tt) (rw e tt)

-- what is written with variables
second_written : (p : ImageParts) (variables : Vec VarPart) (begun numbered fixed all : List ℕ) → p.variables ≡ Some variables → begun ≡ mark → numbered ≡ begun ++ word_bytes 2 → fixed ≡ numbered ++ fixed_bytes p → all ≡ fixed ++ text_bytes (variables_bytes variables.items) → all ≡ image_bytes p
unfolding image_bytes fixed_bytes
second_written p variables begun numbered fixed all e b n f a =
    let section = text_bytes (variables_bytes variables.items) in
    rw (a, f, n, b, e) (append_assoc (mark ++ word_bytes 2) (fixed_bytes p) section ∙ append_assoc mark (word_bytes 2) (fixed_bytes p ++ section))

pub second_again : (p : ImageParts) (variables : Vec VarPart) (begun numbered fixed all : List ℕ) → p.variables ≡ Some variables → begun ≡ mark → numbered ≡ begun ++ word_bytes 2 → fixed ≡ numbered ++ fixed_bytes p → all ≡ fixed ++ text_bytes (variables_bytes variables.items) → AreParts p → AreRead p → length (image_bytes p) < 2 ^ 32 → ReadsAll variables_at (variables_bytes variables.items) (map variable_of variables.items) → read_of all ≡ Ok (image_of p)
second_again p variables begun numbered fixed all e b n f a keeps are_read lt again =
    ap read_of (second_written p variables begun numbered fixed all e b n f a) ∙ image_again p keeps are_read (sections_short p (fixed_fits p lt)) (rw e (variables_fit p variables e lt)) (rw e again)
