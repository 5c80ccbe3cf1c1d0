-- The images of the tests: what they are, and that they keep what an image has to keep.
use Rattle.std.proofs.Common.{◌≡◌, ℕ, ℤ, pos, ◌-◌, ◌^◌, ◌≤◌, true, List, [], ◌∷◌, length, Option, Some, None, refl, sym, ap, subst, ◌∙◌, arith}
use Rattle.std.specs.Prelude.{map, IfSome}
use Rattle.std.specs.Global.{Vec}
use Rattle.std.specs.List.{list_all, AllByRecursion}
use Rattle.m3_isa.specs.declared.instructions.Instr.{Instr}
use Rattle.m3_isa.specs.declared.instructions.Op.{Op}
use Rattle.m3_isa.specs.declared.instructions.Op.TheVariants as op
use Rattle.m3_isa.specs.Instructions.{IsInstruction}
use Rattle.m3_tables.specs.Numbers.{word_in, half_in}
use Rattle.m3_tables.specs.Fields.{word_at, half_at, list_at, bases_at, ways_in, past_ways, entry_at, entries_in, past_entries, contents_at, tidies_at}
use Rattle.m3_tables.specs.Sections.{is_tidy, contents_in, past_row, is_good, tidy_all, are_free}
use Rattle.m3_tables_writer.specs.Writing.{word_bytes, list_bytes}
use Rattle.m3_image_sections.specs.declared.procs.ProcPart.{ProcPart}
use Rattle.m3_image_sections.specs.Parts.{CellType, Globals, Program, Variable, Image}
use Rattle.m3_image_sections.specs.Forms.{procs_fit, types_fit, globals_fit, places_fit}
use Rattle.m3_image.specs.Programs.{fault_of, variable_fits, procs_suit, tables_fault, lists_points}
use Rattle.m3_image_sections.specs.Ranges.{first_failing}
use Rattle.m3_image_writer.specs.declared.parts.VarPart.{VarPart}
use Rattle.m3_image_writer.specs.declared.parts.ImageParts.{ImageParts}
use Rattle.m3_image_writer.specs.Fields.{long_bytes, text_bytes, place_bytes}
use Rattle.m3_image_writer.specs.Sections.{code_bytes, proc_bytes, procs_bytes, constants_bytes, exceptions_bytes}
use Rattle.m3_image_writer.specs.Image.{image_bytes}
use Rattle.m3_image_writer.specs.Views.{variable_of, program_of_parts, version_of, variables_of_parts, image_of}
use Rattle.m3_image_writer.specs.Parts.{AreNumbered, AreParts}
use Rattle.m3_image_writer.proofs.ViewBytes.{type_view, variable_view, variables_view, fixed_view, image_view, same_image}

-- ---- from what is seen to the parts

pub record IsSound (p : Program) : Type 0 where
  pub code : AllByRecursion IsInstruction p.code
  pub procs : procs_fit p.procs ≡ true
  pub types : types_fit (length p.procs) p.types ≡ true
  pub globals : globals_fit p.globals ≡ true
  pub places : places_fit (record { files = p.files; places = p.places }) ≡ true
  pub program : fault_of p ≡ None

keeps : (p : ImageParts) (q : Program) (variables : List Variable) → program_of_parts p ≡ q → variables_of_parts p.variables ≡ variables → IsSound q → list_all (variable_fits q) variables ≡ true → IfSome p.variables (λ v. AllByRecursion AreNumbered v.items) → AreParts p
keeps p q variables e f sound form numbered =
    record {
      code = subst (λ (x : Program). AllByRecursion IsInstruction x.code) (sym e) sound.code;
      image = record {
        procs = ap (λ (x : Program). procs_fit x.procs) e ∙ sound.procs;
        types = ap (λ (x : Program). types_fit (length x.procs) x.types) e ∙ sound.types;
        globals = ap (λ (x : Program). globals_fit x.globals) e ∙ sound.globals;
        places = ap (λ (x : Program). places_fit (record { files = x.files; places = x.places })) e ∙ sound.places;
        sound = ap fault_of e ∙ sound.program;
        variables = ap (λ x. list_all (variable_fits x) (variables_of_parts p.variables)) e ∙ ap (list_all (variable_fits q)) f ∙ form;
      };
      numbered = numbered;
    }

pub size_by_view : (p : ImageParts) (i : Image) (n : ℕ) → image_of p ≡ i → length (image_view i) ≡ n → n ≤ 4294967295 → length (image_bytes p) ≤ 4294967295
size_by_view p i n e l le = let same = ap length (same_image p ∙ ap image_view e) ∙ l in omega arith

-- ---- the smallest

abbrev pub instr : Op → ℕ → ℤ → Instr
instr o a imm = record { op = o; a = a; b = 0; c = 0; imm = imm }

abbrev pub proc : ℕ → ℕ → ℕ → ℕ → ProcPart
proc first count body frame = record { first = first; count = count; body = body; frame = frame }

abbrev pub texts : CellType
texts = record { kind = 2; parent = 2 ^ 32 - 1; words = 0; dims = 0; methods = []; pointers = [] }

abbrev pub threads : CellType
threads = record { kind = 0; parent = 2 ^ 32 - 1; words = 4; dims = 0; methods = []; pointers = 3 ∷ [] }

abbrev pub empty_rows : List ℕ
empty_rows =
    2 ∷ 0 ∷ 0 ∷ 0 ∷ 0 ∷ 0 ∷ 0 ∷ 0 ∷ 0 ∷ 0 ∷ 0 ∷ 0 ∷ 2 ∷ 0 ∷ 0 ∷ 0 ∷ 17 ∷ 0 ∷ 0 ∷ 0 ∷
    0 ∷ 0 ∷ 0 ∷ 0 ∷ 0 ∷ 0 ∷ 0 ∷ 0 ∷ 0 ∷ 0 ∷ 0 ∷ 0 ∷ 0 ∷ 0 ∷ 0 ∷ 0 ∷ 0 ∷
    0 ∷ 0 ∷ 0 ∷ 0 ∷ 0 ∷ 0 ∷ 0 ∷ 0 ∷ 0 ∷ 0 ∷ 0 ∷ 0 ∷ 0 ∷ 0 ∷ 0 ∷ 0 ∷ 0 ∷ []

abbrev pub smallest : Program
smallest =
    record {
      code = instr op.Point 0 (pos 0) ∷ instr op.Endp 0 (pos 0) ∷ instr op.Point 0 (pos 0) ∷ instr op.Endp 0 (pos 0) ∷ [];
      procs = proc 0 2 3 3 ∷ proc 2 2 3 7 ∷ [];
      types = texts ∷ threads ∷ [];
      globals = record { words = 4; pointers = [] };
      constants = [];
      files = [];
      places = [];
      exceptions = [];
      tables = empty_rows;
    }

smallest_fault : fault_of smallest ≡ None
unfolding fault_of procs_suit first_failing tables_fault lists_points word_in is_good tidies_at list_at word_at contents_at past_entries entries_in tidy_all contents_in past_row
smallest_fault = refl

pub smallest_sound : IsSound smallest
smallest_sound =
    record {
      code = ((refl, refl, refl, refl), ((refl, refl, refl, refl), ((refl, refl, refl, refl), ((refl, refl, refl, refl), tt))));
      procs = refl;
      types = refl;
      globals = refl;
      places = refl;
      program = smallest_fault;
    }

-- ---- one with all kinds of entries

abbrev pub rich_code : List Instr
rich_code =
    instr op.Point 0 (pos 0) ∷ instr op.Call 0 (pos 2) ∷ instr op.Jmp 0 (pos 0) ∷ instr op.Endp 0 (pos 0) ∷ instr op.Point 0 (pos 0) ∷ instr op.Endt 1 (pos 0)
    ∷ instr op.New 0 (pos 2) ∷ instr op.Con 1 (pos 1) ∷ instr op.Glb 2 (pos 6) ∷ instr op.Lds 3 (pos 4) ∷ instr op.Fault 2 (pos 1) ∷ instr op.Ret 0 (pos 0) ∷ []

abbrev pub rich_types : List CellType
rich_types =
    texts ∷ threads ∷ record { kind = 0; parent = 2 ^ 32 - 1; words = 3; dims = 0; methods = 3 ∷ 0 ∷ []; pointers = 1 ∷ 2 ∷ [] }
    ∷ record { kind = 1; parent = 2; words = 2; dims = 1; methods = []; pointers = 0 ∷ [] } ∷ []

abbrev pub rich_rows : List ℕ
rich_rows =
    4 ∷ 0 ∷ 0 ∷ 0 ∷ 0 ∷ 0 ∷ 0 ∷ 0 ∷ 0 ∷ 0 ∷ 0 ∷ 0 ∷ 1 ∷ 0 ∷ 0 ∷ 0 ∷ 21 ∷ 0 ∷ 0 ∷ 0 ∷
    4 ∷ 0 ∷ 0 ∷ 0 ∷ 70 ∷ 0 ∷ 0 ∷ 0 ∷ 6 ∷ 0 ∷ 0 ∷ 0 ∷ 71 ∷ 0 ∷ 0 ∷ 0 ∷ 0 ∷ 1 ∷ 0 ∷ 0 ∷
    0 ∷ 21 ∷ 0 ∷ 0 ∷ 0 ∷ 0 ∷ 0 ∷ 0 ∷ 0 ∷ 0 ∷ 0 ∷ 0 ∷ 0 ∷ 0 ∷ 0 ∷ 0 ∷ 0 ∷ 1 ∷ 1 ∷ 0 ∷
    0 ∷ 0 ∷ 21 ∷ 0 ∷ 0 ∷ 0 ∷ 1 ∷ 0 ∷ 0 ∷ 0 ∷ 20 ∷ 0 ∷ 0 ∷ 0 ∷ 1 ∷ 0 ∷ 0 ∷ 0 ∷ 21 ∷ 0 ∷
    0 ∷ 0 ∷ 0 ∷ 0 ∷ 0 ∷ 0 ∷ 1 ∷ 0 ∷ 0 ∷ 0 ∷ 19 ∷ 0 ∷ 0 ∷ 0 ∷ 255 ∷ 255 ∷ 255 ∷ 255 ∷ 1 ∷ 0 ∷
    1 ∷ 0 ∷ 20 ∷ 0 ∷ 0 ∷ 0 ∷ 2 ∷ 1 ∷ 1 ∷ 0 ∷ 0 ∷ 0 ∷ 20 ∷ 0 ∷ 0 ∷ 0 ∷ 2 ∷ 0 ∷ 0 ∷ 0 ∷
    2 ∷ 0 ∷ 0 ∷ 0 ∷ 24 ∷ 0 ∷ 0 ∷ 0 ∷ 0 ∷ 0 ∷ 0 ∷ 0 ∷ 0 ∷ 0 ∷ 0 ∷ 0 ∷ 0 ∷ 0 ∷ 0 ∷ 0 ∷ []

abbrev pub rich : Program
rich =
    record {
      code = rich_code;
      procs = proc 0 4 4 6 ∷ proc 4 2 3 7 ∷ proc 6 6 4 9 ∷ [];
      types = rich_types;
      globals = record { words = 7; pointers = 5 ∷ 6 ∷ [] };
      constants = 1234605616436508552 ∷ 9 ∷ [];
      files = (65 ∷ 46 ∷ 109 ∷ 51 ∷ []) ∷ [];
      places = (0, 3) ∷ (0, 8) ∷ [];
      exceptions = (65 ∷ 46 ∷ 69 ∷ []) ∷ [];
      tables = rich_rows;
    }

abbrev pub rich_variables : List Variable
rich_variables =
    record { proc = 2; word = 0; name = 110 ∷ []; form = 0; spans = (6, 24) ∷ [] }
    ∷ record { proc = 2 ^ 32 - 1; word = 5; name = 65 ∷ 46 ∷ 103 ∷ []; form = 1; spans = [] } ∷ []

rich_fault : fault_of rich ≡ None
unfolding fault_of procs_suit first_failing tables_fault lists_points word_in half_in is_good tidies_at list_at word_at half_at bases_at ways_in past_ways entry_at contents_at past_entries entries_in tidy_all contents_in past_row is_tidy are_free
rich_fault = refl

rich_instructions : AllByRecursion IsInstruction rich_code
rich_instructions =
    ((refl, refl, refl, refl), ((refl, refl, refl, tt), ((refl, refl, refl, tt), ((refl, refl, refl, refl), ((refl, refl, refl, refl), ((omega arith, refl, refl, refl), ((omega arith, refl, refl, tt), ((omega arith, refl, refl, tt), ((omega arith, refl, refl, tt), ((omega arith, refl, refl, tt), ((tt, refl, refl, tt), ((refl, refl, refl, refl), tt))))))))))))

pub rich_sound : IsSound rich
rich_sound =
    record {
      code = rich_instructions;
      procs = refl;
      types = refl;
      globals = refl;
      places = refl;
      program = rich_fault;
    }

rich_variables_fit : list_all (variable_fits rich) rich_variables ≡ true
rich_variables_fit = refl

-- ---- how long they are

pub smallest_size : length (image_view (record { version = 1; program = smallest; variables = [] })) ≡ 234
unfolding image_view fixed_view type_view variables_view variable_view word_bytes list_bytes text_bytes long_bytes place_bytes code_bytes proc_bytes procs_bytes constants_bytes exceptions_bytes
smallest_size = refl

pub second_size : length (image_view (record { version = 2; program = smallest; variables = [] })) ≡ 242
unfolding image_view fixed_view type_view variables_view variable_view word_bytes list_bytes text_bytes long_bytes place_bytes code_bytes proc_bytes procs_bytes constants_bytes exceptions_bytes
second_size = refl

pub rich_size : length (image_view (record { version = 2; program = rich; variables = rich_variables })) ≡ 577
unfolding image_view fixed_view type_view variables_view variable_view word_bytes list_bytes text_bytes long_bytes place_bytes code_bytes proc_bytes procs_bytes constants_bytes exceptions_bytes
rich_size = refl

-- ---- the parts of the tests

abbrev made : List Instr → List ProcPart → List CellType → Globals → List ℕ → List (List ℕ) → List (ℕ × ℕ) → List (List ℕ) → List ℕ → Program
made code procs types globals constants files places exceptions tables =
    record { code = code; procs = procs; types = types; globals = globals; constants = constants; files = files; places = places; exceptions = exceptions; tables = tables }

abbrev pub globals_with : ℕ → List ℕ → Globals
globals_with words pointers = record { words = words; pointers = pointers }

-- a program is known by its lists
pub same_program : (a b : Program) → a.code ≡ b.code → a.procs ≡ b.procs → a.types ≡ b.types → a.globals ≡ b.globals → a.constants ≡ b.constants → a.files ≡ b.files → a.places ≡ b.places → a.exceptions ≡ b.exceptions → a.tables ≡ b.tables → a ≡ b
same_program a b code procs types globals constants files places exceptions tables =
    ap (λ x. made x a.procs a.types a.globals a.constants a.files a.places a.exceptions a.tables) code
    ∙ ap (λ x. made b.code x a.types a.globals a.constants a.files a.places a.exceptions a.tables) procs
    ∙ ap (λ x. made b.code b.procs x a.globals a.constants a.files a.places a.exceptions a.tables) types
    ∙ ap (λ x. made b.code b.procs b.types x a.constants a.files a.places a.exceptions a.tables) globals
    ∙ ap (λ x. made b.code b.procs b.types b.globals x a.files a.places a.exceptions a.tables) constants
    ∙ ap (λ x. made b.code b.procs b.types b.globals b.constants x a.places a.exceptions a.tables) files
    ∙ ap (λ x. made b.code b.procs b.types b.globals b.constants b.files x a.exceptions a.tables) places
    ∙ ap (λ x. made b.code b.procs b.types b.globals b.constants b.files b.places x a.tables) exceptions
    ∙ ap (λ x. made b.code b.procs b.types b.globals b.constants b.files b.places b.exceptions x) tables

no_numbers : (variables : Option (Vec VarPart)) → IfSome variables (λ v. v.items ≡ []) → IfSome variables (λ v. AllByRecursion AreNumbered v.items)
no_numbers None h = tt
no_numbers (Some v) h = rw h tt

no_views : (variables : Option (Vec VarPart)) → IfSome variables (λ v. v.items ≡ []) → variables_of_parts variables ≡ []
no_views None h = refl
no_views (Some v) h = rw h refl

pub smallest_keeps : (p : ImageParts) → program_of_parts p ≡ smallest → IfSome p.variables (λ v. v.items ≡ []) → AreParts p
smallest_keeps p e h = keeps p smallest [] e (no_views p.variables h) smallest_sound refl (no_numbers p.variables h)

seen : (p : ImageParts) (q : Program) (variables : Option (Vec VarPart)) (views : List Variable) → p.variables ≡ variables → program_of_parts p ≡ q → variables_of_parts variables ≡ views → image_of p ≡ record { version = version_of variables; program = q; variables = views }
seen p q variables views e f g =
    let from : Option (Vec VarPart) → Program → List Variable → Image = λ v x vs. record { version = version_of v; program = x; variables = vs } in
    ap (λ v. from v (program_of_parts p) (variables_of_parts v)) e ∙ ap (λ x. from variables x (variables_of_parts variables)) f ∙ ap (from variables q) g

smallest_by : (p : ImageParts) (variables : Option (Vec VarPart)) → p.variables ≡ variables → program_of_parts p ≡ smallest → IfSome variables (λ v. v.items ≡ []) → length (image_bytes p) ≤ 4294967295
smallest_by p None e q h = size_by_view p (record { version = 1; program = smallest; variables = [] }) 234 (seen p smallest None [] e q refl) smallest_size (omega arith)
smallest_by p (Some v) e q h =
    size_by_view p (record { version = 2; program = smallest; variables = [] }) 242 (seen p smallest (Some v) [] e q (ap (map variable_of) h)) second_size (omega arith)

pub smallest_fits : (p : ImageParts) → program_of_parts p ≡ smallest → IfSome p.variables (λ v. v.items ≡ []) → length (image_bytes p) ≤ 4294967295
smallest_fits p q h = smallest_by p p.variables refl q h

pub rich_keeps : (p : ImageParts) (v : Vec VarPart) → p.variables ≡ Some v → program_of_parts p ≡ rich → map variable_of v.items ≡ rich_variables → AllByRecursion AreNumbered v.items → AreParts p
rich_keeps p v e q views numbered = keeps p rich rich_variables q (ap variables_of_parts e ∙ views) rich_sound rich_variables_fit (rw e numbered)

pub rich_fits : (p : ImageParts) (v : Vec VarPart) → p.variables ≡ Some v → program_of_parts p ≡ rich → map variable_of v.items ≡ rich_variables → length (image_bytes p) ≤ 4294967295
rich_fits p v e q views =
    size_by_view p (record { version = 2; program = rich; variables = rich_variables }) 577 (seen p rich (Some v) rich_variables e q views) rich_size (omega arith)
