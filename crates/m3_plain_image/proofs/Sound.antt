-- The image of a module of the plain form keeps what the reader of images asks of every image.
use Rattle.std.proofs.Common.{◌≡◌, ℕ, zero, suc, pos, ◌+◌, ◌-◌, ◌*◌, ◌<◌, ◌≤◌, Bool, true, false, cond, List, [], ◌∷◌, ◌++◌, length, drop, Option, None, Some, inl, inr, refl, sym, ap, ◌∙◌, subst, arith, length-append}
use Rattle.std.specs.Prelude.{map, nat_lt, nat_le, nat_eq, not, ◌&&◌, ◌||◌, ◌==◌, IsTrue}
use Rattle.std.specs.Option.{option_map, option_map_or, option_or}
use Rattle.std.specs.List.{AllByRecursion, slice_get, list_all}
use Rattle.std.specs.Cmp.Lexicographic.{pointwise}
use Rattle.std.proofs.lemmas.Bool.Decides.{nat_tests}
use Rattle.std.proofs.lemmas.Bool.{cases_lt}
use Rattle.std.proofs.lemmas.List.{drop-drop}
use Rattle.std.proofs.lemmas.Option.{slice_get_within}
use Rattle.m3_isa.specs.declared.instructions.Op.TheVariants.{Point, Endt}
use Rattle.m3_isa.specs.declared.instructions.Instr.{Instr}
use Rattle.m3_isa.specs.Instructions.{IsInstruction, is_point}
use Rattle.m3_tables.specs.Numbers.{word_in, has}
use Rattle.m3_tables.specs.Rows.{Tidies, All_of, Changed, Unchanged, nothing}
use Rattle.m3_tables.specs.Sections.{directory_fault, end_fault, first_bad, first_fault, fault_of as section_fault, is_tidy, contents_in, is_within, tidy_all, told_all, told_pass, row_in, is_between, derived_pass, instruction_in as row_instruction, spares_registers}
use Rattle.m3_tables.specs.Fields as fields
use Rattle.m3_tables_writer.specs.Plain.{Plain}
use Rattle.m3_tables_writer.specs.Writing.{table_bytes}
use Rattle.m3_tables_writer.specs.Tabulates.{Tabulates, SaysRow}
use Rattle.m3_image_sections.specs.declared.procs.ProcPart.{ProcPart}
use Rattle.m3_image_sections.specs.declared.refusal.ImageRefusal.TheVariants as refusal
use Rattle.m3_image_sections.specs.Parts.{Program, Image}
use Rattle.m3_image_sections.specs.Forms.{procs_fit, types_fit, globals_fit, places_fit}
use Rattle.m3_image_sections.specs.Ranges.{first_failing, or_else, containing, is_point_at, points_from, end_from}
use Rattle.m3_image_sections.specs.Fields.{each}
use Rattle.m3_image_sections.proofs.FirstLemmas.{first_all, before_bad}
use Rattle.m3_image_sections.proofs.ListLemmas.{each_at}
use Rattle.m3_image.specs.Programs.{fault_of, names, target_of, target_fits, procs_suit, begins_with_point, tables_fault, lists_points, row_suits, is_call}
use Rattle.m3_image.specs.Images.{IsImage}
use Rattle.m3_image.proofs.RowLemmas.{listed, tables_is, whole_count}
use Rattle.m3_image.proofs.PointLemmas.{only_points}
use Rattle.m3_plain.specs.Terms.{Term, AreShallow}
use Rattle.m3_plain_image.specs.Code.{alone, body_code, thread_code, plain_code, puts_lines}
use Rattle.m3_plain_image.specs.Image.{proc_of, plain_procs, plain_program, plain_image, plain_rows, empty_row, text_type, thread_type, in_first_file}
use Rattle.m3_plain_image.proofs.InLists.{has_all, get_front, get_back, all_at, all_both}
use Rattle.m3_plain_image.proofs.Kept.{InBody, body_is_kept}

-- ---- the code

thread_valid : AllByRecursion IsInstruction thread_code
thread_valid = ((refl, refl, refl, refl), ((omega arith, refl, refl, refl), tt))

valid_of : (name : List ℕ) (puts : List Term) (code : List Instr) → AllByRecursion (InBody name puts) code → AllByRecursion IsInstruction code
valid_of name puts [] h = tt
valid_of name puts (i ∷ is) h = (h.0.valid, valid_of name puts is h.1)

pub code_valid : (name : List ℕ) (puts : List Term) → AreShallow puts → AllByRecursion IsInstruction (plain_code puts)
code_valid name puts few = all_both IsInstruction (body_code puts) thread_code (valid_of name puts (body_code puts) (body_is_kept name puts few)) thread_valid

nothing-there : {A : Type 0} (x : A) → None ≡ Some x → ⊥
nothing-there x e = cc

-- ---- the sections

procs_of_two : (n : ℕ) → 0 < n → procs_fit (proc_of 0 n 3 ∷ proc_of n 2 7 ∷ []) ≡ true
procs_of_two n h = grind (arith, nat_tests)

places_of : (name : List ℕ) (lines : List ℕ) → places_fit (record { files = name ∷ []; places = map in_first_file lines }) ≡ true
places_of name [] = refl
places_of name (line ∷ lines) = places_of name lines

-- ---- the procedures

module _ (name : List ℕ) (puts : List Term) where
  body_length : ℕ
  body_length = length (body_code puts)

  code_length : length (plain_code puts) ≡ length (body_code puts) + 2
  code_length = length-append (body_code puts) thread_code

  thread_begins : slice_get (plain_code puts) (length (body_code puts)) ≡ Some (alone Point)
  thread_begins = (has_all thread_code (body_code puts)).0

  suits : procs_suit (plain_program name puts) ≡ true
  unfolding procs_suit
  suits =
      let n = length (body_code puts) in
      let ends : (n + 2 == length (plain_code puts)) ≡ true = grind (arith, nat_tests, code_length) in
      let second : is_point_at (plain_code puts) n ≡ true = ap (λ o. option_map_or (λ i. is_point i.op) o false) thread_begins in
      ap (λ b. b && (true && is_point_at (plain_code puts) n)) ends ∙ second

  -- ---- targets

  thread_fits : (pc k : ℕ) → option_map_or (λ i. names (plain_program name puts) pc i (target_of i.op)) (slice_get thread_code k) true ≡ true
  thread_fits pc zero = refl
  thread_fits pc (suc zero) = refl
  thread_fits pc (suc (suc k)) = refl

  body_fits : AreShallow puts → (pc : ℕ) → pc < length (body_code puts) → (o : Option Instr) → slice_get (body_code puts) pc ≡ o → option_map_or (λ i. names (plain_program name puts) pc i (target_of i.op)) o true ≡ true
  body_fits few pc h None e = refl
  body_fits few pc h (Some i) e = (all_at (InBody name puts) (body_code puts) pc i (body_is_kept name puts few) e).named pc h

  fits_at : AreShallow puts → (pc : ℕ) → target_fits (plain_program name puts) pc ≡ true
  fits_at few pc =
      elim (cases_lt pc (length (body_code puts))) [
        | inl less ↦ (ap (λ o. option_map_or (λ i. names (plain_program name puts) pc i (target_of i.op)) o true) (get_front (body_code puts) thread_code pc less) ∙ body_fits few pc less (slice_get (body_code puts) pc) refl)
        | inr more ↦ (ap (λ o. option_map_or (λ i. names (plain_program name puts) pc i (target_of i.op)) o true) (get_back (body_code puts) thread_code pc more) ∙ thread_fits pc (pc - length (body_code puts)))
      ]

  targets_fit : AreShallow puts → first_failing (target_fits (plain_program name puts)) (length (plain_code puts)) ≡ None
  targets_fit few = first_all (target_fits (plain_program name puts)) (length (plain_code puts)) (λ pc h. fits_at few pc)

  -- ---- the tables

  no_call_there : AreShallow puts → (pc : ℕ) (i : Instr) → slice_get (plain_code puts) pc ≡ Some i → is_call i.op ≡ false
  no_call_there few pc i e =
      elim (cases_lt pc (length (body_code puts))) [
        | inl less ↦ (all_at (InBody name puts) (body_code puts) pc i (body_is_kept name puts few) (sym (get_front (body_code puts) thread_code pc less) ∙ e)).no_call
        | inr more ↦ all_at (λ i. is_call i.op ≡ false) thread_code (pc - length (body_code puts)) i (refl, (refl, tt)) (sym (get_back (body_code puts) thread_code pc more) ∙ e)
      ]

  contained : (pc : ℕ) → pc < length (plain_code puts) → (q : ProcPart) × (containing (plain_procs puts) pc ≡ Some q)
  contained pc h =
      let n = length (body_code puts) in
      elim (cases_lt pc n) [
        | inl less ↦ (let here : nat_lt pc (0 + n) ≡ true = grind (arith, nat_tests) in (proc_of 0 n 3, ap (λ b. cond b (Some (proc_of 0 n 3)) (containing (proc_of n 2 7 ∷ []) pc)) here))
        | inr more ↦ (
            let past : nat_lt pc (0 + n) ≡ false = grind (arith, nat_tests) in
            let here : nat_lt pc (n + 2) ≡ true = grind (arith, nat_tests, code_length) in
            (proc_of n 2 7, ap (λ b. cond b (Some (proc_of 0 n 3)) (containing (proc_of n 2 7 ∷ []) pc)) past ∙ ap (λ b. cond b (Some (proc_of n 2 7)) None) here))
      ]

-- nothing is tidy, so that each tidy place is where it may be
list_all-true : (test : ℕ → Bool) → ((l : ℕ) → test l ≡ true) → (ls : List ℕ) → list_all test ls ≡ true
list_all-true test h [] = refl
list_all-true test h (l ∷ ls) = ap (λ b. b && list_all test ls) (h l) ∙ list_all-true test h ls

told-true : (test : ℕ → Bool) → ((l : ℕ) → test l ≡ true) → (o : Option (Tidies × List ℕ)) (before : Bool) → before ≡ true → told_all test o before ≡ true
told-true test h None before e = refl
told-true test h (Some (All_of places, rest)) before e = list_all-true test h places
told-true test h (Some (Changed removed added, rest)) before e = ap (λ b. b && before) (list_all-true test h added) ∙ e
told-true test h (Some (Unchanged, rest)) before e = e

tidy_all-true : (test : ℕ → Bool) → ((l : ℕ) → test l ≡ true) → (section : List ℕ) (row : ℕ) → tidy_all test section row ≡ true
unfolding tidy_all
tidy_all-true test h section zero = told-true test h (fields.tidies_at (row_in section 0)) true refl
tidy_all-true test h section (suc row) = told-true test h (fields.tidies_at (row_in section (suc row))) (tidy_all test section row) (tidy_all-true test h section row)

within_any : (section : List ℕ) (row frame instr : ℕ) → SaysRow section row (empty_row instr) → is_within section row frame ≡ true
within_any section row frame instr says =
    let test : ℕ → Bool = λ l. not (is_tidy section row l) || nat_lt l (frame + 16) in
    let all = tidy_all-true test (λ l. ap (λ b. not b || nat_lt l (frame + 16)) (says.tidy l)) section row in
    ap (λ b. b && (list_all (is_between 0 (frame + 16)) (contents_in section row).arguments && derived_pass (is_between 0 (frame + 16)) (contents_in section row))) all
    ∙ ap (λ c. list_all (is_between 0 (frame + 16)) c.arguments && derived_pass (is_between 0 (frame + 16)) c) says.contents

-- ---- the directory

map_get : {A B : Type 0} (f : A → B) (xs : List A) (k : ℕ) (x : A) → slice_get xs k ≡ Some x → slice_get (map f xs) k ≡ Some (f x)
map_get f [] k x e = absurd (nothing-there x e)
map_get f (y ∷ xs) zero x e = ap (option_map f) e
map_get f (y ∷ xs) (suc k) x e = map_get f xs k x e

length_map : {A B : Type 0} (f : A → B) (xs : List A) → length (map f xs) ≡ length xs
length_map f [] = refl
length_map f (x ∷ xs) = omega (arith, length_map f xs)

some_at : {A : Type 0} (xs : List A) (k : ℕ) → k < length xs → (x : A) × (slice_get xs k ≡ Some x)
some_at [] k h = absurd (omega arith)
some_at (x ∷ xs) zero h = (x, refl)
some_at (x ∷ xs) (suc k) h = some_at xs k (omega arith)

each_is : (n : ℕ) (bytes xs : List ℕ) → length xs ≡ n → ((k x : ℕ) → slice_get xs k ≡ Some x → word_in (drop (8 * k) bytes) ≡ x) → pointwise nat_eq (each 8 word_in n bytes) xs ≡ true
each_is zero bytes [] e h = refl
each_is zero bytes (x ∷ xs) e h = absurd (omega (arith, e))
each_is (suc n) bytes [] e h = absurd (omega (arith, e))
each_is (suc n) bytes (x ∷ xs) e h =
    let head : word_in bytes ≡ x = h 0 x refl in
    let same : nat_eq (word_in bytes) x ≡ true = grind (arith, nat_tests, head) in
    let later : (k y : ℕ) → slice_get xs k ≡ Some y → word_in (drop (8 * k) (drop 8 bytes)) ≡ y = λ k y f.
    (let place : 8 + 8 * k ≡ 8 * suc k = omega arith in
    ap word_in (drop-drop (8 * k) 8 bytes ∙ ap (λ m. drop m bytes) place) ∙ h (suc k) y f) in
    ap (λ b. b && pointwise nat_eq (each 8 word_in n (drop 8 bytes)) xs) same ∙ each_is n (drop 8 bytes) xs (omega (arith, e)) later

first_none_of : (a b : Option ℕ) → first_fault a b ≡ None → (a ≡ None) × (b ≡ None)
first_none_of None b e = (refl, e)
first_none_of (Some x) b e = absurd (nothing-there x (sym e))

-- ---- the rows of a plain program

abbrev pub Said : List Term → Type 0
Said puts = Tabulates (table_bytes (plain_rows puts)) (plain_rows puts)

parts_sound : (section : List ℕ) → section_fault section ≡ None → (directory_fault section ≡ None) × (first_fault (first_bad section (word_in section)) (end_fault section) ≡ None)
unfolding section_fault
parts_sound section e = first_none_of (directory_fault section) (first_fault (first_bad section (word_in section)) (end_fault section)) e

row_said : (puts : List Term) (said : Said puts) (row x : ℕ) → slice_get (points_from 0 (plain_code puts)) row ≡ Some x → SaysRow (table_bytes (plain_rows puts)) row (empty_row x)
row_said puts said row x e = said.rows_said row (empty_row x) (map_get empty_row (points_from 0 (plain_code puts)) row x e)

many_rows : (puts : List Term) (said : Said puts) → word_in (table_bytes (plain_rows puts)) ≡ length (points_from 0 (plain_code puts))
many_rows puts said = said.count ∙ length_map empty_row (points_from 0 (plain_code puts))

points_listed : (name : List ℕ) (puts : List Term) (said : Said puts) → lists_points (plain_program name puts) ≡ true
unfolding lists_points
points_listed name puts said =
    let section = table_bytes (plain_rows puts) in
    each_is (word_in section) (drop 4 section) (points_from 0 (plain_code puts)) (sym (many_rows puts said))
    (λ k x e. ap word_in (drop-drop (8 * k) 4 section) ∙ (row_said puts said k x e).instr)

point_there : (o : Option Instr) → option_map_or (λ i. is_point i.op) o false ≡ true → (i : Instr) × (o ≡ Some i)
point_there None e = absurd (no-point e)
  where
    no-point : false ≡ true → ⊥
    no-point e = cc
point_there (Some i) e = (i, refl)

row_suited : (name : List ℕ) (puts : List Term) (said : Said puts) → AreShallow puts → (row : ℕ) → row < word_in (table_bytes (plain_rows puts)) → row_suits (plain_program name puts) row ≡ true
row_suited name puts said few row h =
    let p = plain_program name puts in
    let section = table_bytes (plain_rows puts) in
    let found = some_at (points_from 0 (plain_code puts)) row (omega (arith, h, many_rows puts said)) in
    let says = row_said puts said row found.0 found.1 in
    let point = only_points p (parts_sound section said.sound).0 (points_listed name puts said) row h in
    let there = point_there (slice_get (plain_code puts) (row_instruction section row)) point in
    let home = contained name puts (row_instruction section row) (slice_get_within (plain_code puts) (row_instruction section row) there.0 there.1) in
    let inside = ap (λ o. option_map_or (λ (q : ProcPart). is_within section row q.frame) o false) home.1 ∙ within_any section row home.0.frame found.0 says in
    let spared = ap (λ o. option_map_or (λ (i : Instr). not (is_call i.op) || spares_registers section row) o false) there.1
    ∙ ap (λ b. not b || spares_registers section row) (no_call_there name puts few (row_instruction section row) there.0 there.1) in
    ap (λ b. b && option_map_or (λ (i : Instr). not (is_call i.op) || spares_registers section row) (slice_get (plain_code puts) (row_instruction section row)) false) inside ∙ spared

tables_sound : (name : List ℕ) (puts : List Term) (said : Said puts) → AreShallow puts → tables_fault (plain_program name puts) ≡ None
tables_sound name puts said few =
    let p = plain_program name puts in
    let section = table_bytes (plain_rows puts) in
    let parts = parts_sound section said.sound in
    let all = whole_count section parts.1 in
    let rows = first_all (row_suits p) (before_bad section (word_in section)) (λ k h. row_suited name puts said few k (omega (arith, h, all))) in
    tables_is p parts.0 (points_listed name puts said)
    ∙ ap (λ o. option_or o (first_fault (first_bad section (word_in section)) (end_fault section))) rows
    ∙ parts.1

-- ---- the whole

program_sound : (name : List ℕ) (puts : List Term) (said : Said puts) → AreShallow puts → fault_of (plain_program name puts) ≡ None
unfolding fault_of
program_sound name puts said few =
    let p = plain_program name puts in
    ap (λ b. cond b (or_else (option_map refusal.Target (first_failing (target_fits p) (length p.code))) (option_map refusal.Table (tables_fault p))) (Some (refusal.Section 2))) (suits name puts)
    ∙ ap (λ o. or_else (option_map refusal.Target o) (option_map refusal.Table (tables_fault p))) (targets_fit name puts few)
    ∙ ap (option_map refusal.Table) (tables_sound name puts said few)

pub image_sound : (name : List ℕ) (puts : List Term) (said : Said puts) → AreShallow puts → IsImage (plain_image name puts)
image_sound name puts said few = record {
  procs = procs_of_two (length (body_code puts)) (omega arith);
  types = refl;
  globals = refl;
  places = places_of name (puts_lines puts);
  sound = program_sound name puts said few;
  variables = refl;
}
