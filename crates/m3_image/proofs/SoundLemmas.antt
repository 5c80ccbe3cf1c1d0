-- What every program that was read keeps, from the tests that it passed.
use Rattle.std.proofs.Common.{◌≡◌, ℕ, ℤ, pos, negsuc, ◌+◌, ◌<◌, ◌≤◌, ◌^◌, Bool, true, false, ◌&&◌, ◌||◌, not, length, Option, Some, None, inl, inr, refl, sym, subst, arith}
use Rattle.std.specs.Prelude.{nat_lt, nat_le}
use Rattle.std.specs.Option.{option_map, option_map_or}
use Rattle.std.specs.List.{slice_get, list_all}
use Rattle.std.proofs.lemmas.Option.{slice_get_within}
use Rattle.std.proofs.lemmas.Bool.{ltb-true}
use Rattle.std.proofs.lemmas.Bool.Decides.{nat_tests}
use Rattle.m3_tables.specs.Numbers.{word_in}
use Rattle.m3_tables.specs.Rows.{Entry}
use Rattle.m3_tables.specs.Sections.{directory_fault, end_fault, is_tidy, contents_in, is_good, tidy_all, is_between, entry_passes, derived_pass, is_within, are_free, spares_registers, instruction_in as row_instruction}
use Rattle.m3_tables.proofs.KeepingLemmas.{choice, and_parts, or_implies, has_passes, place_passes, tidy_passes, free_passes, row_kept}
use Rattle.m3_isa.specs.declared.instructions.Instr.{Instr}
use Rattle.m3_image_sections.specs.declared.procs.ProcPart.{ProcPart}
use Rattle.m3_image_sections.specs.declared.refusal.ImageRefusal.TheVariants as refusal
use Rattle.m3_image.specs.declared.targets.Target.{Target}
use Rattle.m3_image.specs.declared.targets.Target.TheVariants.{Jump}
use Rattle.m3_image_sections.specs.Parts.{Program}
use Rattle.m3_image_sections.specs.Ranges.{or_else, first_failing, containing}
use Rattle.m3_image.specs.Programs.{names, target_of, target_fits, lists_points, is_call, row_suits, row_fits, tables_fault, procs_suit, fault_of}
use Rattle.m3_image_sections.specs.Ranges.{contains}
use Rattle.m3_image.specs.Sound.{IsInFrame, EntryPlaces, RowInFrame, RowSparesRegisters, ProgramRow, JumpStays, IsSoundProgram}
use Rattle.m3_image_sections.proofs.FirstLemmas.{first_none}
use Rattle.m3_image.proofs.CoverLemmas.{suits, all_contained}
use Rattle.m3_image.proofs.PointLemmas.{each_point, only_points}

-- ---- which tests were passed

or_none : {A : Type 0} (a b : Option A) → or_else a b ≡ None → (a ≡ None) × (b ≡ None)
or_none (Some x) b e = absurd cc
or_none None b e = (refl, e)

map_none : {A B : Type 0} (f : A → B) (o : Option A) → option_map f o ≡ None → o ≡ None
map_none f None e = refl
map_none f (Some x) e = absurd cc

both_none : (p : Program) → fault_of p ≡ None → (first_failing (target_fits p) (length p.code) ≡ None) × (tables_fault p ≡ None)
unfolding fault_of
both_none p e =
    let good : procs_suit p ≡ true = suits p e in
    let rest = rw good at e in
    let parts = or_none (option_map refusal.Target (first_failing (target_fits p) (length p.code))) (option_map refusal.Table (tables_fault p)) rest in
    (map_none refusal.Target (first_failing (target_fits p) (length p.code)) parts.0, map_none refusal.Table (tables_fault p) parts.1)

tables_parts : (p : Program) → tables_fault p ≡ None → (directory_fault p.tables ≡ None) × (lists_points p ≡ true) × (first_failing (row_fits p) (word_in p.tables) ≡ None)
unfolding tables_fault
tables_parts p e =
    let parts = or_none (directory_fault p.tables) _ e in
    elim (choice (lists_points p)) [
      | inl listed ↦ (parts.0, listed, (or_none (first_failing (row_fits p) (word_in p.tables)) (end_fault p.tables) (rw listed at parts.1)).0)
      | inr missing ↦ (let h = rw missing at parts.1 in absurd cc)
    ]

-- ---- jumps

stays : (home : ProcPart) (imm : ℤ) → contains home imm ≡ true → (to : ℕ) × (imm ≡ pos to) × (home.first ≤ to) × (to < home.first + home.count)
stays home (pos n) e =
    let parts = and_parts (nat_le home.first n) (nat_lt n (home.first + home.count)) e in
    (n, refl, grind (arith, nat_tests, parts.0), ltb-true n (home.first + home.count) parts.1)
stays home (negsuc n) e = absurd cc

jump_stays : (p : Program) (pc : ℕ) (i : Instr) (o : Option ProcPart) → o ≡ containing p.procs pc → option_map_or (λ q. contains q i.imm) o false ≡ true → JumpStays p pc i
jump_stays p pc i None h e = absurd cc
jump_stays p pc i (Some home) h e =
    let found = stays home i.imm e in
    record { home = home; to = found.0; housed = sym h; target = found.1; from_first = found.2; to_last = found.3 }

named : (p : Program) (pc : ℕ) (i : Instr) → target_fits p pc ≡ true → slice_get p.code pc ≡ Some i → names p pc i (target_of i.op) ≡ true
named p pc i e h = rw h at e

jumps_stay : (p : Program) → fault_of p ≡ None → (pc : ℕ) (i : Instr) → slice_get p.code pc ≡ Some i → target_of i.op ≡ Jump → JumpStays p pc i
jumps_stay p sound pc i h jump =
    let fits = first_none (target_fits p) (length p.code) (both_none p sound).0 pc (slice_get_within p.code pc i h) in
    let all = subst (λ (t : Target). names p pc i t ≡ true) jump (named p pc i fits h) in
    jump_stays p pc i (containing p.procs pc) refl all

-- ---- places of a row

between_low : (low limit l : ℕ) → is_between low limit l ≡ true → low ≤ l
between_low low limit l e = let h = (and_parts (not (nat_lt l low)) (nat_lt l limit) e).0 in grind (arith, nat_tests, h)

between_high : (low limit l : ℕ) → is_between low limit l ≡ true → l < limit
between_high low limit l e = ltb-true l limit (and_parts (not (nat_lt l low)) (nat_lt l limit) e).1

path_passes : (test : ℕ → Bool) (P : ℕ → Type 0) → ((l : ℕ) → test l ≡ true → P l) → (o : Option ℕ) → option_map_or test o true ≡ true → (q : ℕ) → o ≡ Some q → P q
path_passes test P means None e q h = absurd cc
path_passes test P means (Some x) e q h = let same : x ≡ q = cc in subst P same (means x e)

entry_places : (test : ℕ → Bool) (P : ℕ → Type 0) → ((l : ℕ) → test l ≡ true → P l) → (e : Entry) → entry_passes test e ≡ true → EntryPlaces P e
entry_places test P means e h =
    let parts = and_parts (test e.location) (option_map_or test e.path true) h in
    record { location = means e.location parts.0; path = λ q f. path_passes test P means e.path parts.1 q f }

in_frame : (p : Program) (row frame : ℕ) → is_within p.tables row frame ≡ true → RowInFrame p row frame
in_frame p row frame e =
    let inside : ℕ → Bool = is_between 0 (frame + 16) in
    let c = contents_in p.tables row in
    let tidy_test : ℕ → Bool = λ l. not (is_tidy p.tables row l) || nat_lt l (frame + 16) in
    let parts = and_parts (tidy_all tidy_test p.tables row) _ e in
    let rest = and_parts (list_all inside c.arguments) (derived_pass inside c) parts.1 in
    let derived = and_parts (list_all inside c.passed) (list_all (entry_passes inside) c.derived) rest.1 in
    record {
      tidy = λ l h. ltb-true l (frame + 16) (or_implies (is_tidy p.tables row l) (nat_lt l (frame + 16)) (tidy_passes tidy_test p.tables row l parts.0 h) h);
      arguments = λ l h. between_high 0 (frame + 16) l (has_passes inside c.arguments l rest.0 h);
      passed = λ l h. between_high 0 (frame + 16) l (has_passes inside c.passed l derived.0 h);
      derived = λ n d h. entry_places inside (IsInFrame frame) (between_high 0 (frame + 16)) d (place_passes (entry_passes inside) c.derived n d derived.1 h);
    }

spares : (p : Program) (row : ℕ) → spares_registers p.tables row ≡ true → RowSparesRegisters p row
spares p row e =
    let slots : ℕ → Bool = is_between 16 (2 ^ 32) in
    let c = contents_in p.tables row in
    let parts = and_parts (are_free (is_tidy p.tables row) 16) (derived_pass slots c) e in
    let derived = and_parts (list_all slots c.passed) (list_all (entry_passes slots) c.derived) parts.1 in
    record {
      tidy = λ l h. free_passes (is_tidy p.tables row) 16 l parts.0 h;
      passed = λ l h. between_low 16 (2 ^ 32) l (has_passes slots c.passed l derived.0 h);
      derived = λ n d h. entry_places slots (λ l. 16 ≤ l) (between_low 16 (2 ^ 32)) d (place_passes (entry_passes slots) c.derived n d derived.1 h);
    }

-- ---- rows

program_row : (p : Program) (row : ℕ) (house : Option ProcPart) (place : Option Instr) → house ≡ containing p.procs (row_instruction p.tables row) → place ≡ slice_get p.code (row_instruction p.tables row)
    → ((k : ℕ) → k ≤ row → is_good p.tables k ≡ true)
    → (option_map_or (λ q. is_within p.tables row q.frame) house false && option_map_or (λ i. not (is_call i.op) || spares_registers p.tables row) place false) ≡ true → ProgramRow p row
program_row p row None place h f good e = absurd cc
program_row p row (Some home) None h f good e =
    let parts = and_parts (is_within p.tables row home.frame) false e in absurd cc
program_row p row (Some home) (Some i) h f good e =
    let parts = and_parts (is_within p.tables row home.frame) (not (is_call i.op) || spares_registers p.tables row) e in
    record {
      home = home;
      instr = i;
      housed = sym h;
      placed = sym f;
      form = row_kept p.tables row good;
      in_frame = in_frame p row home.frame parts.0;
      spared = λ call. spares p row (or_implies (is_call i.op) (spares_registers p.tables row) parts.1 call);
    }

rows_fit : (p : Program) → fault_of p ≡ None → (row : ℕ) → row < word_in p.tables → row_fits p row ≡ true
rows_fit p sound row lt = first_none (row_fits p) (word_in p.tables) (tables_parts p (both_none p sound).1).2 row lt

rows_kept : (p : Program) → fault_of p ≡ None → (row : ℕ) → row < word_in p.tables → ProgramRow p row
rows_kept p sound row lt =
    program_row p row (containing p.procs (row_instruction p.tables row)) (slice_get p.code (row_instruction p.tables row)) refl refl
    (λ k le. (and_parts (is_good p.tables k) (row_suits p k) (rows_fit p sound k (omega arith))).0)
    (and_parts (is_good p.tables row) (row_suits p row) (rows_fit p sound row lt)).1

pub sound_program : (p : Program) → fault_of p ≡ None → IsSoundProgram p
sound_program p sound = record {
  covered = λ pc h. all_contained p pc sound h;
  jumps = jumps_stay p sound;
  points = λ pc point. (let parts = tables_parts p (both_none p sound).1 in each_point p parts.0 parts.1 pc point);
  only_points = λ row less. (let parts = tables_parts p (both_none p sound).1 in only_points p parts.0 parts.1 row less);
  rows = rows_kept p sound;
}
