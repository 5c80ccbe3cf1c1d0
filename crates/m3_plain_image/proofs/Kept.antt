-- What each instruction of plain code keeps: it is one, what it names is there, and it is no call.
use Rattle.std.proofs.Common.{◌≡◌, ℕ, zero, suc, ℤ, pos, ◌+◌, ◌-◌, ◌<◌, ◌≤◌, ◌*◌, Bool, true, false, cond, List, [], ◌∷◌, ◌++◌, length, None, Some, refl, sym, ap, ◌∙◌, subst, arith, length-append}
use Rattle.std.specs.Prelude.{map, max, nat_lt, ◌&&◌}
use Rattle.std.specs.Option.{option_map_or}
use Rattle.std.specs.List.{AllByRecursion}
use Rattle.std.proofs.lemmas.Bool.Decides.{nat_tests}
use Rattle.m3_isa.specs.declared.instructions.Op.TheVariants.{Li, Lih, Point, Fault, Endp, Endt, Putn}
use Rattle.m3_isa.specs.declared.instructions.Instr.{Instr}
use Rattle.m3_isa.specs.Instructions.{IsInstruction}
use Rattle.m3_image.specs.Programs.{names, target_of, is_call}
use Rattle.m3_image_sections.specs.declared.procs.ProcPart.{ProcPart}
use Rattle.m3_image_sections.specs.Parts.{Program}
use Rattle.m3_image_sections.specs.Ranges.{containing, contains}
use Rattle.m3_plain.specs.declared.plain.Arith.{Arith}
use Rattle.m3_plain.specs.declared.plain.Arith.TheVariants.{Add, Sub, Mul}
use Rattle.m3_plain.specs.Terms.{Term, Number, Apply, AreShallow, values_at_once}
use Rattle.m3_plain_image.specs.Code.{on_register, alone, operation, low_half, high_half, number_code, operation_code, operators, term_code, puts_code, puts_size, puts_lines, puts_operators, faults_code, body_code, thread_code}
use Rattle.m3_plain_image.specs.Image.{proc_of, plain_procs, plain_program, in_first_file}
use Rattle.m3_plain_image.proofs.InLists.{all_both}
use Rattle.m3_plain_image.proofs.CodeShape.{length-puts_code, length-puts_lines, length-faults_code}

module _ (p : Program) (n : ℕ) (rest : List ProcPart) (first : p.procs ≡ proc_of 0 n 3 ∷ rest) where
  -- in the first procedure
  pub record Kept (i : Instr) : Type 0 where
    pub valid : IsInstruction i
    pub named : (pc : ℕ) → pc < n → names p pc i (target_of i.op) ≡ true
    pub no_call : is_call i.op ≡ false

  inside : (pc t : ℕ) → pc < n → t < n → option_map_or (λ q. contains q (pos t)) (containing p.procs pc) false ≡ true
  inside pc t h k =
      let here : nat_lt pc (0 + n) ≡ true = grind (arith, nat_tests) in
      let there : contains (proc_of 0 n 3) (pos t) ≡ true = grind (arith, nat_tests) in
      ap (λ ps. option_map_or (λ q. contains q (pos t)) (containing ps pc) false) first
      ∙ ap (λ b. option_map_or (λ q. contains q (pos t)) (cond b (Some (proc_of 0 n 3)) (containing rest pc)) false) here
      ∙ there

  operation_kept : (op : Arith) (register fault : ℕ) → register + 1 < 16 → fault < n → Kept (operation_code op register fault)
  operation_kept Add register fault few h = record { valid = (omega arith, omega arith, omega arith, tt); named = λ pc k. inside pc fault k h; no_call = refl }
  operation_kept Sub register fault few h = record { valid = (omega arith, omega arith, omega arith, tt); named = λ pc k. inside pc fault k h; no_call = refl }
  operation_kept Mul register fault few h = record { valid = (omega arith, omega arith, omega arith, tt); named = λ pc k. inside pc fault k h; no_call = refl }

  number_kept : (register : ℕ) (z : ℤ) → register < 16 → AllByRecursion Kept (number_code register z)
  number_kept register z few =
      (record { valid = (few, refl, refl, tt); named = λ pc h. refl; no_call = refl }, (record { valid = (few, refl, refl, tt); named = λ pc h. refl; no_call = refl }, tt))

  term_kept : (t : Term) (faults place register : ℕ) → register + values_at_once t ≤ 16 → faults + (place + operators t) ≤ n → AllByRecursion Kept (term_code faults place register t)
  term_kept (Number z) faults place register few h = number_kept register z (omega arith)
  term_kept (Apply op line a b) faults place register few h =
      let left = term_code faults place register a in
      let right = term_code faults (place + operators a) (register + 1) b in
      let last = operation_code op register (faults + (place + operators a + operators b)) ∷ [] in
      let one = at_least_one b in
      all_both Kept left (right ++ last) (term_kept a faults place register (omega arith) (omega arith))
      (all_both Kept right last (term_kept b faults (place + operators a) (register + 1) (omega arith) (omega arith)) (operation_kept op register _ (omega (arith, one)) (omega arith), tt))
    where
      at_least_one : (t : Term) → 1 ≤ values_at_once t
      at_least_one (Number z) = omega arith
      at_least_one (Apply op line a b) = omega arith

  puts_kept : (puts : List Term) (faults place : ℕ) → AreShallow puts → faults + (place + puts_operators puts) ≤ n → AllByRecursion Kept (puts_code faults place puts)
  puts_kept [] faults place few h = (record { valid = (refl, refl, refl, refl); named = λ pc h. refl; no_call = refl }, tt)
  puts_kept (put ∷ puts) faults place few h =
      all_both Kept (term_code faults place 0 put) (alone Putn ∷ puts_code faults (place + operators put) puts) (term_kept put faults place 0 (let f = few.0 in omega arith) (omega arith))
      (record { valid = (omega arith, refl, refl, refl); named = λ pc h. refl; no_call = refl }, puts_kept puts faults (place + operators put) few.1 (omega arith))

  faults_kept : (place count : ℕ) → place + count ≤ length p.places → AllByRecursion Kept (faults_code place count)
  faults_kept place zero h = tt
  faults_kept place (suc count) h =
      (record { valid = (tt, refl, refl, tt); named = λ pc k. fault_named; no_call = refl }, faults_kept (place + 1) count (omega arith))
    where
      fault_named : nat_lt place (length p.places) && nat_lt 0 16 ≡ true
      fault_named = grind (arith, nat_tests)

  body_kept : (puts : List Term) → AreShallow puts → length (body_code puts) ≡ n → length p.places ≡ puts_operators puts → AllByRecursion Kept (body_code puts)
  body_kept puts few whole places =
      let faults = 1 + puts_size puts in
      let main = puts_code faults 0 puts in
      let behind = faults_code 0 (puts_operators puts) in
      let size = length-puts_code puts faults 0 in
      let count = length-faults_code 0 (puts_operators puts) in
      let both = length-append main behind in (
        record { valid = (refl, refl, refl, refl); named = λ pc h. refl; no_call = refl },
        all_both Kept main behind (puts_kept puts faults 0 few (omega (arith, whole, size, count, both))) (faults_kept 0 (puts_operators puts) (omega (arith, places))),
      )

-- the body of a plain program
abbrev pub InBody : List ℕ → List Term → Instr → Type 0
InBody name puts = Kept (plain_program name puts) (length (body_code puts)) (proc_of (length (body_code puts)) 2 7 ∷ []) refl

length-places : (lines : List ℕ) → length (map in_first_file lines) ≡ length lines
length-places [] = refl
length-places (line ∷ lines) = omega (arith, length-places lines)

pub body_is_kept : (name : List ℕ) (puts : List Term) → AreShallow puts → AllByRecursion (InBody name puts) (body_code puts)
body_is_kept name puts few =
    body_kept (plain_program name puts) (length (body_code puts)) (proc_of (length (body_code puts)) 2 7 ∷ []) refl puts few refl (omega (arith, length-places (puts_lines puts), length-puts_lines puts))
