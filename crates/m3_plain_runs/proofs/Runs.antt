-- The course of the code of a term.
use Rattle.std.proofs.Common.{◌≡◌, ℕ, suc, ◌+◌, ◌-◌, ◌*◌, ◌/◌, ◌%◌, ◌^◌, ◌<◌, ◌≤◌, ℤ, pos, negsuc, Bool, true, false, cond, List, [], ◌∷◌, ◌++◌, length, None, Some, refl, ap, ◌∙◌, subst, inl, inr, arith}
use Rattle.std.specs.Prelude.{FitsSigned, IsTrue, slice_get, nat_lt}
use Rattle.std.proofs.lemmas.List.{get_or-set_same, get_or-set_other, length-set}
use Rattle.std.proofs.lemmas.Bool.Decides.{nat_tests}
use Rattle.std.proofs.lemmas.Int.{of_z-to_z, to_z-of_z, to_z_pos}
use Rattle.std.proofs.lemmas.Bool.{cases_lt}
use mir.Val.{sel}
use Rattle.std.specs.Int.{cast_signed, cast_unsigned, w32, w64}
use Rattle.m3_base.specs.declared.outcomes.FaultKind.TheVariants.{Overflow}
use Rattle.m3_base.specs.declared.outcomes.Outcome.{Outcome}
use Rattle.m3_base.specs.declared.outcomes.Outcome.TheVariants.{Fault as FaultOutcome}
use Rattle.m3_base.specs.Words.{signed_of, word_of}
use Rattle.m3_base.specs.Integers.{is_integer}
use Rattle.m3_isa.specs.declared.instructions.Op.TheVariants.{Li, Lih, Fault}
use Rattle.m3_isa.specs.declared.instructions.Instr.{Instr}
use Rattle.m3_isa.specs.Arithmetic.{integer_word}
use Rattle.m3_isa.specs.Effects.{Goes, reg, signed, jumped, answered, answered_or_jumped}
use Rattle.m3_plain.specs.declared.plain.Arith.{Arith}
use Rattle.m3_plain.specs.declared.plain.Arith.TheVariants.{Add, Sub, Mul}
use Rattle.m3_plain.specs.Terms.{Term, Number, Apply, Value, Gives, Overflows, AreIntegers, result_of, applied, value_of, values_at_once}
use Rattle.m3_plain_image.specs.Code.{on_register, operation, low_half, high_half, number_code, operation_code, code_size, operators, term_code, term_lines}
use Rattle.m3_plain_image.proofs.InLists.{HasAt, has_front, has_back}
use Rattle.m3_plain_image.proofs.CodeShape.{length-term_code, length-term_lines}
use Rattle.m3_plain_runs.proofs.Courses.{Stage, GoesOn, Ends, counted, nothing, plainly, faults, acts, act, and_then, run}

not_below : (m n : ℕ) → n ≤ m → nat_lt m n ≡ false
not_below m n h = grind (arith, nat_tests)

below : (m n : ℕ) → nat_lt m n ≡ true → m < n
below m n h = grind (arith, nat_tests)

-- ---- words

pub fits_integer : (z : ℤ) → IsTrue (is_integer z) → FitsSigned w64 z
fits_integer (pos n) h = record { sfits = below n (2 ^ 63) h }
fits_integer (negsuc n) h = record { sfits = below n (2 ^ 63) h }

pub signed_word : (z : ℤ) → IsTrue (is_integer z) → signed_of (word_of z) ≡ z
signed_word z h = to_z-of_z w64 z (fits_integer z h)

word_below : (z : ℤ) → IsTrue (is_integer z) → word_of z < 2 ^ 64
word_below (pos n) h = omega (arith, below n (2 ^ 63) h)
word_below (negsuc n) h = omega arith

low_low : (l : ℕ) → l < 2 ^ 31 → cast_unsigned w64 (cast_signed w32 l) % 2 ^ 32 ≡ l
low_low l h = ap (λ z. cast_unsigned w64 z % 2 ^ 32) (to_z_pos w32 l h) ∙ omega arith

high_low : (l : ℕ) → 2 ^ 31 ≤ l → l < 2 ^ 32 → cast_unsigned w64 (cast_signed w32 l) % 2 ^ 32 ≡ l
high_low l h k =
    let e : cast_signed w32 l ≡ negsuc (2 ^ 32 - suc l) = ap (λ b. sel b (pos l) (negsuc (2 ^ 32 - suc l))) (not_below l (2 ^ 31) h) in
    ap (λ z. cast_unsigned w64 z % 2 ^ 32) e ∙ omega arith

low_back : (l : ℕ) → l < 2 ^ 32 → cast_unsigned w64 (cast_signed w32 l) % 2 ^ 32 ≡ l
low_back l k = elim (cases_lt l (2 ^ 31)) as (λ _. cast_unsigned w64 (cast_signed w32 l) % 2 ^ 32 ≡ l) [ inl h ↦ low_low l h | inr h ↦ high_low l h k ]

pub halves : (z : ℤ) → IsTrue (is_integer z) → cast_unsigned w32 (high_half z) * 2 ^ 32 + word_of (low_half z) % 2 ^ 32 ≡ word_of z
halves z h =
    let w = word_of z in
    let small : w < 2 ^ 64 = word_below z h in
    let low = low_back (w % 2 ^ 32) (omega arith) in
    let high = of_z-to_z w32 (w / 2 ^ 32) (omega arith) in
    omega (arith, low, high)

-- ---- stages

-- it stands at this instruction, with all its registers
pub record Ready (s : Stage) (at : ℕ) : Type 0 where
  pub pc : s.regs.pc ≡ at
  pub wide : length s.regs.r ≡ 16

-- a register has a word, and the next instruction comes
abbrev gave : Stage → ℕ → ℕ → Stage
gave s a word = record (counted s) { regs = answered s.regs a word }

abbrev jumping : Stage → ℤ → Stage
jumping s target = record (counted s) { regs = jumped s.regs target }

-- after a term: its value is in a register, and those before it are as they were
pub record Gave (s s' : Stage) (at register : ℕ) (z : ℤ) : Type 0 where
  pub ready : Ready s' at
  pub value : reg s'.regs register ≡ word_of z
  pub integer : IsTrue (is_integer z)
  pub kept : (k : ℕ) → k < register → reg s'.regs k ≡ reg s.regs k
  pub output : s'.output ≡ s.output
  pub points : s'.points ≡ s.points

pub next_pc : (pc at : ℕ) → pc ≡ at → at < 2 ^ 31 → (pc + 1) % 2 ^ 32 ≡ at + 1
next_pc pc at e h = let e' : pc + 1 ≡ at + 1 = ap (λ n. n + 1) e in ap (λ n. n % 2 ^ 32) e' ∙ omega arith

ready_gave : (s : Stage) (at a word : ℕ) → Ready s at → at < 2 ^ 31 → Ready (gave s a word) (at + 1)
ready_gave s at a word r h = record { pc = next_pc _ _ r.pc h; wide = length-set s.regs.r a word ∙ r.wide }

reg_same : (s : Stage) (at a word : ℕ) → Ready s at → a < 16 → reg (gave s a word).regs a ≡ word
reg_same s at a word r h = let w = r.wide in get_or-set_same s.regs.r a word 0 (omega arith)

reg_other : (s : Stage) (a word k : ℕ) → k < a → reg (gave s a word).regs k ≡ reg s.regs k
reg_other s a word k h = get_or-set_other s.regs.r a k word 0 (omega arith)

module _ (code : List Instr) (lines : List ℕ) where
  -- the course comes from one stage to another, in at most so many instructions
  pub record Leads (s s' : Stage) (most : ℕ) : Type 0 where
    pub steps : ℕ
    pub within : steps ≤ most
    pub counts : s'.instructions ≡ s.instructions + steps
    pub by : (k : ℕ) → (j : ℕ) × (j ≡ k + steps) × (run code lines j s ≡ run code lines k s')

  -- the course ends, after at most so many instructions
  pub record Halts (s last : Stage) (outcome : Outcome) (most : ℕ) : Type 0 where
    pub steps : ℕ
    pub within : steps ≤ most
    pub counts : last.instructions ≡ s.instructions + steps
    pub by : run code lines steps s ≡ Ends last outcome

  pub fetched : (s : Stage) (at : ℕ) (i : Instr) → s.regs.pc ≡ at → slice_get code at ≡ Some i → slice_get code s.regs.pc ≡ Some i
  fetched s at i e h = ap (λ n. slice_get code n) e ∙ h

  one_run : (s s' : Stage) (i : Instr) → slice_get code s.regs.pc ≡ Some i → acts i.op i lines s ≡ GoesOn s' → (k : ℕ) → run code lines (suc k) s ≡ run code lines k s'
  one_run s s' i h e k = ap (λ o. and_then (act o lines s) (run code lines k)) h ∙ ap (λ p. and_then p (run code lines k)) e

  pub one : (s s' : Stage) (i : Instr) → slice_get code s.regs.pc ≡ Some i → acts i.op i lines s ≡ GoesOn s' → s'.instructions ≡ s.instructions + 1 → Leads s s' 1
  one s s' i h e c = record { steps = 1; within = omega arith; counts = c; by = λ k. (suc k, omega arith, one_run s s' i h e k) }

  pub last_one : (s last : Stage) (outcome : Outcome) (i : Instr) → slice_get code s.regs.pc ≡ Some i → acts i.op i lines s ≡ Ends last outcome → last.instructions ≡ s.instructions + 1 → Halts s last outcome 1
  last_one s last outcome i h e c = record {
    steps = 1;
    within = omega arith;
    counts = c;
    by = ap (λ o. and_then (act o lines s) (run code lines 0)) h ∙ ap (λ p. and_then p (run code lines 0)) e;
  }

  pub on : (s s1 s2 : Stage) (m n : ℕ) → Leads s s1 m → Leads s1 s2 n → Leads s s2 (m + n)
  on s s1 s2 m n a b = record {
    steps = a.steps + b.steps;
    within = let p = a.within in let q = b.within in omega arith;
    counts = let p = a.counts in let q = b.counts in omega arith;
    by = λ k. let y = b.by k in let x = a.by y.0 in (x.0, (let p = x.1 in let q = y.1 in omega arith), x.2 ∙ y.2);
  }

  pub halts_on : (s s1 last : Stage) (outcome : Outcome) (m n : ℕ) → Leads s s1 m → Halts s1 last outcome n → Halts s last outcome (m + n)
  halts_on s s1 last outcome m n a b =
      let x = a.by b.steps in
      let e : x.0 ≡ a.steps + b.steps = (let p = x.1 in omega arith) in
      record {
        steps = a.steps + b.steps;
        within = let p = a.within in let q = b.within in omega arith;
        counts = let p = a.counts in let q = b.counts in omega arith;
        by = subst (λ j. run code lines j s ≡ Ends last outcome) e (x.2 ∙ b.by);
      }

  pub halts_more : (s last : Stage) (outcome : Outcome) (m n : ℕ) → m ≤ n → Halts s last outcome m → Halts s last outcome n
  halts_more s last outcome m n h l = record { steps = l.steps; within = (let p = l.within in omega arith); counts = l.counts; by = l.by }

  -- what the code of a term does: its value is given, or the course ends with its overflow, by one instruction more
  pub record Faults (s : Stage) (line most : ℕ) : Type 0 where
    pub last : Stage
    pub halts : Halts s last (FaultOutcome Overflow 0 line) (most + 1)
    pub output : last.output ≡ s.output
    pub points : last.points ≡ s.points

  pub record Continues (s : Stage) (at register most : ℕ) (z : ℤ) : Type 0 where
    pub after : Stage
    pub leads : Leads s after most
    pub gave : Gave s after at register z

  abbrev pub Runs : Stage → ℕ → ℕ → ℕ → Value → Type 0
  Runs s at register most (Gives z) = Continues s at register most z
  Runs s at register most (Overflows line) = Faults s line most

  number_runs : (n : ℤ) (at register : ℕ) (s : Stage) → IsTrue (is_integer n) → HasAt code at (number_code register n) → Ready s at → at + 2 < 2 ^ 31 → register < 16 → Continues s (at + 2) register 2 n
  number_runs n at register s int has r small few =
      let low = word_of (low_half n) in
      let s1 = gave s register low in
      let word = cast_unsigned w32 (high_half n) * 2 ^ 32 + reg s1.regs register % 2 ^ 32 in
      let s2 = gave s1 register word in
      let r1 : Ready s1 (at + 1) = ready_gave s at register low r (omega arith) in
      let r2 : Ready s2 (at + 1 + 1) = ready_gave s1 (at + 1) register word r1 (omega arith) in
      let two : at + 1 + 1 ≡ at + 2 = omega arith in
      let l1 = one s s1 (on_register Li register (low_half n)) (fetched s at _ r.pc has.0) refl refl in
      let l2 = one s1 s2 (on_register Lih register (high_half n)) (fetched s1 (at + 1) _ r1.pc has.1.0) refl refl in
      let is_low : reg s1.regs register ≡ low = reg_same s at register low r few in
      let is_word : word ≡ word_of n = ap (λ x. cast_unsigned w32 (high_half n) * 2 ^ 32 + x % 2 ^ 32) is_low ∙ halves n int in
      record {
        after = s2;
        leads = on s s1 s2 1 1 l1 l2;
        gave = record {
          ready = subst (λ m. Ready s2 m) two r2;
          value = reg_same s1 (at + 1) register word r1 few ∙ is_word;
          integer = int;
          kept = λ k h. reg_other s1 register word k h ∙ reg_other s register low k h;
          output = refl;
          points = refl;
        };
      }

  op_acts : (op : Arith) (s : Stage) (register fault : ℕ) → acts (operation op) (operation_code op register fault) lines s
      ≡ plainly s (Goes (answered_or_jumped s.regs register (pos fault) (integer_word (result_of op (signed s.regs register) (signed s.regs (register + 1))))) nothing)
  op_acts Add s register fault = refl
  op_acts Sub s register fault = refl
  op_acts Mul s register fault = refl

  -- the word of the result, where it is an integer
  result_word : (b : Bool) (op : Arith) (x y : ℤ) (register : ℕ) (s : Stage) → is_integer (result_of op x y) ≡ b → signed s.regs register ≡ x → signed s.regs (register + 1) ≡ y
      → integer_word (result_of op (signed s.regs register) (signed s.regs (register + 1))) ≡ cond b (Some (word_of (result_of op x y))) None
  result_word b op x y register s int is_x is_y =
      ap (λ v. integer_word (result_of op v (signed s.regs (register + 1)))) is_x
      ∙ ap (λ v. integer_word (result_of op x v)) is_y
      ∙ ap (λ b. cond b (Some (word_of (result_of op x y))) None) int

  gives_run : (op : Arith) (x y : ℤ) (at register fault : ℕ) (s : Stage) → is_integer (result_of op x y) ≡ true → slice_get code at ≡ Some (operation_code op register fault) → Ready s at
      → signed s.regs register ≡ x → signed s.regs (register + 1) ≡ y → at + 1 < 2 ^ 31 → register < 16 → Continues s (at + 1) register 1 (result_of op x y)
  gives_run op x y at register fault s int here r is_x is_y small few =
      let z = result_of op x y in
      let s1 = gave s register (word_of z) in
      let e : acts (operation op) (operation_code op register fault) lines s ≡ GoesOn s1 =
      op_acts op s register fault ∙ ap (λ w. plainly s (Goes (answered_or_jumped s.regs register (pos fault) w) nothing)) (result_word true op x y register s int is_x is_y) in
      record {
        after = s1;
        leads = one s s1 (operation_code op register fault) (fetched s at _ r.pc here) e refl;
        gave = record {
          ready = ready_gave s at register (word_of z) r (omega arith);
          value = reg_same s at register (word_of z) r few;
          integer = int;
          kept = λ k h. reg_other s register (word_of z) k h;
          output = refl;
          points = refl;
        };
      }

  overflow_run : (op : Arith) (x y : ℤ) (at register fault place line : ℕ) (s : Stage) → is_integer (result_of op x y) ≡ false → slice_get code at ≡ Some (operation_code op register fault) → Ready s at
      → signed s.regs register ≡ x → signed s.regs (register + 1) ≡ y → slice_get code fault ≡ Some (on_register Fault 0 (pos place)) → slice_get lines place ≡ Some line → Faults s line 1
  overflow_run op x y at register fault place line s int here r is_x is_y there held =
      let s1 = jumping s (pos fault) in
      let e : acts (operation op) (operation_code op register fault) lines s ≡ GoesOn s1 =
      op_acts op s register fault ∙ ap (λ w. plainly s (Goes (answered_or_jumped s.regs register (pos fault) w) nothing)) (result_word false op x y register s int is_x is_y) in
      let l1 = one s s1 (operation_code op register fault) (fetched s at _ r.pc here) e refl in
      let e2 : acts Fault (on_register Fault 0 (pos place)) lines s1 ≡ Ends (counted s1) (FaultOutcome Overflow 0 line) = ap (λ o. faults s1 (Some Overflow) o) held in
      let l2 = last_one s1 (counted s1) (FaultOutcome Overflow 0 line) (on_register Fault 0 (pos place)) there e2 refl in
      record { last = counted s1; halts = halts_on s s1 (counted s1) _ 1 1 l1 l2; output = refl; points = refl }

  -- an operation on a register and the next one
  operation_runs : (b : Bool) (op : Arith) (x y : ℤ) (at register fault place line : ℕ) (s : Stage) → is_integer (result_of op x y) ≡ b → IsTrue (is_integer x) → IsTrue (is_integer y)
      → slice_get code at ≡ Some (operation_code op register fault) → Ready s at → reg s.regs register ≡ word_of x → reg s.regs (register + 1) ≡ word_of y
      → slice_get code fault ≡ Some (on_register Fault 0 (pos place)) → slice_get lines place ≡ Some line → at + 1 < 2 ^ 31 → register < 16
      → Runs s (at + 1) register 1 (cond b (Gives (result_of op x y)) (Overflows line))
  operation_runs b op x y at register fault place line s int int_x int_y here r has_x has_y there held small few =
      let is_x : signed s.regs register ≡ x = ap signed_of has_x ∙ signed_word x int_x in
      let is_y : signed s.regs (register + 1) ≡ y = ap signed_of has_y ∙ signed_word y int_y in
      elim b as (λ b. is_integer (result_of op x y) ≡ b → Runs s (at + 1) register 1 (cond b (Gives (result_of op x y)) (Overflows line))) [
        | true ↦ λ e. gives_run op x y at register fault s e here r is_x is_y small few
        | false ↦ λ e. overflow_run op x y at register fault place line s e here r is_x is_y there held
      ] int

  -- a course of no output leads to the code of a term
  prefixed : (v : Value) (s s' : Stage) (at register m n : ℕ) → Leads s s' m → ((k : ℕ) → k < register → reg s'.regs k ≡ reg s.regs k) → s'.output ≡ s.output → s'.points ≡ s.points → Runs s' at register n v → Runs s at register (m + n) v
  prefixed (Gives z) s s' at register m n l same out pts r = record {
    after = r.after;
    leads = on s s' r.after m n l r.leads;
    gave = record {
      ready = r.gave.ready;
      value = r.gave.value;
      integer = r.gave.integer;
      kept = λ k h. r.gave.kept k h ∙ same k h;
      output = r.gave.output ∙ out;
      points = r.gave.points ∙ pts;
    };
  }
  prefixed (Overflows line) s s' at register m n l same out pts r = record {
    last = r.last;
    halts = halts_more s r.last _ (m + (n + 1)) (m + n + 1) (omega arith) (halts_on s s' r.last _ m (n + 1) l r.halts);
    output = r.output ∙ out;
    points = r.points ∙ pts;
  }

  faults_more : (s : Stage) (line m n : ℕ) → m ≤ n → Faults s line m → Faults s line n
  faults_more s line m n h f = record { last = f.last; halts = halts_more s f.last _ (m + 1) (n + 1) (omega arith) f.halts; output = f.output; points = f.points }

  runs_same : (v : Value) (s : Stage) (at at' register m n : ℕ) → at ≡ at' → m ≡ n → Runs s at register m v → Runs s at' register n v
  runs_same v s at at' register m n e h r = subst (λ y. Runs s at' register y v) h (subst (λ x. Runs s x register m v) e r)

  -- the right operand and the operation, where the left operand was given
  second_runs : (vb : Value) (x : ℤ) (op : Arith) (line at register fault place sa sb : ℕ) (s s1 : Stage) → Gave s s1 (at + sa) register x → Leads s s1 sa
      → slice_get code (at + sa + sb) ≡ Some (operation_code op register fault) → slice_get code fault ≡ Some (on_register Fault 0 (pos place)) → slice_get lines place ≡ Some line
      → at + sa + sb + 1 < 2 ^ 31 → register < 16 → Runs s1 (at + sa + sb) (register + 1) sb vb
      → Runs s (at + (sa + sb + 1)) register (sa + sb + 1) (applied op line (Gives x) vb)
  second_runs (Overflows l) x op line at register fault place sa sb s s1 g l1 here there held small few rb =
      record {
        last = rb.last;
        halts = halts_more s rb.last _ (sa + (sb + 1)) _ (omega arith) (halts_on s s1 rb.last _ sa (sb + 1) l1 rb.halts);
        output = rb.output ∙ g.output;
        points = rb.points ∙ g.points;
      }
  second_runs (Gives y) x op line at register fault place sa sb s s1 g l1 here there held small few rb =
      let s2 = rb.after in
      let has_x : reg s2.regs register ≡ word_of x = rb.gave.kept register (omega arith) ∙ g.value in
      let r = operation_runs (is_integer (result_of op x y)) op x y (at + sa + sb) register fault place line s2 refl g.integer rb.gave.integer here rb.gave.ready has_x rb.gave.value there held small few in
      let same : (k : ℕ) → k < register → reg s2.regs k ≡ reg s.regs k = λ k h. rb.gave.kept k (omega arith) ∙ g.kept k h in
      let whole = prefixed (applied op line (Gives x) (Gives y)) s s2 (at + sa + sb + 1) register (sa + sb) 1 (on s s1 s2 sa sb l1 rb.leads) same (rb.gave.output ∙ g.output) (rb.gave.points ∙ g.points) r in
      runs_same (applied op line (Gives x) (Gives y)) s (at + sa + sb + 1) (at + (sa + sb + 1)) register (sa + sb + 1) (sa + sb + 1) (omega arith) refl whole

  -- both operands and the operation
  apply_runs : (va vb : Value) (op : Arith) (line at register fault place sa sb : ℕ) (s : Stage)
      → slice_get code (at + sa + sb) ≡ Some (operation_code op register fault) → slice_get code fault ≡ Some (on_register Fault 0 (pos place)) → slice_get lines place ≡ Some line
      → at + sa + sb + 1 < 2 ^ 31 → register < 16 → Runs s (at + sa) register sa va
      → ((s1 : Stage) → Ready s1 (at + sa) → Runs s1 (at + sa + sb) (register + 1) sb vb)
      → Runs s (at + (sa + sb + 1)) register (sa + sb + 1) (applied op line va vb)
  apply_runs (Overflows l) vb op line at register fault place sa sb s here there held small few ra rb = faults_more s l sa _ (omega arith) ra
  apply_runs (Gives x) vb op line at register fault place sa sb s here there held small few ra rb =
      second_runs vb x op line at register fault place sa sb s ra.after ra.gave ra.leads here there held small few (rb ra.after ra.gave.ready)

  -- the faults stand behind each other
  abbrev pub AreFaults : ℕ → ℕ → Type 0
  AreFaults faults count = (k : ℕ) → k < count → slice_get code (faults + k) ≡ Some (on_register Fault 0 (pos k))

  pub term_runs : (t : Term) (at faults count place register : ℕ) (s : Stage) → AreFaults faults count → AreIntegers t → HasAt code at (term_code faults place register t) → HasAt lines place (term_lines t)
      → place + operators t ≤ count → Ready s at → at + code_size t < 2 ^ 31 → register + values_at_once t ≤ 16 → Runs s (at + code_size t) register (code_size t) (value_of t)
  term_runs (Number n) at faults count place register s all ints has held within r small few = number_runs n at register s ints has r small (omega arith)
  term_runs (Apply op line a b) at faults count place register s all ints has held within r small few =
      let sa = code_size a in
      let sb = code_size b in
      let ca = term_code faults place register a in
      let cb = term_code faults (place + operators a) (register + 1) b in
      let own_place = place + operators a + operators b in
      let last = operation_code op register (faults + own_place) ∷ [] in
      let la = length-term_code a faults place register in
      let lb = length-term_code b faults (place + operators a) (register + 1) in
      let after_a = subst (λ n. HasAt code (at + n) (cb ++ last)) la (has_back code at ca (cb ++ last) has) in
      let after_b = subst (λ n. HasAt code (at + sa + n) last) lb (has_back code (at + sa) cb last after_a) in
      let lines_a = has_front lines place (term_lines a) (term_lines b ++ line ∷ []) held in
      let after_lines_a = subst (λ n. HasAt lines (place + n) (term_lines b ++ line ∷ [])) (length-term_lines a) (has_back lines place (term_lines a) (term_lines b ++ line ∷ []) held) in
      let lines_b = has_front lines (place + operators a) (term_lines b) (line ∷ []) after_lines_a in
      let own = subst (λ n. HasAt lines (place + operators a + n) (line ∷ [])) (length-term_lines b) (has_back lines (place + operators a) (term_lines b) (line ∷ []) after_lines_a) in
      let ra = term_runs a at faults count place register s all ints.0 (has_front code at ca (cb ++ last) has) lines_a (omega arith) r (omega arith) (omega arith) in
      apply_runs (value_of a) (value_of b) op line at register (faults + own_place) own_place sa sb s after_b.0 (all own_place (omega arith)) own.0 (omega arith) (omega arith) ra
      (λ s1 r1. term_runs b (at + sa) faults count (place + operators a) (register + 1) s1 all ints.1 (has_front code (at + sa) cb last after_a) lines_b (omega arith) r1 (omega arith) (omega arith))
