-- The course of a module's body: the terms one after another, each followed by its put.
use Rattle.std.proofs.Common.{◌≡◌, ℕ, zero, suc, ◌+◌, ◌^◌, ◌<◌, ◌≤◌, ℤ, pos, List, [], ◌∷◌, ◌++◌, length, Some, refl, sym, ap, ◌∙◌, subst, arith, append_assoc, length-append, append-nil}
use Rattle.std.specs.Prelude.{slice_get, flat_map}
use Rattle.std.specs.Fmt.{signed_decimal}
use Rattle.m3_base.specs.declared.outcomes.Outcome.{Outcome}
use Rattle.m3_base.specs.declared.outcomes.Outcome.TheVariants.{Done}
use Rattle.m3_base.specs.Words.{signed_of}
use Rattle.m3_isa.specs.declared.instructions.Op.TheVariants.{Point, Endp, Putn, Fault}
use Rattle.m3_isa.specs.declared.instructions.Instr.{Instr}
use Rattle.m3_isa.specs.Effects.{signed}
use Rattle.m3_plain.specs.Terms.{Term, Value, Gives, Overflows, AllIntegers, AreShallow, value_of, all_nodes, put_first, ended_by, values_of, outcome_of, output_of, points_of}
use Rattle.m3_plain_image.specs.Code.{on_register, alone, code_size, operators, term_code, term_lines, puts_code, puts_size, puts_lines, puts_operators, faults_code, body_code, thread_code, plain_code}
use Rattle.m3_plain_image.proofs.CodeShape.{length-term_code, length-term_lines, length-puts_code, puts_size_le}
use Rattle.m3_plain_runs.proofs.Courses.{Stage, Course, GoesOn, Ends, Strays, first_stage, counted, passed, step, and_then, run}
use Rattle.m3_plain_image.proofs.InLists.{HasAt, has_front, has_back, has_all}
use Rattle.m3_plain_runs.proofs.Runs.{signed_word, Ready, next_pc, Halts, fetched, one, last_one, on, halts_on, halts_more, Runs, AreFaults, term_runs}

-- each of the faults that stand from an instruction on
faults_stand : (code : List Instr) (at place n k : ℕ) → HasAt code at (faults_code place n) → k < n → slice_get code (at + k) ≡ Some (on_register Fault 0 (pos (place + k)))
faults_stand code at place zero k h l = absurd (omega arith)
faults_stand code at place (suc n) zero h l =
    let e : at ≡ at + 0 = omega arith in
    let f : place ≡ place + 0 = omega arith in
    subst (λ x. slice_get code x ≡ Some (on_register Fault 0 (pos (place + 0)))) e (subst (λ x. slice_get code at ≡ Some (on_register Fault 0 (pos x))) f h.0)
faults_stand code at place (suc n) (suc k) h l =
    let e : at + 1 + k ≡ at + suc k = omega arith in
    let f : place + 1 + k ≡ place + suc k = omega arith in
    let more = faults_stand code (at + 1) (place + 1) n k h.1 (omega arith) in
    subst (λ x. slice_get code x ≡ Some (on_register Fault 0 (pos (place + suc k)))) e (subst (λ x. slice_get code (at + 1 + k) ≡ Some (on_register Fault 0 (pos x))) f more)

from_zero : (code : List Instr) (at k : ℕ) → slice_get code (at + k) ≡ Some (on_register Fault 0 (pos (0 + k))) → slice_get code (at + k) ≡ Some (on_register Fault 0 (pos k))
from_zero code at k h = let e : 0 + k ≡ k = omega arith in subst (λ x. slice_get code (at + k) ≡ Some (on_register Fault 0 (pos x))) e h

pub goes_on_not_ends : (s last : Stage) (outcome : Outcome) → GoesOn s ≡ Ends last outcome → ⊥
goes_on_not_ends s last outcome e = cc

pub strays_not_ends : (last : Stage) (outcome : Outcome) → Strays ≡ Ends last outcome → ⊥
strays_not_ends last outcome e = cc

module _ (code : List Instr) (lines : List ℕ) where
  -- the course ends with this outcome, and puts these values
  record Putting (s : Stage) (values : List ℤ) (outcome : Outcome) (most : ℕ) : Type 0 where
    last : Stage
    halts : Halts code lines s last outcome most
    output : last.output ≡ s.output ++ flat_map signed_decimal values
    points : last.points ≡ s.points + length values

  put_runs : (v : Value) (values : List ℤ) (outcome : Outcome) (at size most : ℕ) (s : Stage) → Runs code lines s (at + size) 0 size v → slice_get code (at + size) ≡ Some (alone Putn) → at + size < 2 ^ 31
      → ((s2 : Stage) → Ready s2 (at + size + 1) → Putting s2 values outcome most) → Putting s (put_first v values) (ended_by v outcome) (size + 1 + most)
  put_runs (Overflows line) values outcome at size most s r here small rest = record {
    last = r.last;
    halts = halts_more code lines s r.last _ (size + 1) _ (omega arith) r.halts;
    output = r.output ∙ sym (append-nil s.output);
    points = let e = r.points in omega arith;
  }
  put_runs (Gives z) values outcome at size most s r here small rest =
      let s1 = r.after in
      let s2 = passed s1 (signed_decimal (signed s1.regs 0)) in
      let l2 = one code lines s1 s2 (alone Putn) (fetched code lines s1 (at + size) _ r.gave.ready.pc here) refl refl in
      let r2 : Ready s2 (at + size + 1) = record { pc = next_pc _ _ r.gave.ready.pc small; wide = r.gave.ready.wide } in
      let p = rest s2 r2 in
      let text : signed_decimal (signed s1.regs 0) ≡ signed_decimal z = ap signed_decimal (ap signed_of r.gave.value ∙ signed_word z r.gave.integer) in
      record {
        last = p.last;
        halts = halts_on code lines s s2 p.last outcome (size + 1) most (on code lines s s1 s2 size 1 r.leads l2) p.halts;
        output = p.output
            ∙ ap (λ t. (s1.output ++ t) ++ flat_map signed_decimal values) text
            ∙ ap (λ o. (o ++ signed_decimal z) ++ flat_map signed_decimal values) r.gave.output
            ∙ append_assoc s.output (signed_decimal z) (flat_map signed_decimal values);
        points = let e = p.points in let f = r.gave.points in omega arith;
      }

  puts_run : (puts : List Term) (at faults count place : ℕ) (s : Stage) → AreFaults code lines faults count → AllIntegers puts → AreShallow puts → HasAt code at (puts_code faults place puts) → HasAt lines place (puts_lines puts)
      → place + puts_operators puts ≤ count → Ready s at → at + puts_size puts < 2 ^ 31 → Putting s (values_of puts) (outcome_of puts) (puts_size puts)
  puts_run [] at faults count place s all ints shallow has held within r small = record {
    last = counted s;
    halts = last_one code lines s (counted s) Done (alone Endp) (fetched code lines s at _ r.pc has.0) refl refl;
    output = sym (append-nil s.output);
    points = omega arith;
  }
  puts_run (put ∷ puts) at faults count place s all ints shallow has held within r small =
      let size = code_size put in
      let own = term_code faults place 0 put in
      let more = alone Putn ∷ puts_code faults (place + operators put) puts in
      let after = subst (λ n. HasAt code (at + n) more) (length-term_code put faults place 0) (has_back code at own more has) in
      let after_lines = subst (λ n. HasAt lines (place + n) (puts_lines puts)) (length-term_lines put) (has_back lines place (term_lines put) (puts_lines puts) held) in
      let few : 0 + 0 ≤ 0 = omega arith in
      let runs = term_runs code lines put at faults count place 0 s all ints.0 (has_front code at own more has) (has_front lines place (term_lines put) (puts_lines puts) held) (omega arith) r (omega arith) (let f = shallow.0 in omega arith) in
      put_runs (value_of put) (values_of puts) (outcome_of puts) at size (puts_size puts) s runs after.0 (omega arith)
      (λ s2 r2. puts_run puts (at + size + 1) faults count (place + operators put) s2 all ints.1 shallow.1 after.1 after_lines (omega arith) r2 (omega arith))

  -- a course that is over stays over with more instructions
  run_more : (n m : ℕ) (s last : Stage) (outcome : Outcome) → run code lines n s ≡ Ends last outcome → n ≤ m → run code lines m s ≡ Ends last outcome
  run_more zero m s last outcome e h = absurd (goes_on_not_ends s last outcome e)
  run_more (suc n) zero s last outcome e h = absurd (omega arith)
  run_more (suc n) (suc m) s last outcome e h = more_step (step code lines s) last outcome n m e (λ s' e'. run_more n m s' last outcome e' (omega arith))
    where
      more_step : (p : Course) (last : Stage) (outcome : Outcome) (n m : ℕ) → and_then p (run code lines n) ≡ Ends last outcome → ((s' : Stage) → run code lines n s' ≡ Ends last outcome → run code lines m s' ≡ Ends last outcome) → and_then p (run code lines m) ≡ Ends last outcome
      more_step (GoesOn s') last outcome n m e more = more s' e
      more_step (Ends s' o) last outcome n m e more = e
      more_step Strays last outcome n m e more = absurd (strays_not_ends last outcome e)

-- the course of the code of a module ends as its puts say
pub record Puts (puts : List Term) (code : List Instr) (lines : List ℕ) : Type 0 where
  pub last : Stage
  pub ends : run code lines (length code) first_stage ≡ Ends last (outcome_of puts)
  pub output : last.output ≡ output_of puts
  pub points : last.points ≡ points_of puts

pub plain_puts : (puts : List Term) → AllIntegers puts → AreShallow puts → all_nodes puts ≤ 2000 → Puts puts (plain_code puts) (puts_lines puts)
plain_puts puts ints shallow few =
    let code = plain_code puts in
    let lines = puts_lines puts in
    let faults = 1 + puts_size puts in
    let count = puts_operators puts in
    let main = puts_code faults 0 puts in
    let behind = faults_code 0 count in
    let all = has_all code [] in
    let body = has_front code 0 (body_code puts) thread_code all in
    let main_stands = has_front code 1 main behind body.1 in
    let behind_stands = subst (λ n. HasAt code (1 + n) behind) (length-puts_code puts faults 0) (has_back code 1 main behind body.1) in
    let stand : AreFaults code lines faults count = λ k l. from_zero code faults k (faults_stand code faults 0 count k behind_stands l) in
    let s1 = passed first_stage [] in
    let l1 = one code lines first_stage s1 (alone Point) refl refl refl in
    let size = puts_size_le puts in
    let p = puts_run code lines puts 1 faults count 0 s1 stand ints shallow main_stands (has_all lines []) (omega arith) (record { pc = refl; wide = refl }) (omega arith) in
    let h = halts_on code lines first_stage s1 p.last (outcome_of puts) 1 (puts_size puts) l1 p.halts in
    let long = length-append main behind in
    let main_long = length-puts_code puts faults 0 in
    let whole = length-append (body_code puts) thread_code in
    record {
      last = p.last;
      ends = run_more code lines h.steps (length code) first_stage p.last (outcome_of puts) h.by (let w = h.within in omega (arith, long, main_long, whole));
      output = p.output;
      points = p.points;
    }
