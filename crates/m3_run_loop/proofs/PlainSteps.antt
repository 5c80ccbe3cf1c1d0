-- One plain instruction over the machine's memory is one of its states.
use Rattle.std.specs.Prelude.{ℕ, ◌≡◌, ◌==◌, Bool, true, false, List, [], ◌∷◌, find, Option, None, Some}
use Rattle.std.proofs.Common.{refl, sym, ap, subst, ◌∙◌, cond}
use Rattle.m3_base.specs.declared.outcomes.Outcome.TheVariants.{Trap}
use Rattle.m3_isa.specs.Memory.{Memory}
use Rattle.m3_isa.specs.Effects.{Effect, Goes as Goes_to, Traps, NotPlain, effect, CarriesOut, KeepsOnTrap}
use Rattle.m3_isa.specs.Instructions.{is_plain}
use Rattle.m3_isa.proofs.Plain.{not_plain}
use Rattle.m3_isa.specs.declared.answers.Step.{Step}
use Rattle.m3_isa.specs.declared.answers.Step.TheVariants.{Went, Trapped as Trapped_at, Other as Otherwise}
use Rattle.m3_isa.specs.declared.instructions.Instr.{Instr}
use Rattle.m3_isa.specs.declared.registers.Regs.{Regs}
use Rattle.m3_heap.specs.Heap.{Heap}
use Rattle.m3_threads.specs.declared.status.Thread.{Thread}
use Rattle.m3_threads.specs.All.{Everyone, is_named, updated, thread_named}
use Rattle.m3_threads.specs.Spaces.{held}
use Rattle.m3_image_sections.specs.Parts.{Program}
use Rattle.m3_run_memory.specs.Addresses.{outside_of}
use Rattle.m3_run_memory.specs.Kept.{KeepsMemory, KeepsStacks}
use Rattle.m3_run_meaning.specs.State.{State, regs_set, with_regs, seen, executed, Becomes}
use Rattle.m3_run_meaning.specs.Progress.{Goes, Ends}
use Rattle.m3_run_meaning.specs.Steps.{Plainly, goes, trap, Breaks_off}

-- ---- the running thread's registers

with-regs-in : Regs → Option Thread → Option Thread
with-regs-in regs None = None
with-regs-in regs (Some t) = Some (regs_set regs t)

found-at : (regs : Regs) (n : ℕ) (x t : Thread) (xs : List Thread) (b : Bool) → (x.number == n) ≡ b → (find (is_named n) xs ≡ Some t → find (is_named n) (updated (regs_set regs) n xs) ≡ Some (regs_set regs t)) → cond b (Some x) (find (is_named n) xs) ≡ Some t → find (is_named n) (cond b (regs_set regs x ∷ xs) (x ∷ updated (regs_set regs) n xs)) ≡ Some (regs_set regs t)
unfolding with-regs-in
found-at regs n x t xs true e go h = ap (λ b. cond b (Some (regs_set regs x)) (find (is_named n) xs)) e ∙ ap (λ o. with-regs-in regs o) h
found-at regs n x t xs false e go h = ap (λ b. cond b (Some x) (find (is_named n) (updated (regs_set regs) n xs))) e ∙ go h

pub found-again : (regs : Regs) (n : ℕ) (ts : List Thread) (t : Thread) → find (is_named n) ts ≡ Some t → find (is_named n) (updated (regs_set regs) n ts) ≡ Some (regs_set regs t)
found-again regs n [] t h = cc
found-again regs n (x ∷ xs) t h = found-at regs n x t xs (x.number == n) refl (found-again regs n xs t) h

twice-at : (old new : Regs) (n : ℕ) (x : Thread) (xs : List Thread) (b : Bool) → (x.number == n) ≡ b → updated (regs_set new) n (updated (regs_set old) n xs) ≡ updated (regs_set new) n xs → updated (regs_set new) n (cond b (regs_set old x ∷ xs) (x ∷ updated (regs_set old) n xs)) ≡ cond b (regs_set new x ∷ xs) (x ∷ updated (regs_set new) n xs)
twice-at old new n x xs true e go = ap (λ b. cond b (regs_set new x ∷ xs) (regs_set old x ∷ updated (regs_set new) n xs)) e
twice-at old new n x xs false e go = ap (λ b. cond b (regs_set new x ∷ updated (regs_set old) n xs) (x ∷ updated (regs_set new) n (updated (regs_set old) n xs))) e ∙ ap (λ us. x ∷ us) go

pub twice : (old new : Regs) (n : ℕ) (ts : List Thread) → updated (regs_set new) n (updated (regs_set old) n ts) ≡ updated (regs_set new) n ts
twice old new n [] = refl
twice old new n (x ∷ xs) = twice-at old new n x xs (x.number == n) refl (twice old new n xs)

-- ---- the threads beside other registers

with_regs_in : Everyone → ℕ → Regs → Everyone
with_regs_in all n regs = record all { threads = updated (regs_set regs) n all.threads }

pub others-threads : (all new_all : Everyone) (old new : Regs) (n : ℕ) → KeepsStacks all new_all → KeepsStacks (record all { threads = updated (regs_set new) n (updated (regs_set old) n all.threads) }) (record new_all { threads = updated (regs_set new) n new_all.threads })
unfolding with_regs_in
others-threads all new_all old new n k = record {
  same_depths = k.same_depths;
  rest = ap (λ (a : Everyone). with_regs_in a n new) k.rest
      ∙ ap (λ ts. record all { threads = ts; stacks = new_all.stacks }) (sym (twice old new n all.threads));
}

trap-number : (n m : ℕ) → Trapped_at n ≡ Trapped_at m → n ≡ m
trap-number n m e = cc

-- ---- one instruction

-- it goes on
pub goes-on : (p : Program) (base : State) (t : Thread) (i : Instr) (old new : Regs) (all new_all : Everyone) (g g' c c' : List ℕ) (heap heap' : Heap) (e : Effect)
    → p.constants ≡ c → thread_named all base.running ≡ Some t → KeepsMemory all new_all g g' c c' heap heap'
    → CarriesOut e Went old (held all (outside_of g c heap.cells)) new (held new_all (outside_of g' c' heap'.cells))
    → Plainly p (regs_set old t) i (executed (seen base old all g heap)) e (Goes (seen (executed base) new new_all g' heap'))
goes-on p base t i old new all new_all g g' c c' heap heap' (Goes_to regs memory) at-c found k done =
    let n = base.running in
    let u = seen base old all g heap in
    let v = seen (executed base) new new_all g' heap' in
    let becomes : Becomes p (with_regs (executed u) new) memory v = record {
      others = record {
        all = others-threads all new_all old new n k.stacks;
        globals = k.outside.count;
        heap = k.outside.rest;
        rest = refl;
      };
      words = λ at. ap (λ cs. held new_all (outside_of g' cs heap'.cells) at) (at-c ∙ sym k.outside.same_constants) ∙ done.2 at;
    } in
    goes regs memory v (subst (λ r. Becomes p (with_regs (executed u) r) memory v) done.1 becomes)
goes-on p base t i old new all new_all g g' c c' heap heap' (Traps n) at-c found k done = cc
goes-on p base t i old new all new_all g g' c c' heap heap' NotPlain at-c found k done = cc

-- it traps
pub traps-at : (p : Program) (base : State) (t : Thread) (i : Instr) (old new : Regs) (all new_all : Everyone) (g g' c c' : List ℕ) (heap heap' : Heap) (e : Effect) (n : ℕ)
    → p.constants ≡ c → KeepsMemory all new_all g g' c c' heap heap'
    → CarriesOut e (Trapped_at n) old (held all (outside_of g c heap.cells)) new (held new_all (outside_of g' c' heap'.cells))
    → KeepsOnTrap i (Trapped_at n) old (held all (outside_of g c heap.cells)) (held new_all (outside_of g' c' heap'.cells))
    → Plainly p (regs_set old t) i (executed (seen base old all g heap)) e (Ends (seen (executed base) new new_all g' heap') (Trap n))
unfolding with_regs_in
traps-at p base t i old new all new_all g g' c c' heap heap' (Goes_to regs memory) n at-c k done kept = cc
traps-at p base t i old new all new_all g g' c c' heap heap' (Traps m) n at-c k done kept =
    let u = seen base old all g heap in
    let v = seen (executed base) new new_all g' heap' in
    let same-number : n ≡ m = trap-number n m done.0 in
    let off : Breaks_off p (regs_set old t) i (executed u) v = record {
      others = record {
        all = record {
          same_depths = k.stacks.same_depths;
          rest = ap (λ (a : Everyone). with_regs_in a base.running new) k.stacks.rest
              ∙ ap (λ r. record all { threads = updated (regs_set r) base.running all.threads; stacks = new_all.stacks }) done.1;
        };
        globals = k.outside.count;
        heap = k.outside.rest;
        rest = refl;
      };
      words = λ at free. ap (λ cs. held new_all (outside_of g' cs heap'.cells) at) (at-c ∙ sym k.outside.same_constants) ∙ kept at free
          ∙ ap (λ cs. held all (outside_of g cs heap.cells) at) (sym at-c);
    } in
    subst (λ j. Plainly p (regs_set old t) i (executed u) (Traps j) (Ends v (Trap n))) same-number (trap n v off)
traps-at p base t i old new all new_all g g' c c' heap heap' NotPlain n at-c k done kept = cc

-- it isn't plain
pub not-plain : (e : Effect) (old new : Regs) (m m' : Memory) → CarriesOut e Otherwise old m new m' → (e ≡ NotPlain) × (new ≡ old) × ((at : ℕ) → m' at ≡ m at)
not-plain (Goes_to regs memory) old new m m' done = cc
not-plain (Traps n) old new m m' done = cc
not-plain NotPlain old new m m' done = (refl, done.1, done.2)

-- what wasn't answered with Other is plain
pub was_plain : (i : Instr) (old new : Regs) (m m' : Memory) (can : ℕ → Bool) (answer : Step) → (answer ≡ Otherwise → ⊥) → CarriesOut (effect i old m can) answer old m new m' → is_plain i.op ≡ true
was_plain i old new m m' can answer ne done = by (is_plain i.op) refl
  where
    by : (b : Bool) → is_plain i.op ≡ b → is_plain i.op ≡ true
    by true e = e
    by false e = absurd (ne (subst (λ (x : Effect). CarriesOut x answer old m new m') (not_plain i.op e i.a i.b i.c i.imm old m can) done).0)

-- the running thread, in a memory that keeps the threads
pub found_still : (all now : Everyone) (n : ℕ) (t : Thread) → KeepsStacks all now → thread_named all n ≡ Some t → thread_named now n ≡ Some t
found_still all now n t k h = ap (λ a. thread_named a n) k.rest ∙ h
