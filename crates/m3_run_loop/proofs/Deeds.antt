-- What single instructions of the running thread make of a state, from what the functions for them tell.
use Rattle.std.specs.Prelude.{ℕ, ℤ, ◌≡◌, ◌+◌, ◌/◌, ◌&&◌, ◌==◌, not, nat_lt, int_lt, Bool, true, false, if◌then◌else◌, List, [], length, Option, None, Some, Result, Ok, slice_get}
use Rattle.std.specs.Int.{cast_unsigned, w32}
use Rattle.std.proofs.Common.{refl, sym, ap, subst, ◌∙◌, true≢false}
use Rattle.m3_base.specs.declared.outcomes.Outcome.{Outcome}
use Rattle.m3_base.specs.declared.outcomes.Outcome.TheVariants.{Trap}
use Rattle.m3_base.specs.Words.{add_words}
use Rattle.m3_isa.specs.Memory.{Memory, put}
use Rattle.m3_isa.specs.Arithmetic.{flag, moved_by}
use Rattle.m3_isa.specs.Effects.{Effect, Goes as Goes_to, Traps, NotPlain, effect, effect_of, CarriesOut, KeepsOnTrap, reg, next, answered, loads, stores, copies, fills, compares, compares_bytes, compares_texts, takes_byte, answers, jumped, signed, filled, copied, are_there, are_writable, are_equal, are_equal_texts, has_bytes}
use Rattle.m3_isa.specs.Instructions.{is_plain, is_point}
use Rattle.m3_isa.specs.declared.instructions.Op.{Op}
use Rattle.m3_isa.specs.declared.instructions.Op.TheVariants.{Call, Callr, Callm, Ret, Meth, Subt, New, Newo, Point, Fault, Unc, Endp, Endt, Cat, Tchr, Tsub, Fork, Join, Acq, Rel, Wait, Sig, Bca, Self_, Put, Putn, Putc, Alert, Talert, Await, Ajoin, Getc, Eof, Move, Li, Lih, Con, Glb, Slot, Add, Sub, Mul, Addi, Addo, Subo, Mulo, Divf, Modf, Divu, Modu, And, Or, Xor, Shf, Rot, Seq, Slt, Sltu, Jmp, Lds, Ld, Sts, St, Copy, Fill, Eqw, Tget, Teq, Bz, Bnz, Blt, Bltu, Beq}
use Rattle.m3_isa.specs.declared.instructions.Instr.{Instr}
use Rattle.m3_isa.specs.declared.registers.Regs.{Regs}
use Rattle.m3_isa.specs.declared.answers.Step.TheVariants.{Went, Trapped as Trapped_at, Other as Otherwise}
use Rattle.m3_heap.specs.Heap.{Heap, KeepsLaws, Allots}
use Rattle.m3_threads.specs.declared.status.Thread.{Thread}
use Rattle.m3_threads.specs.All.{Everyone, updated}
use Rattle.m3_threads.specs.Spaces.{held, replaceable}
use Rattle.m3_image_sections.specs.Parts.{Program}
use Rattle.m3_run_memory.specs.Addresses.{outside_of, settable_of}
use Rattle.m3_run_memory.specs.Kept.{KeepsStacks, KeepsMemory}
use Rattle.m3_run_meaning.specs.declared.near.Stack.{Stack}
use Rattle.m3_run_meaning.specs.declared.near.Place.{Place}
use Rattle.m3_run_meaning.specs.State.{State, memory_of, can_set, regs_set, with_regs, executed, Becomes}
use Rattle.m3_run_meaning.specs.Act.{Act, Proceeds as Goes_with, Writes, using}
use Rattle.m3_run_meaning.specs.Progress.{Progress, Goes, Ends}
use Rattle.m3_run_meaning.specs.Calls.{stack_of, come_to, entering, framed, calls, callee_by, callee_of, returning, returns, method_at, tells_method, kind_at, TellsType}
use Rattle.m3_run_meaning.specs.Making.{Allocates, GivesCell, fixed_words, makes_fixed, at_once}
use Rattle.m3_run_meaning.specs.Steps.{Plainly, Acts, Acted, Does}
use Rattle.m3_run_meaning.specs.State.{seen}
use Rattle.m3_run_loop.specs.Leading.{Goes_on}
use Rattle.m3_run_loop.proofs.PlainSteps.{twice, found-again, others-threads, goes-on, traps-at, not-plain}

-- what holds of an operation holds of an instruction that has it
pub acts_by : (p : Program) (input : List ℕ) (t : Thread) (i : Instr) (s : State) (bytes : List ℕ) (progress : Progress) (o q : Op) → o ≡ q
    → Acts p input t i s bytes progress q → Acts p input t i s bytes progress o
acts_by p input t i s bytes progress o q is h = subst (λ (x : Op). Acts p input t i s bytes progress x) (sym is) h

-- ---- plain instructions

pub acts_plainly : (p : Program) (input : List ℕ) (t : Thread) (i : Instr) (s : State) (progress : Progress) (o : Op) → is_plain o ≡ true
    → Plainly p t i s (effect i t.regs (memory_of p s) (can_set s)) progress → Acts p input t i s [] progress o
acts_plainly p input t i s progress Call e h = absurd (true≢false (sym e))
acts_plainly p input t i s progress Callr e h = absurd (true≢false (sym e))
acts_plainly p input t i s progress Callm e h = absurd (true≢false (sym e))
acts_plainly p input t i s progress Ret e h = absurd (true≢false (sym e))
acts_plainly p input t i s progress Meth e h = absurd (true≢false (sym e))
acts_plainly p input t i s progress Subt e h = absurd (true≢false (sym e))
acts_plainly p input t i s progress New e h = absurd (true≢false (sym e))
acts_plainly p input t i s progress Newo e h = absurd (true≢false (sym e))
acts_plainly p input t i s progress Point e h = absurd (true≢false (sym e))
acts_plainly p input t i s progress Fault e h = absurd (true≢false (sym e))
acts_plainly p input t i s progress Unc e h = absurd (true≢false (sym e))
acts_plainly p input t i s progress Endp e h = absurd (true≢false (sym e))
acts_plainly p input t i s progress Endt e h = absurd (true≢false (sym e))
acts_plainly p input t i s progress Cat e h = absurd (true≢false (sym e))
acts_plainly p input t i s progress Tchr e h = absurd (true≢false (sym e))
acts_plainly p input t i s progress Tsub e h = absurd (true≢false (sym e))
acts_plainly p input t i s progress Fork e h = absurd (true≢false (sym e))
acts_plainly p input t i s progress Join e h = absurd (true≢false (sym e))
acts_plainly p input t i s progress Acq e h = absurd (true≢false (sym e))
acts_plainly p input t i s progress Rel e h = absurd (true≢false (sym e))
acts_plainly p input t i s progress Wait e h = absurd (true≢false (sym e))
acts_plainly p input t i s progress Sig e h = absurd (true≢false (sym e))
acts_plainly p input t i s progress Bca e h = absurd (true≢false (sym e))
acts_plainly p input t i s progress Self_ e h = absurd (true≢false (sym e))
acts_plainly p input t i s progress Put e h = absurd (true≢false (sym e))
acts_plainly p input t i s progress Putn e h = absurd (true≢false (sym e))
acts_plainly p input t i s progress Putc e h = absurd (true≢false (sym e))
acts_plainly p input t i s progress Alert e h = absurd (true≢false (sym e))
acts_plainly p input t i s progress Talert e h = absurd (true≢false (sym e))
acts_plainly p input t i s progress Await e h = absurd (true≢false (sym e))
acts_plainly p input t i s progress Ajoin e h = absurd (true≢false (sym e))
acts_plainly p input t i s progress Getc e h = absurd (true≢false (sym e))
acts_plainly p input t i s progress Eof e h = absurd (true≢false (sym e))
acts_plainly p input t i s progress _ e h = (refl, h)

-- an effect that isn't none
Is : Effect → Type 0
Is e = e ≡ NotPlain → ⊥

is-jump : (b : Bool) (one other : Regs) (m : Memory) → Is (Goes_to (if b then one else other) m)
unfolding Is
is-jump b one other m = λ e. cc

is-if : (b : Bool) (one other : Effect) → Is one → Is other → Is (if b then one else other)
is-if true one other h k = h
is-if false one other h k = k

is-loads : (regs : Regs) (m : Memory) (a : ℕ) (word : Option ℕ) → Is (loads regs m a word)
unfolding Is
is-loads regs m a None = λ e. cc
is-loads regs m a (Some word) = λ e. cc

is-fills : (regs : Regs) (memory : Option Memory) → Is (fills regs memory)
unfolding Is
is-fills regs None = λ e. cc
is-fills regs (Some memory) = λ e. cc

is-goes : (regs : Regs) (m : Memory) → Is (Goes_to regs m)
unfolding Is
is-goes regs m = λ e. cc

is-traps : (n : ℕ) → Is (Traps n)
unfolding Is
is-traps n = λ e. cc

is-stores : (regs : Regs) (m : Memory) (can : ℕ → Bool) (at word : ℕ) → Is (stores regs m can at word)
is-stores regs m can at word = is-if (can at) (Goes_to (next regs) (put m at word)) (Traps 2) (is-goes (next regs) (put m at word)) (is-traps 2)

is-copies : (regs : Regs) (m : Memory) (can : ℕ → Bool) (n from to : ℕ) → Is (copies regs m can n from to)
is-copies regs m can n from to = is-if (are_there m from n && are_writable can to n) (Goes_to (next regs) (copied m n from to)) (Traps 2) (is-goes (next regs) (copied m n from to)) (is-traps 2)

is-compares : (regs : Regs) (m : Memory) (a n left right : ℕ) → Is (compares regs m a n left right)
is-compares regs m a n left right =
    let there = answered regs a (flag (are_equal m n left right)) in
    is-if (are_there m left n && are_there m right n) (Goes_to there m) (Traps 2) (is-goes there m) (is-traps 2)

is-byte : (regs : Regs) (m : Memory) (a n : ℕ) (word : Option ℕ) → Is (takes_byte regs m a n word)
unfolding Is
is-byte regs m a n None = λ e. cc
is-byte regs m a n (Some word) = λ e. cc

is-texts : (regs : Regs) (m : Memory) (a left right : ℕ) (one other : Option ℕ) → Is (compares_texts regs m a left right one other)
is-texts regs m a left right None other = is-traps 2
is-texts regs m a left right (Some n) None = is-traps 2
is-texts regs m a left right (Some n) (Some k) =
    let there = answered regs a (flag (are_equal_texts m n left right)) in
    let one : Is (compares_bytes regs m a n left right) = is-if (has_bytes m left n && has_bytes m right n) (Goes_to there m) (Traps 2) (is-goes there m) (is-traps 2) in
    is-if (n == k) (compares_bytes regs m a n left right) (answers regs m a 0) one (is-goes (answered regs a 0) m)

pub has_effect : (o : Op) (a b c : ℕ) (imm : ℤ) (regs : Regs) (m : Memory) (can : ℕ → Bool) → is_plain o ≡ true → effect_of o a b c imm regs m can ≡ NotPlain → ⊥
unfolding Is
has_effect Lds a b c imm regs m can e = is-loads regs m a (m (moved_by regs.fp imm))
has_effect Ld a b c imm regs m can e = is-loads regs m a (m (moved_by (reg regs b) imm))
has_effect Sts a b c imm regs m can e = is-stores regs m can (moved_by regs.fp imm) (reg regs a)
has_effect St a b c imm regs m can e = is-stores regs m can (moved_by (reg regs b) imm) (reg regs a)
has_effect Copy a b c imm regs m can e = is-copies regs m can (reg regs c) (reg regs b) (reg regs a)
has_effect Fill a b c imm regs m can e = is-fills regs (filled m can (reg regs a) (reg regs c) (reg regs b))
has_effect Eqw a b c imm regs m can e = is-compares regs m a (reg regs a) (reg regs b) (reg regs c)
has_effect Tget a b c imm regs m can e = is-byte regs m a (reg regs c) (m (add_words (reg regs b) (2 + reg regs c / 8)))
has_effect Teq a b c imm regs m can e = is-texts regs m a (reg regs b) (reg regs c) (m (add_words (reg regs b) 1)) (m (add_words (reg regs c) 1))
has_effect Move a b c imm regs m can e = λ none. cc
has_effect Li a b c imm regs m can e = λ none. cc
has_effect Lih a b c imm regs m can e = λ none. cc
has_effect Con a b c imm regs m can e = λ none. cc
has_effect Glb a b c imm regs m can e = λ none. cc
has_effect Slot a b c imm regs m can e = λ none. cc
has_effect Add a b c imm regs m can e = λ none. cc
has_effect Sub a b c imm regs m can e = λ none. cc
has_effect Mul a b c imm regs m can e = λ none. cc
has_effect Addi a b c imm regs m can e = λ none. cc
has_effect Addo a b c imm regs m can e = λ none. cc
has_effect Subo a b c imm regs m can e = λ none. cc
has_effect Mulo a b c imm regs m can e = λ none. cc
has_effect Divf a b c imm regs m can e = λ none. cc
has_effect Modf a b c imm regs m can e = λ none. cc
has_effect Divu a b c imm regs m can e = λ none. cc
has_effect Modu a b c imm regs m can e = λ none. cc
has_effect And a b c imm regs m can e = λ none. cc
has_effect Or a b c imm regs m can e = λ none. cc
has_effect Xor a b c imm regs m can e = λ none. cc
has_effect Shf a b c imm regs m can e = λ none. cc
has_effect Rot a b c imm regs m can e = λ none. cc
has_effect Seq a b c imm regs m can e = λ none. cc
has_effect Slt a b c imm regs m can e = λ none. cc
has_effect Sltu a b c imm regs m can e = λ none. cc
has_effect Jmp a b c imm regs m can e = λ none. cc
has_effect Bz a b c imm regs m can e = is-jump (reg regs a == 0) (jumped regs imm) (next regs) m
has_effect Bnz a b c imm regs m can e = is-jump (not (reg regs a == 0)) (jumped regs imm) (next regs) m
has_effect Blt a b c imm regs m can e = is-jump (int_lt (signed regs a) (signed regs b)) (jumped regs imm) (next regs) m
has_effect Bltu a b c imm regs m can e = is-jump (nat_lt (reg regs a) (reg regs b)) (jumped regs imm) (next regs) m
has_effect Beq a b c imm regs m can e = is-jump (reg regs a == reg regs b) (jumped regs imm) (next regs) m
has_effect _ a b c imm regs m can e = absurd (true≢false (sym e))

-- ---- goes on with other registers, over the same words

with_threads : State → Everyone → List ℕ → Heap → List Thread → State
with_threads base all g heap ts = record base { all = record all { threads = ts }; globals = g; heap = heap }

pub acted_goes : (p : Program) (base : State) (old new : Regs) (all : Everyone) (g : List ℕ) (heap : Heap) (deed : Act)
    → deed ≡ Goes_with new → Acted p (executed (seen base old all g heap)) deed [] (Goes (seen (executed base) new all g heap))
unfolding with_threads
acted_goes p base old new all g heap deed is =
    let s = executed (seen base old all g heap) in
    let v = seen (executed base) new all g heap in
    let same : Goes v ≡ Goes (with_regs s new) = ap (λ ts. Goes (with_threads (executed base) all g heap ts)) (sym (twice old new base.running all.threads)) in
    subst (λ (d : Act). Acted p s d [] (Goes v)) (sym is) (refl, same)

pub keeps_all : (all : Everyone) → KeepsStacks all all
keeps_all all = record { same_depths = refl; rest = refl }

-- RET
pub goes_back : (p : Program) (stack : Stack) (i : Instr) (r : List ℕ) (at to : Place) (all : Everyone) (g : List ℕ) (heap : Heap)
    → i.op ≡ Ret → returning (length p.code) at (held all (outside_of g p.constants heap.cells)) ≡ Ok to
    → Goes_on p stack i (record { r = r; pc = at.pc; fp = at.fp }) all g heap (record { r = r; pc = to.pc; fp = to.fp }) all g heap
goes_back p stack i r at to all g heap is found = record {
  keeps = keeps_all all;
  does = λ input base t running place.
      let old : Regs = record { r = r; pc = at.pc; fp = at.fp } in
      let new : Regs = record { r = r; pc = to.pc; fp = to.fp } in
      let s = executed (seen base old all g heap) in
      acts_by p input (regs_set old t) i s [] (Goes (seen (executed base) new all g heap)) i.op Ret is
      (acted_goes p base old new all g heap (returns (length p.code) old (memory_of p s)) (ap (λ (x : Result Place Outcome). using x (λ to. Goes_with (come_to to old))) found));
}

-- POINT
pub goes_over : (p : Program) (stack : Stack) (i : Instr) (old new : Regs) (all : Everyone) (g : List ℕ) (heap : Heap)
    → i.op ≡ Point → new ≡ next old → Goes_on p stack i old all g heap new all g heap
goes_over p stack i old new all g heap is same = record {
  keeps = keeps_all all;
  does = λ input base t running place.
      let s = executed (seen base old all g heap) in
      acts_by p input (regs_set old t) i s [] (Goes (seen (executed base) new all g heap)) i.op Point is
      (acted_goes p base old new all g heap (Goes_with (next old)) (ap (λ (x : Regs). Goes_with x) (sym same)));
}

-- METH
pub goes_told : (p : Program) (stack : Stack) (i : Instr) (old new : Regs) (all : Everyone) (g : List ℕ) (heap : Heap) (method : ℕ)
    → i.op ≡ Meth → method_at p.types (held all (outside_of g p.constants heap.cells)) (reg old i.b) (cast_unsigned w32 i.imm) ≡ Ok method → new ≡ answered old i.a method
    → Goes_on p stack i old all g heap new all g heap
goes_told p stack i old new all g heap method is found same = record {
  keeps = keeps_all all;
  does = λ input base t running place.
      let s = executed (seen base old all g heap) in
      acts_by p input (regs_set old t) i s [] (Goes (seen (executed base) new all g heap)) i.op Meth is
      (acted_goes p base old new all g heap (tells_method p.types i old (memory_of p s))
      (ap (λ (x : Result ℕ Outcome). using x (λ method. Goes_with (answered old i.a method))) found ∙ ap (λ (x : Regs). Goes_with x) (sym same)));
}

-- SUBT
pub goes_tested : (p : Program) (stack : Stack) (i : Instr) (old new : Regs) (all : Everyone) (g : List ℕ) (heap : Heap) (told : Bool)
    → i.op ≡ Subt → TellsType p.types (kind_at p.types (held all (outside_of g p.constants heap.cells)) (reg old i.b)) (cast_unsigned w32 i.imm) (Ok told) → new ≡ answered old i.a (flag told)
    → Goes_on p stack i old all g heap new all g heap
goes_tested p stack i old new all g heap told is tells same = record {
  keeps = keeps_all all;
  does = λ input base t running place.
      let s = executed (seen base old all g heap) in
      acts_by p input (regs_set old t) i s [] (Goes (seen (executed base) new all g heap)) i.op Subt is (
        Goes_with (answered old i.a (flag told)),
        (Ok told, tells, refl),
        acted_goes p base old new all g heap (Goes_with (answered old i.a (flag told))) (ap (λ (x : Regs). Goes_with x) (sym same)),
      );
}

-- ---- calls

by-callee : (p : Program) (s : State) (t : Thread) (progress : Progress) (stack : Stack) (n : ℕ) (callee : Result ℕ Outcome)
    → callee ≡ Ok n → stack_of s.all t ≡ stack → Acted p s (calls p (Ok n) stack t.regs (memory_of p s) (can_set s)) [] progress
    → Acted p s (calls p callee (stack_of s.all t) t.regs (memory_of p s) (can_set s)) [] progress
by-callee p s t progress stack n callee found place acted =
    subst (λ (k : Stack). Acted p s (calls p callee k t.regs (memory_of p s) (can_set s)) [] progress) (sym place)
    (subst (λ (x : Result ℕ Outcome). Acted p s (calls p x stack t.regs (memory_of p s) (can_set s)) [] progress) (sym found) acted)

acts-call : (p : Program) (input : List ℕ) (t : Thread) (i : Instr) (s : State) (progress : Progress) (stack : Stack) (n : ℕ) (o : Op)
    → callee_by o p i t.regs (memory_of p s) ≡ Ok n → stack_of s.all t ≡ stack → Acted p s (calls p (Ok n) stack t.regs (memory_of p s) (can_set s)) [] progress
    → Acts p input t i s [] progress o
acts-call p input t i s progress stack n Call found place acted = by-callee p s t progress stack n _ found place acted
acts-call p input t i s progress stack n Callr found place acted = by-callee p s t progress stack n _ found place acted
acts-call p input t i s progress stack n Callm found place acted = by-callee p s t progress stack n _ found place acted
acts-call p input t i s progress stack n _ found place acted = cc

-- a call that found its procedure enters a frame
pub goes_into : (p : Program) (stack : Stack) (i : Instr) (r : List ℕ) (at to : Place) (n : ℕ) (all new_all : Everyone) (g g' c' : List ℕ) (heap heap' : Heap)
    → KeepsMemory all new_all g g' p.constants c' heap heap'
    → callee_of p i (record { r = r; pc = at.pc; fp = at.fp }) (held all (outside_of g p.constants heap.cells)) ≡ Ok n
    → entering p n stack at ≡ Ok to
    → ((x : ℕ) → held new_all (outside_of g' c' heap'.cells) x ≡ framed to at (held all (outside_of g p.constants heap.cells)) (replaceable all (settable_of (length g) heap.cells)) x)
    → Goes_on p stack i (record { r = r; pc = at.pc; fp = at.fp }) all g heap (record { r = r; pc = to.pc; fp = to.fp }) new_all g' heap'
goes_into p stack i r at to n all new_all g g' c' heap heap' k found entered words = record {
  keeps = k.stacks;
  does = λ input base t running place.
      let old : Regs = record { r = r; pc = at.pc; fp = at.fp } in
      let new : Regs = record { r = r; pc = to.pc; fp = to.fp } in
      let s = executed (seen base old all g heap) in
      let v = seen (executed base) new new_all g' heap' in
      let memory = framed to at (memory_of p s) (can_set s) in
      let becomes : Becomes p (with_regs s new) memory v = record {
        others = record {
          all = others-threads all new_all old new base.running k.stacks;
          globals = k.outside.count;
          heap = k.outside.rest;
          rest = refl;
        };
        words = λ x. ap (λ cs. held new_all (outside_of g' cs heap'.cells) x) (sym k.outside.same_constants) ∙ words x;
      } in
      let acted : Acted p s (calls p (Ok n) stack old (memory_of p s) (can_set s)) [] (Goes v) =
      subst (λ (x : Result Place Outcome). Acted p s (using x (λ to. Writes (come_to to old) (framed to at (memory_of p s) (can_set s)))) [] (Goes v)) (sym entered) (refl, becomes) in
      acts-call p input (regs_set old t) i s (Goes v) stack n i.op found place acted;
}

-- ---- NEW

some-is : {x y : Thread} → Some x ≡ Some y → x ≡ y
some-is e = cc

pub goes_made : (p : Program) (stack : Stack) (i : Instr) (old new : Regs) (all : Everyone) (g : List ℕ) (heap heap' : Heap) (words start : ℕ)
    → i.op ≡ New → fixed_words (slice_get p.types (cast_unsigned w32 i.imm)) ≡ Ok words → Allots heap (cast_unsigned w32 i.imm) words (Some start) heap' → KeepsLaws heap' → new ≡ answered old i.a start
    → Goes_on p stack i old all g heap new all g heap'
unfolding with_threads
goes_made p stack i old new all g heap heap' words start is fixed allots laws same = record {
  keeps = keeps_all all;
  does = λ input base t running place.
      let s = executed (seen base old all g heap) in
      let u : State = record s { heap = heap' } in
      let v = seen (executed base) new all g heap' in
      let allocates : Allocates (cast_unsigned w32 i.imm) words s (Some start) u = record { allots = allots; laws = laws; rest = refl } in
      let gives : GivesCell i (Ok start) u (Goes v) = λ t' found.
      let one : regs_set old t ≡ t' = some-is (sym (found-again old base.running all.threads t running) ∙ found) in
      let regs : new ≡ answered t'.regs i.a start = same ∙ ap (λ (x : Thread). answered x.regs i.a start) one in
      ap (λ ts. Goes (with_threads (executed base) all g heap' ts)) (ap (λ (x : Regs). updated (regs_set x) base.running all.threads) regs ∙ sym (twice old (answered t'.regs i.a start) base.running all.threads)) in
      acts_by p input (regs_set old t) i s [] (Goes v) i.op New is
      (refl, makes_fixed words (Ok start) u (Goes v) fixed (at_once start u allocates) gives);
}

-- ---- plain instructions

pub goes_plainly : (p : Program) (stack : Stack) (i : Instr) (old new : Regs) (all new_all : Everyone) (g g' c' : List ℕ) (heap heap' : Heap)
    → is_plain i.op ≡ true → KeepsMemory all new_all g g' p.constants c' heap heap'
    → CarriesOut (effect i old (held all (outside_of g p.constants heap.cells)) (replaceable all (settable_of (length g) heap.cells))) Went old (held all (outside_of g p.constants heap.cells)) new (held new_all (outside_of g' c' heap'.cells))
    → Goes_on p stack i old all g heap new new_all g' heap'
goes_plainly p stack i old new all new_all g g' c' heap heap' plain keeps done = record {
  keeps = keeps.stacks;
  does = λ input base t running place.
      let s = executed (seen base old all g heap) in
      acts_plainly p input (regs_set old t) i s (Goes (seen (executed base) new new_all g' heap')) i.op plain
      (goes-on p base t i old new all new_all g g' p.constants c' heap heap' (effect i old (memory_of p s) (can_set s)) refl running keeps done);
}

-- what was answered with Other isn't plain
pub not_plain_by : (i : Instr) (old new : Regs) (m m' : Memory) (can : ℕ → Bool) → CarriesOut (effect i old m can) Otherwise old m new m' → is_plain i.op ≡ false
not_plain_by i old new m m' can done = by (is_plain i.op) refl
  where
    by : (b : Bool) → is_plain i.op ≡ b → is_plain i.op ≡ false
    by false e = e
    by true e = absurd (has_effect i.op i.a i.b i.c i.imm old m can e (not-plain (effect i old m can) old new m m' done).0)

pub plain_is_no_point : (o : Op) → is_plain o ≡ true → is_point o ≡ false
plain_is_no_point Call e = absurd (true≢false (sym e))
plain_is_no_point Callr e = absurd (true≢false (sym e))
plain_is_no_point Callm e = absurd (true≢false (sym e))
plain_is_no_point New e = absurd (true≢false (sym e))
plain_is_no_point Newo e = absurd (true≢false (sym e))
plain_is_no_point Point e = absurd (true≢false (sym e))
plain_is_no_point Cat e = absurd (true≢false (sym e))
plain_is_no_point Tchr e = absurd (true≢false (sym e))
plain_is_no_point Tsub e = absurd (true≢false (sym e))
plain_is_no_point Fork e = absurd (true≢false (sym e))
plain_is_no_point Join e = absurd (true≢false (sym e))
plain_is_no_point Acq e = absurd (true≢false (sym e))
plain_is_no_point Rel e = absurd (true≢false (sym e))
plain_is_no_point Wait e = absurd (true≢false (sym e))
plain_is_no_point Sig e = absurd (true≢false (sym e))
plain_is_no_point Bca e = absurd (true≢false (sym e))
plain_is_no_point Self_ e = absurd (true≢false (sym e))
plain_is_no_point Put e = absurd (true≢false (sym e))
plain_is_no_point Putn e = absurd (true≢false (sym e))
plain_is_no_point Putc e = absurd (true≢false (sym e))
plain_is_no_point Alert e = absurd (true≢false (sym e))
plain_is_no_point Talert e = absurd (true≢false (sym e))
plain_is_no_point Await e = absurd (true≢false (sym e))
plain_is_no_point Ajoin e = absurd (true≢false (sym e))
plain_is_no_point Getc e = absurd (true≢false (sym e))
plain_is_no_point Eof e = absurd (true≢false (sym e))
plain_is_no_point _ e = refl

-- one that traps
pub ends_plainly : (p : Program) (input : List ℕ) (base : State) (t : Thread) (i : Instr) (old new : Regs) (all new_all : Everyone) (g g' c' : List ℕ) (heap heap' : Heap) (n : ℕ)
    → is_plain i.op ≡ true → KeepsMemory all new_all g g' p.constants c' heap heap'
    → CarriesOut (effect i old (held all (outside_of g p.constants heap.cells)) (replaceable all (settable_of (length g) heap.cells))) (Trapped_at n) old (held all (outside_of g p.constants heap.cells)) new (held new_all (outside_of g' c' heap'.cells))
    → KeepsOnTrap i (Trapped_at n) old (held all (outside_of g p.constants heap.cells)) (held new_all (outside_of g' c' heap'.cells))
    → Does p input (regs_set old t) i (executed (seen base old all g heap)) [] (Ends (seen (executed base) new new_all g' heap') (Trap n))
ends_plainly p input base t i old new all new_all g g' c' heap heap' n plain keeps done kept =
    let s = executed (seen base old all g heap) in
    acts_plainly p input (regs_set old t) i s (Ends (seen (executed base) new new_all g' heap') (Trap n)) i.op plain
    (traps-at p base t i old new all new_all g g' p.constants c' heap heap' (effect i old (memory_of p s) (can_set s)) n refl keeps done kept)
