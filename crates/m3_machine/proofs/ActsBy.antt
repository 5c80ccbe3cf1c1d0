-- Each instruction that isn't plain comes to its deed.
use Rattle.std.specs.Prelude.{ℕ, ◌≡◌, ◌+◌, ◌-◌, ◌^◌, ◌<◌, min, Bool, true, false, List, [], Option, None, Some, Result, Ok, Err, IfOk, if◌then◌else◌, nat_le, length, slice_index_or}
use Rattle.std.specs.Int.{cast_unsigned, w32}
use Rattle.m3_base.specs.Words.{add_words}
use Rattle.std.proofs.Common.{refl, sym, ap, subst, arith, true≢false}
use Rattle.m3_base.specs.declared.outcomes.Outcome.{Outcome}
use Rattle.m3_base.specs.declared.outcomes.FaultKind.{FaultKind}
use Rattle.m3_isa.specs.Memory.{Memory}
use Rattle.m3_isa.specs.Arithmetic.{flag}
use Rattle.m3_isa.specs.Effects.{reg, answered, jumped}
use Rattle.m3_isa.specs.declared.registers.Regs.{Regs}
use Rattle.m3_isa.specs.Instructions.{is_plain}
use Rattle.m3_isa.specs.declared.instructions.Op.{Op}
use Rattle.m3_isa.specs.declared.instructions.Op.TheVariants.{Call, Callr, Callm, Ret, Meth, Subt, New, Newo, Point, Fault, Unc, Endp, Endt, Cat, Tchr, Tsub, Getc, Eof, Self_, Fork, Join, Acq, Rel, Wait, Sig, Bca, Alert, Talert, Await, Ajoin, Put, Putn, Putc}
use Rattle.m3_isa.specs.declared.instructions.Instr.{Instr}
use Rattle.m3_threads.specs.declared.status.Thread.{Thread}
use Rattle.m3_image_sections.specs.Parts.{Program, CellType}
use Rattle.m3_run_meaning.specs.declared.near.Stack.{Stack}
use Rattle.m3_run_meaning.specs.State.{State, executed}
use Rattle.m3_run_meaning.specs.Act.{Act, Proceeds, Writes, Takes, bytes_of, using, finding, or_trap, stops_with_trap}
use Rattle.m3_run_meaning.specs.Calls.{place_of, come_to, entering, framed, calls, returning, returns, method_at, tells_method}
use Rattle.m3_run_meaning.specs.Acts.{faults, uncaught, gets, tells_self}
use Rattle.m3_run_meaning.specs.Progress.{Progress}
use Rattle.m3_run_meaning.specs.OnThreads.{On_threads, answer_of}
use Rattle.m3_run_meaning.specs.Steps.{Acts}
use Rattle.m3_machine.specs.Deeds.{IsSilent}

-- what holds of an operation holds of an instruction that has it
pub acts_by : (p : Program) (input : List ℕ) (t : Thread) (i : Instr) (s : State) (bytes : List ℕ) (progress : Progress) (o q : Op) → o ≡ q
    → Acts p input t i s bytes progress q → Acts p input t i s bytes progress o
acts_by p input t i s bytes progress o q is h = subst (λ (x : Op). Acts p input t i s bytes progress x) (sym is) h

-- the operations that are left over are those on threads
pub acts_rest : (p : Program) (input : List ℕ) (t : Thread) (i : Instr) (s : State) (progress : Progress) (o : Op) → (o ≡ Call → ⊥) → (o ≡ Callr → ⊥) → (o ≡ Callm → ⊥) → (o ≡ Ret → ⊥) → (o ≡ Meth → ⊥) → (o ≡ Subt → ⊥) → (o ≡ New → ⊥) → (o ≡ Newo → ⊥) → (o ≡ Point → ⊥) → (o ≡ Fault → ⊥) → (o ≡ Unc → ⊥) → (o ≡ Endp → ⊥) → (o ≡ Endt → ⊥) → (o ≡ Cat → ⊥) → (o ≡ Tchr → ⊥) → (o ≡ Tsub → ⊥) → (o ≡ Getc → ⊥) → (o ≡ Eof → ⊥) → (o ≡ Self_ → ⊥) → (o ≡ Fork → ⊥)
    → is_plain o ≡ false → IsSilent o → On_threads p t i s answer_of progress → Acts p input t i s [] progress o
acts_rest p input t i s progress Call n _ _ _ _ _ _ _ _ _ _ _ _ _ _ _ _ _ _ _ e q h = absurd (n refl)
acts_rest p input t i s progress Callr _ n _ _ _ _ _ _ _ _ _ _ _ _ _ _ _ _ _ _ e q h = absurd (n refl)
acts_rest p input t i s progress Callm _ _ n _ _ _ _ _ _ _ _ _ _ _ _ _ _ _ _ _ e q h = absurd (n refl)
acts_rest p input t i s progress Ret _ _ _ n _ _ _ _ _ _ _ _ _ _ _ _ _ _ _ _ e q h = absurd (n refl)
acts_rest p input t i s progress Meth _ _ _ _ n _ _ _ _ _ _ _ _ _ _ _ _ _ _ _ e q h = absurd (n refl)
acts_rest p input t i s progress Subt _ _ _ _ _ n _ _ _ _ _ _ _ _ _ _ _ _ _ _ e q h = absurd (n refl)
acts_rest p input t i s progress New _ _ _ _ _ _ n _ _ _ _ _ _ _ _ _ _ _ _ _ e q h = absurd (n refl)
acts_rest p input t i s progress Newo _ _ _ _ _ _ _ n _ _ _ _ _ _ _ _ _ _ _ _ e q h = absurd (n refl)
acts_rest p input t i s progress Point _ _ _ _ _ _ _ _ n _ _ _ _ _ _ _ _ _ _ _ e q h = absurd (n refl)
acts_rest p input t i s progress Fault _ _ _ _ _ _ _ _ _ n _ _ _ _ _ _ _ _ _ _ e q h = absurd (n refl)
acts_rest p input t i s progress Unc _ _ _ _ _ _ _ _ _ _ n _ _ _ _ _ _ _ _ _ e q h = absurd (n refl)
acts_rest p input t i s progress Endp _ _ _ _ _ _ _ _ _ _ _ n _ _ _ _ _ _ _ _ e q h = absurd (n refl)
acts_rest p input t i s progress Endt _ _ _ _ _ _ _ _ _ _ _ _ n _ _ _ _ _ _ _ e q h = absurd (n refl)
acts_rest p input t i s progress Cat _ _ _ _ _ _ _ _ _ _ _ _ _ n _ _ _ _ _ _ e q h = absurd (n refl)
acts_rest p input t i s progress Tchr _ _ _ _ _ _ _ _ _ _ _ _ _ _ n _ _ _ _ _ e q h = absurd (n refl)
acts_rest p input t i s progress Tsub _ _ _ _ _ _ _ _ _ _ _ _ _ _ _ n _ _ _ _ e q h = absurd (n refl)
acts_rest p input t i s progress Getc _ _ _ _ _ _ _ _ _ _ _ _ _ _ _ _ n _ _ _ e q h = absurd (n refl)
acts_rest p input t i s progress Eof _ _ _ _ _ _ _ _ _ _ _ _ _ _ _ _ _ n _ _ e q h = absurd (n refl)
acts_rest p input t i s progress Self_ _ _ _ _ _ _ _ _ _ _ _ _ _ _ _ _ _ _ n _ e q h = absurd (n refl)
acts_rest p input t i s progress Fork _ _ _ _ _ _ _ _ _ _ _ _ _ _ _ _ _ _ _ n e q h = absurd (n refl)
acts_rest p input t i s progress Put _ _ _ _ _ _ _ _ _ _ _ _ _ _ _ _ _ _ _ _ e q h = absurd q
acts_rest p input t i s progress Putn _ _ _ _ _ _ _ _ _ _ _ _ _ _ _ _ _ _ _ _ e q h = absurd q
acts_rest p input t i s progress Putc _ _ _ _ _ _ _ _ _ _ _ _ _ _ _ _ _ _ _ _ e q h = absurd q
acts_rest p input t i s progress Join _ _ _ _ _ _ _ _ _ _ _ _ _ _ _ _ _ _ _ _ e q h = (refl, h)
acts_rest p input t i s progress Acq _ _ _ _ _ _ _ _ _ _ _ _ _ _ _ _ _ _ _ _ e q h = (refl, h)
acts_rest p input t i s progress Rel _ _ _ _ _ _ _ _ _ _ _ _ _ _ _ _ _ _ _ _ e q h = (refl, h)
acts_rest p input t i s progress Wait _ _ _ _ _ _ _ _ _ _ _ _ _ _ _ _ _ _ _ _ e q h = (refl, h)
acts_rest p input t i s progress Sig _ _ _ _ _ _ _ _ _ _ _ _ _ _ _ _ _ _ _ _ e q h = (refl, h)
acts_rest p input t i s progress Bca _ _ _ _ _ _ _ _ _ _ _ _ _ _ _ _ _ _ _ _ e q h = (refl, h)
acts_rest p input t i s progress Alert _ _ _ _ _ _ _ _ _ _ _ _ _ _ _ _ _ _ _ _ e q h = (refl, h)
acts_rest p input t i s progress Talert _ _ _ _ _ _ _ _ _ _ _ _ _ _ _ _ _ _ _ _ e q h = (refl, h)
acts_rest p input t i s progress Await _ _ _ _ _ _ _ _ _ _ _ _ _ _ _ _ _ _ _ _ e q h = (refl, h)
acts_rest p input t i s progress Ajoin _ _ _ _ _ _ _ _ _ _ _ _ _ _ _ _ _ _ _ _ e q h = (refl, h)
acts_rest p input t i s progress _ _ _ _ _ _ _ _ _ _ _ _ _ _ _ _ _ _ _ _ _ e q h = absurd (true≢false e)

-- ---- what puts nothing

no_bytes : {A : Type 0} (r : Result A Outcome) (f : A → Act) → ((x : A) → [] ≡ bytes_of (f x)) → [] ≡ bytes_of (using r f)
no_bytes (Ok x) f h = h x
no_bytes (Err outcome) f h = refl

pub no_bytes_of_call : (p : Program) (callee : Result ℕ Outcome) (stack : Stack) (regs : Regs) (memory : Memory) (can : ℕ → Bool) → [] ≡ bytes_of (calls p callee stack regs memory can)
no_bytes_of_call p callee stack regs memory can =
    no_bytes (finding callee (λ n. entering p n stack (place_of regs))) (λ to. Writes (come_to to regs) (framed to (place_of regs) memory can)) (λ to. refl)

pub no_bytes_of_return : (code : ℕ) (regs : Regs) (memory : Memory) → [] ≡ bytes_of (returns code regs memory)
no_bytes_of_return code regs memory = no_bytes (returning code (place_of regs) memory) (λ to. Proceeds (come_to to regs)) (λ to. refl)

pub no_bytes_of_method : (types : List CellType) (i : Instr) (regs : Regs) (memory : Memory) → [] ≡ bytes_of (tells_method types i regs memory)
no_bytes_of_method types i regs memory = no_bytes (method_at types memory (reg regs i.b) (cast_unsigned w32 i.imm)) (λ method. Proceeds (answered regs i.a method)) (λ method. refl)

pub no_bytes_of_test : (told : Result Bool Outcome) (regs : Regs) (a : ℕ) → [] ≡ bytes_of (using told (λ is. Proceeds (answered regs a (flag is))))
no_bytes_of_test told regs a = no_bytes told (λ is. Proceeds (answered regs a (flag is))) (λ is. refl)

pub no_bytes_of_self : (stack : Stack) (i : Instr) (regs : Regs) (memory : Memory) → [] ≡ bytes_of (tells_self stack i regs memory)
no_bytes_of_self stack i regs memory = no_bytes (or_trap 2 (memory (add_words stack.base 2))) (λ cell. Proceeds (answered regs i.a cell)) (λ cell. refl)

pub no_bytes_of_fault : (kind : Option FaultKind) (place : Option (ℕ × ℕ)) → [] ≡ bytes_of (faults kind place)
no_bytes_of_fault None place = refl
no_bytes_of_fault (Some kind) None = refl
no_bytes_of_fault (Some kind) (Some place) = refl

no_bytes_uncaught : (name : Option (List ℕ)) (n : ℕ) → [] ≡ bytes_of (uncaught name n)
no_bytes_uncaught None n = refl
no_bytes_uncaught (Some name) n = refl

no_bytes_if : (b : Bool) (one other : Act) → [] ≡ bytes_of one → [] ≡ bytes_of other → [] ≡ bytes_of (if b then one else other)
no_bytes_if true one other a d = a
no_bytes_if false one other a d = d

pub no_bytes_of_get : (input : List ℕ) (taken : ℕ) (i : Instr) (regs : Regs) → [] ≡ bytes_of (gets input taken i regs)
no_bytes_of_get input taken i regs = no_bytes_if (nat_le (length input) taken) (Proceeds (jumped regs i.imm)) (Takes (answered regs i.a (slice_index_or input taken 0))) refl refl

pub no_bytes_of_uncaught : (b : Bool) (name : Option (List ℕ)) (n : ℕ) → [] ≡ bytes_of (if b then uncaught name n else stops_with_trap 5)
no_bytes_of_uncaught b name n = no_bytes_if b (uncaught name n) (stops_with_trap 5) (no_bytes_uncaught name n) refl

-- ---- what was answered

pub if_ok : {A E : Type 0} {P Q : A → Type 0} (r : Result A E) → ((x : A) → P x → Q x) → IfOk r P → IfOk r Q
if_ok (Ok x) f h = f x h
if_ok (Err e) f h = tt

-- one instruction more was counted
pub counted : (s : State) (n : ℕ) → n ≡ min (s.instructions + 1) (2 ^ 128 - 1) → s.instructions < 2 ^ 128 - 1 → record s { instructions = n } ≡ executed s
counted s n is few = let more : n ≡ s.instructions + 1 = omega arith in ap (λ (k : ℕ). record s { instructions = k }) more

pub silent_of : (o : Op) → (o ≡ Put → ⊥) → (o ≡ Putn → ⊥) → (o ≡ Putc → ⊥) → IsSilent o
silent_of Put n _ _ = absurd (n refl)
silent_of Putn _ n _ = absurd (n refl)
silent_of Putc _ _ n = absurd (n refl)
silent_of _ _ _ _ = tt
