-- No instruction ends a run as one whose points are used up.
use Rattle.std.specs.Prelude.{ℕ, ◌+◌, ◌-◌, ◌^◌, ◌%◌, ◌==◌, nat_le, nat_lt, if◌then◌else◌, Bool, true, false, List, length, slice_get, Option, None, Some, Result, Ok, Err}
use Rattle.std.specs.Int.{cast_unsigned, w32}
use Rattle.std.proofs.Common.{sym, subst}
use Rattle.m3_base.specs.Words.{add_words, sub_words}
use Rattle.m3_base.specs.declared.outcomes.FaultKind.{FaultKind}
use Rattle.m3_base.specs.declared.outcomes.Outcome.{Outcome}
use Rattle.m3_base.specs.declared.outcomes.Outcome.TheVariants.{Trap, StackFull}
use Rattle.m3_isa.specs.Memory.{Memory}
use Rattle.m3_isa.specs.Effects.{reg, answered}
use Rattle.m3_isa.specs.declared.registers.Regs.{Regs}
use Rattle.m3_isa.specs.declared.instructions.Instr.{Instr}
use Rattle.m3_image_sections.specs.declared.procs.ProcPart.{ProcPart}
use Rattle.m3_image_sections.specs.Parts.{Program, CellType}
use Rattle.m3_image_sections.specs.Ranges.{containing}
use Rattle.m3_run_meaning.specs.declared.near.Stack.{Stack}
use Rattle.m3_run_meaning.specs.declared.near.Place.{Place}
use Rattle.m3_run_laws.specs.Courses.{IsOther}
use Rattle.m3_run_meaning.specs.Act as act
use Rattle.m3_run_meaning.specs.Act.{Act, using, finding, or_trap}
use Rattle.m3_run_meaning.specs.Calls.{place_of, come_to, entering, entering_from, frame_in, framed, calls, number_before, method_from, method_at, method_in, kind_at, kind_told, returning, back_to, returns, tells_method, TellsType, Tests_type}
use Rattle.m3_run_meaning.specs.Acts.{faults, uncaught, is_uncaught, puts_bytes, puts_text, has_text, gets, tells_self}
use Rattle.m3_run_meaning.specs.Making.{fixed_words}
use Rattle.m3_run_meaning.specs.NewTexts.{lengths_at, open_type, Fails_at_size, not_there, too_large}

-- where something ends the run, it does so by another outcome
abbrev pub FailsOtherwise : {A : Type 0} → Result A Outcome → Type 0
FailsOtherwise (Ok x) = Unit {0}
FailsOtherwise (Err outcome) = IsOther outcome

abbrev pub StopsOtherwise : Act → Type 0
StopsOtherwise (act.Stops outcome) = IsOther outcome
StopsOtherwise _ = Unit {0}

-- ---- what acts are made of

by-using : {A : Type 0} (r : Result A Outcome) (go : A → Act) → FailsOtherwise r → ((x : A) → StopsOtherwise (go x)) → StopsOtherwise (using r go)
by-using (Ok x) go h k = k x
by-using (Err outcome) go h k = h

by-finding : {A B : Type 0} (r : Result A Outcome) (go : A → Result B Outcome) → FailsOtherwise r → ((x : A) → FailsOtherwise (go x)) → FailsOtherwise (finding r go)
by-finding (Ok x) go h k = k x
by-finding (Err outcome) go h k = h

pub by-trap : {A : Type 0} (n : ℕ) (o : Option A) → FailsOtherwise (or_trap n o)
by-trap n None = tt
by-trap n (Some x) = tt

either : {A : Type 0} (b : Bool) (one other : Result A Outcome) → FailsOtherwise one → FailsOtherwise other → FailsOtherwise (if b then one else other)
either true one other h k = h
either false one other h k = k

either-act : (b : Bool) (one other : Act) → StopsOtherwise one → StopsOtherwise other → StopsOtherwise (if b then one else other)
either-act true one other h k = h
either-act false one other h k = k

-- ---- calls and returns

frames : (caller callee : ProcPart) (stack : Stack) (frame : ℕ) → FailsOtherwise (frame_in caller callee stack frame)
frames caller callee stack frame =
    either (nat_le stack.words (sub_words frame stack.base)) (Err (Trap 2))
    (if nat_lt (stack.words - sub_words frame stack.base) callee.frame then Err StackFull else Ok (record { pc = callee.first; fp = frame })) tt
    (either (nat_lt (stack.words - sub_words frame stack.base) callee.frame) (Err StackFull) (Ok (record { pc = callee.first; fp = frame })) tt tt)

enters-by : (caller callee : Option ProcPart) (stack : Stack) (at : Place) → FailsOtherwise (entering_from caller callee stack at)
enters-by caller None stack at = tt
enters-by None (Some callee) stack at = tt
enters-by (Some caller) (Some callee) stack at = frames caller callee stack (add_words at.fp caller.body)

pub call-stops : (p : Program) (callee : Result ℕ Outcome) (stack : Stack) (regs : Regs) (memory : Memory) (can : ℕ → Bool) → FailsOtherwise callee → StopsOtherwise (calls p callee stack regs memory can)
call-stops p callee stack regs memory can h =
    by-using (finding callee (λ n. entering p n stack (place_of regs))) (λ to. act.Writes (come_to to regs) (framed to (place_of regs) memory can))
    (by-finding callee (λ n. entering p n stack (place_of regs)) h (λ n. enters-by (containing p.procs regs.pc) (slice_get p.procs n) stack (place_of regs))) (λ to. tt)

pub before-fails : (none behind : ℕ) → FailsOtherwise (number_before none behind)
before-fails none behind =
    either (behind == 0) (Err (Trap none)) (if nat_lt (2 ^ 32) behind then Err (Trap 3) else Ok (behind - 1)) tt (either (nat_lt (2 ^ 32) behind) (Err (Trap 3)) (Ok (behind - 1)) tt tt)

told-fails : (types : List CellType) (header : ℕ) → FailsOtherwise (kind_told types header)
told-fails types header = either (nat_lt (header % 2 ^ 32) (length types)) (Ok (header % 2 ^ 32)) (Err (Trap 4)) tt tt

kind-fails : (types : List CellType) (memory : Memory) (cell : ℕ) → FailsOtherwise (kind_at types memory cell)
kind-fails types memory cell = by-finding (or_trap 2 (memory cell)) (kind_told types) (by-trap 2 (memory cell)) (λ header. told-fails types header)

method-fails : (types : List CellType) (memory : Memory) (cell n : ℕ) → FailsOtherwise (method_at types memory cell n)
method-fails types memory cell n = by-finding (kind_at types memory cell) (λ kind. or_trap 4 (method_in (slice_get types kind) n)) (kind-fails types memory cell) (λ kind. by-trap 4 (method_in (slice_get types kind) n))

pub from-fails : (caller : Option ProcPart) (types : List CellType) (n : ℕ) (at : Place) (memory : Memory) → FailsOtherwise (method_from caller types n at memory)
from-fails None types n at memory = tt
from-fails (Some caller) types n at memory =
    by-finding (or_trap 2 (memory (add_words at.fp (caller.body + 3)))) (λ cell. finding (method_at types memory cell n) (number_before 4)) (by-trap 2 (memory (add_words at.fp (caller.body + 3)))) (λ cell.
    by-finding (method_at types memory cell n) (number_before 4) (method-fails types memory cell n) (λ behind. before-fails 4 behind))

back-fails : (code fp pc : ℕ) → FailsOtherwise (back_to code fp pc)
back-fails code fp pc = either (nat_lt pc code) (Ok (record { pc = pc; fp = fp })) (Err (Trap 1)) tt tt

pub return-stops : (code : ℕ) (regs : Regs) (memory : Memory) → StopsOtherwise (returns code regs memory)
return-stops code regs memory =
    let at = place_of regs in
    by-using (returning code at memory) (λ to. act.Proceeds (come_to to regs))
    (by-finding (or_trap 2 (memory at.fp)) (λ pc. finding (or_trap 2 (memory (add_words at.fp 1))) (λ fp. back_to code fp pc)) (by-trap 2 (memory at.fp)) (λ pc.
    by-finding (or_trap 2 (memory (add_words at.fp 1))) (λ fp. back_to code fp pc) (by-trap 2 (memory (add_words at.fp 1))) (λ fp. back-fails code fp pc))) (λ to. tt)

pub method-stops : (types : List CellType) (i : Instr) (regs : Regs) (memory : Memory) → StopsOtherwise (tells_method types i regs memory)
method-stops types i regs memory =
    by-using (method_at types memory (reg regs i.b) (cast_unsigned w32 i.imm)) (λ method. act.Proceeds (answered regs i.a method)) (method-fails types memory (reg regs i.b) (cast_unsigned w32 i.imm)) (λ method. tt)

type-fails : (types : List CellType) (kind : Result ℕ Outcome) (n : ℕ) (told : Result Bool Outcome) → FailsOtherwise kind → TellsType types kind n told → FailsOtherwise told
type-fails types kind n (Ok is) h k = tt
type-fails types kind n (Err outcome) h k = subst (λ (r : Result ℕ Outcome). FailsOtherwise r) k h

pub type-stops : (types : List CellType) (i : Instr) (regs : Regs) (memory : Memory) (deed : Act) → Tests_type types i regs memory deed → StopsOtherwise deed
type-stops types i regs memory deed h =
    let kind = kind_at types memory (reg regs i.b) in
    subst (λ (a : Act). StopsOtherwise a) (sym h.2) (by-using h.0 _ (type-fails types kind (cast_unsigned w32 i.imm) h.0 (kind-fails types memory (reg regs i.b)) h.1) (λ is. tt))

-- ---- ends and output

pub fault-stops : (kind : Option FaultKind) (place : Option (ℕ × ℕ)) → StopsOtherwise (faults kind place)
fault-stops None place = tt
fault-stops (Some kind) None = tt
fault-stops (Some kind) (Some place) = tt

uncaught-stops : (name : Option (List ℕ)) (n : ℕ) → StopsOtherwise (uncaught name n)
uncaught-stops None n = tt
uncaught-stops (Some name) n = tt

pub is-uncaught-stops : (p : Program) (i : Instr) (regs : Regs) → StopsOtherwise (is_uncaught p i regs)
is-uncaught-stops p i regs =
    either-act (nat_lt (reg regs i.a) (2 ^ 32)) (uncaught (slice_get p.exceptions (reg regs i.a)) (reg regs i.a)) (act.Stops (Trap 5)) (uncaught-stops (slice_get p.exceptions (reg regs i.a)) (reg regs i.a)) tt

pub text-stops : (i : Instr) (regs : Regs) (memory : Memory) → StopsOtherwise (puts_text i regs memory)
text-stops i regs memory =
    let text = reg regs i.a in
    by-using (or_trap 2 (memory (add_words text 1))) (λ count. puts_bytes memory text count regs) (by-trap 2 (memory (add_words text 1))) (λ count. either-act (has_text memory text 0 count) _ _ tt tt)

pub get-stops : (input : List ℕ) (taken : ℕ) (i : Instr) (regs : Regs) → StopsOtherwise (gets input taken i regs)
get-stops input taken i regs = either-act (nat_le (length input) taken) _ _ tt tt

pub self-stops : (stack : Stack) (i : Instr) (regs : Regs) (memory : Memory) → StopsOtherwise (tells_self stack i regs memory)
self-stops stack i regs memory =
    by-using (or_trap 2 (memory (add_words stack.base 2))) (λ cell. act.Proceeds (answered regs i.a cell)) (by-trap 2 (memory (add_words stack.base 2))) (λ cell. tt)

-- ---- new cells

pub fixed-fails : (o : Option CellType) → FailsOtherwise (fixed_words o)
fixed-fails None = tt
fixed-fails (Some t) = either (t.kind == 0) _ (Err (Trap 4)) tt tt

pub open-fails : (o : Option CellType) → FailsOtherwise (open_type o)
open-fails None = tt
open-fails (Some t) = either (t.kind == 1) (Ok t) (Err (Trap 4)) tt tt

pub sizes-fail : (memory : Memory) (at dims : ℕ) (outcome : Outcome) → Fails_at_size memory at dims outcome → IsOther outcome
sizes-fail memory at dims outcome (not_there n sizes within read none) = tt
sizes-fail memory at dims outcome (too_large n size sizes within read loaded large) = tt

pub lengths-fail : (memory : Memory) (left right : ℕ) → FailsOtherwise (lengths_at memory left right)
lengths-fail memory left right =
    by-finding (or_trap 2 (memory (add_words left 1))) (λ m. finding (or_trap 2 (memory (add_words right 1))) (λ n. Ok (m, n))) (by-trap 2 (memory (add_words left 1))) (λ m.
    by-finding (or_trap 2 (memory (add_words right 1))) (λ n. Ok (m, n)) (by-trap 2 (memory (add_words right 1))) (λ n. tt))
