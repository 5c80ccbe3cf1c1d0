-- Who may go, and who goes.
use Rattle.std.specs.Prelude.{ℕ, ◌+◌, ◌^◌, ◌≡◌, ◌<◌, ◌↔◌, IsSome, ◌==◌, ◌||◌, ◌&&◌, not, Bool, true, false, Option, Some, None}
use Rattle.m3_base.specs.Words.{add_words}
use Rattle.m3_isa.specs.declared.instructions.Op.{Op}
use Rattle.m3_isa.specs.declared.instructions.Op.TheVariants.{Acq, Join, Ajoin}
use Rattle.m3_isa.specs.declared.instructions.Instr.{Instr}
use Rattle.m3_isa.specs.Instructions.{IsInstruction}
use Rattle.m3_isa.specs.Memory.{Memory}
use Rattle.m3_isa.specs.Effects.{reg}
use Rattle.m3_threads.specs.declared.status.Thread.{Thread}
use Rattle.m3_threads.specs.declared.status.Status.{Status}
use Rattle.m3_threads.specs.declared.status.Status.TheVariants.{Ready, Wants, Waits, Joins}
use Rattle.m3_threads.specs.All.{Everyone, thread_named}
use Rattle.m3_threads.specs.Spaces.{held}

-- the status of a thread that comes to an instruction
abbrev pub status_at_of : Op → ℕ → ℕ → Status
status_at_of Acq a b = Wants a
status_at_of Join a b = Joins b false
status_at_of Ajoin a b = Joins b true
status_at_of _ a b = Ready

abbrev pub status_at : Instr → Status
status_at i = status_at_of i.op i.a i.b

abbrev pub with_status : Status → Thread → Thread
with_status status t = record t { status = status }

-- a mutex is free, or can't be loaded
abbrev pub is_free : Option ℕ → Bool
is_free None = true
is_free (Some holder) = holder == 0

-- a thread has ended, or its state can't be loaded
abbrev pub has_ended : Option ℕ → Bool
has_ended None = true
has_ended (Some state) = not (state == 0)

-- a thread with this status and these registers may go
abbrev pub may_go_at : Status → Thread → Memory → Bool
may_go_at Ready t memory = true
may_go_at (Wants mutex) t memory = is_free (memory (add_words (reg t.regs mutex) 1))
may_go_at (Waits mutex condition place alertable) t memory = false
may_go_at (Joins cell alertable) t memory = (alertable && t.alerted) || has_ended (memory (add_words (reg t.regs cell) 2))

abbrev pub may_go_in : Memory → Thread → Bool
may_go_in memory t = may_go_at t.status t memory

-- the thread is there and may go
abbrev pub may_go_if : Memory → Option Thread → Bool
may_go_if memory None = false
may_go_if memory (Some t) = may_go_in memory t

abbrev pub may_go : Everyone → Memory → ℕ → Bool
may_go all memory n = may_go_if (held all memory) (thread_named all n)

-- the entry names a thread that may go
abbrev pub entry_goes : Everyone → Memory → Option ℕ → Bool
entry_goes all memory None = false
entry_goes all memory (Some n) = may_go all memory n

-- no thread may go
abbrev pub NoneGoes : Everyone → Memory → Type 0
NoneGoes all memory = (n : ℕ) → may_go all memory n ≡ false

-- the thread of number n may go, and none with a lower number may
pub record IsLowest (all : Everyone) (memory : Memory) (n : ℕ) : Type 0 where
  pub goes : may_go all memory n ≡ true
  pub lower : (m : ℕ) → m < n → may_go all memory m ≡ false

-- who goes: the thread that the entry names if it may, else the running one if it may, else the one
-- with the lowest number of those that may, and none exactly where no thread may go
pub record IsChoice (all : Everyone) (memory : Memory) (entry : Option ℕ) (running : ℕ) (choice : Option ℕ) : Type 0 where
  pub named : (n : ℕ) → entry ≡ Some n → may_go all memory n ≡ true → choice ≡ Some n
  pub stays : entry_goes all memory entry ≡ false → may_go all memory running ≡ true → choice ≡ Some running
  pub lowest : entry_goes all memory entry ≡ false → may_go all memory running ≡ false
      → (n : ℕ) → choice ≡ Some n → IsLowest all memory n
  pub none : (choice ≡ None) ↔ NoneGoes all memory

-- the thread doesn't sleep
abbrev pub IsAwakeAt : Status → Type 0
IsAwakeAt (Waits mutex condition place alertable) = ⊥
IsAwakeAt _ = Unit {0}

abbrev pub IsAwake : Thread → Type 0
IsAwake t = IsAwakeAt t.status

-- what a thread has, where there is one
abbrev pub of_thread : {A : Type 0} → (Thread → A) → Option Thread → Option A
of_thread part None = None
of_thread part (Some t) = Some (part t)

-- an instruction of this operation may be carried out by the thread of a number: it is there and awake,
-- and there is room in the counts
pub record CanDo (op : Op) (all : Everyone) (thread : ℕ) (i : Instr) : Type 0 where
  pub instruction : IsInstruction i
  pub operation : i.op ≡ op
  pub there : IsSome (thread_named all thread)
  pub counted : all.forks + all.waits < 2 ^ 63
  pub awake : (t : Thread) → thread_named all thread ≡ Some t → IsAwake t
