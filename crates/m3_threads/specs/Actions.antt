-- What the instructions on threads, mutexes, conditions and alerts do.
use Rattle.std.specs.Prelude.{ℕ, ℤ, ◌+◌, ◌==◌, ◌≡◌, Bool, true, false, if◌then◌else◌, List, [], ◌∷◌, ◌++◌, map, Option, Some, None, ◌-◌, ◌^◌, ◌<◌, ◌≤◌, replicate, slice_get, slice_set}
use Rattle.std.specs.List.{list_any}
use Rattle.m3_base.specs.Words.{add_words}
use Rattle.m3_isa.specs.declared.instructions.Instr.{Instr}
use Rattle.m3_isa.specs.declared.registers.Regs.{Regs}
use Rattle.m3_isa.specs.Memory.{Memory}
use Rattle.m3_isa.specs.Arithmetic.{flag}
use Rattle.m3_isa.specs.Effects.{reg, next, jumped}
use Rattle.m3_threads.specs.declared.answers.Done.{Done}
use Rattle.m3_threads.specs.declared.answers.Done.TheVariants.{Went, Jumped, Slept, Trapped}
use Rattle.m3_threads.specs.declared.status.Thread.{Thread}
use Rattle.m3_threads.specs.declared.status.Status.{Status}
use Rattle.m3_threads.specs.declared.status.Status.TheVariants.{Ready, Wants, Waits}
use Rattle.m3_threads.specs.All.{Everyone, updated, base_of_slot, queue_place}
use Rattle.m3_threads.specs.Spaces.{held, replaceable, put_inside, put_outside}

-- what an instruction leaves: its answer, the threads and their stacks, and the memory outside
pub record After : Type 0 where
  pub answer : Done
  pub all : Everyone
  pub memory : Memory

-- a call gave this answer and left this
pub record IsAfter (after : After) (answer : Done) (all : Everyone) (memory : Memory) : Type 0 where
  pub answered : answer ≡ after.answer
  pub threads : all ≡ after.all
  pub outside : (at : ℕ) → memory at ≡ after.memory at

abbrev pub with_threads : Everyone → List Thread → Everyone
with_threads all threads = record all { threads = threads }

-- it traps, and nothing more is done
abbrev pub traps : ℕ → Everyone → Memory → After
traps n all memory = record { answer = Trapped n; all = all; memory = memory }

-- the thread of a number is changed
abbrev pub changes : Done → (Thread → Thread) → ℕ → Everyone → Memory → After
changes answer change n all memory =
    record { answer = answer; all = with_threads all (updated change n all.threads); memory = memory }

-- a thread at the next instruction, or at the one that a jump names
abbrev pub gone_on : Thread → Thread
gone_on t = record t { regs = next t.regs; status = Ready }

abbrev pub jumped_to : ℤ → Thread → Thread
jumped_to target t = record t { regs = jumped t.regs target; status = Ready }

-- a thread with a word in a register
abbrev pub given : ℕ → ℕ → Thread → Thread
given a word t = record t { regs = record t.regs { r = slice_set t.regs.r a word } }

-- a word is loaded, or the instruction traps
abbrev pub loading : Everyone → Memory → Option ℕ → (ℕ → After) → After
loading all memory None go = traps 2 all memory
loading all memory (Some word) go = go word

-- a word is put, or the instruction traps
abbrev pub putting : Everyone → Memory → (ℕ → Bool) → ℕ → ℕ → (Everyone → Memory → After) → After
putting all memory can at word go =
    if replaceable all can at then go (put_inside all at word) (put_outside all memory at word) else traps 2 all memory

-- the address of a mutex's holder, by the register that has the mutex
abbrev pub holder_at : Thread → ℕ → ℕ
holder_at t mutex = add_words (reg t.regs mutex) 1

-- ACQ: the thread becomes the holder
abbrev pub acquires : Thread → Instr → Everyone → Memory → (ℕ → Bool) → After
acquires t i all memory can = putting all memory can (holder_at t i.a) (t.number + 1) (changes Went gone_on t.number)

-- with the mutex held it is freed and what follows is done, else there is a jump
abbrev pub frees : Thread → Instr → Everyone → Memory → (ℕ → Bool) → (Everyone → Memory → After) → After
frees t i all memory can go =
    loading all memory (held all memory (holder_at t i.a)) (λ holder.
    if holder == t.number + 1
    then putting all memory can (holder_at t i.a) 0 go
    else changes Jumped (jumped_to i.imm) t.number all memory)

-- REL
abbrev pub releases : Thread → Instr → Everyone → Memory → (ℕ → Bool) → After
releases t i all memory can = frees t i all memory can (changes Went gone_on t.number)

-- a thread that sleeps, at the end of the queues
abbrev pub asleep : ℕ → ℕ → ℕ → Bool → Thread → Thread
asleep mutex condition place alertable t = record t { status = Waits mutex condition place alertable }

abbrev pub sleeps : Thread → Instr → Bool → Everyone → Memory → After
sleeps t i alertable all memory =
    record {
      answer = Slept;
      all = record all { waits = all.waits + 1; threads = updated (asleep i.a i.b all.waits alertable) t.number all.threads };
      memory = memory;
    }

-- WAIT, first and once woken
abbrev pub waits_at : Status → Thread → Instr → Everyone → Memory → (ℕ → Bool) → After
waits_at (Wants mutex) t i all memory can = acquires t i all memory can
waits_at _ t i all memory can = frees t i all memory can (sleeps t i false)

abbrev pub waits : Thread → Instr → Everyone → Memory → (ℕ → Bool) → After
waits t i all memory can = waits_at t.status t i all memory can

-- a thread sleeps on a condition
abbrev pub sleeps_on_at : Status → ℕ → Thread → Bool
sleeps_on_at (Waits mutex condition place alertable) at t = reg t.regs condition == at
sleeps_on_at _ at t = false

abbrev pub sleeps_on : ℕ → Thread → Bool
sleeps_on at t = sleeps_on_at t.status at t

-- a woken thread wants its mutex again
abbrev pub woken_at : Status → Status
woken_at (Waits mutex condition place alertable) = Wants mutex
woken_at status = status

abbrev pub woken : Thread → Thread
woken t = record t { status = woken_at t.status }

-- the thread sleeps on the condition, and nobody who does has a lower place, or nobody sleeps there
abbrev pub SleepsLongest : ℕ → List Thread → Option Thread → Type 0
SleepsLongest at threads None = (k : ℕ) (t : Thread) → slice_get threads k ≡ Some t → sleeps_on at t ≡ false
SleepsLongest at threads (Some best) = record {
  there : (k : ℕ) × (slice_get threads k ≡ Some best);
  sleeps : sleeps_on at best ≡ true;
  first : (k : ℕ) (t : Thread) → slice_get threads k ≡ Some t → sleeps_on at t ≡ true → queue_place best ≤ queue_place t;
}

abbrev pub wakened_by : Option Thread → List Thread → List Thread
wakened_by None threads = threads
wakened_by (Some t) threads = updated woken t.number threads

-- SIG wakes the longest sleeper
abbrev pub wakes : Thread → Option Thread → Everyone → Memory → After
wakes t sleeper all memory = changes Went gone_on t.number (with_threads all (wakened_by sleeper all.threads)) memory

pub record Signals (t : Thread) (i : Instr) (all : Everyone) (memory : Memory) (answer : Done) (new_all : Everyone) (new_memory : Memory) : Type 0 where
  pub sleeper : Option Thread
  pub longest : SleepsLongest (reg t.regs i.a) all.threads sleeper
  pub after : IsAfter (wakes t sleeper all memory) answer new_all new_memory

-- BCA wakes all
abbrev pub woken_on : ℕ → Thread → Thread
woken_on at t = if sleeps_on at t then woken t else t

abbrev pub broadcasts : Thread → Instr → Everyone → Memory → After
broadcasts t i all memory =
    changes Went gone_on t.number (with_threads all (map (woken_on (reg t.regs i.a)) all.threads)) memory

-- a thread at the next instruction with a word in a register
abbrev pub gone_on_with : ℕ → ℕ → Thread → Thread
gone_on_with a word t = gone_on (given a word t)

-- JOIN of the thread whose cell register b holds
abbrev pub joins : Thread → Instr → Everyone → Memory → (ℕ → Bool) → After
joins t i all memory can =
    let cell = reg t.regs i.b in
    loading all memory (held all memory (add_words cell 2)) (λ state.
    if state == 2
    then changes Jumped (jumped_to i.imm) t.number all memory
    else putting all memory can (add_words cell 2) 2 (λ all memory.
    loading all memory (held all memory (add_words cell 3)) (λ result.
    changes Went (gone_on_with i.a result) t.number all memory)))

-- the threads without the one of this number
abbrev pub without : ℕ → List Thread → List Thread
without n [] = []
without n (t ∷ ts) = if t.number == n then ts else t ∷ without n ts

-- without a thread its slot's stack has no words
abbrev pub ended : Thread → Everyone → Everyone
ended t all = record all { threads = without t.number all.threads; stacks = slice_set all.stacks t.slot [] }

-- ENDT
abbrev pub ends : Thread → Instr → Everyone → Memory → (ℕ → Bool) → After
ends t i all memory can =
    loading all memory (held all memory (add_words t.regs.fp 2)) (λ cell.
    putting all memory can (add_words cell 3) (reg t.regs i.a) (λ all memory.
    putting all memory can (add_words cell 2) 1 (λ all memory.
    record { answer = Went; all = ended t all; memory = memory })))

-- an alert sets the mark, and wakes a thread that sleeps at AWAIT
abbrev pub alerted_at : Status → Status
alerted_at (Waits mutex condition place true) = Wants mutex
alerted_at status = status

abbrev pub alert_marked : Thread → Thread
alert_marked t = record t { alerted = true; status = alerted_at t.status }

-- ALERT of the thread whose cell register a holds
abbrev pub alerts : Thread → Instr → Everyone → Memory → After
alerts t i all memory =
    loading all memory (held all memory (add_words (reg t.regs i.a) 1)) (λ n.
    changes Went gone_on t.number (with_threads all (updated alert_marked n all.threads)) memory)

abbrev pub alert_cleared : Thread → Thread
alert_cleared t = record t { alerted = false }

-- TALERT
abbrev pub tests_alert : Thread → Instr → Everyone → Memory → After
tests_alert t i all memory =
    changes Went (λ u. gone_on_with i.a (flag t.alerted) (alert_cleared u)) t.number all memory

-- AWAIT, first and once woken
abbrev pub alert_waits_at : Status → Thread → Instr → Everyone → Memory → (ℕ → Bool) → After
alert_waits_at (Wants mutex) t i all memory can =
    putting all memory can (holder_at t i.a) (t.number + 1)
    (changes Went (λ u. gone_on_with i.c (flag t.alerted) (alert_cleared u)) t.number)
alert_waits_at _ t i all memory can =
    loading all memory (held all memory (holder_at t i.a)) (λ holder.
    if holder == t.number + 1
    then (if t.alerted
    then changes Went (λ u. gone_on_with i.c 1 (alert_cleared u)) t.number all memory
    else putting all memory can (holder_at t i.a) 0 (sleeps t i true))
    else changes Jumped (jumped_to i.imm) t.number all memory)

abbrev pub alert_waits : Thread → Instr → Everyone → Memory → (ℕ → Bool) → After
alert_waits t i all memory can = alert_waits_at t.status t i all memory can

-- AJOIN
abbrev pub alert_joins : Thread → Instr → Everyone → Memory → (ℕ → Bool) → After
alert_joins t i all memory can =
    if t.alerted
    then changes Went (λ u. gone_on_with i.a 0 (given i.c 1 (alert_cleared u))) t.number all memory
    else joins (given i.c 0 t) i (with_threads all (updated (given i.c 0) t.number all.threads)) memory can

-- the registers of a thread that starts
abbrev pub started_regs : ℕ → ℕ → Regs
started_regs first slot = record { r = replicate 16 0; pc = first; fp = base_of_slot slot }

abbrev pub started : ℕ → ℕ → ℕ → Thread
started number slot first = record { number = number; slot = slot; regs = started_regs first slot; status = Ready; alerted = false }

-- the stack of a thread that starts: the first frame returns to no instruction and has its cell in
-- word 2, and every other word is 0
abbrev pub started_stack : ℕ → ℕ → List ℕ
started_stack stack cell =
    slice_set (slice_set (slice_set (replicate stack 0) 0 (2 ^ 64 - 1)) 1 0) 2 cell

-- the threads at the start: the main one alone, whose cell is the first of the globals
abbrev pub at_start : ℕ → ℕ → Everyone
at_start allowed stack = record {
  allowed = allowed;
  stack = stack;
  forks = 0;
  waits = 0;
  threads = started 0 0 0 ∷ [];
  stacks = slice_set (replicate allowed []) 0 (started_stack stack (2 ^ 32));
}

-- FORK: a new thread in a slot, with its closure in word 6
abbrev pub forked : Everyone → ℕ → ℕ → ℕ → ℕ → Everyone
forked all slot first closure cell = record all {
  forks = all.forks + 1;
  threads = all.threads ++ started (all.forks + 1) slot first ∷ [];
  stacks = slice_set all.stacks slot (slice_set (started_stack all.stack cell) 6 closure);
}

-- a thread uses a slot
abbrev pub uses : ℕ → Thread → Bool
uses slot t = t.slot == slot

-- no thread uses the slot, and each lower one is used
pub record IsLowestFree (threads : List Thread) (slot : ℕ) : Type 0 where
  pub free : list_any (uses slot) threads ≡ false
  pub lower : (s : ℕ) → s < slot → list_any (uses s) threads ≡ true

-- a fork gave the new thread's number, with the lowest free slot
abbrev pub Forks : Everyone → ℕ → ℕ → ℕ → ℕ → Everyone → Type 0
Forks old first closure cell number new =
    (slot : ℕ) × IsLowestFree old.threads slot × (number ≡ old.forks + 1) × (new ≡ forked old slot first closure cell)
