-- The threads that have not ended, and their stacks.
use Rattle.std.specs.Prelude.{ℕ, ◌+◌, ◌*◌, ◌^◌, ◌≤◌, ◌<◌, ◌≡◌, ◌≢◌, ◌==◌, Bool, true, false, if◌then◌else◌, List, [], ◌∷◌, length, find, Option, Some, slice_get, slice_index_or, slice_set}
use Rattle.m3_threads.specs.declared.status.Thread.{Thread}
use Rattle.m3_threads.specs.declared.status.Status.{Status}
use Rattle.m3_threads.specs.declared.status.Status.TheVariants.{Ready, Wants, Waits, Joins}

-- how many threads are allowed, the words of a stack, the forks and the waits made, the threads that
-- have not ended in the order of their numbers, and the words of the stack in each slot: none where no
-- thread has the slot
pub record Everyone : Type 0 where
  pub allowed : ℕ
  pub stack : ℕ
  pub forks : ℕ
  pub waits : ℕ
  pub threads : List Thread
  pub stacks : List (List ℕ)

-- a thread has this number
abbrev pub is_named : ℕ → Thread → Bool
is_named n t = t.number == n

-- the thread of a number
abbrev pub thread_named : Everyone → ℕ → Option Thread
thread_named all n = find (is_named n) all.threads

-- the threads after the one of this number was changed
abbrev pub updated : (Thread → Thread) → ℕ → List Thread → List Thread
updated change n [] = []
updated change n (t ∷ ts) = if t.number == n then change t ∷ ts else t ∷ updated change n ts

-- the first address of a slot's stack, and of a thread's
abbrev pub base_of_slot : ℕ → ℕ
base_of_slot slot = 2 ^ 40 * (slot + 1)

abbrev pub base_of : Thread → ℕ
base_of t = base_of_slot t.slot

-- the words of the stack in a slot, and of a thread's
abbrev pub stack_in : Everyone → ℕ → List ℕ
stack_in all slot = slice_index_or all.stacks slot []

abbrev pub words_of : Everyone → Thread → List ℕ
words_of all t = stack_in all t.slot

-- the stack in a slot has these words, and nothing else is changed
abbrev pub with_stack : Everyone → ℕ → List ℕ → Everyone
with_stack all slot words = record all { stacks = slice_set all.stacks slot words }

-- a thread sleeps on a condition, and its place in the queues of the conditions
abbrev pub is_asleep_at : Status → Bool
is_asleep_at (Waits mutex condition place alertable) = true
is_asleep_at _ = false

abbrev pub is_asleep : Thread → Bool
is_asleep t = is_asleep_at t.status

abbrev pub queue_place_at : Status → ℕ
queue_place_at (Waits mutex condition place alertable) = place
queue_place_at _ = 0

abbrev pub queue_place : Thread → ℕ
queue_place t = queue_place_at t.status

-- what a status names are registers
abbrev pub NamesRegisters : Status → Type 0
NamesRegisters Ready = Unit {0}
NamesRegisters (Wants mutex) = mutex < 16
NamesRegisters (Waits mutex condition place alertable) = (mutex < 16) × (condition < 16)
NamesRegisters (Joins cell alertable) = cell < 16

-- a fact holds of each thread; a relation holds of each thread and each that stands after it
abbrev pub HoldsOfEach : (Thread → Type 0) → List Thread → Type 0
HoldsOfEach P threads = (k : ℕ) (t : Thread) → slice_get threads k ≡ Some t → P t

abbrev pub AreOrderedBy : (Thread → Thread → Type 0) → List Thread → Type 0
AreOrderedBy R threads = (j k : ℕ) (t u : Thread) → j < k → slice_get threads j ≡ Some t → slice_get threads k ≡ Some u → R t u

-- two threads that sleep have different places in the queues
abbrev pub WaitApart : Thread → Thread → Type 0
WaitApart t u = is_asleep t ≡ true → is_asleep u ≡ true → queue_place t ≢ queue_place u

-- what keeps its sense: no more threads than are allowed, in the order of their numbers, which were
-- given out, each with a slot of its own, whose stack is whole, while a slot of no thread has no words;
-- those that sleep have places of their own, which were given out
pub record AreSoundThreads (allowed stack forks waits : ℕ) (threads : List Thread) (stacks : List (List ℕ)) : Type 0 where
  pub few : allowed ≤ 64
  pub small : stack ≤ 2 ^ 20
  pub large : 8 ≤ stack
  pub whole : length stacks ≡ allowed
  pub room : length threads ≤ allowed
  pub slots : HoldsOfEach (λ t. t.slot < allowed) threads
  pub apart : AreOrderedBy (λ t u. t.slot ≢ u.slot) threads
  pub words : HoldsOfEach (λ t. length (slice_index_or stacks t.slot []) ≡ stack) threads
  pub blank : (slot : ℕ) → HoldsOfEach (λ t. t.slot ≢ slot) threads → slice_index_or stacks slot [] ≡ []
  pub numbers : HoldsOfEach (λ t. t.number ≤ forks) threads
  pub rising : AreOrderedBy (λ t u. t.number < u.number) threads
  pub queued : HoldsOfEach (λ t. is_asleep t ≡ true → queue_place t < waits) threads
  pub queues : AreOrderedBy WaitApart threads
  pub registers : HoldsOfEach (λ t. NamesRegisters t.status) threads
