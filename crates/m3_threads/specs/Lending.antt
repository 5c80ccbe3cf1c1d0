-- Registers and stack words that are lent out.
use Rattle.std.specs.Prelude.{ℕ, ◌≡◌, List, ◌++◌, length, take, drop, Option, None, Some, slice_set}
use Rattle.std.proofs.lemmas.List.{take_at}
use Rattle.std.specs.Borrow.{Lends, LendsIf, MutBor, Fml, Array, u64}
use Rattle.m3_isa.specs.declared.registers.Regs.{Regs}
use Rattle.m3_isa.specs.contracts.registers.Regs.{the_row as regs_row}
use Rattle.m3_threads.specs.declared.status.Thread.{Thread}
use Rattle.m3_threads.specs.All.{Everyone, updated, thread_named, stack_in, words_of, with_stack}
use Rattle.m3_threads.specs.Actions.{with_threads}
use Rattle.m3_threads.specs.contracts.threads.Threads.{the_row}

-- a thread with these registers
abbrev pub with_regs_of : Regs → Thread → Thread
with_regs_of regs t = record t { regs = regs }

-- the thread of a number has these registers
abbrev pub with_regs : Everyone → ℕ → Regs → Everyone
with_regs all n regs = with_threads all (updated (with_regs_of regs) n all.threads)

-- all end with the last registers behind r in the thread of the number
abbrev pub LendsRegs : MutBor Everyone → ℕ → Option (MutBor Regs) → Fml
LendsRegs s n r = LendsIf the_row regs_row s r (with_regs s.now n) s.now

-- a stack after a loan that left these words: they stand from its start on, and it is as long as before
abbrev pub rewritten : List ℕ → List ℕ → List ℕ
rewritten stack words = take (length stack) (words ++ drop (length words) stack)

-- where as many words were left, they are the stack
pub rewritten-whole : (stack words : List ℕ) → length words ≡ length stack → rewritten stack words ≡ words
rewritten-whole stack words e = take_at words (drop (length words) stack) (length stack) e

-- a loan left these words in the stack of a slot
abbrev pub with_words_in : Everyone → ℕ → List ℕ → Everyone
with_words_in all slot words = with_stack all slot (rewritten (stack_in all slot) words)

-- all end with the last words behind r in the stack of the slot
abbrev pub LendsStack : MutBor Everyone → ℕ → MutBor (List ℕ) → Fml
LendsStack s slot r = Lends the_row (Array u64 0) s r (with_words_in s.now slot)

-- the stacks after a loan left these words in that of a thread, and all with them
abbrev pub stacks_after : Everyone → List ℕ → Option Thread → List (List ℕ)
stacks_after all words None = all.stacks
stacks_after all words (Some t) = slice_set all.stacks t.slot (rewritten (words_of all t) words)

abbrev pub with_words : Everyone → ℕ → List ℕ → Everyone
with_words all n words = record all { stacks = stacks_after all words (thread_named all n) }

-- all end with the last words behind r in the stack of the thread of the number
abbrev pub LendsWords : MutBor Everyone → ℕ → MutBor (List ℕ) → Fml
LendsWords s n r = Lends the_row (Array u64 0) s r (with_words s.now n)
