-- The words of a slot's stack that are lent out by the code's stacks.
use Rattle.std.specs.Prelude.{ℕ, List, [], slice_index_or, slice_set}
use Rattle.std.specs.Borrow.{Lends, MutBor, Fml, Array, u64}
use Rattle.m3_threads.specs.Stacked.{Stacked}
use Rattle.m3_threads.specs.Lending.{rewritten}
use Rattle.m3_threads.specs.contracts.stacks.Stacks.{the_row}

-- a loan left these words in the stack of a slot
abbrev pub with_words_of : Stacked → ℕ → List ℕ → Stacked
with_words_of s slot words = record s { words = slice_set s.words slot (rewritten (slice_index_or s.words slot []) words) }

-- all stacks end with the last words behind r in that of the slot
abbrev pub LendsWordsOf : MutBor Stacked → ℕ → MutBor (List ℕ) → Fml
LendsWordsOf s slot r = Lends the_row (Array u64 0) s r (with_words_of s.now slot)
