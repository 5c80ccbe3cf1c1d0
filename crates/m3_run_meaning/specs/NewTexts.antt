-- New texts, open cells and threads.
use Rattle.std.specs.Prelude.{ℕ, ◌≡◌, ◌≢◌, ◌<◌, ◌≤◌, ◌+◌, ◌-◌, ◌*◌, ◌%◌, ◌^◌, ◌==◌, nat_le, if◌then◌else◌, Bool, true, false, List, [], ◌∷◌, ◌++◌, length, min, slice_get, Option, Some, None, Result, Ok, Err}
use Rattle.std.specs.Int.{cast_unsigned, w32}
use Rattle.m3_base.specs.Words.{add_words}
use Rattle.m3_base.specs.declared.outcomes.Outcome.{Outcome}
use Rattle.m3_base.specs.declared.outcomes.Outcome.TheVariants.{ThreadsFull, Trap}
use Rattle.m3_isa.specs.Memory.{Memory, put}
use Rattle.m3_isa.specs.Effects.{reg, answered}
use Rattle.m3_isa.specs.declared.instructions.Instr.{Instr}
use Rattle.m3_threads.specs.declared.status.Thread.{Thread}
use Rattle.m3_threads.specs.All.{Everyone, updated}
use Rattle.m3_threads.specs.Going.{status_at, with_status}
use Rattle.m3_threads.specs.Actions.{Forks}
use Rattle.m3_image_sections.specs.declared.procs.ProcPart.{ProcPart}
use Rattle.m3_image_sections.specs.Parts.{Program, CellType}
use Rattle.m3_run_memory.specs.Addresses.{is_from}
use Rattle.m3_run_meaning.specs.State.{State, Becomes, memory_of, running_thread, with_regs, with_all}
use Rattle.m3_run_meaning.specs.Act.{finding, or_trap}
use Rattle.m3_run_meaning.specs.Acts.{has_text}
use Rattle.m3_run_meaning.specs.Progress.{Progress, Goes, Ends, ends_with_trap}
use Rattle.m3_run_meaning.specs.Texts.{text_words, text_bytes, text_rest}
use Rattle.m3_run_meaning.specs.Making.{Makes}

-- words stand at an address and behind it
abbrev pub with_words : ℕ → List ℕ → Memory → Memory
with_words from words memory at = if is_from from (length words) at then slice_get words (at - from) else memory at

-- the cell that was made has these words behind its header, and its address is in register a
pub record Fills (p : Program) (a : ℕ) (start : ℕ) (words : List ℕ) (made : State) (t : Thread) (progress : Progress) : Type 0 where
  pub filled : State
  pub becomes : Becomes p made (with_words (start + 1) words (memory_of p made)) filled
  pub goes : progress ≡ Goes (with_regs filled (answered t.regs a start))

-- ---- texts: the cell is made, then the words of its bytes are loaded, by registers that are read again, and where
-- all of them are there they are put into it

abbrev pub FillsText : Program → ℕ → ℕ → Option (List ℕ) → State → Thread → Progress → Type 0
FillsText p a start None made t progress = progress ≡ ends_with_trap 2 made
FillsText p a start (Some bytes) made t progress = Fills p a start (text_rest bytes) made t progress

-- what becomes of the state in which a text was made, or wasn't
abbrev pub GivesText : Program → ℕ → (Memory → Thread → Option (List ℕ)) → Result ℕ Outcome → State → Progress → Type 0
GivesText p a bytes (Ok start) u progress = (t : Thread) → running_thread u ≡ Some t → FillsText p a start (bytes (memory_of p u) t) u t progress
GivesText p a bytes (Err outcome) u progress = progress ≡ Ends u outcome

pub record Makes_text (p : Program) (a : ℕ) (s : State) (count : ℕ) (bytes : Memory → Thread → Option (List ℕ)) (progress : Progress) : Type 0 where
  pub made : Result ℕ Outcome
  pub left : State
  pub makes : Makes p 0 (text_words count) s made left
  pub gives : GivesText p a bytes made left progress

abbrev pub bytes_if : Bool → List ℕ → Option (List ℕ)
bytes_if true bytes = Some bytes
bytes_if false bytes = None

-- some bytes of a text, where their words are there
abbrev pub part_of : Memory → ℕ → ℕ → ℕ → Option (List ℕ)
part_of memory text from count = bytes_if (has_text memory text from count) (text_bytes memory text from count)

abbrev pub both : Option (List ℕ) → Option (List ℕ) → Option (List ℕ)
both None right = None
both (Some left) None = None
both (Some left) (Some right) = Some (left ++ right)

-- CAT: the bytes of one text and then of another, whose lengths are loaded first
abbrev pub Cats : Program → Instr → State → Result (ℕ × ℕ) Outcome → Progress → Type 0
Cats p i s (Err outcome) progress = progress ≡ Ends s outcome
Cats p i s (Ok (left, right)) progress =
    Makes_text p i.a s (left + right) (λ memory u. both (part_of memory (reg u.regs i.b) 0 left) (part_of memory (reg u.regs i.c) 0 right)) progress

abbrev pub lengths_at : Memory → ℕ → ℕ → Result (ℕ × ℕ) Outcome
lengths_at memory left right =
    finding (or_trap 2 (memory (add_words left 1))) (λ m. finding (or_trap 2 (memory (add_words right 1))) (λ n. Ok (m, n)))

-- TCHR: one byte, the low one of register b
abbrev pub Makes_char : Program → Instr → State → Progress → Type 0
Makes_char p i s progress = Makes_text p i.a s 1 (λ memory u. Some (reg u.regs i.b % 256 ∷ [])) progress

-- TSUB: what of a text lies from a byte on, no more than so many bytes of it
abbrev pub sub_count : ℕ → ℕ → ℕ → ℕ
sub_count bytes from count = if nat_le bytes from then 0 else min count (bytes - from)

abbrev pub Subs : Program → Thread → Instr → State → Result ℕ Outcome → Progress → Type 0
Subs p t i s (Err outcome) progress = progress ≡ Ends s outcome
Subs p t i s (Ok bytes) progress =
    let count = sub_count bytes (reg t.regs i.c) (reg t.regs (cast_unsigned w32 i.imm)) in
    Makes_text p i.a s count (λ memory u. part_of memory (reg u.regs i.b) (reg t.regs i.c) count) progress

-- ---- NEWO

abbrev pub product : List ℕ → ℕ
product [] = 1
product (size ∷ sizes) = size * product sizes

-- the words that are asked for: no more than a word can say
abbrev pub open_words : CellType → List ℕ → ℕ
open_words told sizes = min (1 + told.dims + told.words * product sizes) (2 ^ 64 - 1)

abbrev pub open_type : Option CellType → Result CellType Outcome
open_type None = Err (Trap 4)
open_type (Some t) = if t.kind == 1 then Ok t else Err (Trap 4)

-- the sizes at an address: loaded and tested in order
pub data Sizes (memory : Memory) (at : ℕ) : ℕ → List ℕ → Type 0 where
  none : Sizes memory at 0 []
  more : (n size : ℕ) (sizes : List ℕ) → Sizes memory at n sizes → memory (add_words at n) ≡ Some size → size < 2 ^ 63 → Sizes memory at (n + 1) (sizes ++ size ∷ [])

-- or how the run ends at the first size that isn't there or is too large
pub data Fails_at_size (memory : Memory) (at dims : ℕ) : Outcome → Type 0 where
  not_there : (n : ℕ) (sizes : List ℕ) → n < dims → Sizes memory at n sizes → memory (add_words at n) ≡ None → Fails_at_size memory at dims (Trap 2)
  too_large : (n size : ℕ) (sizes : List ℕ) → n < dims → Sizes memory at n sizes → memory (add_words at n) ≡ Some size → 2 ^ 63 ≤ size → Fails_at_size memory at dims (Trap 7)

-- what becomes of the state in which an open cell was made, or wasn't: its sizes are its first words
abbrev pub GivesOpen : Program → ℕ → List ℕ → Result ℕ Outcome → State → Progress → Type 0
GivesOpen p a sizes (Ok start) u progress = (t : Thread) → running_thread u ≡ Some t → Fills p a start sizes u t progress
GivesOpen p a sizes (Err outcome) u progress = progress ≡ Ends u outcome

pub data Makes_open (p : Program) (t : Thread) (i : Instr) (s : State) (told : Result CellType Outcome) : Progress → Type 0 where
  not_open : (outcome : Outcome) → told ≡ Err outcome → Makes_open p t i s told (Ends s outcome)
  no_sizes : (form : CellType) (outcome : Outcome) → told ≡ Ok form → Fails_at_size (memory_of p s) (reg t.regs i.b) form.dims outcome → Makes_open p t i s told (Ends s outcome)
  makes_open : (form : CellType) (sizes : List ℕ) (made : Result ℕ Outcome) (u : State) (progress : Progress) → told ≡ Ok form → Sizes (memory_of p s) (reg t.regs i.b) form.dims sizes
      → Makes p (cast_unsigned w32 i.imm) (open_words form sizes) s made u → GivesOpen p i.a sizes made u progress → Makes_open p t i s told progress

-- ---- FORK

-- a thread stands at the instruction that it has come to
abbrev pub standing_at : Instr → ℕ → Everyone → Everyone
standing_at i n all = record all { threads = updated (with_status (status_at i)) n all.threads }

-- a thread cell with the new thread's number, and the thread, which begins with procedure 1 and has the closure
-- that register b holds
pub record Starts_thread (p : Program) (i : Instr) (start : ℕ) (first : ProcPart) (begins : Instr) (made : State) (t : Thread) (progress : Progress) : Type 0 where
  pub forked : Everyone
  pub numbered : State
  pub forks : Forks made.all first.first (reg t.regs i.b) start (made.all.forks + 1) forked
  pub number : Becomes p (with_all made forked) (put (memory_of p (with_all made forked)) (start + 1) (made.all.forks + 1)) numbered
  pub goes : progress ≡ Goes (with_regs (with_all numbered (standing_at begins (made.all.forks + 1) numbered.all)) (answered t.regs i.a start))

-- what becomes of the state in which the thread cell was made, or wasn't: a collection leaves the threads, so that
-- a slot is free as before
abbrev pub GivesThread : Program → Instr → Result ℕ Outcome → State → Progress → Type 0
GivesThread p i (Ok start) u progress = (t : Thread) (first : ProcPart) (begins : Instr) → running_thread u ≡ Some t → length u.all.threads < u.all.allowed
    → slice_get p.procs 1 ≡ Some first → slice_get p.code first.first ≡ Some begins → Starts_thread p i start first begins u t progress
GivesThread p i (Err outcome) u progress = progress ≡ Ends u outcome

pub data Forks_thread (p : Program) (i : Instr) (s : State) : Progress → Type 0 where
  too_many : length s.all.threads ≡ s.all.allowed → Forks_thread p i s (Ends s ThreadsFull)
  makes_thread : (made : Result ℕ Outcome) (u : State) (progress : Progress) → length s.all.threads ≢ s.all.allowed → Makes p 1 4 s made u → GivesThread p i made u progress
      → Forks_thread p i s progress
