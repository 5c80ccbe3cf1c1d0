-- What is done with the threads, one after the other, until their derived words are put together again.
use Rattle.std.specs.Prelude.{ℕ, ◌≡◌, ◌+◌, ◌<◌, ◌≤◌, ◌⊎◌, true, List, ◌++◌, map, length, Some}
use Rattle.std.specs.List.{slice_get}
use Rattle.m3_tables.specs.Numbers.{has}
use Rattle.m3_heap.specs.Cells.{Cell}
use Rattle.m3_heap.specs.Moves.{Move, kept_starts, staying}
use Rattle.m3_heap.specs.Heap.{Heap}
use Rattle.m3_threads.specs.declared.status.Thread.{Thread}
use Rattle.m3_threads.specs.All.{Everyone, AreSoundThreads, words_of}
use Rattle.m3_threads.specs.Lending.{with_regs, with_words}
use Rattle.m3_image_sections.specs.Parts.{Program}
use Rattle.m3_run_frames.specs.declared.frame.Frame.{Frame}
use Rattle.m3_roots.specs.Collected.{Parts, with_registers, words_at, AreFrames, frames_at, tidy_words}
use Rattle.m3_roots.specs.Gathering.{Gathers, StopsGathering, GoesOn}
use Rattle.m3_roots.specs.Moving.{MovesWords}
use Rattle.m3_roots.specs.Visiting.{VisitsAll}

-- a thread has these registers and its stack these words, and nothing else is changed
abbrev pub with_thread_words : Everyone → Thread → List ℕ → List ℕ → Everyone
with_thread_words all t r stack = with_regs (with_words all t.number stack) t.number (record t.regs { r = r })

-- the words of a thread were gathered
pub record GathersThread (p : Program) (cells : List Cell) (t : Thread) (old : Everyone) (before : List Move) (new : Everyone) (after : List Move) : Type 0 where
  pub frames : List Frame
  pub framed : AreFrames p old t frames
  pub count : length (words_at old t) ≡ length (words_of old t) + 16
  pub r : List ℕ
  pub stack : List ℕ
  pub sixteen : length r ≡ 16
  pub depth : length stack ≡ length (words_of old t)
  pub gathers : Gathers p cells frames (words_at old t) before (r ++ stack) after
  pub becomes : new ≡ with_thread_words old t r stack

-- or its frames aren't as frames are, or one of its words stops it
pub data StopsThreadHere (p : Program) (cells : List Cell) (t : Thread) (old : Everyone) (before : List Move) : Type 0 where
  unframed : ((frames : List Frame) → AreFrames p old t frames → ⊥) → StopsThreadHere p cells t old before
  stopped : (frames : List Frame) → AreFrames p old t frames → length (words_at old t) ≡ length (words_of old t) + 16 → StopsGathering p cells frames (words_at old t) before → StopsThreadHere p cells t old before

-- the words of a thread, which were these before the collection, are put together again
pub record MendsThread (p : Program) (last : List Move) (frames : List Frame) (t : Thread) (words : List ℕ) (old new : Everyone) : Type 0 where
  pub r : List ℕ
  pub stack : List ℕ
  pub depth : length stack ≡ length (words_of old t)
  pub moves : MovesWords p last frames words (r ++ stack)
  pub becomes : new ≡ with_thread_words old t r stack

-- ---- threads one after the other

-- what keeps its sense
abbrev pub AreSoundIn : Everyone → Type 0
AreSoundIn all = AreSoundThreads all.allowed all.stack all.forks all.waits all.threads all.stacks

-- each thread is the same but for its registers, and each stack has as many words
pub record Alike (old new : Everyone) : Type 0 where
  pub count : length new.threads ≡ length old.threads
  pub same : (k : ℕ) (t u : Thread) → slice_get old.threads k ≡ Some t → slice_get new.threads k ≡ Some u → u ≡ with_registers u.regs.r t
  pub depths : map length new.stacks ≡ map length old.stacks
  pub rest : new ≡ record old { threads = new.threads; stacks = new.stacks }

-- the thread at a place was gathered: it has these frames, before as after
pub record ThreadGathered (p : Program) (cells : List Cell) (first now : Everyone) (moves : List Move) (k : ℕ) (frames : List Frame) : Type 0 where
  pub t : Thread
  pub u : Thread
  pub was : slice_get first.threads k ≡ Some t
  pub is : slice_get now.threads k ≡ Some u
  pub framed : AreFrames p first t frames
  pub still : AreFrames p now u frames
  pub count : length (words_at first t) ≡ length (words_of first t) + 16
  pub depth : length (words_of now u) ≡ length (words_of first t)
  pub before : List Move
  pub after : List Move
  pub gathers : Gathers p cells frames (words_at first t) before (words_at now u) after
  pub grew : GoesOn after moves

-- the start of a cell that is kept since the threads before a place were looked at is a tidy word of one of them
pub record IsTidyBelow (p : Program) (all : Everyone) (walks : List (List Frame)) (n start : ℕ) : Type 0 where
  pub k : ℕ
  pub lower : k < n
  pub t : Thread
  pub there : slice_get all.threads k ≡ Some t
  pub word : has (tidy_words p all t (frames_at walks k)) start ≡ true

-- those before a place were gathered, and the others are as they were
pub record Gathered (p : Program) (cells : List Cell) (first now : Everyone) (start moves : List Move) (n : ℕ) (walks : List (List Frame)) : Type 0 where
  pub count : length walks ≡ n
  pub each : (k : ℕ) → k < n → ThreadGathered p cells first now moves k (frames_at walks k)
  pub rest : (k : ℕ) → n ≤ k → slice_get now.threads k ≡ slice_get first.threads k
  pub rest_words : (k : ℕ) (t : Thread) → n ≤ k → slice_get first.threads k ≡ Some t → words_of now t ≡ words_of first t
  pub alike : Alike first now
  pub grew : GoesOn start moves
  pub starts : (s : ℕ) → has (kept_starts moves) s ≡ true → (has (kept_starts start) s ≡ true) ⊎ IsTidyBelow p first walks n s

-- the words of the threads before a place are moved, and the others are as they were gathered
pub record Mended (p : Program) (last : List Move) (walks : List (List Frame)) (first gathered now : Everyone) (n : ℕ) : Type 0 where
  pub words : (k : ℕ) (t u : Thread) → k < n → slice_get first.threads k ≡ Some t → slice_get now.threads k ≡ Some u → MovesWords p last (frames_at walks k) (words_at first t) (words_at now u)
  pub rest : (k : ℕ) → n ≤ k → slice_get now.threads k ≡ slice_get gathered.threads k
  pub rest_words : (k : ℕ) (u : Thread) → n ≤ k → slice_get gathered.threads k ≡ Some u → words_of now u ≡ words_of gathered u
  pub alike : Alike gathered now

-- ---- all roots

-- all threads were gathered
pub record AllGathered (p : Program) (cells : List Cell) (first now : Everyone) (start moves : List Move) : Type 0 where
  pub n : ℕ
  pub all : length first.threads ≤ n
  pub few : length first.threads ≤ 64
  pub walks : List (List Frame)
  pub gathered : Gathered p cells first now start moves n walks

-- and then the globals visited
pub record Visited (p : Program) (old : Parts) (now : Everyone) (globals : List ℕ) (moves : List Move) : Type 0 where
  pub middle : List Move
  pub threads : AllGathered p old.heap.cells old.all now (staying old.heap.tenured) middle
  pub globals_visited : VisitsAll old.heap.cells p.globals.pointers old.globals middle globals moves

-- a heap whose collection is open, with this forwarding list
abbrev pub opened : Heap → List Move → Heap
opened heap moves = record heap { is_open = true; moves = moves }

abbrev pub Opens : Heap → Heap → Type 0
Opens old new = new ≡ opened old new.moves
