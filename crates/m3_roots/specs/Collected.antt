-- What a collection makes of the threads, the globals and the heap, whatever the order in which it looks at them; and
-- what stops one.
use Rattle.std.specs.Prelude.{ℕ, ◌≡◌, ◌↔◌, true, false, if◌then◌else◌, List, [], ◌∷◌, ◌++◌, map, length, Some, None, Contains, slice_index_or}
use Rattle.std.specs.List.{slice_get}
use Rattle.m3_tables.specs.Numbers.{has}
use Rattle.m3_heap.specs.Shapes.{Shape}
use Rattle.m3_heap.specs.Moves.{Move, AreOneToOne, is_kept, forwarded, moved_cells}
use Rattle.m3_heap.specs.Reach.{IsReachable, IsBadPointer, HasBadPointer}
use Rattle.m3_heap.specs.Heap.{Heap, KeepsLaws, SameSizes, CountsOne, ChangesHalves, MakesRoom}
use Rattle.m3_threads.specs.declared.status.Thread.{Thread}
use Rattle.m3_threads.specs.All.{Everyone, base_of, words_of}
use Rattle.m3_image_sections.specs.Parts.{Program}
use Rattle.m3_image_sections.specs.Shapes.{shape_of}
use Rattle.m3_run_frames.specs.declared.frame.Frame.{Frame}
use Rattle.m3_roots.specs.ThreadWords.{word_at_place, Derived, way_at}
use Rattle.m3_roots.specs.RowMeaning.{AreFramesAt, tidy_places, derived_words}
use Rattle.m3_roots.specs.RowLists.{ListsFit}
use Rattle.m3_roots.specs.Moving.{MovesWords}

-- what the threads, the globals and the heap are before and after a collection
pub record Parts : Type 0 where
  pub all : Everyone
  pub globals : List ℕ
  pub heap : Heap

abbrev pub shapes_of : Program → List Shape
shapes_of p = map shape_of p.types

-- ---- threads

-- the words of a thread, each at its place, and its frames
abbrev pub words_at : Everyone → Thread → List ℕ
words_at all t = t.regs.r ++ words_of all t

abbrev pub AreFrames : Program → Everyone → Thread → List Frame → Type 0
AreFrames p all t frames = AreFramesAt p (base_of t) (words_of all t) t.regs.fp t.regs.pc frames

-- each thread has its frames, listed in the order of the threads
abbrev pub frames_at : List (List Frame) → ℕ → List Frame
frames_at walks k = slice_index_or walks k []

pub record AllFramed (p : Program) (all : Everyone) (walks : List (List Frame)) : Type 0 where
  pub count : length walks ≡ length all.threads
  pub each : (k : ℕ) (t : Thread) → slice_get all.threads k ≡ Some t → AreFrames p all t (frames_at walks k)

-- ---- the roots

-- the tidy words of a thread, of all threads, and of the globals
abbrev pub tidy_words : Program → Everyone → Thread → List Frame → List ℕ
tidy_words p all t frames = map (word_at_place (words_at all t)) (tidy_places p frames)

abbrev pub all_tidy_words : Program → Everyone → List Thread → List (List Frame) → List ℕ
all_tidy_words p all [] frames = []
all_tidy_words p all (t ∷ ts) [] = []
all_tidy_words p all (t ∷ ts) (frames ∷ rest) = tidy_words p all t frames ++ all_tidy_words p all ts rest

abbrev pub tidy_globals : Program → List ℕ → List ℕ
tidy_globals p globals = map (word_at_place globals) p.globals.pointers

-- all words that lead to cells: the starts of the cells that are kept unasked, and the tidy words
abbrev pub roots_of : Program → Parts → List (List Frame) → List ℕ
roots_of p s walks = s.heap.tenured ++ (all_tidy_words p s.all s.all.threads walks ++ tidy_globals p s.globals)

-- ---- what becomes of words

-- a thread with other registers
abbrev pub with_registers : List ℕ → Thread → Thread
with_registers r t = record t { regs = record t.regs { r = r } }

-- each thread is the same but for its registers, and its words are moved
pub record MovesThreads (p : Program) (moves : List Move) (walks : List (List Frame)) (old new : Everyone) : Type 0 where
  pub count : length new.threads ≡ length old.threads
  pub same : (k : ℕ) (t u : Thread) → slice_get old.threads k ≡ Some t → slice_get new.threads k ≡ Some u → u ≡ with_registers u.regs.r t
  pub words : (k : ℕ) (t u : Thread) → slice_get old.threads k ≡ Some t → slice_get new.threads k ≡ Some u → MovesWords p moves (frames_at walks k) (words_at old t) (words_at new u)
  pub depths : map length new.stacks ≡ map length old.stacks
  pub rest : new ≡ record old { threads = new.threads; stacks = new.stacks }

abbrev pub MovesGlobals : Program → List Move → List ℕ → List ℕ → Type 0
MovesGlobals p moves old new =
    (length new ≡ length old) × ((n : ℕ) → word_at_place new n ≡ (if has p.globals.pointers n then forwarded moves (word_at_place old n) else word_at_place old n))

-- ---- the whole

-- The store's forwarding list, which its heap has after the collection, is one to one, and its old starts are exactly
-- the cells that are reached from the roots. Each of these cells has the words that it had, each pointer forwarded,
-- and no other is there. Nothing is changed but words. They lie as the laws of a store say it, after a full collection
-- in the other half; so what is free then is what they leave of it.
pub record Collected (p : Program) (old new : Parts) : Type 0 where
  pub walks : List (List Frame)
  pub framed : AllFramed p old.all walks
  pub one_to_one : AreOneToOne new.heap.moves
  pub kept : (start : ℕ) → (is_kept new.heap.moves start ≡ true) ↔ IsReachable (shapes_of p) old.heap.cells (roots_of p old walks) start
  pub unasked : (start : ℕ) → has old.heap.tenured start ≡ true → forwarded new.heap.moves start ≡ start
  pub cells : new.heap.cells ≡ moved_cells (shapes_of p) old.heap.cells new.heap.moves new.heap.moves
  pub threads : MovesThreads p new.heap.moves walks old.all new.all
  pub globals : MovesGlobals p new.heap.moves old.globals new.globals
  pub closed : new.heap.is_open ≡ false
  pub asked : new.heap.asked ≡ 0
  pub sizes : SameSizes old.heap new.heap
  pub halves : ChangesHalves old.heap new.heap
  pub counted : CountsOne old.heap new.heap
  pub room : MakesRoom old.heap new.heap
  pub laws : KeepsLaws new.heap

-- ---- what stops a collection: trap 9

-- About a thread with its frames: what the rows list together isn't as it may be, a tidy word lies where heaps lie and
-- is no cell's start, or a path is past its ways
pub data StopsThread (p : Program) (s : Parts) (t : Thread) (frames : List Frame) : Type 0 where
  lists : (ListsFit p frames → ⊥) → StopsThread p s t frames
  tidy : (place : ℕ) → has (tidy_places p frames) place ≡ true → IsBadPointer s.heap.cells (word_at_place (words_at s.all t) place) → StopsThread p s t frames
  path : (d : Derived) → Contains (derived_words p frames) d → way_at (words_at s.all t) d ≡ None → StopsThread p s t frames

-- A thread's frames aren't as frames are, or one of these holds of them; or a pointer among the globals, or of a cell
-- that is reached, lies where heaps lie and is no cell's start.
pub data StopsCollection (p : Program) (s : Parts) : Type 0 where
  frames : (t : Thread) → Contains s.all.threads t → ((frames : List Frame) → AreFrames p s.all t frames → ⊥) → StopsCollection p s
  thread : (t : Thread) (frames : List Frame) → Contains s.all.threads t → AreFrames p s.all t frames → StopsThread p s t frames → StopsCollection p s
  global : (n : ℕ) → has p.globals.pointers n ≡ true → IsBadPointer s.heap.cells (word_at_place s.globals n) → StopsCollection p s
  pointer : (walks : List (List Frame)) → AllFramed p s.all walks → HasBadPointer (shapes_of p) s.heap.cells (roots_of p s walks) → StopsCollection p s
