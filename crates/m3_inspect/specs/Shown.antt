-- What a machine shows: its globals and the activations of its threads, with what their variables hold. References are
-- numbers of cells here: from 1, in the order in which the cells first appear.
use Rattle.std.specs.Prelude.{ℕ, suc, ◌≡◌, ◌<◌, ◌==◌, if◌then◌else◌, List, [], ◌∷◌, ◌++◌, length, map, Some, Result, Ok, Err}
use Rattle.std.specs.List.{slice_get}
use Rattle.m3_base.specs.Words.{signed_of}
use Rattle.m3_threads.specs.declared.status.Thread.{Thread}
use Rattle.m3_threads.specs.All.{Everyone}
use Rattle.m3_image_sections.specs.Parts.{Image}
use Rattle.m3_run_frames.specs.declared.frame.Frame.{Frame}
use Rattle.m3_roots.specs.Collected.{words_at, AreFrames}
use Rattle.m3_inspect.specs.declared.values.Value.{Value}
use Rattle.m3_inspect.specs.declared.values.Value.TheVariants.{Number, Nil, Cell}
use Rattle.m3_inspect.specs.declared.values.VarValue.{VarValue}
use Rattle.m3_inspect.specs.declared.values.FrameView.{FrameView}
use Rattle.m3_inspect.specs.declared.values.ThreadView.{ThreadView}
use Rattle.m3_inspect.specs.declared.values.View.{View}
use Rattle.m3_inspect.specs.declared.views.ViewRefused.{ViewRefused}
use Rattle.m3_inspect.specs.declared.views.ViewRefused.TheVariants as refused
use Rattle.m3_inspect.specs.Standing.{Holding, globals_from, proc_of_frame, held_in}

-- ---- what is shown

-- an activation by the number of its procedure, with its variables in scope
pub record ShownFrame : Type 0 where
  pub proc : ℕ
  pub vars : List VarValue

-- a thread by its number, with its activations, the newest first
pub record ShownThread : Type 0 where
  pub number : ℕ
  pub frames : List ShownFrame

pub record Shown : Type 0 where
  pub globals : List VarValue
  pub threads : List ShownThread

-- what the types of the code stand for
abbrev pub shown_frame : FrameView → ShownFrame
shown_frame f = record { proc = f.proc; vars = f.vars.items }

abbrev pub shown_thread : ThreadView → ShownThread
shown_thread t = record { number = t.number; frames = map shown_frame t.frames.items }

abbrev pub shown_of : View → Shown
shown_of v = record { globals = v.globals.items; threads = map shown_thread v.threads.items }

-- ---- the numbers of cells

-- the cells that are known, by their addresses in the order in which they appeared, with one more
abbrev pub with_cell : List ℕ → ℕ → List ℕ
with_cell [] at = at ∷ []
with_cell (c ∷ cells) at = if at == c then c ∷ cells else c ∷ with_cell cells at

-- the number of a cell, from 1: that of its place among those that are known, or the next
abbrev pub cell_number : List ℕ → ℕ → ℕ
cell_number [] at = 1
cell_number (c ∷ cells) at = if at == c then 1 else suc (cell_number cells at)

-- ---- values

-- An ordinal value is the integer that the word stands for. A reference is NIL where its word is 0, and else a cell.
abbrev pub value_of : List ℕ → ℕ → ℕ → Value
value_of cells form word =
    if form == 0 then Number (signed_of word) else (if word == 0 then Nil else Cell (cell_number cells word))

-- the cells that are known after a word of a form was shown
abbrev pub cells_with : List ℕ → ℕ → ℕ → List ℕ
cells_with cells form word = if form == 0 then cells else (if word == 0 then cells else with_cell cells word)

abbrev pub shown_var : List ℕ → Holding → VarValue
shown_var cells h = record { var = h.var; value = value_of cells h.form h.word }

-- variables, from the first to the last, and the cells that are known after them
abbrev pub shown_vars : List ℕ → List Holding → List VarValue
shown_vars cells [] = []
shown_vars cells (h ∷ hs) = shown_var cells h ∷ shown_vars (cells_with cells h.form h.word) hs

abbrev pub cells_after : List ℕ → List Holding → List ℕ
cells_after cells [] = cells
cells_after cells (h ∷ hs) = cells_after (cells_with cells h.form h.word) hs

-- ---- activations

-- some frames over the words of their thread, from the newest to the oldest, and the cells that are known after them
abbrev pub shown_frames : Image → List ℕ → List ℕ → List Frame → List ShownFrame
shown_frames i words cells [] = []
shown_frames i words cells (f ∷ fs) =
    record { proc = proc_of_frame i f; vars = shown_vars cells (held_in i words f) } ∷ shown_frames i words (cells_after cells (held_in i words f)) fs

abbrev pub cells_after_frames : Image → List ℕ → List ℕ → List Frame → List ℕ
cells_after_frames i words cells [] = cells
cells_after_frames i words cells (f ∷ fs) = cells_after_frames i words (cells_after cells (held_in i words f)) fs

-- ---- threads

-- a thread shows all its frames, after some cells are known; and the cells that are known after it
pub record ShowsThread (i : Image) (all : Everyone) (t : Thread) (before : List ℕ) (s : ShownThread) (after : List ℕ) : Type 0 where
  pub frames : List Frame
  pub framed : AreFrames i.program all t frames
  pub number : s.number ≡ t.number
  pub shown : s.frames ≡ shown_frames i (words_at all t) before frames
  pub cells : after ≡ cells_after_frames i (words_at all t) before frames

-- so many threads, by their numbers from the lowest on, and the cells that are known after them
pub data ShowThreads (i : Image) (all : Everyone) (first : List ℕ) : ℕ → List ShownThread → List ℕ → Type 0 where
  no_thread : ShowThreads i all first 0 [] first
  thread : (n : ℕ) (before : List ShownThread) (cells : List ℕ) (t : Thread) (s : ShownThread) (after : List ℕ) → ShowThreads i all first n before cells
      → slice_get all.threads n ≡ Some t → ShowsThread i all t cells s after → ShowThreads i all first (suc n) (before ++ s ∷ []) after

-- ---- the whole

-- this is what all threads and the globals of an image show
pub record IsShown (i : Image) (all : Everyone) (globals : List ℕ) (s : Shown) : Type 0 where
  pub cells : List ℕ
  pub globals_shown : s.globals ≡ shown_vars [] (globals_from globals 0 i.variables)
  pub threads_shown : ShowThreads i all (cells_after [] (globals_from globals 0 i.variables)) (length all.threads) s.threads cells

-- A thread of this number is the lowest that hasn't its frames: one of them isn't as frames are. The words of a frame
-- are all in its stack, so each span's place is there, too.
pub record IsUnframed (i : Image) (all : Everyone) (number : ℕ) : Type 0 where
  pub place : ℕ
  pub thread : Thread
  pub there : slice_get all.threads place ≡ Some thread
  pub named : thread.number ≡ number
  pub unframed : (frames : List Frame) → AreFrames i.program all thread frames → ⊥
  pub lower : (k : ℕ) (t : Thread) → k < place → slice_get all.threads k ≡ Some t → (frames : List Frame) × AreFrames i.program all t frames

-- A refusal has its cause. Want of memory needs none.
abbrev pub Refuses : Image → Everyone → ViewRefused → Type 0
Refuses i all (refused.Frame number) = IsUnframed i all number
Refuses i all refused.NoMemory = Unit {0}

-- some threads and globals are shown, or the view is refused
abbrev pub Views : Image → Everyone → List ℕ → Result View ViewRefused → Type 0
Views i all globals (Ok v) = IsShown i all globals (shown_of v)
Views i all globals (Err e) = Refuses i all e

abbrev pub Tries : Image → Everyone → List ℕ → Result View ℕ → Type 0
Tries i all globals (Ok v) = IsShown i all globals (shown_of v)
Tries i all globals (Err number) = IsUnframed i all number
