-- What doesn't hang on where cells lie.
use Rattle.std.specs.Prelude.{ℕ, ◌≡◌, false, List, length, map, Some, Result, Ok, Err}
use Rattle.std.specs.List.{slice_get}
use Rattle.m3_base.specs.declared.outcomes.Outcome.{Outcome}
use Rattle.m3_tables.specs.Numbers.{has}
use Rattle.m3_heap.specs.Cells.{words_from}
use Rattle.m3_heap.specs.Moves.{new_start, is_kept, mapped}
use Rattle.m3_threads.specs.declared.status.Thread.{Thread}
use Rattle.m3_image_sections.specs.Parts.{Program}
use Rattle.m3_run_frames.specs.declared.frame.Frame.{Frame}
use Rattle.m3_roots.specs.Collected.{shapes_of, with_registers, words_at, frames_at, AllFramed}
use Rattle.m3_roots.specs.ThreadWords.{word_at_place, place_of}
use Rattle.m3_roots.specs.RowMeaning.{tidy_places, derived_words}
use Rattle.m3_run_meaning.specs.State.{State}

-- A cell that started there before a collection has its words after it, wherever it went, each pointer following the
-- cell that it refers to.
abbrev pub KeepsWords : Program → State → State → ℕ → Type 0
KeepsWords p before after start =
    (to : ℕ) → new_start after.heap.moves start ≡ Some to → words_from after.heap.cells to ≡ mapped (shapes_of p) after.heap.moves (words_from before.heap.cells start)

-- Two states that a collection may leave of one: the same cells are kept, each with its words; as many words are free,
-- and the cells lie in the same half; globals that are no pointers are the same, and so are the threads, and of their
-- registers and stacks each word that no row of their frames lists as tidy or derived; and the counts are the same.
pub record Agree (p : Program) (before one other : State) : Type 0 where
  pub kept : (start : ℕ) → is_kept other.heap.moves start ≡ is_kept one.heap.moves start
  pub cells : (start : ℕ) → KeepsWords p before one start × KeepsWords p before other start
  pub free : other.heap.free ≡ one.heap.free
  pub base : other.heap.base ≡ one.heap.base
  pub minors : other.heap.minors ≡ one.heap.minors
  pub fulls : other.heap.fulls ≡ one.heap.fulls
  pub globals : (n : ℕ) → has p.globals.pointers n ≡ false → word_at_place other.globals n ≡ word_at_place one.globals n
  pub count : length other.all.threads ≡ length one.all.threads
  pub threads : (k : ℕ) (t u : Thread) → slice_get one.all.threads k ≡ Some t → slice_get other.all.threads k ≡ Some u → u ≡ with_registers u.regs.r t
  pub words : (walks : List (List Frame)) → AllFramed p before.all walks → (k : ℕ) (t u : Thread) → slice_get one.all.threads k ≡ Some t → slice_get other.all.threads k ≡ Some u
      → (place : ℕ) → has (tidy_places p (frames_at walks k)) place ≡ false → has (map place_of (derived_words p (frames_at walks k))) place ≡ false
      → word_at_place (words_at other.all u) place ≡ word_at_place (words_at one.all t) place
  pub running : other.running ≡ one.running
  pub taken : other.taken ≡ one.taken
  pub points : other.points ≡ one.points
  pub instructions : other.instructions ≡ one.instructions
  pub collections : other.collections ≡ one.collections

-- Both made a cell, or both end the run, with the same outcome.
abbrev pub EndAlike : Result ℕ Outcome → Result ℕ Outcome → Type 0
EndAlike (Ok start) (Ok at) = Unit {0}
EndAlike (Err one) (Err other) = other ≡ one
EndAlike _ _ = ⊥
