-- THE SOURCE AFTER SO MANY TURNS, where it has ended, and what is known of the thread that goes next
-- where the machine lacks room.
use Rattle.std.specs.Prelude.{ℕ, ◌≡◌, Option, Some}
use Rattle.m3_base.specs.declared.outcomes.Outcome.{Outcome}
use Rattle.m3_core.specs.declared.program.Core.{Core}
use Rattle.m3_runs.specs.Choice.{choice}
use Rattle.m3_runs.specs.Runs.{Goes, Ends, entries_after, first_entry}
use Rattle.m3_values.specs.Programs.{program_of}
use Rattle.m3_source_meaning.specs.Programs.{SourceState, SourceRuns, core_language}
use Rattle.m3_source_meaning.specs.Room.{NoCell, NoFrame}
use Rattle.m3_follows.specs.Settings.{Setting, given_by}

module _ (core : Core) (s : Setting) where
  -- The run has ended after so many turns, in this state and with this outcome. An outcome of the
  -- test before a turn is that of the turns made so far, so the turns are the points passed.
  pub record EndedAfter (turns : ℕ) (u : SourceState) (outcome : Outcome) : Type 0 where
    pub steps : ℕ
    pub runs : SourceRuns core (given_by s) s.schedule steps (Ends u outcome)
    pub after : u.points ≡ turns

  -- so many turns lead to this state, whether the run has ended or not
  pub data StandsAfter (turns : ℕ) (u : SourceState) : Type 0 where
    goes_on : SourceRuns core (given_by s) s.schedule turns (Goes u) → StandsAfter turns u
    has_ended : (outcome : Outcome) → EndedAfter turns u outcome → StandsAfter turns u

  -- the thread that the entry behind so many turns lets go
  abbrev pub chosen_after : (turns : ℕ) → SourceState → Option ℕ
  chosen_after turns u = choice (core_language core) u.parts
      ((first_entry (entries_after turns s.schedule)).to) u.running

  -- Behind so many turns the thread that goes is to make a cell, and its words with those of all
  -- cells that are reached pass the heap.
  pub record LacksCell (turns : ℕ) : Type 0 where
    pub state : SourceState
    pub stands : SourceRuns core (given_by s) s.schedule turns (Goes state)
    pub thread : ℕ
    pub chosen : chosen_after turns state ≡ Some thread
    pub full : NoCell (program_of core) s.heap state.parts thread

  -- Behind so many turns the thread that goes is to call a procedure, and its frame with those of
  -- the thread's activations passes the stack.
  pub record LacksFrame (frame_words : ℕ → ℕ) (turns : ℕ) : Type 0 where
    pub state : SourceState
    pub stands : SourceRuns core (given_by s) s.schedule turns (Goes state)
    pub thread : ℕ
    pub chosen : chosen_after turns state ≡ Some thread
    pub full : NoFrame (program_of core) s.stack frame_words state.parts thread
