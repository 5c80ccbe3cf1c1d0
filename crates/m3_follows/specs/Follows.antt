-- THE HEADLINE. An image follows a checked program where each of its runs does what the source does,
-- under every schedule, input and collection.
use Rattle.std.specs.Prelude.{ℕ, suc, ◌≡◌, ◌≤◌, List, ◌++◌, map, codes, Ok}
use Rattle.m3_base.specs.declared.outcomes.Outcome.{Outcome}
use Rattle.m3_base.specs.declared.outcomes.Outcome.TheVariants.{HeapFull, StackFull, Trap}
use Rattle.m3_core.specs.declared.program.Core.{Core}
use Rattle.m3_core.specs.declared.program.ExcDef.{ExcDef}
use Rattle.m3_image.specs.Images.{read_of}
use Rattle.m3_image_sections.specs.Parts.{Image}
use Rattle.m3_run_meaning.specs.State.{State}
use Rattle.m3_run_meaning.specs.Runs.{Config, Over, IsOver}
use Rattle.m3_source_meaning.specs.Programs.{SourceState}
use Rattle.m3_follows.specs.Settings.{Setting, IsInRange, ImageRuns, points_of}
use Rattle.m3_follows.specs.Frames.{frame_words_of}
use Rattle.m3_follows.specs.Source.{EndedAfter, StandsAfter, LacksCell, LacksFrame}

-- ---- names, by which a report tells an outcome

abbrev pub exception_name : ExcDef → List ℕ
exception_name e = e.unit.now ++ codes "." ++ e.name.now

-- a number of a file or of an exception names the same on both sides
pub record HasNamesOf (core : Core) (i : Image) : Type 0 where
  pub files : i.program.files ≡ map (λ n. n.now) core.files.now
  pub exceptions : i.program.exceptions ≡ map exception_name core.exceptions.now

-- ---- one run

-- the source knows no other outcomes than these
abbrev pub IsOfSource : Outcome → Type 0
IsOfSource HeapFull = ⊥
IsOfSource StackFull = ⊥
IsOfSource _ = Unit {0}

module _ (core : Core) where
  -- the source has ended after so many turns with the same outcome, and has put the same
  pub record EndsSo (s : Setting) (c : Config) (outcome : Outcome) : Type 0 where
    pub state : SourceState
    pub ended : EndedAfter core s (points_of c) state outcome
    pub output : state.output ≡ c.output

  -- the source has put the same after so many turns
  pub record PutsSo (s : Setting) (c : Config) : Type 0 where
    pub state : SourceState
    pub stands : StandsAfter core s (points_of c) state
    pub output : state.output ≡ c.output

  -- A RUN DOES WHAT THE SOURCE DOES, turn by turn. (1) What it has put is what the source puts in as
  -- many turns as it passed points. (2) Where it ended otherwise than for want of room, the source
  -- ended after these turns with the same outcome: the same kind, file and line of a fault, the same
  -- exception; and it passes no more points than the source makes turns. (3) The heap is full only
  -- where in the turn before the source asked for more words than there are, all that is reached
  -- counted; (4) a stack only where the frames of the thread's activations pass it. (5) It never
  -- ends with a trap.
  pub record DoesSo (s : Setting) (c : Config) : Type 0 where
    pub puts : PutsSo s c
    pub ends : (m : State) (outcome : Outcome) → c.place ≡ Over m outcome → IsOfSource outcome
        → EndsSo s c outcome
    pub within : (turns : ℕ) (u : SourceState) (outcome : Outcome)
        → EndedAfter core s turns u outcome → points_of c ≤ turns
    pub heap_full : (m : State) → c.place ≡ Over m HeapFull
        → (turns : ℕ) × (points_of c ≡ suc turns) × LacksCell core s turns
    pub stack_full : (m : State) → c.place ≡ Over m StackFull
        → (turns : ℕ) × (points_of c ≡ suc turns) × LacksFrame core s (frame_words_of core) turns
    pub no_trap : (m : State) (n : ℕ) → c.place ≡ Over m (Trap n) → ⊥

  -- Where the source ends, there is a number of instructions by which each run has ended.
  pub record EndsToo (i : Image) (s : Setting) : Type 0 where
    pub instructions : ℕ
    pub over : (c : Config) → ImageRuns i.program s instructions c → IsOver c.place

  -- THE BYTES FOLLOW THE PROGRAM: they are an image, and each run of it, within the ranges of the
  -- options, after any number of instructions does so.
  pub record Follows (bytes : List ℕ) : Type 0 where
    pub image : Image
    pub read : read_of bytes ≡ Ok image
    pub names : HasNamesOf core image
    pub does_so : (s : Setting) (n : ℕ) (c : Config) → IsInRange s → ImageRuns image.program s n c
        → DoesSo s c
    pub ends_too : (s : Setting) (turns : ℕ) (u : SourceState) (outcome : Outcome) → IsInRange s
        → EndedAfter core s turns u outcome → EndsToo image s
