-- EACH ACTIVATION THAT WAITS LIVES: memory has its frame, under a number of its own. An invariant of the
-- runs of middle code.
use Rattle.std.specs.Prelude.{◌≡◌, ◌≢◌, ℕ, ◌<◌, List, [], ◌∷◌, Option, Some, slice_get}
use Rattle.m3_runs.specs.Languages.{Thread, Acts, Leaves, Faults, Breaks}
use Rattle.m3_runs.specs.States.{Given, thread_at, start}
use Rattle.m3_runs.specs.Follows.{Invariant}
use Rattle.m3_runs.specs.Keeping.{Keeps}
use Rattle.m3_mid_programs.specs.Linked.{Linked}
use Rattle.m3_mid_programs.specs.Values.{Value}
use Rattle.m3_mid_programs.specs.Activations.{Memory, Frame, Activity, Bodies, Applying, Within}
use Rattle.m3_mid_programs.specs.Moves.{Moves}
use Rattle.m3_mid_programs.specs.Programs.{MidState, mid_language}

abbrev pub frames_of : List Activity → List Frame
frames_of [] = []
frames_of (Bodies stack order ∷ rest) = frames_of rest
frames_of (Applying stack ∷ rest) = frames_of rest
frames_of (Within a ∷ rest) = a.frame ∷ frames_of rest

pub data IsOneOf (f : Frame) : List Frame → Type 0 where
  first : (fs : List Frame) → IsOneOf f (f ∷ fs)
  later : (g : Frame) (fs : List Frame) → IsOneOf f fs → IsOneOf f (g ∷ fs)

-- an activation that was called later has a higher number
abbrev pub AreFalling : List Frame → Type 0
AreFalling [] = Unit {0}
AreFalling (f ∷ fs) = ((g : Frame) → IsOneOf g fs → g.number < f.number) × AreFalling fs

-- so of the frames of one thread, the newest first
pub record AllLive (frames : List (Option ℕ)) (fs : List Frame) : Type 0 where
  pub there : (f : Frame) → IsOneOf f fs
      → slice_get frames f.number ≡ Some (Some f.around.frame)
  pub falling : AreFalling fs

-- no frame of the one has the number of one of the other
abbrev pub AreApart : List Frame → List Frame → Type 0
AreApart fs gs =
    (f g : Frame) → IsOneOf f fs → IsOneOf g gs → f.number ≢ g.number

-- the frames of a thread
abbrev pub HasFrames : MidState → ℕ → List Frame → Type 0
HasFrames s n fs = (t : Thread Activity Value) × (thread_at s.parts.threads n ≡ Some t) × (frames_of t.stack ≡ fs)

-- of all threads but one, and of these frames, which that one has by now
pub record Others (s : MidState) (n : ℕ) (frames : List (Option ℕ)) (own : List Frame)
    : Type 0 where
  pub its : AllLive frames own
  pub others : (k : ℕ) (fs : List Frame) → k ≢ n → HasFrames s k fs → AllLive frames fs
  pub apart : (k : ℕ) (fs : List Frame) → k ≢ n → HasFrames s k fs → AreApart own fs
  pub among : (k j : ℕ) (fs gs : List Frame) → k ≢ n → j ≢ n → k ≢ j → HasFrames s k fs
      → HasFrames s j gs → AreApart fs gs

pub record AllLiving (s : MidState) : Type 0 where
  pub all : (k : ℕ) (fs : List Frame) → HasFrames s k fs → AllLive s.parts.memory.frames fs
  pub apart : (k j : ℕ) (fs gs : List Frame) → k ≢ j → HasFrames s k fs → HasFrames s j gs
      → AreApart fs gs

abbrev pub LivingAt : MidState → ℕ → List Activity → Moves → Type 0
LivingAt s n rest (Acts action x m) = Others s n m.frames (frames_of (x ∷ rest))
LivingAt s n rest (Leaves answer m) = Others s n m.frames (frames_of rest)
LivingAt s n rest (Faults kind file line) = Unit {0}
LivingAt s n rest Breaks = Unit {0}

abbrev pub living : Invariant Activity Value Memory
living = record { between = AllLiving; acting = λ s n. AllLiving s; within = LivingAt }

-- It holds wherever a linked program comes from its start.
pub record StaysLiving (linked : Linked) (given : Given) : Type 0 where
  pub keeps : Keeps (mid_language linked) given living
  pub begins : AllLiving (start (mid_language linked))

abbrev pub AllStayLiving : Type 0
AllStayLiving = (linked : Linked) (given : Given) → StaysLiving linked given
