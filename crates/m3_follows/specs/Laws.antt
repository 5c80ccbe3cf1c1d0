-- What may be relied on of an image that follows a program, whatever the program.
use Rattle.std.specs.Prelude.{ℕ, ◌≡◌, List, Ok}
use Rattle.m3_base.specs.declared.outcomes.Entry.{Entry}
use Rattle.m3_base.specs.declared.outcomes.Outcome.{Outcome}
use Rattle.m3_core.specs.declared.program.Core.{Core}
use Rattle.m3_image.specs.Images.{read_of}
use Rattle.m3_image_sections.specs.Parts.{Image}
use Rattle.m3_run_meaning.specs.State.{State}
use Rattle.m3_run_meaning.specs.Runs.{Config, Over}
use Rattle.m3_runs.specs.Runs.{Result as Came}
use Rattle.m3_runs.specs.States.{Given}
use Rattle.m3_source_meaning.specs.Programs.{Activity, SourceRuns}
use Rattle.m3_values.specs.Places.{Thing}
use Rattle.m3_values.specs.Store.{Store}
use Rattle.m3_follows.specs.Settings.{Setting, IsInRange, ImageRuns, DifferInRoom, named_by, points_of}
use Rattle.m3_follows.specs.Follows.{Follows, IsOfSource}

-- THE SOURCE IGNORES COLLECTIONS: schedules that name the same threads lead to the same.
abbrev pub IgnoresCollections : Type 0
IgnoresCollections =
    (core : Core) (given : Given) (schedule other : List Entry) (turns : ℕ)
    (r : Came Activity Thing Store) →
    named_by schedule ≡ named_by other →
    SourceRuns core given schedule turns r → SourceRuns core given other turns r

-- a run of the image in these bytes that has ended
pub record Ended (bytes : List ℕ) (s : Setting) (outcome : Outcome) (c : Config) : Type 0 where
  pub image : Image
  pub read : read_of bytes ≡ Ok image
  pub instructions : ℕ
  pub runs : ImageRuns image.program s instructions c
  pub last : State
  pub over : c.place ≡ Over last outcome
  pub known : IsOfSource outcome

-- they ended in the same way, after as many points, and put the same
pub record EndAlike (o p : Outcome) (c d : Config) : Type 0 where
  pub outcome : o ≡ p
  pub points : points_of c ≡ points_of d
  pub output : c.output ≡ d.output

-- ONE END: two runs of bytes that follow a program, over heaps and stacks of whatever sizes and with
-- whatever collections, end alike, where neither lacked room.
abbrev pub HasOneEnd : Type 0
HasOneEnd =
    (core : Core) (bytes : List ℕ) (s other : Setting)
    (o p : Outcome) (c d : Config) →
    Follows core bytes → DifferInRoom s other → IsInRange s → IsInRange other →
    Ended bytes s o c → Ended bytes other p d → EndAlike o p c d
