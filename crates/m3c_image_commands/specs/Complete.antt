-- What comes of `run` and `dump` where the files are held, and no count of faults rises.
use Rattle.std.specs.Prelude.{ℕ, ◌≡◌, ◌≤◌, Option, None, Some, Result, Ok, MatchResult, is_some, List, [], length}
use Rattle.std.specs.FinMap.{get}
use Rattle.m3_ports.specs.Files.{Files}
use Rattle.m3_base.specs.Schedules.{IsSchedule}
use Rattle.m3_base.specs.declared.outcomes.Entry.{Entry}
use Rattle.m3_image.specs.Images.{read_of}
use Rattle.m3_image_sections.specs.Parts.{Image}
use Rattle.m3_image_dump.specs.Texts.{IsDump}
use Rattle.m3c_image_commands.specs.declared.answers.Answer.{Answer}
use Rattle.m3c_image_commands.specs.declared.answers.Refusal.{Refusal}
use Rattle.m3c_image_commands.specs.Statuses.{Shelving, Putting, CountRose, PutsNothing, Took, LacksMemory, image_cap, file_cap}
use Rattle.m3c_image_commands.specs.Reports.{Setting, Ended}
use Rattle.m3c_image_commands.specs.ImageCommands.{by_schedule, on_input}

-- the shelf tells that it holds the file: these bytes, no more than the cap
pub record IsHeld (held : Option Files) (name : List ℕ) (cap : ℕ) (bytes : List ℕ) : Type 0 where
  pub files : Files
  pub told : held ≡ Some files
  pub stored : get files name ≡ Some bytes
  pub short : length bytes ≤ cap

-- the same of a file of switches or of input, which is empty where none is named
abbrev pub IsHeldIfNamed : Option Files → Option (List ℕ) → List ℕ → Type 0
IsHeldIfNamed held None bytes = bytes ≡ []
IsHeldIfNamed held (Some name) bytes = IsHeld held name file_cap bytes

-- the image, the switches and the input of a run are held: the image is one, and the switches are a schedule
pub record HoldsAll (held : Option Files) (name : List ℕ) (switches input : Option (List ℕ)) (i : Image) (schedule : List Entry) (given : List ℕ) : Type 0 where
  pub bytes : List ℕ
  pub text : List ℕ
  pub image : IsHeld held name image_cap bytes
  pub of_switches : IsHeldIfNamed held switches text
  pub of_input : IsHeldIfNamed held input given
  pub read : read_of bytes ≡ Ok i
  pub lines : IsSchedule text schedule

-- memory ran out before anything was put
abbrev pub CutsShort : Putting → Refusal → Type 0
CutsShort out r = LacksMemory r × PutsNothing out

-- `run`: where all is ready, the image ran to the end of its run, or memory ran out before any output
abbrev pub RunsWhole : Shelving → Putting → List ℕ → Option (List ℕ) → Option (List ℕ) → Setting → Result Answer Refusal → Type 0
RunsWhole shelf out name switches input limits result =
    (i : Image) (schedule : List Entry) (given : List ℕ) → HoldsAll shelf.held.0 name switches input i schedule given
    → ¬ CountRose shelf.faults → ¬ CountRose out.faults
    → MatchResult result (λ a. Ended i (by_schedule (on_input limits given) schedule) (is_some switches) out a.status a.line.items) (CutsShort out)

-- `dump`: where the image is held, out took its text, or memory ran out before any output
abbrev pub DumpsWhole : Shelving → Putting → List ℕ → Result Answer Refusal → Type 0
DumpsWhole shelf out name result =
    (i : Image) (bytes : List ℕ) → IsHeld shelf.held.0 name image_cap bytes → read_of bytes ≡ Ok i
    → ¬ CountRose shelf.faults → ¬ CountRose out.faults
    → MatchResult result (λ a. (a.status ≡ 0) × (a.line.items ≡ []) × ((text : List ℕ) × IsDump i text × Took out.taken text)) (CutsShort out)
