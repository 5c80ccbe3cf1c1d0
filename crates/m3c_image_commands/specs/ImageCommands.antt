-- What `run IMAGE` and `dump IMAGE` answer.
use Rattle.std.specs.Prelude.{ℕ, ◌≡◌, ◌⊎◌, Bool, Option, is_some, Result, Ok, Err, IfOk, IfErr, IsOk, MatchResult, List, []}
use Rattle.m3_base.specs.Schedules.{IsSchedule}
use Rattle.m3_base.specs.declared.outcomes.Entry.{Entry}
use Rattle.m3_image.specs.Images.{read_of}
use Rattle.m3_image_sections.specs.Parts.{Image}
use Rattle.m3_image_sections.specs.declared.refusal.ImageRefusal.{ImageRefusal}
use Rattle.m3_ports.specs.Files.{Files}
use Rattle.m3_image_dump.specs.Texts.{IsDump}
use Rattle.m3c_image_commands.specs.declared.answers.Answer.{Answer}
use Rattle.m3c_image_commands.specs.declared.answers.Refusal.{Refusal}
use Rattle.m3c_image_commands.specs.Statuses.{Shelving, Putting, StoresNothing, PutsNothing, Took, TookFront, CountRose, IsRead, IsGiven, image_cap, Only, OfOptions, Unfetched, LacksMemory, LacksOutput, Cuts, Refuses}
use Rattle.m3c_image_commands.specs.Refusals.{image_line, IsScheduleLine}
use Rattle.m3c_image_commands.specs.declared.running.Run.{Run}
use Rattle.m3c_image_commands.specs.Reports.{Setting, Ended, RanAsFar, setting_of}

-- the run of an image ended; or memory ran out before anything was put; or a put failed, and out has a front of the
-- run's output
abbrev pub Ends : Image → Setting → Bool → Putting → Result Answer Refusal → Type 0
Ends i setting tells out result =
    MatchResult result (λ a. Ended i setting tells out a.status a.line.items) (λ r. Cuts out r × (r.status ≡ 4 → RanAsFar i setting out))

-- ---- run

-- bytes are no image, or the run of the image that they are ended
pub data ImageAnswer (image : List ℕ) (setting : Setting) (tells : Bool) (out : Putting) : ℕ → List ℕ → Type 0 where
  image_refused : (refusal : ImageRefusal) → read_of image ≡ Err refusal → PutsNothing out → ImageAnswer image setting tells out 8 (image_line refusal)
  ended : (i : Image) (status : ℕ) (line : List ℕ) → read_of image ≡ Ok i → Ended i setting tells out status line → ImageAnswer image setting tells out status line

-- a put of the run of the image that they are failed
abbrev pub ImageRanAsFar : List ℕ → Setting → Putting → Type 0
ImageRanAsFar image setting out = (i : Image) × (read_of image ≡ Ok i) × RanAsFar i setting out

abbrev pub RunsImage : List ℕ → Setting → Bool → Putting → Result Answer Refusal → Type 0
RunsImage image setting tells out result =
    MatchResult result (λ a. ImageAnswer image setting tells out a.status a.line.items) (λ r. Cuts out r × (r.status ≡ 4 → ImageRanAsFar image setting out))

-- the switches are no schedule, as the line tells, and nothing was put
abbrev pub RefusesSwitches : List ℕ → Putting → ℕ → List ℕ → Type 0
RefusesSwitches switches out status line = (status ≡ 9) × IsScheduleLine switches line × PutsNothing out

-- a run by this schedule, and on this input
abbrev pub by_schedule : Setting → List Entry → Setting
by_schedule setting schedule = record setting { schedule = schedule }

abbrev pub on_input : Setting → List ℕ → Setting
on_input setting input = record setting { input = input }

abbrev pub setting_of_run : Run → Setting
setting_of_run run = by_schedule (on_input (setting_of run.limits) run.input.now) run.schedule.now

-- the same of bytes and a text of switches, whose schedule the run has: the bytes are tested first
abbrev pub RunAnswer : List ℕ → List ℕ → Setting → Bool → Putting → ℕ → List ℕ → Type 0
RunAnswer image switches setting tells out status line =
    ((schedule : List Entry) × (IsOk (read_of image) → IsSchedule switches schedule) × ImageAnswer image (by_schedule setting schedule) tells out status line)
    ⊎ (RefusesSwitches switches out status line × IsOk (read_of image))

abbrev pub BytesRanAsFar : List ℕ → List ℕ → Setting → Putting → Type 0
BytesRanAsFar image switches setting out = (schedule : List Entry) × IsSchedule switches schedule × ImageRanAsFar image (by_schedule setting schedule) out

abbrev pub RunsBytes : List ℕ → List ℕ → Setting → Bool → Putting → Result Answer Refusal → Type 0
RunsBytes image switches setting tells out result =
    MatchResult result (λ a. RunAnswer image switches setting tells out a.status a.line.items) (λ r. Cuts out r × (r.status ≡ 4 → BytesRanAsFar image switches setting out))

-- the files that `run` reads, in this order: the image, and once it was read, those of the options
abbrev pub OfRun : Option Files → List ℕ → Option (List ℕ) → Option (List ℕ) → List ℕ → ℕ → Type 0
OfRun held name switches input n c =
    Only name image_cap n c ⊎ (((bytes : List ℕ) × IsRead held name image_cap bytes) × OfOptions held switches input n c)

-- `run`: the image is the file of that name, the switches and the input are those that are named, and the line tells
-- collections where switches are named. So too where a put failed: out has a front of this run's output.
pub record Runs (shelf : Shelving) (out : Putting) (name : List ℕ) (switches input : Option (List ℕ)) (limits : Setting) (image : List ℕ) (result : Result Answer Refusal) : Type 0 where
  pub held : StoresNothing shelf
  pub answer : IfOk result (λ a. IsRead shelf.held.0 name image_cap image
      × ((text : List ℕ) × (bytes : List ℕ) × IsGiven shelf.held.0 switches text × IsGiven shelf.held.0 input bytes
      × RunAnswer image text (on_input limits bytes) (is_some switches) out a.status a.line.items))
  pub refusal : IfErr result (Refuses shelf (OfRun shelf.held.0 name switches input) out)
  pub cut : IfErr result (λ r. r.status ≡ 4 → IsRead shelf.held.0 name image_cap image
      × ((text : List ℕ) × (bytes : List ℕ) × IsGiven shelf.held.0 switches text × IsGiven shelf.held.0 input bytes
      × BytesRanAsFar image text (on_input limits bytes) out))

-- ---- dump

-- the bytes are no image; or the text of the image that they are was put
pub data DumpAnswer (image : List ℕ) (out : Putting) : ℕ → List ℕ → Type 0 where
  not_dumped : (refusal : ImageRefusal) → read_of image ≡ Err refusal → PutsNothing out → DumpAnswer image out 8 (image_line refusal)
  dumped : (i : Image) (text : List ℕ) → read_of image ≡ Ok i → IsDump i text → Took out.taken text → DumpAnswer image out 0 []

-- memory ran out before anything was put; or the put of the text failed, and out has a front of it
pub data CutsDump (image : List ℕ) (out : Putting) (r : Refusal) : Type 0 where
  no_memory : LacksMemory r → PutsNothing out → CutsDump image out r
  not_put : (i : Image) (text : List ℕ) → read_of image ≡ Ok i → IsDump i text → LacksOutput r → CountRose out.faults → TookFront out.taken text → CutsDump image out r

abbrev pub DumpsBytes : List ℕ → Putting → Result Answer Refusal → Type 0
DumpsBytes image out result = MatchResult result (λ a. DumpAnswer image out a.status a.line.items) (CutsDump image out)

pub record Dumps (shelf : Shelving) (out : Putting) (name image : List ℕ) (result : Result Answer Refusal) : Type 0 where
  pub held : StoresNothing shelf
  pub answer : IfOk result (λ a. IsRead shelf.held.0 name image_cap image × DumpAnswer image out a.status a.line.items)
  pub refusal : IfErr result (λ r. (Unfetched shelf (Only name image_cap) r.status r.front.now r.name.now × PutsNothing out)
      ⊎ (IsRead shelf.held.0 name image_cap image × CutsDump image out r))
