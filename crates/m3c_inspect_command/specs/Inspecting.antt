-- What `inspect IMAGE --at K` answers: the image runs with a budget of K points, and its output is dropped.
use Rattle.std.specs.Prelude.{ℕ, ◌≡◌, ◌⊎◌, Bool, true, false, Option, is_some, Result, Ok, Err, IfOk, IfErr, IsOk, MatchResult, List, ◌++◌, codes}
use Rattle.m3_base.specs.Schedules.{IsSchedule}
use Rattle.m3_base.specs.declared.outcomes.Entry.{Entry}
use Rattle.m3_base.specs.declared.outcomes.Outcome.{Outcome}
use Rattle.m3_base.specs.declared.outcomes.Outcome.TheVariants.{Spent, Trap}
use Rattle.m3_generational.specs.First.{first_heap}
use Rattle.m3_image.specs.Images.{read_of}
use Rattle.m3_image_sections.specs.Parts.{Image}
use Rattle.m3_image_sections.specs.declared.refusal.ImageRefusal.{ImageRefusal}
use Rattle.m3_run_meaning.specs.State.{State}
use Rattle.m3_machine.specs.RunCalls.{RunOf}
use Rattle.m3_inspect.specs.Shown.{Shown, IsShown, IsUnframed}
use Rattle.m3_inspect.specs.Texts.{text_of}
use Rattle.m3c_image_commands.specs.declared.answers.Answer.{Answer}
use Rattle.m3c_image_commands.specs.declared.answers.Refusal.{Refusal}
use Rattle.m3c_image_commands.specs.Statuses.{Shelving, Putting, StoresNothing, PutsNothing, Took, TookFront, CountRose, IsRead, IsGiven, image_cap, Unfetched, LacksMemory, LacksOutput}
use Rattle.m3c_image_commands.specs.Refusals.{image_line}
use Rattle.m3c_image_commands.specs.Reports.{Setting, end_status, ending, counted}
use Rattle.m3c_image_commands.specs.ImageCommands.{RefusesSwitches, by_schedule, on_input, OfRun}

-- a run of an image ended in a state: it is a run of its program from the start, over the heap of the setting, which may pass
-- its points
pub record Stops (i : Image) (setting : Setting) (to : State) (outcome : Outcome) : Type 0 where
  pub bytes : List ℕ
  pub run : RunOf i.program (first_heap setting.young setting.heap) setting.threads setting.stack setting.points setting.schedule setting.input bytes to outcome

abbrev pub is_spent : Outcome → Bool
is_spent Spent = true
is_spent _ = false

-- the line of a state that was shown
abbrev pub shown_line : (young tells : Bool) → State → List ℕ
shown_line young tells to = counted young tells (codes "inspected") to

-- the line of any other end
abbrev pub end_line : Image → (young tells : Bool) → Outcome → State → List ℕ
end_line i young tells outcome to = counted young tells (ending i outcome) to

-- The status and the line. Where the points are used up, the state is shown, unless a thread hasn't its frames, which is
-- told as trap 9; every other end is told as that of a run.
pub data Inspected (i : Image) (setting : Setting) (tells : Bool) (out : Putting) : ℕ → List ℕ → Type 0 where
  shown : (to : State) (s : Shown) → Stops i setting to Spent → IsShown i to.all to.globals s → Took out.taken (text_of i s) → Inspected i setting tells out 0 (shown_line setting.young tells to)
  unframed : (to : State) (number : ℕ) → Stops i setting to Spent → IsUnframed i to.all number → PutsNothing out → Inspected i setting tells out 17 (end_line i setting.young tells (Trap 9) to)
  ended : (to : State) (outcome : Outcome) → Stops i setting to outcome → (outcome ≡ Spent → ⊥) → PutsNothing out → Inspected i setting tells out (end_status outcome) (end_line i setting.young tells outcome to)

-- a put of what is shown failed, and out has a front of it
pub record NotShown (i : Image) (setting : Setting) (out : Putting) (r : Refusal) : Type 0 where
  pub to : State
  pub s : Shown
  pub stops : Stops i setting to Spent
  pub shown : IsShown i to.all to.globals s
  pub lacks : LacksOutput r
  pub rose : CountRose out.faults
  pub front : TookFront out.taken (text_of i s)

-- memory ran out before anything was put, or a put failed
abbrev pub CutsView : Image → Setting → Putting → Refusal → Type 0
CutsView i setting out r = (LacksMemory r × PutsNothing out) ⊎ NotShown i setting out r

abbrev pub InspectsView : Image → Setting → Bool → Putting → Result Answer Refusal → Type 0
InspectsView i setting tells out result = MatchResult result (λ a. Inspected i setting tells out a.status a.line.items) (CutsView i setting out)

-- ---- the state that is left

-- a text is put, and then the answer is this one; or memory ran out before; or the put failed
abbrev pub PutsText : List ℕ → Answer → Putting → Result Answer Refusal → Type 0
PutsText text answer out result =
    MatchResult result (λ a. (a ≡ answer) × Took out.taken text) (λ r. (LacksMemory r × PutsNothing out) ⊎ (LacksOutput r × CountRose out.faults × TookFront out.taken text))

-- a state is shown, or a thread in it hasn't its frames
pub data ShowsState (i : Image) (young tells : Bool) (to : State) (out : Putting) : ℕ → List ℕ → Type 0 where
  state_shown : (s : Shown) → IsShown i to.all to.globals s → Took out.taken (text_of i s) → ShowsState i young tells to out 0 (shown_line young tells to)
  state_unframed : (number : ℕ) → IsUnframed i to.all number → PutsNothing out → ShowsState i young tells to out 17 (end_line i young tells (Trap 9) to)

pub record PutFailed (i : Image) (to : State) (out : Putting) (r : Refusal) : Type 0 where
  pub s : Shown
  pub shown : IsShown i to.all to.globals s
  pub lacks : LacksOutput r
  pub rose : CountRose out.faults
  pub front : TookFront out.taken (text_of i s)

abbrev pub Shows : Image → (young tells : Bool) → State → Putting → Result Answer Refusal → Type 0
Shows i young tells to out result =
    MatchResult result (λ a. ShowsState i young tells to out a.status a.line.items) (λ r. (LacksMemory r × PutsNothing out) ⊎ PutFailed i to out r)

-- ---- bytes, and a text of switches

-- bytes are no image, or the image that they are was inspected
pub data InspectAnswer (image : List ℕ) (setting : Setting) (tells : Bool) (out : Putting) : ℕ → List ℕ → Type 0 where
  image_refused : (refusal : ImageRefusal) → read_of image ≡ Err refusal → PutsNothing out → InspectAnswer image setting tells out 8 (image_line refusal)
  inspected : (i : Image) (status : ℕ) (line : List ℕ) → read_of image ≡ Ok i → Inspected i setting tells out status line → InspectAnswer image setting tells out status line

-- by the schedule that the switches say, or the line that refuses them: the bytes are tested first
abbrev pub BytesAnswer : List ℕ → List ℕ → Setting → Bool → Putting → ℕ → List ℕ → Type 0
BytesAnswer image switches setting tells out status line =
    ((schedule : List Entry) × (IsOk (read_of image) → IsSchedule switches schedule) × InspectAnswer image (by_schedule setting schedule) tells out status line)
    ⊎ (RefusesSwitches switches out status line × IsOk (read_of image))

abbrev pub CutsBytes : List ℕ → List ℕ → Setting → Putting → Refusal → Type 0
CutsBytes image switches setting out r =
    (LacksMemory r × PutsNothing out)
    ⊎ ((i : Image) × (schedule : List Entry) × (read_of image ≡ Ok i) × IsSchedule switches schedule × NotShown i (by_schedule setting schedule) out r)

abbrev pub InspectsBytes : List ℕ → List ℕ → Setting → Bool → Putting → Result Answer Refusal → Type 0
InspectsBytes image switches setting tells out result = MatchResult result (λ a. BytesAnswer image switches setting tells out a.status a.line.items) (CutsBytes image switches setting out)

-- ---- the whole

-- `inspect`: the image is the file of that name, the switches and the input are those that are named, and the line tells
-- collections where switches are named
pub record Inspects (shelf : Shelving) (out : Putting) (name : List ℕ) (switches input : Option (List ℕ)) (limits : Setting) (image : List ℕ) (result : Result Answer Refusal) : Type 0 where
  pub held : StoresNothing shelf
  pub answer : IfOk result (λ a. IsRead shelf.held.0 name image_cap image
      × ((text : List ℕ) × (bytes : List ℕ) × IsGiven shelf.held.0 switches text × IsGiven shelf.held.0 input bytes
      × BytesAnswer image text (on_input limits bytes) (is_some switches) out a.status a.line.items))
  pub refusal : IfErr result (λ r. (Unfetched shelf (OfRun shelf.held.0 name switches input) r.status r.front.now r.name.now × PutsNothing out)
      ⊎ (IsRead shelf.held.0 name image_cap image
      × ((text : List ℕ) × (bytes : List ℕ) × IsGiven shelf.held.0 switches text × IsGiven shelf.held.0 input bytes
      × CutsBytes image text (on_input limits bytes) out r)))
