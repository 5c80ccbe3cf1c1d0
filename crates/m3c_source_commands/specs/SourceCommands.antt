-- What `build`, `exec` and `bench` answer.
use Rattle.std.specs.Prelude.{ℕ, ◌≡◌, ◌+◌, ◌-◌, ◌⊎◌, min, Bool, Option, None, Some, is_some, Result, Ok, IfOk, IfErr, IsOk, MatchResult, List, [], ◌∷◌, ◌++◌, length, slice_get, codes, decimal}
use Rattle.m3_ports.specs.Files.{Files}
use Rattle.m3_image.specs.Images.{read_of}
use Rattle.m3_image_sections.specs.Parts.{Image}
use Rattle.m3c_image_commands.specs.declared.answers.Answer.{Answer}
use Rattle.m3c_image_commands.specs.declared.answers.Refusal.{Refusal}
use Rattle.m3c_image_commands.specs.Statuses.{Shelving, Putting, StoresNothing, StoresUnder, StoresFront, PutsNothing, IsRead, IsGiven, OfOptions, Unfetched, LacksMemory, LacksOutput, Cuts, Refuses}
use Rattle.m3_base.specs.declared.outcomes.Entry.{Entry}
use Rattle.m3_base.specs.declared.refusals.Refusal.{Refusal as Broken}
use Rattle.m3_base.specs.declared.refusals.Refused.{Refused}
use Rattle.m3_base.specs.declared.refusals.Refused.TheVariants.{Rule}
use Rattle.m3_base.specs.Rules.{rule_text_of}
use Rattle.m3_base.specs.Schedules.{IsSchedule}
use Rattle.m3_plain.specs.Terms.{Term}
use Rattle.m3_plain.specs.PlainForm.{IsPlain}
use Rattle.m3_plain_image.specs.Image.{plain_image}
use Rattle.m3_workload.specs.Schedules.{schedule_of}
use Rattle.m3c_image_commands.specs.Refusals.{IsScheduleLine}
use Rattle.m3c_image_commands.specs.Reports.{Setting, Ended}
use Rattle.m3c_image_commands.specs.ImageCommands.{ImageRanAsFar, RefusesSwitches, by_schedule, on_input}
use Rattle.m3c_source_commands.specs.Judging.{Judgement}

-- ---- the FILEs

-- the most bytes of one FILE, and of all
abbrev pub source_cap : ℕ
source_cap = 1048576

abbrev pub sources_cap : ℕ
sources_cap = 8388608

abbrev pub total : List (List ℕ) → ℕ
total [] = 0
total (text ∷ texts) = length text + total texts

-- these are the texts of the first files: each was read within its cap and what the ones before it left for all
abbrev pub AreRead : Option Files → ℕ → List (List ℕ) → List (List ℕ) → Type 0
AreRead held left files [] = Unit {0}
AreRead held left [] (text ∷ texts) = ⊥
AreRead held left (name ∷ files) (text ∷ texts) = IsRead held name (min left source_cap) text × AreRead held (left - length text) files texts

-- these are the texts of all files
abbrev pub AreTextsOf : Option Files → List (List ℕ) → List (List ℕ) → Type 0
AreTextsOf held files texts = AreRead held sources_cap files texts × (length texts ≡ length files)

-- all of the files were read
abbrev pub AreAllRead : Option Files → List (List ℕ) → Type 0
AreAllRead held files = (texts : List (List ℕ)) × AreTextsOf held files texts

-- one of the files, once those before it were read, with the most bytes that it may have behind them
pub record OfFiles (held : Option Files) (files : List (List ℕ)) (name : List ℕ) (cap : ℕ) : Type 0 where
  pub texts : List (List ℕ)
  pub read : AreRead held sources_cap files texts
  pub next : slice_get files (length texts) ≡ Some name
  pub left : cap ≡ min (sources_cap - total texts) source_cap

-- ---- the image of sources

-- no file is the only one, with a text in the plain form
abbrev pub IsNotPlain : List (List ℕ) → List (List ℕ) → Type 0
IsNotPlain files texts = (name text : List ℕ) (puts : List Term) → files ≡ name ∷ [] → texts ≡ text ∷ [] → IsPlain text puts → ⊥

-- the only file has this name and a text in the plain form, which puts these terms
pub record IsPlainProgram (files texts : List (List ℕ)) (name : List ℕ) (puts : List Term) : Type 0 where
  pub text : List ℕ
  pub file : files ≡ name ∷ []
  pub source : texts ≡ text ∷ []
  pub plain : IsPlain text puts
  pub only : (others : List Term) → IsPlain text others → others ≡ puts

-- the bytes are the image of what it puts
pub record IsPlainImage (files texts : List (List ℕ)) (image : List ℕ) : Type 0 where
  pub name : List ℕ
  pub puts : List Term
  pub program : IsPlainProgram files texts name puts
  pub bytes : read_of image ≡ Ok (plain_image name puts)

-- the only file is in the plain form, which breaks no rule; or none is, and the checker says of just these files, each
-- with its own text, that they break none
abbrev pub AreAccepted : Judgement → List (List ℕ) → List (List ℕ) → Type 0
AreAccepted judges files texts =
    ((name : List ℕ) × (puts : List Term) × IsPlainProgram files texts name puts) ⊎ (IsNotPlain files texts × judges files texts None)

-- the bytes are the image of these files: of one in the plain form that of its puts; of others, which the checker
-- accepted, they are some image
abbrev pub IsImageOf : Judgement → List (List ℕ) → List (List ℕ) → List ℕ → Type 0
IsImageOf judges files texts image = IsPlainImage files texts image ⊎ (IsNotPlain files texts × judges files texts None × IsOk (read_of image))

-- ---- sources that are refused

abbrev pub rule_line : List ℕ → ℕ → ℕ → ℕ → List ℕ → List ℕ
rule_line name at column rule text =
    name ++ codes ":" ++ decimal at ++ codes ":" ++ decimal column ++ codes ": rule " ++ decimal rule ++ codes " " ++ text ++ codes "\n"

-- a line tells this rule, by its number and its text, and its line and its column in one of the files
pub record IsLineOf (files : List (List ℕ)) (broken : Broken) (line : List ℕ) : Type 0 where
  pub name : List ℕ
  pub text : List ℕ
  pub named : slice_get files broken.pos.file ≡ Some name
  pub listed : rule_text_of broken.rule ≡ Some text
  pub said : line ≡ rule_line name broken.pos.line broken.pos.col broken.rule text

-- a line tells the very rule, and its place, that the checker says to be broken
pub record IsRuleLine (Says : Option Broken → Type 0) (files : List (List ℕ)) (line : List ℕ) : Type 0 where
  pub broken : Broken
  pub judged : Says (Some broken)
  pub told : IsLineOf files broken line

-- the checker refused the sources so, and the line tells the rule; or memory ran out
abbrev pub TellsRefused : List (List ℕ) → Refused → Result Answer Refusal → Type 0
TellsRefused files refused result =
    MatchResult result (λ a. (a.status ≡ 1) × (broken : Broken) × (refused ≡ Rule broken) × IsLineOf files broken a.line.items) LacksMemory

-- the sources break a rule, as the checker says and the line tells; or memory ran out
abbrev pub RefusesRule : (Option Broken → Type 0) → List (List ℕ) → Result Answer Refusal → Type 0
RefusesRule Says files result = MatchResult result (λ a. (a.status ≡ 1) × IsRuleLine Says files a.line.items) LacksMemory

-- so; or the checker says that they break none and the switches are no schedule, as the line tells
abbrev pub RefusesSources : (Option Broken → Type 0) → List (List ℕ) → List ℕ → Result Answer Refusal → Type 0
RefusesSources Says files switches result =
    MatchResult result (λ a. ((a.status ≡ 1) × IsRuleLine Says files a.line.items) ⊎ ((a.status ≡ 9) × Says None × IsScheduleLine switches a.line.items)) LacksMemory

-- the same of files with these texts, where one in the plain form breaks no rule
abbrev pub RefusesFiles : Judgement → List (List ℕ) → List (List ℕ) → List ℕ → Result Answer Refusal → Type 0
RefusesFiles judges files texts switches result =
    MatchResult result (λ a. ((a.status ≡ 1) × IsNotPlain files texts × IsRuleLine (judges files texts) files a.line.items)
    ⊎ ((a.status ≡ 9) × AreAccepted judges files texts × IsScheduleLine switches a.line.items)) LacksMemory

-- ---- build

-- bytes were stored under a name; or memory ran out and all stays, or the store failed
abbrev pub Stores : Shelving → List ℕ → List ℕ → Result Answer Refusal → Type 0
Stores shelf name bytes result =
    MatchResult result (λ a. (a.status ≡ 0) × (a.line.items ≡ []) × StoresUnder shelf name bytes)
    (λ r. (LacksMemory r × StoresNothing shelf) ⊎ (LacksOutput r × StoresFront shelf name bytes))

-- the sources break a rule; or their image was stored
pub data BuildAnswer (judges : Judgement) (shelf : Shelving) (files texts : List (List ℕ)) (name image : List ℕ) : ℕ → List ℕ → Type 0 where
  not_built : (line : List ℕ) → IsNotPlain files texts → IsRuleLine (judges files texts) files line → StoresNothing shelf → BuildAnswer judges shelf files texts name image 1 line
  stored : IsImageOf judges files texts image → StoresUnder shelf name image → BuildAnswer judges shelf files texts name image 0 []

-- a file can't be read or memory ran out, and all stays; or the store failed
abbrev pub BuildRefuses : Shelving → List (List ℕ) → List ℕ → List ℕ → Refusal → Type 0
BuildRefuses shelf files name image r =
    (Unfetched shelf (OfFiles shelf.held.0 files) r.status r.front.now r.name.now × StoresNothing shelf)
    ⊎ ((LacksMemory r × StoresNothing shelf) ⊎ (LacksOutput r × StoresFront shelf name image × AreAllRead shelf.held.0 files))

-- `build`: where a rule is broken or an image was stored, all of the files were read
abbrev pub Builds : Judgement → Shelving → List ℕ → List (List ℕ) → List ℕ → Result Answer Refusal → Type 0
Builds judges shelf name files image result =
    MatchResult result (λ a. (texts : List (List ℕ)) × AreTextsOf shelf.held.0 files texts × BuildAnswer judges shelf files texts name image a.status a.line.items)
    (BuildRefuses shelf files name image)

-- ---- exec and bench

-- the schedule of a workload
abbrev pub IsOfNumber : ℕ → List Entry → Type 0
IsOfNumber number schedule = schedule ≡ schedule_of number

-- the sources break a rule; they are accepted and the switches are no schedule; or the run of the sources' image by a schedule ended
pub data ExecAnswer (judges : Judgement) (files texts : List (List ℕ)) (image switches : List ℕ) (MayRunBy : List Entry → Type 0) (setting : Setting) (tells : Bool) (out : Putting) : ℕ → List ℕ → Type 0 where
  not_run : (line : List ℕ) → IsNotPlain files texts → IsRuleLine (judges files texts) files line → PutsNothing out → ExecAnswer judges files texts image switches MayRunBy setting tells out 1 line
  no_schedule : (status : ℕ) (line : List ℕ) → AreAccepted judges files texts → RefusesSwitches switches out status line → ExecAnswer judges files texts image switches MayRunBy setting tells out status line
  run_ended : (i : Image) (schedule : List Entry) (status : ℕ) (line : List ℕ) → IsImageOf judges files texts image → read_of image ≡ Ok i → MayRunBy schedule
      → Ended i (by_schedule setting schedule) tells out status line → ExecAnswer judges files texts image switches MayRunBy setting tells out status line

-- a put of the run of the sources' image failed: out has a front of this run's output
abbrev pub TextsRanAsFar : Judgement → List (List ℕ) → List (List ℕ) → List ℕ → (List Entry → Type 0) → Setting → Putting → Type 0
TextsRanAsFar judges files texts image MayRunBy setting out =
    (schedule : List Entry) × IsImageOf judges files texts image × MayRunBy schedule × ImageRanAsFar image (by_schedule setting schedule) out

-- what comes of sources and switches that are there
abbrev pub ExecsTexts : Judgement → List (List ℕ) → List (List ℕ) → List ℕ → List ℕ → (List Entry → Type 0) → Setting → Bool → Putting → Result Answer Refusal → Type 0
ExecsTexts judges files texts image switches MayRunBy setting tells out result =
    MatchResult result (λ a. ExecAnswer judges files texts image switches MayRunBy setting tells out a.status a.line.items)
    (λ r. Cuts out r × (r.status ≡ 4 → TextsRanAsFar judges files texts image MayRunBy setting out))

-- the files that `exec` reads, in this order: the FILEs, and once all of them were read, those of the options
abbrev pub OfExec : Option Files → List (List ℕ) → Option (List ℕ) → Option (List ℕ) → List ℕ → ℕ → Type 0
OfExec held files switches input n c = OfFiles held files n c ⊎ (AreAllRead held files × OfOptions held switches input n c)

-- `exec`: the switches and the input are those that are named, and the line tells collections where switches are named.
-- So too where a put failed: out has a front of this run's output.
pub record Execs (judges : Judgement) (shelf : Shelving) (out : Putting) (files : List (List ℕ)) (switches input : Option (List ℕ)) (limits : Setting) (image : List ℕ) (result : Result Answer Refusal) : Type 0 where
  pub held : StoresNothing shelf
  pub answer : IfOk result (λ a. (texts : List (List ℕ)) × AreTextsOf shelf.held.0 files texts
      × ((text : List ℕ) × (bytes : List ℕ) × IsGiven shelf.held.0 switches text × IsGiven shelf.held.0 input bytes
      × ExecAnswer judges files texts image text (IsSchedule text) (on_input limits bytes) (is_some switches) out a.status a.line.items))
  pub refusal : IfErr result (Refuses shelf (OfExec shelf.held.0 files switches input) out)
  pub cut : IfErr result (λ r. r.status ≡ 4 → (texts : List (List ℕ)) × AreTextsOf shelf.held.0 files texts
      × ((text : List ℕ) × (bytes : List ℕ) × IsGiven shelf.held.0 switches text × IsGiven shelf.held.0 input bytes
      × TextsRanAsFar judges files texts image (IsSchedule text) (on_input limits bytes) out))
