-- What the command answers: a row for each status, over what the words say, what the shelf tells that it
-- holds, which counts rose, and what the sinks took.
use Rattle.std.specs.Prelude.{ℕ, ◌≡◌, ◌≤◌, ◌==◌, ◌&&◌, ◌⊎◌, Bool, false, not, if◌then◌else◌, Option, None, Some, IfSome, is_some, Result, Ok, List, [], ◌∷◌, ◌++◌, length, codes, IsTrue}
use Rattle.std.specs.List.{list_any}
use Rattle.std.specs.Str.{bytes_eq}
use Rattle.std.specs.FinMap.{get}
use Rattle.m3_base.specs.declared.outcomes.FaultKind.TheVariants.{Overflow}
use Rattle.m3_base.specs.declared.outcomes.Outcome.{Outcome}
use Rattle.m3_base.specs.declared.outcomes.Outcome.TheVariants.{Done, Fault}
use Rattle.m3_ports.specs.Files.{Files, IsNotHeld, IsHeldOver}
use Rattle.m3_base.specs.declared.outcomes.Entry.{Entry}
use Rattle.m3_image.specs.Images.{read_of}
use Rattle.m3_image_sections.specs.Parts.{Image}
use Rattle.m3_image_dump.specs.Texts.{IsDump}
use Rattle.m3_plain.specs.Terms.{Term, output_of, points_of, outcome_of}
use Rattle.m3_plain.specs.PlainForm.{IsPlain}
use Rattle.m3_plain_image.specs.Image.{plain_program, plain_image}
use Rattle.m3_heap.specs.Semi.{new_heap}
use Rattle.m3_run_meaning.specs.State.{State}
use Rattle.m3_machine.specs.RunCalls.{RunOf}
use Rattle.m3c_image_commands.specs.declared.answers.Answer.{Answer}
use Rattle.m3c_image_commands.specs.declared.answers.Refusal.{Refusal}
use Rattle.m3c_image_commands.specs.Statuses.{Shelving, Putting, StoresNothing, StoresUnder, Tells, image_cap}
pub use Rattle.m3c_image_commands.specs.Statuses.{CountRose, Took}
use Rattle.m3c_image_commands.specs.Reports.{Setting, Ended, RanAsFar, within, end_status, report}
use Rattle.m3c_image_commands.specs.ImageCommands.{by_schedule, on_input}
use Rattle.m3c_image_commands.specs.Complete.{IsHeld, HoldsAll}
use Rattle.m3c_words.specs.Orders.{Options, Order, build, run, exec, dump}
use Rattle.m3c_words.specs.Asked.{asked, usual_options}
use Rattle.m3c_words_laws.specs.Reads.{Reads}
use Rattle.m3c_source_commands.specs.Judging.{ByChecker}
use Rattle.m3c_source_commands.specs.Orders.{Fulfils, Commands, usual_setting}

-- ---- the words

-- a name isn't empty and doesn't begin with `-`
abbrev pub is_name : List ℕ → Bool
is_name [] = false
is_name (b ∷ bytes) = not (b == 45)

-- the file that the words name, where they are exec FILE without options
abbrev pub file_of : List (List ℕ) → Option (List ℕ)
file_of [] = None
file_of (command ∷ []) = None
file_of (command ∷ file ∷ []) = if bytes_eq command (codes "exec") && is_name file then Some file else None
file_of (command ∷ file ∷ more ∷ words) = None

-- the most bytes that a file may have
abbrev pub file_cap : ℕ
file_cap = 1048576

-- ---- what happened outside

-- the words, the file that they name where they are exec FILE, what happened on the shelf and in the sinks, and the
-- bytes that the command leaves as its image
pub record Call : Type 0 where
  pub words : List (List ℕ)
  pub file : Option (List ℕ)
  pub shelf : Shelving
  pub out : Putting
  pub err : Putting
  pub image : List ℕ

abbrev pub call_of : List (List ℕ) → Shelving → Putting → Putting → List ℕ → Call
call_of words shelf out err image = record { words = words; file = file_of words; shelf = shelf; out = out; err = err; image = image }

-- out has what it had
abbrev pub IsSilent : Call → Type 0
IsSilent call = call.out.taken.1 ≡ call.out.taken.0

-- err took one line
abbrev pub Says : Call → List ℕ → Type 0
Says call line = Took call.err.taken (line ++ codes "\n")

-- the words name this file, which was read: these are its bytes, where the shelf tells them
pub record IsRead (call : Call) (name text : List ℕ) : Type 0 where
  pub named : call.file ≡ Some name
  pub short : length text ≤ file_cap
  pub held : IfSome call.shelf.held.0 (λ files. get files name ≡ Some text)

-- ---- a run

-- a run of the image of some puts within the usual limits, without switches and without input
abbrev pub UsualRun : List ℕ → List Term → List ℕ → State → Outcome → Type 0
UsualRun name puts bytes last outcome =
    RunOf (plain_program name puts) (new_heap usual_setting.heap) usual_setting.threads usual_setting.stack usual_setting.points [] [] bytes last outcome

-- the file is in the plain form: the image that the command leaves is that of its puts, the run of just this image put
-- the values in decimal, which out took, and ended as the puts do; and the line has the counts of this run
pub record Ran (call : Call) (outcome : Outcome) : Type 0 where
  pub name : List ℕ
  pub text : List ℕ
  pub read : IsRead call name text
  pub puts : List Term
  pub plain : IsPlain text puts
  pub only : (others : List Term) → IsPlain text others → others ≡ puts
  pub ends : outcome_of puts ≡ outcome
  pub image : read_of call.image ≡ Ok (plain_image name puts)
  pub last : State
  pub run : UsualRun name puts (output_of puts) last outcome
  pub points : last.points ≡ points_of puts
  pub output : Took call.out.taken (output_of puts)
  pub says : Took call.err.taken (report (plain_image name puts) false outcome last.points last.instructions last.collections)

-- a put of the run of the image of a file in the plain form failed: out has a front of this run's output
pub record PutFailed (call : Call) : Type 0 where
  pub rose : CountRose call.out.faults
  pub name : List ℕ
  pub text : List ℕ
  pub read : IsRead call name text
  pub puts : List Term
  pub plain : IsPlain text puts
  pub image : read_of call.image ≡ Ok (plain_image name puts)
  pub far : RanAsFar (plain_image name puts) usual_setting call.out

-- ---- the table

-- the file can't be fetched, for a cause: err names it
pub record Refuses (call : Call) (cause : List ℕ) (Holds : List ℕ → Type 0) : Type 0 where
  pub name : List ℕ
  pub named : call.file ≡ Some name
  pub holds : Holds name
  pub silent : IsSilent call
  pub says : Says call (cause ++ codes " " ++ name)

-- the words name a file that was read, and its text isn't in the plain form
pub record NotPlainText (file : Option (List ℕ)) (held : Option Files) : Type 0 where
  pub name : List ℕ
  pub text : List ℕ
  pub named : file ≡ Some name
  pub short : length text ≤ file_cap
  pub told : IfSome held (λ files. get files name ≡ Some text)
  pub other : (puts : List Term) → IsPlain text puts → ⊥

-- the words are another command than exec FILE with a text in the plain form
abbrev pub IsOther : Option (List ℕ) → Option Files → Type 0
IsOther file held = (file ≡ None) ⊎ NotPlainText file held

-- each status of a text in the plain form, or of a file that can't be fetched, and when it comes
pub record Answers (call : Call) (status : ℕ) : Type 0 where
  pub known : IsTrue (list_any (λ s. s == status) (0 ∷ 3 ∷ 4 ∷ 5 ∷ 6 ∷ 7 ∷ 10 ∷ []))
  pub done : status ≡ 0 → Ran call Done
  pub read_fault : status ≡ 3 → Refuses call (codes "read fault") (λ name. CountRose call.shelf.faults)
  pub write_fault : status ≡ 4 → PutFailed call ⊎ CountRose call.err.faults
  pub no_memory : status ≡ 5 → IsSilent call × Says call (codes "out of memory")
  pub absent : status ≡ 6 → Refuses call (codes "absent") (λ name. CountRose call.shelf.absences × IfSome call.shelf.held.0 (λ files. IsNotHeld files name))
  pub too_long : status ≡ 7 → Refuses call (codes "too long") (λ name. CountRose call.shelf.excesses × IfSome call.shelf.held.0 (λ files. IsHeldOver files name file_cap))
  pub fault : status ≡ 10 → (line : ℕ) × Ran call (Fault Overflow 0 line)

-- completeness: a file that is held within its cap and is in the plain form, where no count of faults
-- rises, is run to the end of its puts, or memory ran out before any output
abbrev pub IsComplete : Call → ℕ → Type 0
IsComplete call status =
    (files : Files) (name text : List ℕ) (puts : List Term) → call.file ≡ Some name → call.shelf.held.0 ≡ Some files → get files name ≡ Some text → length text ≤ file_cap → IsPlain text puts
    → ¬ CountRose call.shelf.faults → ¬ CountRose call.out.faults → ¬ CountRose call.err.faults
    → ((status ≡ end_status (outcome_of puts)) × Ran call (outcome_of puts)) ⊎ ((status ≡ 5) × IsSilent call)

-- any other command than exec FILE; or exec FILE with a text that isn't in the plain form
pub data AnswersOther (call : Call) : ℕ → Type 0 where
  of_words : (status : ℕ) → call.file ≡ None → Commands ByChecker call.words call.shelf call.out call.err call.image status → AnswersOther call status
  of_text : (name : List ℕ) (status : ℕ) (result : Result Answer Refusal) → call.file ≡ Some name → NotPlainText call.file call.shelf.held.0
      → Fulfils ByChecker (exec (name ∷ []) usual_options) call.shelf call.out call.image result → Tells call.err result status → AnswersOther call status

-- ---- every command

-- status 2 comes exactly by the words: only where the sentences of docs/COMMANDS.md read no command from them, and
-- there always, unless memory runs out or err fails
pub record UsageByWords (call : Call) (status : ℕ) : Type 0 where
  pub only : status ≡ 2 → (order : Order) → Reads call.words order → ⊥
  pub always : ((order : Order) → Reads call.words order → ⊥) → (status ≡ 2) ⊎ ((status ≡ 5) ⊎ ((status ≡ 4) × CountRose call.err.faults))

-- no count of faults rises
pub record IsCalm (call : Call) : Type 0 where
  pub shelf : ¬ CountRose call.shelf.faults
  pub out : ¬ CountRose call.out.faults
  pub err : ¬ CountRose call.err.faults

-- the run of the image ended: the status is that of its outcome, and err took the line
abbrev pub RanImage : Call → Image → Setting → Bool → ℕ → Type 0
RanImage call i setting tells status = (line : List ℕ) × Ended i setting tells call.out status line × Took call.err.taken line

-- the text of the image was put, and nothing on err
abbrev pub DumpedImage : Call → Image → ℕ → Type 0
DumpedImage call i status = (text : List ℕ) × (status ≡ 0) × IsDump i text × Took call.out.taken text × Took call.err.taken []

-- memory ran out before any output
abbrev pub RanOut : Call → ℕ → Type 0
RanOut call status = (status ≡ 5) × IsSilent call

-- completeness of `run`: an image that is held within its cap, with switches that are a schedule, is run to its end
abbrev pub IsRunComplete : Call → ℕ → Type 0
IsRunComplete call status =
    (name : List ℕ) (options : Options) (i : Image) (schedule : List Entry) (given : List ℕ) → asked call.words ≡ Some (run name options)
    → HoldsAll call.shelf.held.0 name options.switches options.input i schedule given → IsCalm call
    → RanImage call i (by_schedule (on_input (within options.bounds) given) schedule) (is_some options.switches) status ⊎ RanOut call status

-- and of `dump`
abbrev pub IsDumpComplete : Call → ℕ → Type 0
IsDumpComplete call status =
    (name : List ℕ) (i : Image) (bytes : List ℕ) → asked call.words ≡ Some (dump name) → IsHeld call.shelf.held.0 name image_cap bytes → read_of bytes ≡ Ok i → IsCalm call
    → DumpedImage call i status ⊎ RanOut call status

-- the image of what a file puts, which is in the plain form, was stored under a name: it is the image that `exec` of
-- the file runs
pub record Stored (call : Call) (image name : List ℕ) (puts : List Term) : Type 0 where
  pub bytes : read_of call.image ≡ Ok (plain_image name puts)
  pub under : StoresUnder call.shelf image call.image
  pub silent : IsSilent call

-- completeness of `build` of a file in the plain form that is held within its cap: its image is stored, or memory ran
-- out and all stays
abbrev pub IsBuildComplete : Call → ℕ → Type 0
IsBuildComplete call status =
    (files : Files) (image name text : List ℕ) (puts : List Term) → asked call.words ≡ Some (build image (name ∷ [])) → call.shelf.held.0 ≡ Some files → get files name ≡ Some text → length text ≤ file_cap → IsPlain text puts
    → IsCalm call → ¬ CountRose call.shelf.store_faults
    → ((status ≡ 0) × Stored call image name puts) ⊎ ((status ≡ 5) × StoresNothing call.shelf)

-- the table, the words, and completeness
pub record Promises (call : Call) (status : ℕ) : Type 0 where
  pub table : Answers call status ⊎ AnswersOther call status
  pub usage : UsageByWords call status
  pub complete : IsComplete call status
  pub run_complete : IsRunComplete call status
  pub dump_complete : IsDumpComplete call status
  pub build_complete : IsBuildComplete call status
