-- Every command: what its words ask for, and what it answers.
use Rattle.std.specs.Prelude.{ℕ, ◌≡◌, false, None, Some, Result, List, [], codes}
pub use Rattle.m3c_words.specs.Orders.{Order, build, run, exec, dump, bench, inspect, order_of}
use Rattle.m3c_words.specs.Asked.{asked, usual_options}
use Rattle.m3c_image_commands.specs.declared.answers.Answer.{Answer}
use Rattle.m3c_image_commands.specs.declared.answers.Refusal.{Refusal}
use Rattle.m3c_image_commands.specs.Statuses.{Shelving, Putting, StoresNothing, PutsNothing, Says, Tells}
use Rattle.m3c_image_commands.specs.Reports.{Setting, within}
use Rattle.m3c_image_commands.specs.ImageCommands.{Runs, Dumps}
use Rattle.m3c_inspect_command.specs.Inspecting.{Inspects}
use Rattle.m3c_source_commands.specs.Judging.{Judgement, OfSome}
use Rattle.m3c_source_commands.specs.SourceCommands.{Builds, ExecsTexts, Execs, IsOfNumber}

-- the setting of a run without options, and that of `bench`
abbrev pub usual_setting : Setting
usual_setting = within usual_options.bounds

abbrev pub bench_setting : Setting
bench_setting = within (record { points = 1000000; heap = 32768; stack = 16384; threads = 8; young = false })

-- what each command answers by a checker, and what it does to the shelf and to out; that of `bench` is a run by the
-- schedule of its number, of a workload that the checker accepts
abbrev pub Fulfils : Judgement → Order → Shelving → Putting → List ℕ → Result Answer Refusal → Type 0
Fulfils judges (build name files) shelf out image result = Builds judges shelf name files image result × PutsNothing out
Fulfils judges (run name options) shelf out image result =
    Runs shelf out name options.switches options.input (within options.bounds) image result
Fulfils judges (exec files options) shelf out image result =
    Execs judges shelf out files options.switches options.input (within options.bounds) image result
Fulfils judges (dump name) shelf out image result = Dumps shelf out name image result
Fulfils judges (bench number) shelf out image result =
    ExecsTexts (OfSome judges) [] [] image [] (IsOfNumber number) bench_setting false out result × StoresNothing shelf
Fulfils judges (inspect name options) shelf out image result =
    Inspects shelf out name options.switches options.input (within options.bounds) image result

abbrev pub usage_line : List ℕ
usage_line = codes "usage: m3c build, run, exec, dump or bench\n"

abbrev pub memory_line : List ℕ
memory_line = codes "out of memory\n"

-- the words ask for nothing, or there is no memory for reading them; or the command that they ask for was carried out
pub data Commands (judges : Judgement) (words : List (List ℕ)) (shelf : Shelving) (out err : Putting) (image : List ℕ) : ℕ → Type 0 where
  usage : (told : ℕ) → asked words ≡ None → StoresNothing shelf → PutsNothing out → Says err 2 usage_line told → Commands judges words shelf out err image told
  no_words : (told : ℕ) → StoresNothing shelf → PutsNothing out → Says err 5 memory_line told → Commands judges words shelf out err image told
  carried_out : (order : Order) (result : Result Answer Refusal) (told : ℕ) → asked words ≡ Some order → Fulfils judges order shelf out image result → Tells err result told → Commands judges words shelf out err image told
