-- What docs/COMMANDS.md says of any words, apart from how they are read.
use Rattle.std.specs.Prelude.{◌≡◌, ◌≢◌, ◌≤◌, ◌<◌, ◌^◌, IfSome, length, Option, None, Some, List, [], ◌∷◌, ◌++◌, codes}
use Rattle.std.specs.List.{AllByRecursion}
use Rattle.clap.specs.Walk.{Text}
use Rattle.m3c_words.specs.Orders.{Bounds, Options, Order, build, run, exec, dump, bench, inspect}
use Rattle.m3c_words.specs.Asked.{asked}

-- ---- the first word is the command

abbrev pub command_asked : Order → Text
command_asked (build image files) = codes "build"
command_asked (run image options) = codes "run"
command_asked (exec files options) = codes "exec"
command_asked (dump image) = codes "dump"
command_asked (bench number) = codes "bench"
command_asked (inspect image options) = codes "inspect"

abbrev pub BeginsWithCommand : List Text → Order → Type 0
BeginsWithCommand words order = (rest : List Text) × (words ≡ command_asked order ∷ rest)

-- ---- the word `--` ends the options

-- a command with some words, the word `--`, and the words behind it
abbrev pub with_behind : Text → List Text → List Text → List Text
with_behind command front back = command ∷ (front ++ codes "--" ∷ back)

-- the options of a run that is asked for
abbrev pub options_asked : Order → Option Options
options_asked (run image options) = Some options
options_asked (exec files options) = Some options
options_asked (inspect image options) = Some options
options_asked other = None

-- whatever stands behind `--`, the options are the same: no word there is one
abbrev pub HasOptionsBefore : Text → Type 0
HasOptionsBefore command =
    (front one other : List Text) (first second : Order) → asked (with_behind command front one) ≡ Some first
    → asked (with_behind command front other) ≡ Some second → options_asked first ≡ options_asked second

-- the names that are asked for, in their order
abbrev pub names_asked : Order → List Text
names_asked (build image files) = image ∷ files
names_asked (run image options) = image ∷ []
names_asked (exec files options) = files
names_asked (dump image) = image ∷ []
names_asked (bench number) = []
names_asked (inspect image options) = image ∷ []

-- the words before `--` give some names, and each word behind it, whatever it is, is one more
abbrev pub HasNamesBehind : Text → Type 0
HasNamesBehind command =
    (front : List Text) → (before : List Text)
    × ((words : List Text) (order : Order) → asked (with_behind command front words) ≡ Some order → names_asked order ≡ before ++ words)

-- ---- names have bytes, and numbers are in their ranges

-- what the options of a run may set
pub record AreInRange (bounds : Bounds) : Type 0 where
  pub points : bounds.points ≤ 9223372036854775807
  pub heap : (64 ≤ bounds.heap) × (bounds.heap ≤ 67108864)
  pub stack : (1024 ≤ bounds.stack) × (bounds.stack ≤ 1048576)
  pub threads : (1 ≤ bounds.threads) × (bounds.threads ≤ 64)

abbrev pub IsName : Text → Type 0
IsName name = name ≢ []

abbrev pub AreFiles : List Text → Type 0
AreFiles files = (length files ≤ 256) × AllByRecursion IsName files

abbrev pub AreOptions : Options → Type 0
AreOptions options = IfSome options.switches IsName × IfSome options.input IsName × AreInRange options.bounds

abbrev pub IsInRange : Order → Type 0
IsInRange (build image files) = IsName image × AreFiles files
IsInRange (run image options) = IsName image × AreOptions options
IsInRange (exec files options) = AreFiles files × AreOptions options
IsInRange (dump image) = IsName image
IsInRange (bench number) = number < 2 ^ 64
IsInRange (inspect image options) = IsName image × AreOptions options
