-- What docs/COMMANDS.md says of a command line, as a relation between words and what they ask for.
use Rattle.std.specs.Prelude.{ℕ, ◌≡◌, ◌≢◌, ◌≤◌, ◌<◌, ◌^◌, ◌==◌, ◌||◌, ◌⊎◌, Bool, true, not, Option, None, Some, IfSome, List, [], ◌∷◌, ◌++◌, if◌then◌else◌, codes, false, is_some}
use Rattle.std.specs.List.{AllByRecursion}
use Rattle.std.specs.Str.{IsUtf8, bytes_eq}
use Rattle.std.specs.Str.Parse.{IsNumeral, digits_value}
use Rattle.clap.specs.Walk.{Text, is_empty}
use Rattle.m3c_words.specs.Orders.{Options, Order, build, run, exec, dump, bench, inspect}
use Rattle.m3c_words.specs.Sentences.{AreFiles, IsName}

-- ---- options and names

-- a word that may be a name or a value before `--`: it doesn't begin with `-`, or is `-` alone
abbrev pub is_free : Text → Bool
is_free [] = true
is_free (b ∷ bytes) = not (b == 45) || is_empty bytes

abbrev pub IsOneOf : Text → List Text → Type 0
IsOneOf name [] = ⊥
IsOneOf name (other ∷ names) = (name ≡ other) ⊎ IsOneOf name names

-- options that were given, each with its value
abbrev pub Given : Type 0
Given = List (Text × Text)

-- the word `--name=value`
abbrev pub with_value : Text → Text → Text
with_value option value = codes "--" ++ (option ++ (codes "=" ++ value))

-- an option takes a value, unless it is a flag
abbrev pub takes_value : Text → Bool
takes_value option = not (bytes_eq option (codes "young"))

-- the value that a flag has where it stands
abbrev pub flag_value : Text
flag_value = codes "true"

-- The words behind a command's name, which has these options, are options and names. An option is `--name value` or
-- `--name=value`, and a flag `--name`; each word behind the first `--` is a name.
pub data Spell (options : List Text) : List Text → Given → List Text → Type 0 where
  ended : Spell options [] [] []
  behind : (names : List Text) → Spell options (codes "--" ∷ names) [] names
  name : (word : Text) (words : List Text) (given : Given) (names : List Text) → is_free word ≡ true → Spell options words given names → Spell options (word ∷ words) given (word ∷ names)
  apart : (option value : Text) (words : List Text) (given : Given) (names : List Text) → IsOneOf option options → takes_value option ≡ true → is_free value ≡ true → Spell options words given names
      → Spell options ((codes "--" ++ option) ∷ value ∷ words) ((option, value) ∷ given) names
  joined : (option value : Text) (words : List Text) (given : Given) (names : List Text) → IsOneOf option options → takes_value option ≡ true → Spell options words given names
      → Spell options (with_value option value ∷ words) ((option, value) ∷ given) names
  flag : (option : Text) (words : List Text) (given : Given) (names : List Text) → IsOneOf option options → takes_value option ≡ false → Spell options words given names
      → Spell options ((codes "--" ++ option) ∷ words) ((option, flag_value) ∷ given) names

-- the value that an option has, if it is given
abbrev pub value_of : Text → Given → Option Text
value_of option [] = None
value_of option (g ∷ given) = if bytes_eq g.0 option then Some g.1 else value_of option given

-- each option is given at most once
abbrev pub AreApart : Given → Type 0
AreApart [] = Unit {0}
AreApart (g ∷ given) = (value_of g.0 given ≡ None) × AreApart given

-- ---- numbers

-- decimal digits, one or more and nothing else, say this number
abbrev pub IsNumber : Text → ℕ → Type 0
IsNumber digits n = IsNumeral 10 digits × (n ≡ digits_value 10 digits)

-- a number from the least to the most, or the usual one where no option says any
abbrev pub IsLimit : ℕ → ℕ → ℕ → Option Text → ℕ → Type 0
IsLimit least most usual None n = n ≡ usual
IsLimit least most usual (Some digits) n = IsNumber digits n × (least ≤ n) × (n ≤ most)

-- a number from the least to the most that an option says
abbrev pub IsSaid : ℕ → ℕ → Option Text → ℕ → Type 0
IsSaid least most None n = ⊥
IsSaid least most (Some digits) n = IsNumber digits n × (least ≤ n) × (n ≤ most)

-- the name that an option gives, if it is given, has a byte
abbrev pub IsGivenName : Option Text → Option Text → Type 0
IsGivenName given result = (result ≡ given) × IfSome given IsName

-- what the options of a run say, with this of its points
pub record AreOptionsBy (IsPoints : ℕ → Type 0) (given : Given) (options : Options) : Type 0 where
  pub apart : AreApart given
  pub switches : IsGivenName (value_of (codes "switches") given) options.switches
  pub input : IsGivenName (value_of (codes "input") given) options.input
  pub points : IsPoints options.bounds.points
  pub heap : IsLimit 64 67108864 1048576 (value_of (codes "heap") given) options.bounds.heap
  pub stack : IsLimit 1024 1048576 65536 (value_of (codes "stack") given) options.bounds.stack
  pub threads : IsLimit 1 64 8 (value_of (codes "threads") given) options.bounds.threads
  pub young : options.bounds.young ≡ is_some (value_of (codes "young") given)

-- `--points` of `run` and `exec`
abbrev pub AreOptionsOf : Given → Options → Type 0
AreOptionsOf given = AreOptionsBy (IsLimit 0 9223372036854775807 1000000000 (value_of (codes "points") given)) given

-- `--at` of `inspect`, which must be given
abbrev pub AreOptionsAt : Given → Options → Type 0
AreOptionsAt given = AreOptionsBy (IsSaid 0 9223372036854775807 (value_of (codes "at") given)) given

-- ---- commands

-- the options of a run, of which one of this name says its points
abbrev pub options_with : Text → List Text
options_with points = codes "switches" ∷ points ∷ codes "heap" ∷ codes "stack" ∷ codes "threads" ∷ codes "input" ∷ codes "young" ∷ []

abbrev pub options_of_runs : List Text
options_of_runs = options_with (codes "points")

abbrev pub options_of_inspect : List Text
options_of_inspect = options_with (codes "at")

abbrev pub AreSomeFiles : List Text → Type 0
AreSomeFiles files = (files ≢ []) × AreFiles files

-- the words are a command line that asks for this
pub data Reads : List Text → Order → Type 0 where
  reads_build : (words : List Text) (image : Text) (files : List Text) → Spell [] words [] (image ∷ files) → IsName image → AreSomeFiles files → Reads (codes "build" ∷ words) (build image files)
  reads_run : (words : List Text) (given : Given) (image : Text) (options : Options) → Spell options_of_runs words given (image ∷ []) → IsName image → AreOptionsOf given options → Reads (codes "run" ∷ words) (run image options)
  reads_exec : (words : List Text) (given : Given) (files : List Text) (options : Options) → Spell options_of_runs words given files → AreSomeFiles files → AreOptionsOf given options → Reads (codes "exec" ∷ words) (exec files options)
  reads_dump : (words : List Text) (image : Text) → Spell [] words [] (image ∷ []) → IsName image → Reads (codes "dump" ∷ words) (dump image)
  reads_bench : (words : List Text) (digits : Text) (number : ℕ) → Spell [] words [] (digits ∷ []) → IsNumber digits number → number < 2 ^ 64 → Reads (codes "bench" ∷ words) (bench number)
  reads_inspect : (words : List Text) (given : Given) (image : Text) (options : Options) → Spell options_of_inspect words given (image ∷ []) → IsName image → AreOptionsAt given options → Reads (codes "inspect" ∷ words) (inspect image options)

-- each word is UTF-8, as the words of a program are
abbrev pub AreTexts : List Text → Type 0
AreTexts words = AllByRecursion IsUtf8 words
