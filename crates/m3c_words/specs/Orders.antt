-- What a command line asks for.
use Rattle.std.specs.Prelude.{ℕ, Bool, Option, List, map}
use Rattle.std.specs.Option.{option_map}
use Rattle.std.specs.Borrow.{Bor}
use Rattle.m3c_words.specs.declared.limits.Limits.{Limits}
use Rattle.m3c_words.specs.declared.words.Request.{Request}
use Rattle.m3c_words.specs.declared.words.Request.TheVariants.{Build, Run, Exec, Dump, Bench, Inspect}
use Rattle.m3c_words.specs.declared.words.RunOptions.{RunOptions}

-- points that a run may pass, words of one half of its heap and of each stack, threads that have not ended, and whether
-- its heap is one of generations
pub record Bounds : Type 0 where
  pub points : ℕ
  pub heap : ℕ
  pub stack : ℕ
  pub threads : ℕ
  pub young : Bool

-- the options of a run: the files of switches and of input where they are named, and the bounds
pub record Options : Type 0 where
  pub switches : Option (List ℕ)
  pub input : Option (List ℕ)
  pub bounds : Bounds

-- a command with its names, its options or its number; `inspect` looks after as many points as its options say
pub data Order : Type 0 where
  build : List ℕ → List (List ℕ) → Order
  run : List ℕ → Options → Order
  exec : List (List ℕ) → Options → Order
  dump : List ℕ → Order
  bench : ℕ → Order
  inspect : List ℕ → Options → Order

-- ---- the same of the values that the code has

abbrev pub bounds_of : Limits → Bounds
bounds_of limits = record { points = limits.points; heap = limits.heap; stack = limits.stack; threads = limits.threads; young = limits.young }

abbrev pub name_of : Option (Bor (List ℕ)) → Option (List ℕ)
name_of = option_map (λ n. n.now)

abbrev pub options_of : RunOptions → Options
options_of options = record { switches = name_of options.switches; input = name_of options.input; bounds = bounds_of options.limits }

abbrev pub order_of : Request → Order
order_of (Build image files) = build image.now (map (λ n. n.now) files.items)
order_of (Run image options) = run image.now (options_of options)
order_of (Exec files options) = exec (map (λ n. n.now) files.items) (options_of options)
order_of (Dump image) = dump image.now
order_of (Bench number) = bench number
order_of (Inspect image options) = inspect image.now (options_of options)
