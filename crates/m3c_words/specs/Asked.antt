-- What the words of a command line ask for, if they are one.
use Rattle.std.specs.Prelude.{ℕ, ◌^◌, ◌&&◌, Bool, false, not, is_some, nat_lt, nat_le, if◌then◌else◌, Option, None, Some, List, length, codes, option_and_then}
use Rattle.std.specs.Option.{option_map}
use Rattle.std.specs.List.{list_all}
use Rattle.std.specs.Str.{bytes_eq}
use Rattle.std.specs.Str.Parse.{digits_value}
use Rattle.clap.specs.Matches.{found_of}
use Rattle.clap.specs.Walk.{Row, Text, all_of, first_of, is_empty, nonempty, rows_of}
use Rattle.clap.specs.declared.parser.matches.ArgMatches.{ArgMatches}
use Rattle.clap.specs.Simple.{subcommand_of}
use Rattle.clap.specs.Faults.{fault_of}
use Rattle.clap.specs.ValueTests.{is_numeral}
use Rattle.m3c_words.specs.Orders.{Bounds, Options, Order, build, run, exec, dump, bench, inspect}
use Rattle.m3c_words.specs.Grammar.{grammar}

-- what a parse found for each option and plain word
abbrev pub rows_in : ArgMatches → List Row
rows_in matches = rows_of (found_of matches)

-- ---- names

-- a plain word, which is no name where it is empty
abbrev pub word_in : Text → List Row → Option Text
word_in id rows = option_and_then nonempty (first_of id rows)

-- the name that an option gives, if it is given; none where the name is empty
abbrev pub given_name : Option Text → Option (Option Text)
given_name None = Some None
given_name (Some name) = option_map (λ n. Some n) (nonempty name)

abbrev pub most_files : ℕ
most_files = 256

abbrev pub is_named : Text → Bool
is_named name = not (is_empty name)

-- the FILEs, unless there are too many or one has an empty name
abbrev pub as_files : List Text → Option (List Text)
as_files names = if nat_le (length names) most_files && list_all is_named names then Some names else None

abbrev pub files_in : List Row → Option (List Text)
files_in rows = option_and_then as_files (all_of (codes "FILE") rows)

-- ---- numbers

-- the number that decimal digits say, one or more, where it is below 2 ^ 64
abbrev pub number_of : Text → Option ℕ
number_of digits = if is_numeral digits && nat_lt (digits_value 10 digits) (2 ^ 64) then Some (digits_value 10 digits) else None

-- a number from the least to the most
abbrev pub within : ℕ → ℕ → ℕ → Option ℕ
within least most n = if nat_le least n && nat_le n most then Some n else None

-- the limit that an option sets, or the usual one where it isn't given; none where it is no number from the least to
-- the most
abbrev pub limit_of : ℕ → ℕ → ℕ → Option Text → Option ℕ
limit_of least most usual None = Some usual
limit_of least most usual (Some digits) = option_and_then (within least most) (number_of digits)

abbrev pub points_in : List Row → Option ℕ
points_in rows = limit_of 0 9223372036854775807 1000000000 (first_of (codes "points") rows)

-- the points after which `inspect` looks, which must be given
abbrev pub at_in : List Row → Option ℕ
at_in rows = option_and_then (λ digits. option_and_then (within 0 9223372036854775807) (number_of digits)) (first_of (codes "at") rows)

abbrev pub heap_in : List Row → Option ℕ
heap_in rows = limit_of 64 67108864 1048576 (first_of (codes "heap") rows)

abbrev pub stack_in : List Row → Option ℕ
stack_in rows = limit_of 1024 1048576 65536 (first_of (codes "stack") rows)

abbrev pub threads_in : List Row → Option ℕ
threads_in rows = limit_of 1 64 8 (first_of (codes "threads") rows)

-- ---- the options of a run

-- whether the flag is given
abbrev pub young_in : List Row → Bool
young_in rows = is_some (first_of (codes "young") rows)

-- with so many points
abbrev pub bounds_by : ℕ → List Row → Option Bounds
bounds_by points rows =
    option_and_then (λ heap. option_and_then (λ stack. option_map (λ threads.
    record { points = points; heap = heap; stack = stack; threads = threads; young = young_in rows })
    (threads_in rows)) (stack_in rows)) (heap_in rows)

abbrev pub options_by : ℕ → List Row → Option Options
options_by points rows =
    option_and_then (λ switches. option_and_then (λ input. option_map (λ bounds.
    record { switches = switches; input = input; bounds = bounds })
    (bounds_by points rows)) (given_name (first_of (codes "input") rows))) (given_name (first_of (codes "switches") rows))

-- those of `run` and `exec`
abbrev pub options_in : List Row → Option Options
options_in rows = option_and_then (λ points. options_by points rows) (points_in rows)

-- those of `inspect`
abbrev pub options_at : List Row → Option Options
options_at rows = option_and_then (λ points. options_by points rows) (at_in rows)

-- where no option is given
abbrev pub usual_options : Options
usual_options = record {
  switches = None;
  input = None;
  bounds = record { points = 1000000000; heap = 1048576; stack = 65536; threads = 8; young = false };
}

-- ---- the commands

abbrev pub build_in : List Row → Option Order
build_in rows = option_and_then (λ image. option_map (build image) (files_in rows)) (word_in (codes "IMAGE") rows)

abbrev pub run_in : List Row → Option Order
run_in rows = option_and_then (λ image. option_map (run image) (options_in rows)) (word_in (codes "IMAGE") rows)

abbrev pub exec_in : List Row → Option Order
exec_in rows = option_and_then (λ files. option_map (exec files) (options_in rows)) (files_in rows)

abbrev pub dump_in : List Row → Option Order
dump_in rows = option_map dump (word_in (codes "IMAGE") rows)

abbrev pub bench_in : List Row → Option Order
bench_in rows = option_map bench (option_and_then number_of (first_of (codes "N") rows))

abbrev pub inspect_in : List Row → Option Order
inspect_in rows = option_and_then (λ image. option_map (inspect image) (options_at rows)) (word_in (codes "IMAGE") rows)

-- the command of this name with what was found of its words and options
unfoldable pub order_in : Text → List Row → Option Order
order_in name rows =
    if bytes_eq name (codes "build") then build_in rows
    else (if bytes_eq name (codes "run") then run_in rows
    else (if bytes_eq name (codes "exec") then exec_in rows
    else (if bytes_eq name (codes "dump") then dump_in rows
    else (if bytes_eq name (codes "bench") then bench_in rows
    else (if bytes_eq name (codes "inspect") then inspect_in rows
    else None)))))

-- the command that the words name with what is found of its words and options, where they keep to the grammar
unfoldable pub parsed : List Text → Option (Text × List Row)
parsed words = if is_empty (fault_of grammar words) then subcommand_of grammar words else None

-- what the words ask for: none where they break the grammar, a name is empty, a number is out of its range, or there
-- are too many FILEs
abbrev pub asked : List Text → Option Order
asked words = option_and_then (λ found. order_in found.0 found.1) (parsed words)
