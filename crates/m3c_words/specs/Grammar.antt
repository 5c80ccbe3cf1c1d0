-- The grammar of command lines. The first word is a command. Behind it stand its options and its plain words, in any
-- order: an option is `--name value` or `--name=value`, at most once. The word `--` is never a value, and each word
-- behind the first `--` is a plain word. Any other word that begins with `-`, and has more than that, is refused.
use Rattle.std.specs.Prelude.{true, false, Some, List, [], ◌∷◌, codes}
use Rattle.clap.specs.Lexer.{usize_max}
use Rattle.clap.specs.Walk.{Rule, Text}
use Rattle.clap.specs.Simple.{App, Shape, new_rule, new_shape}
use Rattle.clap.specs.declared.builder.action.ArgAction.TheVariants.{Set, Append}

-- an option, which has one value
abbrev pub option : Text → Rule
option name = record (new_rule name) { long = Some name; action = Some Set }

-- a flag, which is written without a value, and then has this one
abbrev pub flag : Text → Rule
flag name = record (new_rule name) {
  long = Some name;
  action = Some Set;
  range = Some (record { start_inclusive = 0; end_inclusive = 0 });
  missing = codes "true" ∷ [];
}

-- one plain word, which must be there
abbrev pub word : Text → Rule
word id = record (new_rule id) { action = Some Set; required = true }

-- the other plain words, at least one
abbrev pub words : Text → Rule
words id = record (new_rule id) {
  action = Some Append;
  range = Some (record { start_inclusive = 1; end_inclusive = usize_max });
  required = true;
}

-- a command, of which no flag asks for help or the version
abbrev pub command : Text → List Rule → Shape
command name rules = record (new_shape name) { rules = rules; disable_help_flag = true; disable_version_flag = true }

abbrev pub image_word : Rule
image_word = word (codes "IMAGE")

abbrev pub file_words : Rule
file_words = words (codes "FILE")

-- the options of a run, of which one of this name says its points
abbrev pub options_with : Text → List Rule
options_with points =
    option (codes "switches") ∷ option points ∷ option (codes "heap") ∷ option (codes "stack")
    ∷ option (codes "threads") ∷ option (codes "input") ∷ flag (codes "young") ∷ []

abbrev pub build_command : Shape
build_command = command (codes "build") (image_word ∷ file_words ∷ [])

-- a command over one image with the options of a run
abbrev pub image_command : (name points : Text) → Shape
image_command name points = command name (image_word ∷ options_with points)

abbrev pub run_command : Shape
run_command = image_command (codes "run") (codes "points")

abbrev pub exec_command : Shape
exec_command = command (codes "exec") (file_words ∷ options_with (codes "points"))

abbrev pub dump_command : Shape
dump_command = command (codes "dump") (image_word ∷ [])

abbrev pub bench_command : Shape
bench_command = command (codes "bench") (word (codes "N") ∷ [])

abbrev pub inspect_command : Shape
inspect_command = image_command (codes "inspect") (codes "at")

-- the commands, one of which must be named
unfoldable pub grammar : App
grammar = record {
  top = record (command (codes "m3c") []) {
    is_leaf = false;
    no_binary_name = true;
    disable_help_subcommand = true;
    subcommand_required = true;
  };
  subs = build_command ∷ run_command ∷ exec_command ∷ dump_command ∷ bench_command ∷ inspect_command ∷ [];
}
