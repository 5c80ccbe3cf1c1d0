-- What clap is told, as parts of the grammar.
use Rattle.std.specs.Prelude.{◌≡◌, false, List, [], fold}
use Rattle.clap.specs.Walk.{Rule, rule_of}
use Rattle.clap.specs.Simple.{App, Shape, app_of, with_rule}
use Rattle.clap.specs.declared.builder.arg.Arg.{Arg}
use Rattle.clap.specs.declared.builder.command.Command.{Command}
use Rattle.clap.specs.declared.builder.command.Command.TheViews.{out-Command}

-- the argument has this rule, in its own command alone
pub record HasRule (rule : Rule) (arg : Arg) : Type 0 where
  pub same : rule_of arg ≡ rule
  pub own : arg.global ≡ false

-- the command reads words by this grammar
pub record ReadsBy (app : App) (command : Command) : Type 0 where
  pub same : app_of command ≡ app
  pub own : (out-Command command).has_globals ≡ false

-- a command without commands below it
abbrev pub alone : Shape → App
alone shape = record { top = shape; subs = [] }

-- the same with these rules behind its own
abbrev pub with_rules : List Rule → App → App
with_rules rules app = fold with_rule app rules
