-- What the builders of clap add up to.
use Rattle.std.proofs.Common.{◌≡◌, ◌||◌, true, refl, ap, ap₂, ◌∙◌}
use Rattle.clap.specs.Walk.{Rule}
use Rattle.clap.specs.Simple.{App, Shape, app_of_fields, with_rule, with_subcommand}
use Rattle.clap.specs.Faults.{is_simple_and_free}
use Rattle.clap.specs.Built.{AddsArg, AddsSubcommand}
use Rattle.clap.specs.declared.builder.arg.Arg.{Arg}
use Rattle.clap.specs.declared.builder.command.Command.{Command}
use Rattle.clap.specs.declared.builder.command.Command.TheOpen.{Command-F}
use Rattle.clap.specs.declared.builder.command.Command.TheViews.{out-Command}
use Rattle.m3c_words.specs.Grammar.{grammar}
use Rattle.m3c_words.specs.Built.{HasRule, ReadsBy, alone}

pub arg_added : (app : App) (rule : Rule) (old new : Command) (arg : Arg) → AddsArg old arg new → ReadsBy app old → HasRule rule arg → ReadsBy (with_rule app rule) new
arg_added app rule old new arg added reads has = record {
  same = added.shape has.own ∙ ap₂ with_rule reads.same has.same;
  own = added.globals ∙ ap₂ (λ a b. a || b) reads.own has.own;
}

pub command_added : (app : App) (shape : Shape) (old sub new : Command) → AddsSubcommand old sub new → ReadsBy app old → ReadsBy (alone shape) sub → ReadsBy (with_subcommand app shape) new
command_added app shape old sub new added reads below = record {
  same = added.shape below.own ∙ ap₂ with_subcommand reads.same (ap (λ (a : App). a.top) below.same);
  own = added.globals ∙ ap₂ (λ a b. a || b) reads.own below.own;
}

-- a command with commands below it, one of which must be named
abbrev set_above : Command-F Command → Command-F Command
set_above fields = record fields { no_binary_name = true; disable_help_subcommand = true; subcommand_required = true }

abbrev pub above : App → App
above app = record app { top = record app.top { no_binary_name = true; disable_help_subcommand = true; subcommand_required = true } }

pub made_above : (app : App) (a b c d : Command) → out-Command b ≡ record (out-Command a) { no_binary_name = true }
    → out-Command c ≡ record (out-Command b) { disable_help_subcommand = true } → out-Command d ≡ record (out-Command c) { subcommand_required = true }
    → ReadsBy app a → ReadsBy (above app) d
made_above app a b c d first second third reads =
    let fields : out-Command d ≡ set_above (out-Command a) =
    third ∙ ap (λ (f : Command-F Command). record f { subcommand_required = true })
    (second ∙ ap (λ (f : Command-F Command). record f { disable_help_subcommand = true }) first) in
    record {
      same = ap app_of_fields fields ∙ ap above reads.same;
      own = ap (λ (f : Command-F Command). f.has_globals) fields ∙ reads.own;
    }

-- clap says of this grammar what it makes of each list of words
pub is_simple_grammar : is_simple_and_free grammar ≡ true
unfolding grammar
is_simple_grammar = refl
