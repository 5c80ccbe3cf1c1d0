use Rattle.m3c_words.specs.Grammar.{grammar}
use Rattle.m3c_words.proofs.Grammars.{command_added, made_above}
use Rattle.m3c_words.proofs.grammar.whole_command.Goals as goal

pub returns : goal.returns
unfolding grammar
returns c =
    let top = made_above _ _ _ _ _ c.no_binary_name.ensures c.disable_help_subcommand.ensures c.subcommand_required.ensures c.command.ensures in
    let build = command_added _ _ _ _ _ c.in_ok-subcommand.ensures top c.in_ok-build.ensures in
    let run = command_added _ _ _ _ _ c.in_ok-whole.ensures build c.in_ok-run.ensures in
    let exec = command_added _ _ _ _ _ c.in_ok-subcommand-2.ensures run c.in_ok-exec.ensures in
    let dump = command_added _ _ _ _ _ c.in_ok-whole-2.ensures exec c.in_ok-dump.ensures in
    let bench = command_added _ _ _ _ _ c.in_ok-subcommand-3.ensures dump c.in_ok-bench.ensures in
    command_added _ _ _ _ _ c.in_ok-subcommand-4.ensures bench c.in_ok-inspect.ensures
