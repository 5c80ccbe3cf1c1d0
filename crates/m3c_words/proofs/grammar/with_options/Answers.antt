use Rattle.m3c_words.proofs.Grammars.{arg_added}
use Rattle.m3c_words.proofs.grammar.with_options.Goals as goal

pub returns : goal.returns
returns c = λ app reads.
    let switches = arg_added app _ _ _ _ c.in_ok-arg.ensures reads c.option.ensures in
    let points = arg_added _ _ _ _ _ c.in_ok-command.ensures switches c.option-2.ensures in
    let heap = arg_added _ _ _ _ _ c.in_ok-arg-2.ensures points c.option-3.ensures in
    let stack = arg_added _ _ _ _ _ c.in_ok-arg-3.ensures heap c.option-4.ensures in
    let threads = arg_added _ _ _ _ _ c.in_ok-command-2.ensures stack c.option-5.ensures in
    let input = arg_added _ _ _ _ _ c.in_ok-arg-4.ensures threads c.option-6.ensures in
    arg_added _ _ _ _ _ c.in_ok-arg-5.ensures input c.flag.ensures
