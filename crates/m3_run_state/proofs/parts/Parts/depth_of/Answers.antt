use Rattle.std.specs.Prelude.{◌≡◌, length, Option}
use Rattle.std.proofs.Common.{ap, ◌∙◌, arith}
use Rattle.m3_threads.specs.declared.status.Thread.{Thread}
use Rattle.m3_threads.specs.All.{words_of}
use Rattle.m3_threads.specs.Going.{of_thread}
use Rattle.m3_run_state.proofs.Depths.{depth_same}
use Rattle.m3_run_state.proofs.parts.Parts.depth_of.Goals as goal

pub returns-in-Some-clause-same : goal.returns-in-Some-clause-same
returns-in-Some-clause-same g c =
    depth_same c.args.self.now.memory.threads c.args.thread c.in-Some.words.now c.number-first.ensures.sound c.in-Some.ensures

pub returns-in-Some-clause-small : goal.returns-in-Some-clause-small
returns-in-Some-clause-small g c =
    let all = c.args.self.now.memory.threads in
    let same : length c.in-Some.words.now ≡ all.stack = depth_same all c.args.thread c.in-Some.words.now c.number-first.ensures.sound c.in-Some.ensures in
    omega (arith, same, c.number-first.ensures.sound.small)

pub returns-in-None-clause-some : goal.returns-in-None-clause-some
returns-in-None-clause-some g c = λ t running.
    let there = c.in-None.ensures ∙ ap (λ (o : Option Thread). of_thread (words_of c.args.self.now.memory.threads) o) running in
    cc
