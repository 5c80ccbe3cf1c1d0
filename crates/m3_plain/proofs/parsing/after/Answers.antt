use Rattle.m3_plain.proofs.Parsings.{no_tokens}
use Rattle.m3_plain.proofs.parsing.after.Goals as goal

pub returns-in_default-clause-not_built : goal.returns-in_default-clause-not_built
returns-in_default-clause-not_built c = λ h rest a.
    no_tokens c.args.kinds.now c.loop-kind.kind-index c.loop-kind.left.now rest c.loop-kind-test.true c.in_default.len_below (c.loop-kind.invariant.forth rest a)
